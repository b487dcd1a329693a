use Rattle.std.proofs.Common.{sym, subst}
use Rattle.plc_explore.specs.Walking.{IsRaceOf, IsWalked}
use Rattle.plc_explore.proofs.Leading.{walked_more, walked_race}
use Rattle.plc_explore.proofs.follow.Made.make.Goals as goal

pub returns-in_ok-keep-in-Ok-Done-clause-met : goal.returns-in_ok-keep-in-Ok-Done-clause-met
returns-in_ok-keep-in-Ok-Done-clause-met g c =
    let p = c.args.program.now in
    let a = rw c.in-Ok-Done.field-0-is at c.in-Ok-Done.ensures.answers in
    subst (λ ms. IsWalked p ms c.make.new.config) (sym c.in_ok-keep-in-Ok-Done.ensures)
    (walked_more p c.args.self.now.moves c.args.m c.args.config.now c.make.new.config c.requires.of_run
    c.requires.walked a.2)

pub returns-in_ok-keep-in-Ok-Race-clause-met : goal.returns-in_ok-keep-in-Ok-Race-clause-met
returns-in_ok-keep-in-Ok-Race-clause-met g c =
    let p = c.args.program.now in
    let a = rw c.in-Ok-Race.field-0-is at c.in-Ok-Race.ensures.answers in
    subst (IsRaceOf p c.make.new.config) (sym c.in_ok-keep-in-Ok-Race.ensures)
    (walked_race p c.args.self.now.moves c.args.m c.args.config.now c.make.new.config c.in-Ok-Race.field-0-0
    c.in-Ok-Race.field-0-1 c.in-Ok-Race.ensures.many c.requires.walked a.1)
