use Rattle.std.proofs.Common.{sym, subst}
use Rattle.plc_explore.specs.Walking.{IsRaceOf}
use Rattle.plc_explore.proofs.Leading.{walked_more, walked_race}
use Rattle.plc_explore.proofs.walker.Walker.make.Goals as goal

pub made-requires-clause-walked : goal.made-requires-clause-walked
made-requires-clause-walked g c =
    let a = rw c.in-Ok-Done.field-0-is at c.in-Ok-Done.ensures.answers in
    walked_more c.args.program.now c.args.self.now.moves c.args.m c.args.run.now.config c.make.new.self.config
    c.requires.of_run c.requires.walked a.2

pub returns-in_ok-push-in-Ok-Race-clause-turned : goal.returns-in_ok-push-in-Ok-Race-clause-turned
returns-in_ok-push-in-Ok-Race-clause-turned g c =
    let p = c.args.program.now in
    let a = rw c.in-Ok-Race.field-0-is at c.in-Ok-Race.ensures.answers in
    subst (IsRaceOf p c.make.new.self.config) (sym c.in_ok-push-in-Ok-Race.ensures.ok)
    (walked_race p c.args.self.now.moves c.args.m c.args.run.now.config c.make.new.self.config c.in-Ok-Race.field-0-0
    c.in-Ok-Race.field-0-1 c.in-Ok-Race.ensures.many c.requires.walked a.1)
