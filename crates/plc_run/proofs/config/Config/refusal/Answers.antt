use Rattle.std.proofs.Common.{◌<◌, length, ap, sym, ◌∙◌, subst}
use Rattle.plc_run.specs.Position.{Position}
use Rattle.plc_run.proofs.Threads.{is_of_flow}
use Rattle.plc_run.proofs.Refused.{cause_ended, cause_exact, answer_live, answer_exact}
use Rattle.plc_run.proofs.config.Config.refusal.Goals as goal

pub returns-then-self-clause-cause : goal.returns-then-self-clause-cause
returns-then-self-clause-cause c = cause_ended c.args.flow.now c.args.self.now c.args.m.now (ap (λ (p : Position). p.ended) (sym c.self.view_is) ∙ c.if-self.true)

pub returns-then-self-clause-exact : goal.returns-then-self-clause-exact
returns-then-self-clause-exact c = cause_exact c.args.flow.now c.args.self.now c.args.m.now _ c.requires.fits (returns-then-self-clause-cause c)

pub move_refused-requires : goal.move_refused-requires
move_refused-requires c =
    let p = c.args.self.now in
    let some = subst (λ (p : Position). 0 < length p.here.points) c.self.view_is c.self.invariant.0 in
    is_of_flow c.args.flow.now c.requires.of_run.0 p c.requires.fits some c.requires.of_run.1

pub returns-clause-cause : goal.returns-clause-cause
returns-clause-cause c =
    let live = ap (λ (p : Position). p.ended) (sym c.self.view_is) ∙ c.if-self.false in
    answer_live c.args.flow.now c.args.self.now c.args.m.now c.move_refused.result live c.move_refused.ensures

pub returns-clause-exact : goal.returns-clause-exact
returns-clause-exact c = answer_exact c.args.flow.now c.args.self.now c.args.m.now c.move_refused.result c.requires.fits (returns-clause-cause c)
