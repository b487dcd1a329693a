use Rattle.std.proofs.Common.{◌<◌, length, ap, sym, ◌∙◌, subst}
use Rattle.plc_run.specs.Position.{Position}
use Rattle.plc_run.proofs.Threads.{is_of_flow}
use Rattle.plc_run.proofs.Stepping.{step_answers, step_run}
use Rattle.plc_run.proofs.config.Config.step.Goals as goal

pub advance-requires-clause-here : goal.advance-requires-clause-here
advance-requires-clause-here c =
    let p = c.args.self.now in
    let some = subst (λ (p : Position). 0 < length p.here.points) c.self.view_is c.self.invariant.0 in
    is_of_flow c.args.flow.now c.args.observer.now p c.requires.fits some c.requires.of_run

pub returns-clause-answers : goal.returns-clause-answers
returns-clause-answers c =
    let live = ap (λ (p : Position). p.ended) (sym c.self.view_is) ∙ c.if-self.false in
    step_answers c.args.flow.now c.args.observer.now c.args.self.now c.advance.new.self c.args.m.now c.advance.result live c.requires.of_run c.advance.ensures.answer c.advance.ensures.after

pub returns-clause-of_run : goal.returns-clause-of_run
returns-clause-of_run c = step_run c.args.flow.now c.args.observer.now c.args.self.now c.advance.new.self c.args.m.now c.advance.result c.requires.of_run c.advance.ensures.after c.advance.ensures.follows c.advance.ensures.err
