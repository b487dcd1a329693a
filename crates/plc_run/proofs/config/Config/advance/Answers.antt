use Rattle.std.proofs.Common.{◌≡◌, IfOk, OnOk, subst, sym, ap, ◌∙◌}
use Rattle.plc_run.specs.Reach.{Reached, reach, start_from, answer, Reaches}
use Rattle.plc_run.proofs.Follow.{unheard}
use Rattle.plc_run.proofs.Stepping.{reach_start, reach_take, reach_return, reach_free}
use Rattle.plc_run.proofs.config.Config.advance.Goals as goal

pub returns-in-Start-clause-answer : goal.returns-in-Start-clause-answer
returns-in-Start-clause-answer c = subst (λ (x : Reached). IfOk c.start_move.result (λ r. r ≡ answer x)) (sym (ap (reach c.args.flow.now c.args.observer.now c.args.self.now.here) c.in-Start.is ∙ reach_start c.args.flow.now c.args.observer.now c.args.self.now.here c.in-Start.t c.in-Start.op c.in-Start.args ∙ ap (start_from c.args.flow.now c.args.self.now.here c.in-Start.t c.in-Start.op.0) (sym c.as_slice.ensures))) c.start_move.ensures.answer

pub returns-in-Start-clause-after : goal.returns-in-Start-clause-after
returns-in-Start-clause-after c = subst (λ (x : Reached). OnOk c.start_move.result (Reaches x c.args.self.now c.start_move.new.self)) (sym (ap (reach c.args.flow.now c.args.observer.now c.args.self.now.here) c.in-Start.is ∙ reach_start c.args.flow.now c.args.observer.now c.args.self.now.here c.in-Start.t c.in-Start.op c.in-Start.args ∙ ap (start_from c.args.flow.now c.args.self.now.here c.in-Start.t c.in-Start.op.0) (sym c.as_slice.ensures))) c.start_move.ensures.after

pub returns-in-Step-clause-answer : goal.returns-in-Step-clause-answer
returns-in-Step-clause-answer c = subst (λ (x : Reached). IfOk c.step_move.result (λ r. r ≡ answer x)) (sym (ap (reach c.args.flow.now c.args.observer.now c.args.self.now.here) c.in-Step.is ∙ reach_take c.args.flow.now c.args.observer.now c.args.self.now.here c.in-Step.t c.in-Step.nth c.in-Step.addr)) c.step_move.ensures.says

pub returns-in-Step-clause-after : goal.returns-in-Step-clause-after
returns-in-Step-clause-after c = subst (λ (x : Reached). OnOk c.step_move.result (Reaches x c.args.self.now c.step_move.new.self)) (sym (ap (reach c.args.flow.now c.args.observer.now c.args.self.now.here) c.in-Step.is ∙ reach_take c.args.flow.now c.args.observer.now c.args.self.now.here c.in-Step.t c.in-Step.nth c.in-Step.addr)) c.step_move.ensures.after

pub returns-in-Return-clause-answer : goal.returns-in-Return-clause-answer
returns-in-Return-clause-answer c = c.return_move.ensures.answer ∙ sym (ap answer (ap (reach c.args.flow.now c.args.observer.now c.args.self.now.here) c.in-Return.is ∙ reach_return c.args.flow.now c.args.observer.now c.args.self.now.here c.in-Return.t))

pub returns-in-Return-clause-after : goal.returns-in-Return-clause-after
returns-in-Return-clause-after c = subst (λ (x : Reached). Reaches x c.args.self.now c.return_move.new.self) (sym (ap (reach c.args.flow.now c.args.observer.now c.args.self.now.here) c.in-Return.is ∙ reach_return c.args.flow.now c.args.observer.now c.args.self.now.here c.in-Return.t)) c.return_move.ensures.after

pub returns-in-Free-clause-answer : goal.returns-in-Free-clause-answer
returns-in-Free-clause-answer c = subst (λ (x : Reached). IfOk c.free_move.result (λ r. r ≡ answer x)) (sym (ap (reach c.args.flow.now c.args.observer.now c.args.self.now.here) c.in-Free.is ∙ reach_free c.args.flow.now c.args.observer.now c.args.self.now.here c.in-Free.a)) c.free_move.ensures.answer

pub returns-in-Free-clause-after : goal.returns-in-Free-clause-after
returns-in-Free-clause-after c = subst (λ (x : Reached). OnOk c.free_move.result (Reaches x c.args.self.now c.free_move.new.self)) (sym (ap (reach c.args.flow.now c.args.observer.now c.args.self.now.here) c.in-Free.is ∙ reach_free c.args.flow.now c.args.observer.now c.args.self.now.here c.in-Free.a)) c.free_move.ensures.after

pub returns-in-Start-clause-follows : goal.returns-in-Start-clause-follows
returns-in-Start-clause-follows c = unheard c.args.observer.now c.args.self.now c.start_move.new.self c.start_move.ensures.unheard c.requires.follows

pub returns-in-Return-clause-follows : goal.returns-in-Return-clause-follows
returns-in-Return-clause-follows c = unheard c.args.observer.now c.args.self.now c.return_move.new.self c.return_move.ensures.unheard c.requires.follows

pub returns-in-Step-clause-follows : goal.returns-in-Step-clause-follows
returns-in-Step-clause-follows c = c.step_move.ensures.follows c.args.observer.now c.requires.follows
