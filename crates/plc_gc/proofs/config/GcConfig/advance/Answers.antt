use Rattle.std.proofs.Common.{◌≡◌, IfOk, OnOk, Option, subst, sym, ap, ◌∙◌}
use Rattle.plc_gc.specs.Run.{GcConfiguration}
use Rattle.plc_gc.specs.Reach.{reach, start_from, reached, answer}
use Rattle.plc_gc.proofs.Stepping.{reach_start, reach_take, reach_return, reach_free}
use Rattle.plc_gc.proofs.config.GcConfig.advance.Goals as goal

pub returns-in-Start-clause-answer : goal.returns-in-Start-clause-answer
returns-in-Start-clause-answer c = subst (λ (x : Option GcConfiguration). IfOk c.start_move.result (λ r. r ≡ answer x)) (sym (ap (reach c.args.flow.now c.args.self.now) c.in-Start.is ∙ reach_start c.args.flow.now c.args.self.now c.in-Start.t c.in-Start.op c.in-Start.args ∙ ap (start_from c.args.flow.now c.args.self.now c.in-Start.t c.in-Start.op.0) (sym c.as_slice.ensures))) c.start_move.ensures.answer

pub returns-in-Start-clause-after : goal.returns-in-Start-clause-after
returns-in-Start-clause-after c = subst (λ (x : Option GcConfiguration). OnOk c.start_move.result (c.start_move.new.self ≡ reached x c.args.self.now)) (sym (ap (reach c.args.flow.now c.args.self.now) c.in-Start.is ∙ reach_start c.args.flow.now c.args.self.now c.in-Start.t c.in-Start.op c.in-Start.args ∙ ap (start_from c.args.flow.now c.args.self.now c.in-Start.t c.in-Start.op.0) (sym c.as_slice.ensures))) c.start_move.ensures.after

pub returns-in-Step-clause-answer : goal.returns-in-Step-clause-answer
returns-in-Step-clause-answer c = subst (λ (x : Option GcConfiguration). IfOk c.step_move.result (λ r. r ≡ answer x)) (sym (ap (reach c.args.flow.now c.args.self.now) c.in-Step.is ∙ reach_take c.args.flow.now c.args.self.now c.in-Step.t c.in-Step.nth c.in-Step.addr)) c.step_move.ensures.answer

pub returns-in-Step-clause-after : goal.returns-in-Step-clause-after
returns-in-Step-clause-after c = subst (λ (x : Option GcConfiguration). OnOk c.step_move.result (c.step_move.new.self ≡ reached x c.args.self.now)) (sym (ap (reach c.args.flow.now c.args.self.now) c.in-Step.is ∙ reach_take c.args.flow.now c.args.self.now c.in-Step.t c.in-Step.nth c.in-Step.addr)) c.step_move.ensures.after

pub returns-in-Return-clause-answer : goal.returns-in-Return-clause-answer
returns-in-Return-clause-answer c = c.return_move.ensures.answer ∙ sym (ap answer (ap (reach c.args.flow.now c.args.self.now) c.in-Return.is ∙ reach_return c.args.flow.now c.args.self.now c.in-Return.t))

pub returns-in-Return-clause-after : goal.returns-in-Return-clause-after
returns-in-Return-clause-after c = c.return_move.ensures.after ∙ sym (ap (λ r. reached r c.args.self.now) (ap (reach c.args.flow.now c.args.self.now) c.in-Return.is ∙ reach_return c.args.flow.now c.args.self.now c.in-Return.t))

pub returns-in-Free-clause-answer : goal.returns-in-Free-clause-answer
returns-in-Free-clause-answer c = sym (ap answer (ap (reach c.args.flow.now c.args.self.now) c.in-Free.is ∙ reach_free c.args.flow.now c.args.self.now c.in-Free.a))

pub returns-in-Free-clause-after : goal.returns-in-Free-clause-after
returns-in-Free-clause-after c = sym (ap (λ r. reached r c.args.self.now) (ap (reach c.args.flow.now c.args.self.now) c.in-Free.is ∙ reach_free c.args.flow.now c.args.self.now c.in-Free.a))
