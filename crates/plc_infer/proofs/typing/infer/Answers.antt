use Rattle.std.proofs.Common.{sym, subst, ◌∙◌}
use Rattle.std.specs.Prelude.{IfOk}
use Rattle.plc_lang.specs.Skeleton.{Skeleton}
use Rattle.plc_xfer.specs.Typings.{IsTyping, IsStrongest, IsStuckAt}
use Rattle.plc_infer.specs.Programs.{IsProgram}
use Rattle.plc_infer.proofs.Flows.{flow_is_program}
use Rattle.plc_infer.proofs.typing.infer.Goals as goal

pub infer_program-requires : goal.infer_program-requires
infer_program-requires c =
    subst IsProgram (sym (c.program.ensures ∙ c.in_ok-lists.ensures)) (flow_is_program c.args.flow.now c.requires.flow)

pub returns-clause-typing : goal.returns-clause-typing
returns-clause-typing c =
    subst (λ (s : Skeleton). IfOk c.infer_program.result (λ typing. IsTyping c.args.observer.now s typing.env))
    (c.program.ensures ∙ c.in_ok-lists.ensures) c.infer_program.ensures.typing

pub returns-clause-strongest : goal.returns-clause-strongest
returns-clause-strongest c =
    subst (λ (s : Skeleton). IfOk c.infer_program.result (λ typing. IsStrongest c.args.observer.now s typing.env))
    (c.program.ensures ∙ c.in_ok-lists.ensures) c.infer_program.ensures.strongest

pub returns-clause-stuck : goal.returns-clause-stuck
returns-clause-stuck c = λ k i fault e.
    subst (λ (s : Skeleton). IsStuckAt c.args.observer.now s k.0 i fault)
    (c.program.ensures ∙ c.in_ok-lists.ensures) (c.infer_program.ensures.stuck k i fault e)
