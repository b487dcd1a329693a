use Rattle.std.proofs.Common.{refl, sym, ◌∙◌}
use Rattle.plc_mem.specs.State.{with_retired, with_locals}
use Rattle.plc_mem.proofs.Joined.{retired_kept}
use Rattle.plc_mem.proofs.memory.Memory.change_by_call.Goals as goal

pub returns-in_ok-retire-in-Var-clause-after : goal.returns-in_ok-retire-in-Var-clause-after
unfolding with_retired with_locals
returns-in_ok-retire-in-Var-clause-after c = λ t. rw (c.in_ok-retire-in-Var.ensures, c.read-a.ensures t, c.in-Var.is, sym c.is_retire.ensures ∙ c.if-not-is_retire.false) refl

pub returns-in_ok-retire-in-Var-clause-kept : goal.returns-in_ok-retire-in-Var-clause-kept
returns-in_ok-retire-in-Var-clause-kept c = rw c.in_ok-retire-in-Var.ensures (retired_kept c.args.self.now c.args.me.now c.read-a.result.number)
