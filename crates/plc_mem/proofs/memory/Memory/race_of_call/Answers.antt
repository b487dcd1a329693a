use Rattle.std.proofs.Common.{refl, sym, ◌∙◌}
use Rattle.plc_mem.specs.State.{is_retired, with_locals}
use Rattle.plc_mem.proofs.memory.Memory.race_of_call.Goals as goal

pub returns-in-Var : goal.returns-in-Var
unfolding is_retired with_locals
returns-in-Var c = λ t. rw (c.retirement.ensures, c.read.ensures t, c.in-Var.is, sym c.is_retire.ensures ∙ c.if-not-is_retire.false) refl
