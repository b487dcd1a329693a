use Rattle.std.proofs.Common.{ℕ, ◌<◌}
use Rattle.plc_flow.specs.Skeleton.{skeleton_of}
use Rattle.plc_verify.specs.Environments.{EntryHolds}
use Rattle.plc_verify.proofs.typing.first_narrow_entry.Given as goal

abbrev pub invariant-loop-o : goal.invariant-loop-o
invariant-loop-o l = (j : ℕ) → j < l.o → EntryHolds l.observer (skeleton_of l.flow) l.envs j
