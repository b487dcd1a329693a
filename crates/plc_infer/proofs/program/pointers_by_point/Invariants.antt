use Rattle.std.proofs.Common.{◌≡◌, ◌++◌, drop}
use Rattle.plc_flow.specs.Skeleton.{pointers_by_point}
use Rattle.plc_infer.proofs.program.pointers_by_point.Given as goal

abbrev pub invariant-loop-k : goal.invariant-loop-k
invariant-loop-k l = l.counts.items ++ pointers_by_point (drop l.k l.flow.file.ops) (drop l.k l.flow.gates) ≡ pointers_by_point l.flow.file.ops l.flow.gates
