use Rattle.std.proofs.Common.{◌≡◌}
use Rattle.plc_xfer.specs.Rules.{table}
use Rattle.plc_infer.specs.Programs.{program_of}
use Rattle.plc_infer.specs.Starts.{start_at}
use Rattle.plc_infer.proofs.starts.starts.Given as goal

abbrev pub invariant-loop-p : goal.invariant-loop-p
invariant-loop-p l = l.envs.items ≡ table 0 l.p (start_at l.observer (program_of l.program))
