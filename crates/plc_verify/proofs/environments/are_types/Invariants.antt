use Rattle.std.proofs.Common.{◌≡◌, drop}
use Rattle.plc_xfer.specs.Typings.{all_types}
use Rattle.plc_verify.proofs.environments.are_types.Given as goal

abbrev pub invariant-loop-t : goal.invariant-loop-t
invariant-loop-t l = all_types l.observer l.w l.types ≡ all_types l.observer l.w (drop l.t-index l.types)
