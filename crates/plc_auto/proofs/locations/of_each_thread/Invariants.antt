use Rattle.std.proofs.Common.{◌≡◌}
use Rattle.plc_auto.specs.Locations.{first_threads}
use Rattle.plc_auto.proofs.locations.of_each_thread.Given as goal

abbrev pub invariant-loop-t : goal.invariant-loop-t
invariant-loop-t l = l.watchers.items ≡ first_threads l.observer l.t
