use Rattle.std.proofs.Common.{◌≡◌, ◌++◌, take, map}
use Rattle.plc_auto.specs.Locations.{owned}
use Rattle.plc_auto.proofs.locations.with_own_watchers.Given as goal

abbrev pub invariant-loop-w : goal.invariant-loop-w
invariant-loop-w l = l.more.items ≡ l.watchers ++ map (owned l.t) (take l.w-index (take l.n l.watchers))
