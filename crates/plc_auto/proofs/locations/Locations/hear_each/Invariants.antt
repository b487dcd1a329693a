use Rattle.std.proofs.Common.{◌≡◌, drop}
use Rattle.plc_auto.specs.Locations.{locations_after_all}
use Rattle.plc_auto.proofs.locations.Locations.hear_each.Given as goal

abbrev pub invariant-loop-e : goal.invariant-loop-e
invariant-loop-e l = locations_after_all l.self (drop l.e-index l.events) ≡ locations_after_all l.fn.self l.events
