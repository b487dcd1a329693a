use Rattle.std.proofs.Common.{ap}
use Rattle.plc_auto.specs.Locations.{Row, fresh}
use Rattle.plc_auto.proofs.locations.Locations.new.Goals as goal

pub returns : goal.returns
unfolding fresh
returns c = λ i. record { unheard = 0; watchers = c.new.ensures.items i; others = ap (λ (r : Row). r.at) c.empty.ensures i; rows = c.new-2.ensures.items i }
