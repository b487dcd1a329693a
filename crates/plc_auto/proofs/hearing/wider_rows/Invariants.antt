use Rattle.std.proofs.Common.{◌≡◌, take, map}
use Rattle.plc_auto.specs.Locations.{wider}
use Rattle.plc_auto.proofs.hearing.wider_rows.Given as goal

abbrev pub invariant-loop-row : goal.invariant-loop-row
invariant-loop-row l = l.more.items ≡ map (wider l.n) (take l.row-index l.rows)
