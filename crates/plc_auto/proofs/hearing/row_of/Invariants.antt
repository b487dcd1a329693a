use Rattle.std.proofs.Common.{◌≡◌, drop}
use Rattle.plc_auto.specs.Locations.{row_of}
use Rattle.plc_auto.proofs.hearing.row_of.Given as goal

abbrev pub invariant-loop-row : goal.invariant-loop-row
invariant-loop-row l = row_of (drop l.row-index l.rows) l.others.at l.a ≡ row_of l.rows l.others.at l.a
