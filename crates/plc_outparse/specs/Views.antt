-- What the program has in reach, as the definitions have it.
use Rattle.plc_outparse.specs.declared.item.Parts.{Parts as PartsSoFar}
use Rattle.plc_outparse.specs.declared.reach.Reach.{Reach as InReach}
use Rattle.plc_outparse.specs.Meaning.{Parts}
use Rattle.plc_outparse.specs.Reach.{Reach}

-- what is in reach in a clause
abbrev pub reach_of : InReach → Reach
reach_of r = record { scope = r.scope.now; locals = r.locals.now; in_operation = r.in_operation; bound = r.bound.now }

-- the parts so far
abbrev pub parts_of : PartsSoFar → Parts
parts_of parts = (parts.invariants, parts.items)
