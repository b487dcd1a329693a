use Rattle.std.proofs.Common.{◌≡◌, take, map}
use Rattle.plc_symbolic.specs.Numbering.{number}
use Rattle.plc_symbolic.proofs.listing.Listing.numbered.Given as goal

abbrev pub invariant-loop-term : goal.invariant-loop-term
invariant-loop-term l = l.terms.items ≡ map (number l.self) (take l.term-index l.self)
