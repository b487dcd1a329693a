use Rattle.std.proofs.Common.{◌≡◌, take, map}
use Rattle.plc_symbolic.specs.Numbering.{note_clause, number_lit}
use Rattle.plc_symbolic.specs.Growth.{Grows}
use Rattle.plc_symbolic.proofs.listing.Listing.note_clause.Given as goal

abbrev pub invariant-loop-l : goal.invariant-loop-l
invariant-loop-l l = record {
  grows : Grows l.initial.self l.self;
  listed : l.self ≡ note_clause l.initial.self (take l.l-index l.clause);
  lits : l.lits ≡ map (number_lit l.self) (take l.l-index l.clause);
}
