use Rattle.std.proofs.Common.{◌≡◌, take}
use Rattle.plc_symbolic.proofs.draft.copies_of.Given as goal

abbrev pub invariant-loop-clause : goal.invariant-loop-clause
invariant-loop-clause l = l.copies.items ≡ take l.clause-index l.clauses
