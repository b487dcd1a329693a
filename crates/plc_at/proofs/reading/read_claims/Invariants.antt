use Rattle.plc_syntax.specs.Syntax.{kinds}
use Rattle.plc_at.proofs.ReadingSoFar.{ReadTo}
use Rattle.plc_at.proofs.reading.read_claims.Given as goal

abbrev pub invariant-loop-at : goal.invariant-loop-at
invariant-loop-at l = ReadTo l.flow l.observer (kinds l.tokens) l.at l.due l.claims.items
