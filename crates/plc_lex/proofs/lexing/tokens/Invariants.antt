use Rattle.std.proofs.Common.{length}
use Rattle.plc_lex.specs.Reading.{IsAtToken, Reads}
use Rattle.plc_lex.proofs.lexing.tokens.Given as goal

abbrev pub invariant-loop-rest : goal.invariant-loop-rest
invariant-loop-rest l = record { reads : Reads 0 1 l.bytes l.tokens.items l.rest; at_token : IsAtToken l.rest.bytes.now }

abbrev pub decreases-loop-rest : goal.decreases-loop-rest
decreases-loop-rest l = length l.rest.bytes.now
