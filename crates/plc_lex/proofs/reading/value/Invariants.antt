use Rattle.std.proofs.Common.{◌≡◌, ◌^◌, min, take}
use Rattle.plc_lex.specs.Spelling.{value}
use Rattle.plc_lex.proofs.reading.value.Given as goal

abbrev pub invariant-loop-digit : goal.invariant-loop-digit
invariant-loop-digit l = l.value ≡ min (value (take l.digit-index l.digits)) (2 ^ 32)
