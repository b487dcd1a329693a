-- Where and why a fault is told.
use Rattle.std.specs.Prelude.{ℕ, List}
use Rattle.plc_lex.specs.declared.fault.LexFault.{LexFault}
use Rattle.plc_lex.specs.declared.fault.LexFault.TheVariants.{BadByte, LongName, BadNumber, Memory}
use Rattle.plc_lex.specs.Spelling.{bad_byte, long_name, bad_number}
use Rattle.plc_lex.specs.Stops.{Stops}

-- bytes that begin at a place stop with a fault; running out of memory says nothing
abbrev pub StopsWith : ℕ → List ℕ → LexFault → Type 0
StopsWith at bytes (BadByte place) = Stops at bytes bad_byte place
StopsWith at bytes (LongName place) = Stops at bytes long_name place
StopsWith at bytes (BadNumber place) = Stops at bytes bad_number place
StopsWith at bytes Memory = Unit {0}
