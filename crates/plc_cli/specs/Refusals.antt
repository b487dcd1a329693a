-- The text of a file's refusal.
use Rattle.std.specs.Prelude.{ℕ, List, []}
use Rattle.plc_answers.specs.Refusals.{lex_fault_text, parse_fault_text, limit_text}
use Rattle.plc_check.specs.declared.judged.LoadFault.{LoadFault}
use Rattle.plc_check.specs.declared.judged.LoadFault.TheVariants.{Lex, Parse, Limit, Memory}

-- running out of memory has no text
abbrev pub load_fault_text : LoadFault → List ℕ
load_fault_text (Lex fault) = lex_fault_text fault
load_fault_text (Parse fault line) = parse_fault_text fault line
load_fault_text (Limit what count) = limit_text what count
load_fault_text Memory = []
