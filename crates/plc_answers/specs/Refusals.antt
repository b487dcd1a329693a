-- The texts of refusals. Each line ends with a line feed.
use Rattle.std.specs.Prelude.{ℕ, List, [], ◌++◌, codes, decimal}
use Rattle.plc_base.specs.declared.limits.What1.{What1}
use Rattle.plc_base.specs.Bounds.{limit_name}
use Rattle.plc_lex.specs.declared.fault.LexFault.{LexFault}
use Rattle.plc_lex.specs.declared.fault.LexFault.TheVariants.{BadByte, LongName, BadNumber, Memory as LexMemory}
use Rattle.plc_scope.specs.declared.fault.ParseFault.{ParseFault}
use Rattle.plc_scope.specs.declared.fault.ParseFault.TheVariants.{Syntax, Undeclared, Duplicate, WrongSort, NoSuchCall}
use Rattle.plc_scope.specs.declared.fault.ParseFault.TheVariants.{Limit, Memory}

-- the texts of words of no listed form, of a read that failed, and of a file that is too long
abbrev pub words_refused_text : List ℕ
words_refused_text = codes "words refused\n"

abbrev pub read_failed_text : List ℕ
read_failed_text = codes "read failed\n"

abbrev pub read_too_long_text : List ℕ
read_too_long_text = codes "read too long\n"

-- refused byte at N, and the same of names and numbers; running out of memory has no text
abbrev pub lex_fault_text : LexFault → List ℕ
lex_fault_text (BadByte at) = codes "refused byte at " ++ decimal at ++ codes "\n"
lex_fault_text (LongName at) = codes "refused name at " ++ decimal at ++ codes "\n"
lex_fault_text (BadNumber at) = codes "refused number at " ++ decimal at ++ codes "\n"
lex_fault_text LexMemory = []

-- refused KIND token K line N
abbrev pub token_text : List ℕ → ℕ → ℕ → List ℕ
token_text kind at line =
    codes "refused " ++ kind ++ codes " token " ++ decimal at ++ codes " line " ++ decimal line ++ codes "\n"

-- refused limit WHAT COUNT
abbrev pub limit_text : What1 → ℕ → List ℕ
limit_text what count = codes "refused limit " ++ limit_name what ++ codes " " ++ decimal count ++ codes "\n"

-- a fault of tokens, with the line of its place; running out of memory has no text
abbrev pub parse_fault_text : ParseFault → ℕ → List ℕ
parse_fault_text (Syntax at) line = token_text (codes "syntax") at line
parse_fault_text (Undeclared at) line = token_text (codes "undeclared") at line
parse_fault_text (Duplicate at) line = token_text (codes "duplicate") at line
parse_fault_text (WrongSort at) line = token_text (codes "sort") at line
parse_fault_text (NoSuchCall at) line = token_text (codes "call") at line
parse_fault_text (Limit what count) line = limit_text what count
parse_fault_text Memory line = []
