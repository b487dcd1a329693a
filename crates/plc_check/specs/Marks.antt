-- That what a file's tokens say of marks is what its program does.
use Rattle.std.specs.Prelude.{◌≡◌, ℕ, List, Ok}
use Rattle.plc_lex.specs.declared.token.Token.{Token}
use Rattle.plc_lex.specs.Spelling.{AreTokensOf}
use Rattle.plc_syntax.specs.Marks.{tokens_use_marks}
use Rattle.plc_syntax.specs.Syntax.{kinds}
use Rattle.plc_vocabulary.specs.Marks.{program_uses_marks}
use Rattle.plc_check.specs.declared.judged.Judged.{Judged}
use Rattle.plc_check.specs.Answered.{IsLoaded}

-- of bytes that are loaded the flow or the outline uses marks exactly where the tokens do that the bytes spell
abbrev pub FilesUseTheirMarks : Type 0
FilesUseTheirMarks = (bytes : List ℕ) (ts : List Token) (j : Judged) → AreTokensOf bytes ts → IsLoaded bytes (Ok j)
    → program_uses_marks j.flow j.unit_outline ≡ tokens_use_marks (kinds ts)
