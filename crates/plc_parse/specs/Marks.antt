-- That the tokens of a unit say whether it uses marks.
use Rattle.std.specs.Prelude.{◌≡◌, ◌||◌, Bool, List}
use Rattle.plc_lex.specs.declared.token.Token.{Token}
use Rattle.plc_lang.specs.Marks.{file_uses_marks}
use Rattle.plc_logic.specs.Marks.{outline_uses_marks}
use Rattle.plc_syntax.specs.Marks.{tokens_use_marks}
use Rattle.plc_syntax.specs.Syntax.{kinds}
use Rattle.plc_parse.specs.declared.unit.Unit.{Unit as FileUnit}
use Rattle.plc_parse.specs.Units.{IsUnitOf}

-- a unit uses marks where its file or its outline does
abbrev pub unit_uses_marks : FileUnit → Bool
unit_uses_marks u = file_uses_marks u.file || outline_uses_marks u.outline

-- tokens use marks exactly where the unit that they spell does
abbrev pub UnitsUseTheirMarks : Type 0
UnitsUseTheirMarks =
    (ts : List Token) (u : FileUnit) → IsUnitOf ts u → tokens_use_marks (kinds ts) ≡ unit_uses_marks u
