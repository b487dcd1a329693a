-- The flow uses marks where the file does, and the file or the outline where the tokens do.
use Rattle.std.proofs.Common.{◌||◌, List, sym, ap, ◌∙◌}
use Rattle.plc_lex.specs.declared.token.Token.{Token}
use Rattle.plc_lex.proofs.Unique.{same_tokens}
use Rattle.plc_syntax.specs.Marks.{tokens_use_marks}
use Rattle.plc_syntax.specs.Syntax.{kinds}
use Rattle.plc_logic.specs.Marks.{outline_uses_marks}
use Rattle.plc_parse.proofs.Marked.{units_marked}
use Rattle.plc_flow.proofs.KeptMarks.{marks_kept}
use Rattle.plc_vocabulary.specs.Marks.{program_uses_marks}
use Rattle.plc_check.specs.Marks.{FilesUseTheirMarks}

pub files_marked : FilesUseTheirMarks
unfolding program_uses_marks
files_marked bytes ts j spelled (u, file, is) =
    let same = same_tokens 0 1 bytes file.tokens ts file.spells.spelled spelled in
    rw is (ap (λ flow. flow || outline_uses_marks u.outline) (marks_kept u.file)
    ∙ sym (units_marked file.tokens u file.spells.unit)
    ∙ ap (λ (us : List Token). tokens_use_marks (kinds us)) same)
