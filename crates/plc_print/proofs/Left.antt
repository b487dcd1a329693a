-- What a loop has printed so far, by what is left to print.
use Rattle.std.proofs.Common.{◌≡◌, ◌++◌}
use Rattle.plc_syntax.specs.Trees.{Pieces, kinds_of}
use Rattle.plc_print.specs.Text.{text_of}
use Rattle.plc_print.specs.declared.tokens.Printer.{Printer}

-- the whole is what was printed and what is left
abbrev pub Left : Printer → Printer → Pieces → Pieces → Type 0
Left old new whole left = new.text.items ++ text_of (kinds_of left) ≡ old.text.items ++ text_of (kinds_of whole)
