use Rattle.std.proofs.Common.{◌≡◌, ◌++◌, drop, map}
use Rattle.plc_print.specs.Text.{text_of}
use Rattle.plc_print.specs.Pieces.{piece_of}
use Rattle.plc_print.proofs.tokens.Printer.tokens.Given as goal
use Rattle.plc_syntax.specs.Trees.{kinds_of}

abbrev pub invariant-loop-piece : goal.invariant-loop-piece
invariant-loop-piece l = l.self.text.items ++ text_of (kinds_of (map piece_of (drop l.piece-index l.pieces))) ≡ l.initial.self.text.items ++ text_of (kinds_of (map piece_of l.pieces))
