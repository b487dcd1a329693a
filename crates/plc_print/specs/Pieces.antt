-- What a printer adds to its text.
use Rattle.std.specs.Prelude.{◌≡◌, ◌++◌, Result, OnOk}
use Rattle.plc_lex.specs.declared.token.TokenKind.{TokenKind}
use Rattle.plc_lex.specs.declared.token.TokenKind.TheVariants.{Word, Name, Number, Symbol}
use Rattle.plc_syntax.specs.Trees.{Pieces, Piece as TreePiece, plain, kinds_of}
use Rattle.plc_print.specs.Text.{text_of}
use Rattle.plc_print.specs.declared.tokens.Piece.{Piece}
use Rattle.plc_print.specs.declared.tokens.Piece.TheVariants as pieces
use Rattle.plc_print.specs.declared.tokens.Printer.{Printer}

-- the token that a piece stands for
abbrev pub kind_of : Piece → TokenKind
kind_of (pieces.Word word) = Word word
kind_of (pieces.Name name) = Name name.now
kind_of (pieces.Number n) = Number n
kind_of (pieces.Sign symbol) = Symbol symbol

-- at no place
abbrev pub piece_of : Piece → TreePiece
piece_of p = plain (kind_of p)

-- the text of these tokens after what was printed before, unless memory ran out; where they stood plays no part
abbrev pub Prints : {A E : Type 0} → Result A E → Printer → Printer → Pieces → Type 0
Prints result old new tokens = OnOk result (new.text.items ≡ old.text.items ++ text_of (kinds_of tokens))
