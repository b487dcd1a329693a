-- The canonical text: each token is followed by one space, but `;`, `{` and `}` by a line feed.
use Rattle.std.specs.Prelude.{ℕ, List, [], ◌∷◌, ◌++◌, decimal}
use Rattle.plc_lex.specs.declared.token.TokenKind.{TokenKind}
use Rattle.plc_lex.specs.declared.token.TokenKind.TheVariants.{Word, Name, Number, Symbol}
use Rattle.plc_lex.specs.declared.token.Symbol.{Symbol as Punctuation}
use Rattle.plc_lex.specs.declared.token.Symbol.TheVariants as symbols
use Rattle.plc_lex.specs.Texts.{word_text, symbol_text}
use Rattle.plc_syntax.specs.Trees.{file_tokens}
use Rattle.plc_parse.specs.declared.unit.Unit.{Unit as FileUnit}
use Rattle.plc_print.specs.Canonical.{canonical_tree}

-- a token
abbrev pub token_text : TokenKind → List ℕ
token_text (Word w) = word_text w
token_text (Name n) = n
token_text (Number n) = decimal n
token_text (Symbol s) = symbol_text s

-- what follows a symbol
abbrev pub after_symbol : Punctuation → ℕ
after_symbol symbols.OpenBrace = 10
after_symbol symbols.CloseBrace = 10
after_symbol symbols.Semicolon = 10
after_symbol s = 32

-- what follows a token
abbrev pub after : TokenKind → ℕ
after (Symbol s) = after_symbol s
after _ = 32

-- the text of tokens
abbrev pub text_of : List TokenKind → List ℕ
text_of [] = []
text_of (t ∷ ts) = token_text t ++ after t ∷ text_of ts

-- the one canonical text of a unit
abbrev pub canonical_text : FileUnit → List ℕ
canonical_text u = text_of (file_tokens (canonical_tree u))
