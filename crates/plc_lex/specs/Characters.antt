-- Bytes, and the words and symbols that they spell.
use Rattle.std.specs.Prelude.{◌==◌, ◌&&◌, ◌||◌, ℕ, Bool, not, List, [], ◌∷◌, length, codes, nat_le, nat_eq, Option}
use Rattle.std.specs.Prelude.{option_map, find}
use Rattle.std.specs.List.{starts_with}
use Rattle.std.specs.Str.{bytes_eq}
use Rattle.plc_lex.specs.declared.token.Keyword.{Keyword}
use Rattle.plc_lex.specs.declared.token.Keyword.TheVariants as words
use Rattle.plc_lex.specs.declared.token.Symbol.{Symbol}
use Rattle.plc_lex.specs.declared.token.Symbol.TheVariants as symbols

-- space, tab, carriage return and line feed
abbrev pub is_space : ℕ → Bool
is_space b = (b == 32) || (b == 9) || (b == 13) || (b == 10)

-- a letter or `_`
abbrev pub is_letter : ℕ → Bool
is_letter b = (nat_le 97 b && nat_le b 122) || (nat_le 65 b && nat_le b 90) || (b == 95)

-- a decimal digit
abbrev pub is_digit : ℕ → Bool
is_digit b = nat_le 48 b && nat_le b 57

-- a byte that goes on a name
abbrev pub in_name : ℕ → Bool
in_name b = is_letter b || is_digit b

-- a byte that goes on a comment
abbrev pub in_comment : ℕ → Bool
in_comment b = not (b == 10)

-- what a comment begins with
abbrev pub comment_opening : List ℕ
comment_opening = codes "//"

-- the words that can't be names
unfoldable pub keywords : List (List ℕ × Keyword)
keywords =
    (codes "struct", words.Struct) ∷ (codes "ptr", words.Ptr) ∷ (codes "data", words.Data)
    ∷ (codes "shared", words.Shared) ∷ (codes "call", words.Call) ∷ (codes "use", words.Use)
    ∷ (codes "hazard", words.Hazard) ∷ (codes "epoch", words.Epoch) ∷ (codes "ghost", words.Ghost)
    ∷ (codes "thread", words.Thread) ∷ (codes "init", words.Init) ∷ (codes "op", words.Op)
    ∷ (codes "atomic", words.Atomic) ∷ (codes "if", words.If) ∷ (codes "else", words.Else)
    ∷ (codes "loop", words.Loop) ∷ (codes "break", words.Break) ∷ (codes "return", words.Return)
    ∷ (codes "skip", words.Skip) ∷ (codes "choose", words.Choose) ∷ (codes "or", words.Or)
    ∷ (codes "label", words.Label) ∷ (codes "during", words.During) ∷ (codes "active", words.Active)
    ∷ (codes "assume", words.Assume) ∷ (codes "new", words.New) ∷ (codes "null", words.Null)
    ∷ (codes "cas", words.Cas) ∷ (codes "outline", words.Outline) ∷ (codes "depth", words.Depth)
    ∷ (codes "inv", words.Inv) ∷ (codes "over", words.Over) ∷ (codes "at", words.At)
    ∷ (codes "all", words.All) ∷ (codes "not", words.Not) ∷ (codes "retired", words.Retired)
    ∷ (codes "me", words.Me) ∷ (codes "none", words.None) ∷ (codes "mark", words.Mark)
    ∷ (codes "unmark", words.Unmark) ∷ (codes "marked", words.Marked) ∷ (codes "unmarked", words.Unmarked) ∷ []

-- the word of a table that a run of bytes spells
abbrev pub keyword_in : List (List ℕ × Keyword) → List ℕ → Option Keyword
keyword_in table run =
    option_map (λ (k : List ℕ × Keyword). k.1) (find (λ (k : List ℕ × Keyword). bytes_eq k.0 run) table)

-- the keyword that a run of bytes spells
unfoldable pub keyword_of : List ℕ → Option Keyword
keyword_of run = keyword_in keywords run

-- the symbols, the longest first
unfoldable pub symbols_longest_first : List (List ℕ × Symbol)
symbols_longest_first =
    (codes ":=", symbols.Assign) ∷ (codes "?=", symbols.Refresh)
    ∷ (codes "==", symbols.Equal) ∷ (codes "!=", symbols.Unequal) ∷ (codes ">=", symbols.AtLeast)
    ∷ (codes "{", symbols.OpenBrace) ∷ (codes "}", symbols.CloseBrace)
    ∷ (codes "(", symbols.OpenParen) ∷ (codes ")", symbols.CloseParen)
    ∷ (codes ";", symbols.Semicolon) ∷ (codes ",", symbols.Comma)
    ∷ (codes ".", symbols.Dot) ∷ (codes ":", symbols.Colon) ∷ (codes "<", symbols.Less) ∷ []

-- the first symbol of a table with which bytes begin, and its length
abbrev pub symbol_in : List (List ℕ × Symbol) → List ℕ → Option (Symbol × ℕ)
symbol_in table bytes =
    option_map (λ (s : List ℕ × Symbol). (s.1, length s.0))
    (find (λ (s : List ℕ × Symbol). starts_with nat_eq bytes s.0) table)

-- the longest symbol with which bytes begin, and its length
unfoldable pub symbol_of : List ℕ → Option (Symbol × ℕ)
symbol_of bytes = symbol_in symbols_longest_first bytes
