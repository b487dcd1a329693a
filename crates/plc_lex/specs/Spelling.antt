-- Which tokens bytes spell.
use Rattle.std.specs.Prelude.{◌≡◌, ◌==◌, ◌&&◌, ◌+◌, ◌*◌, ◌-◌, ◌^◌, ℕ, Bool, true, false, not, if◌then◌else◌, List, []}
use Rattle.std.specs.Prelude.{◌∷◌, take, drop, fold, Option, Some, None, Result, Ok, Err, nat_lt, nat_eq}
use Rattle.std.specs.List.{prefix_len, starts_with}
use Rattle.plc_base.specs.Limits.{most_name_bytes}
use Rattle.plc_lex.specs.declared.token.Token.{Token}
use Rattle.plc_lex.specs.declared.token.TokenKind.{TokenKind}
use Rattle.plc_lex.specs.declared.token.TokenKind.TheVariants.{Word, Name, Number, Symbol}
use Rattle.plc_lex.specs.declared.token.Keyword.{Keyword}
use Rattle.plc_lex.specs.declared.token.Symbol.{Symbol as SymbolName}
use Rattle.plc_lex.specs.Characters.{is_space, is_letter, is_digit, in_name, in_comment, comment_opening, keyword_of}
use Rattle.plc_lex.specs.Characters.{symbol_of}

-- why no token stands at a place
pub data Refusal : Type 0 where
  bad_byte : Refusal
  long_name : Refusal
  bad_number : Refusal

-- a run that a keyword spells is that keyword, any other is a name
abbrev pub word_of : List ℕ → Option Keyword → TokenKind
word_of run None = Name run
word_of run (Some word) = Word word

-- the token of a whole run
abbrev pub name_or_word : List ℕ → TokenKind
name_or_word run = word_of run (keyword_of run)

-- the number that digits write
abbrev pub value : List ℕ → ℕ
value digits = fold (λ n d. 10 * n + (d - 48)) 0 digits

-- one digit, or digits without a leading zero
abbrev pub is_plain : List ℕ → Bool
is_plain [] = false
is_plain (d ∷ []) = true
is_plain (d ∷ e ∷ ds) = not (d == 48)

-- the longest run of name bytes at the front, and its length
unfoldable pub name_at : List ℕ → Result (TokenKind × ℕ) Refusal
name_at bs =
    let n = prefix_len in_name bs in
    if nat_lt most_name_bytes n then Err long_name else Ok (name_or_word (take n bs), n)

-- the longest run of digits at the front, and its length
unfoldable pub number_at : List ℕ → Result (TokenKind × ℕ) Refusal
number_at bs =
    let n = prefix_len is_digit bs in
    let digits = take n bs in
    if is_plain digits && nat_lt (value digits) (2 ^ 32) then Ok (Number (value digits), n) else Err bad_number

-- no symbol is a bad byte
abbrev pub symbol_or_none : Option (SymbolName × ℕ) → Result (TokenKind × ℕ) Refusal
symbol_or_none None = Err bad_byte
symbol_or_none (Some s) = Ok (Symbol s.0, s.1)

-- the longest symbol at the front, and its length
unfoldable pub symbol_at : List ℕ → Result (TokenKind × ℕ) Refusal
symbol_at bs = symbol_or_none (symbol_of bs)

-- the token that bytes begin with, and its length
abbrev pub token_at : List ℕ → Result (TokenKind × ℕ) Refusal
token_at [] = Err bad_byte
token_at (b ∷ bs) =
    if is_letter b then name_at (b ∷ bs) else (if is_digit b then number_at (b ∷ bs) else symbol_at (b ∷ bs))

-- whether a comment stands at the front
abbrev pub is_comment : List ℕ → Bool
is_comment bs = starts_with nat_eq bs comment_opening

-- how long a comment is: to before its line's end
abbrev pub comment_length : List ℕ → ℕ
comment_length bs = prefix_len in_comment bs

-- the line after a byte
abbrev pub next_line : ℕ → ℕ → ℕ
next_line line b = if b == 10 then line + 1 else line

-- whether white space stands at the front
abbrev pub is_blank : List ℕ → Bool
is_blank [] = false
is_blank (b ∷ bs) = is_space b

-- a token of so many bytes from a place on
abbrev pub token_from : ℕ → ℕ → TokenKind → ℕ → Token
token_from at line kind n = record { kind = kind; span = record { start = at; end = at + n }; line = line }

-- bytes that begin at a place, on a line, spell tokens
pub data Spells : ℕ → ℕ → List ℕ → List Token → Type 0 where
  at_end : (at line : ℕ) → Spells at line [] []
  after_space : (at line b : ℕ) (bs : List ℕ) (ts : List Token) → is_space b ≡ true
      → Spells (at + 1) (next_line line b) bs ts → Spells at line (b ∷ bs) ts
  after_comment : (at line : ℕ) (bs : List ℕ) (ts : List Token) → is_comment bs ≡ true
      → Spells (at + comment_length bs) line (drop (comment_length bs) bs) ts → Spells at line bs ts
  token : (at line n : ℕ) (bs : List ℕ) (kind : TokenKind) (ts : List Token) → is_blank bs ≡ false
      → is_comment bs ≡ false → token_at bs ≡ Ok (kind, n)
      → Spells (at + n) line (drop n bs) ts → Spells at line bs (token_from at line kind n ∷ ts)

-- these are the tokens of a text
abbrev pub AreTokensOf : List ℕ → List Token → Type 0
AreTokensOf bytes tokens = Spells 0 1 bytes tokens
