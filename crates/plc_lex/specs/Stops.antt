-- Where bytes spell no token, what stands in a token, and the laws on both.
use Rattle.std.specs.Prelude.{◌≡◌, ◌==◌, ◌<◌, ◌≤◌, ◌+◌, ◌^◌, ℕ, Bool, true, false, List, [], ◌∷◌, length, take, drop}
use Rattle.std.specs.Prelude.{None, Ok, Err, count_by, All}
use Rattle.std.specs.List.{prefix_len}
use Rattle.plc_base.specs.Limits.{most_name_bytes}
use Rattle.plc_lex.specs.declared.token.Token.{Token}
use Rattle.plc_lex.specs.declared.token.TokenKind.{TokenKind}
use Rattle.plc_lex.specs.declared.token.TokenKind.TheVariants.{Word, Name, Number, Symbol}
use Rattle.plc_lex.specs.Characters.{is_space, is_letter, in_name, keyword_of}
use Rattle.plc_lex.specs.Spelling.{Refusal, token_at, is_comment, comment_length, is_blank, AreTokensOf}

-- bytes that begin at a place spell tokens up to a place where none stands
pub data Stops : ℕ → List ℕ → Refusal → ℕ → Type 0 where
  here : (at : ℕ) (b : ℕ) (bs : List ℕ) (why : Refusal)
      → is_space b ≡ false → is_comment (b ∷ bs) ≡ false → token_at (b ∷ bs) ≡ Err why
      → Stops at (b ∷ bs) why at
  past_space : (at b place : ℕ) (bs : List ℕ) (why : Refusal)
      → is_space b ≡ true → Stops (at + 1) bs why place → Stops at (b ∷ bs) why place
  past_comment : (at place : ℕ) (bs : List ℕ) (why : Refusal) → is_comment bs ≡ true
      → Stops (at + comment_length bs) (drop (comment_length bs) bs) why place → Stops at bs why place
  past_token : (at n place : ℕ) (bs : List ℕ) (kind : TokenKind) (why : Refusal) → is_blank bs ≡ false
      → is_comment bs ≡ false → token_at bs ≡ Ok (kind, n) → Stops (at + n) (drop n bs) why place
      → Stops at bs why place

-- whether a letter or `_` stands at the front
abbrev pub begins_with_letter : List ℕ → Bool
begins_with_letter [] = false
begins_with_letter (b ∷ bs) = is_letter b

-- a name: a letter or `_` and then bytes that go on it, not too many, and no keyword
pub record IsName (run : List ℕ) : Type 0 where
  pub first : begins_with_letter run ≡ true
  pub whole : prefix_len in_name run ≡ length run
  pub length_bound : length run ≤ most_name_bytes
  pub no_keyword : keyword_of run ≡ None

-- what stands in a token
abbrev pub IsKind : TokenKind → Type 0
IsKind (Word word) = Unit {0}
IsKind (Name run) = IsName run
IsKind (Number n) = n < 2 ^ 32
IsKind (Symbol symbol) = Unit {0}

-- a token of a text of so many bytes
pub record IsToken (size : ℕ) (t : Token) : Type 0 where
  pub kind : IsKind t.kind
  pub not_empty : t.span.start < t.span.end
  pub within : t.span.end ≤ size
  pub line : t.line ≤ size + 1

-- this is the first place of a text where no token stands
abbrev pub StopsAt : List ℕ → Refusal → ℕ → Type 0
StopsAt bytes why place = Stops 0 bytes why place

-- a text spells one list of tokens, or stops at one place, and not both
pub record SpellingIsUnique : Type 0 where
  pub tokens : (bytes : List ℕ) (ts us : List Token) → AreTokensOf bytes ts → AreTokensOf bytes us → ts ≡ us
  pub places : (bytes : List ℕ) (why other : Refusal) (p q : ℕ) → StopsAt bytes why p → StopsAt bytes other q
      → (why ≡ other) × (p ≡ q)
  pub apart : (bytes : List ℕ) (ts : List Token) (why : Refusal) (p : ℕ) → AreTokensOf bytes ts
      → StopsAt bytes why p → ⊥

-- how many line feeds there are
abbrev pub line_feeds : List ℕ → ℕ
line_feeds bytes = count_by (λ b. b == 10) bytes

-- a token's line is one more than the number of line feeds before it
pub record LinesAreCounted : Type 0 where
  pub lines : (bytes : List ℕ) (ts : List Token) → AreTokensOf bytes ts
      → All (λ t. t.line ≡ 1 + line_feeds (take t.span.start bytes)) ts
