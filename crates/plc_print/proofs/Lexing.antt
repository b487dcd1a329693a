-- The text of tokens, each of which bytes can spell, spells these tokens.
use Rattle.std.proofs.Common.{◌≡◌, ◌==◌, ◌&&◌, ◌+◌, ◌-◌, ◌*◌, ◌/◌, ◌%◌, ◌<◌, ◌≤◌, ◌^◌, ℕ, Bool, true, false, not, cond}
use Rattle.std.proofs.Common.{nat_le, nat_lt, List, [], ◌∷◌, ◌++◌, length, take, decimal, Option, Result, Ok, Err, refl}
use Rattle.std.proofs.Common.{sym, ap, ◌∙◌, subst, arith, length-append, eq-eqb}
use Rattle.std.specs.List.{AllByRecursion, prefix_len}
use Rattle.std.proofs.Math.Seq.{take-append_seam, drop-append_seam}
use Rattle.std.proofs.lemmas.Bool.{and_parts, ne_eqb, le-leb, lt-leb, leb-true, le-ltb, lt-ltb}
use Rattle.std.proofs.lemmas.Fmt.{decimal_by_steps}
use Rattle.std.proofs.lemmas.List.Folds.{prefix_len-append}
use Rattle.std.proofs.lemmas.List.Sums.{fold-append, prefix_len_passes}
use Rattle.plc_lex.specs.declared.token.Token.{Token}
use Rattle.plc_lex.specs.declared.token.TokenKind.{TokenKind}
use Rattle.plc_lex.specs.declared.token.TokenKind.TheVariants.{Word, Name, Number, Symbol}
use Rattle.plc_lex.specs.declared.token.Keyword.{Keyword}
use Rattle.plc_lex.specs.declared.token.Keyword.TheVariants as words
use Rattle.plc_lex.specs.declared.token.Symbol.{Symbol as Punctuation}
use Rattle.plc_lex.specs.declared.token.Symbol.TheVariants as symbols
use Rattle.plc_lex.specs.Characters.{is_space, is_letter, is_digit, in_name, keywords, keyword_of}
use Rattle.plc_lex.specs.Characters.{symbols_longest_first, symbol_of}
use Rattle.plc_lex.specs.Spelling.{Refusal, long_name, bad_number, word_of, name_or_word, value, is_plain, name_at}
use Rattle.plc_lex.specs.Spelling.{number_at, symbol_at, token_at, is_comment, is_blank, next_line, token_from, Spells}
use Rattle.plc_lex.specs.Spelling.{at_end, after_space, token}
use Rattle.plc_lex.specs.Stops.{IsName, IsKind}
use Rattle.plc_syntax.specs.Syntax.{kinds}
use Rattle.plc_print.specs.Text.{token_text, after, text_of}
use Rattle.plc_print.specs.Laws.{TextIsReadBack}

-- these bytes begin with a token's text and with nothing else, and white space follows a token
abbrev IsRead : TokenKind → List ℕ → Type 0
IsRead t bytes = (is_blank bytes ≡ false) × (is_comment bytes ≡ false) × (token_at bytes ≡ Ok (t, length (token_text t))) × (is_space (after t) ≡ true)

-- a token with what follows it, before other bytes
abbrev before_bytes : TokenKind → List ℕ → List ℕ
before_bytes t rest = token_text t ++ after t ∷ rest

-- ---- keywords and symbols

word_read : (w : Keyword) (rest : List ℕ) → IsRead (Word w) (before_bytes (Word w) rest)
unfolding name_at keyword_of keywords
word_read words.Struct rest = (refl, refl, refl, refl)
word_read words.Ptr rest = (refl, refl, refl, refl)
word_read words.Data rest = (refl, refl, refl, refl)
word_read words.Shared rest = (refl, refl, refl, refl)
word_read words.Call rest = (refl, refl, refl, refl)
word_read words.Use rest = (refl, refl, refl, refl)
word_read words.Hazard rest = (refl, refl, refl, refl)
word_read words.Epoch rest = (refl, refl, refl, refl)
word_read words.Ghost rest = (refl, refl, refl, refl)
word_read words.Thread rest = (refl, refl, refl, refl)
word_read words.Init rest = (refl, refl, refl, refl)
word_read words.Op rest = (refl, refl, refl, refl)
word_read words.Atomic rest = (refl, refl, refl, refl)
word_read words.If rest = (refl, refl, refl, refl)
word_read words.Else rest = (refl, refl, refl, refl)
word_read words.Loop rest = (refl, refl, refl, refl)
word_read words.Break rest = (refl, refl, refl, refl)
word_read words.Return rest = (refl, refl, refl, refl)
word_read words.Skip rest = (refl, refl, refl, refl)
word_read words.Choose rest = (refl, refl, refl, refl)
word_read words.Or rest = (refl, refl, refl, refl)
word_read words.Label rest = (refl, refl, refl, refl)
word_read words.During rest = (refl, refl, refl, refl)
word_read words.Active rest = (refl, refl, refl, refl)
word_read words.Assume rest = (refl, refl, refl, refl)
word_read words.New rest = (refl, refl, refl, refl)
word_read words.Null rest = (refl, refl, refl, refl)
word_read words.Cas rest = (refl, refl, refl, refl)
word_read words.Outline rest = (refl, refl, refl, refl)
word_read words.Depth rest = (refl, refl, refl, refl)
word_read words.Inv rest = (refl, refl, refl, refl)
word_read words.Over rest = (refl, refl, refl, refl)
word_read words.At rest = (refl, refl, refl, refl)
word_read words.All rest = (refl, refl, refl, refl)
word_read words.Not rest = (refl, refl, refl, refl)
word_read words.Retired rest = (refl, refl, refl, refl)
word_read words.Me rest = (refl, refl, refl, refl)
word_read words.None rest = (refl, refl, refl, refl)
word_read words.Mark rest = (refl, refl, refl, refl)
word_read words.Unmark rest = (refl, refl, refl, refl)
word_read words.Marked rest = (refl, refl, refl, refl)
word_read words.Unmarked rest = (refl, refl, refl, refl)

symbol_read : (s : Punctuation) (rest : List ℕ) → IsRead (Symbol s) (before_bytes (Symbol s) rest)
unfolding symbol_at symbol_of symbols_longest_first
symbol_read symbols.Assign rest = (refl, refl, refl, refl)
symbol_read symbols.Refresh rest = (refl, refl, refl, refl)
symbol_read symbols.Equal rest = (refl, refl, refl, refl)
symbol_read symbols.Unequal rest = (refl, refl, refl, refl)
symbol_read symbols.AtLeast rest = (refl, refl, refl, refl)
symbol_read symbols.OpenBrace rest = (refl, refl, refl, refl)
symbol_read symbols.CloseBrace rest = (refl, refl, refl, refl)
symbol_read symbols.OpenParen rest = (refl, refl, refl, refl)
symbol_read symbols.CloseParen rest = (refl, refl, refl, refl)
symbol_read symbols.Semicolon rest = (refl, refl, refl, refl)
symbol_read symbols.Comma rest = (refl, refl, refl, refl)
symbol_read symbols.Dot rest = (refl, refl, refl, refl)
symbol_read symbols.Colon rest = (refl, refl, refl, refl)
symbol_read symbols.Less rest = (refl, refl, refl, refl)

-- ---- runs of bytes that pass a test

-- a run ends where a byte doesn't pass
run_ends : (p : ℕ → Bool) (xs : List ℕ) (y : ℕ) (rest : List ℕ) → prefix_len p xs ≡ length xs → p y ≡ false → prefix_len p (xs ++ y ∷ rest) ≡ length xs
run_ends p xs y rest whole stops =
    let none : prefix_len p (y ∷ rest) ≡ 0 = rw stops refl in
    prefix_len-append p xs (y ∷ rest) ∙ ap (λ b. cond b (length xs + prefix_len p (y ∷ rest)) (prefix_len p xs)) (eq-eqb (prefix_len p xs) (length xs) whole) ∙ omega arith

-- one more byte that passes
run_grows : (p : ℕ → Bool) (xs : List ℕ) (y : ℕ) → prefix_len p xs ≡ length xs → p y ≡ true → prefix_len p (xs ++ y ∷ []) ≡ length (xs ++ y ∷ [])
run_grows p xs y whole passes =
    let one : prefix_len p (y ∷ []) ≡ 1 = rw passes refl in
    let longer : length (xs ++ y ∷ []) ≡ length xs + 1 = length-append xs (y ∷ []) in
    prefix_len-append p xs (y ∷ []) ∙ ap (λ b. cond b (length xs + prefix_len p (y ∷ [])) (prefix_len p xs)) (eq-eqb (prefix_len p xs) (length xs) whole) ∙ omega arith

-- a byte that passes a test is another than one that doesn't
apart : (p : ℕ → Bool) (b k : ℕ) → p b ≡ true → p k ≡ false → b ≡ k → ⊥
apart p b k passes fails e = let both : p k ≡ true = subst (λ (x : ℕ). p x ≡ true) e passes in cc

no_space_where : (p : ℕ → Bool) (b : ℕ) → p b ≡ true → p 32 ≡ false → p 9 ≡ false → p 13 ≡ false → p 10 ≡ false → is_space b ≡ false
no_space_where p b passes space tab return feed =
    rw (ne_eqb b 32 (apart p b 32 passes space), ne_eqb b 9 (apart p b 9 passes tab), ne_eqb b 13 (apart p b 13 passes return), ne_eqb b 10 (apart p b 10 passes feed)) refl

no_comment_where : (p : ℕ → Bool) (b : ℕ) (bs : List ℕ) → p b ≡ true → p 47 ≡ false → is_comment (b ∷ bs) ≡ false
no_comment_where p b bs passes slash = rw (ne_eqb 47 b (λ e. apart p b 47 passes slash (sym e))) refl

-- ---- names

abbrev Answer : Type 0
Answer = Result (TokenKind × ℕ) Refusal

-- a token and its length
abbrev answer : TokenKind → ℕ → Answer
answer t n = Ok (t, n)

name_at_front : (n rest : List ℕ) → IsName n → name_at (n ++ 32 ∷ rest) ≡ Ok (Name n, length n)
unfolding name_at
name_at_front n rest name =
    let all = n ++ 32 ∷ rest in
    ap (λ (k : ℕ). cond {A = Answer} (nat_lt 64 k) (Err long_name) (Ok (name_or_word (take k all), k))) (run_ends in_name n 32 rest name.whole refl)
    ∙ ap (λ (b : Bool). cond {A = Answer} b (Err long_name) (Ok (name_or_word (take (length n) all), length n))) (le-ltb 64 (length n) name.length_bound)
    ∙ ap (λ (run : List ℕ). answer (name_or_word run) (length n)) (take-append_seam n (32 ∷ rest))
    ∙ ap (λ (w : Option Keyword). answer (word_of n w) (length n)) name.no_keyword

name_read : (n rest : List ℕ) → IsName n → IsRead (Name n) (before_bytes (Name n) rest)
name_read [] rest name = absurd (let f = name.first in cc)
name_read (b ∷ bs) rest name =
    let letter : is_letter b ≡ true = name.first in
    let all = b ∷ bs ++ 32 ∷ rest in (
      no_space_where is_letter b letter refl refl refl refl,
      no_comment_where is_letter b (bs ++ 32 ∷ rest) letter refl,
      ap (λ (c : Bool). cond {A = Answer} c (name_at all) (cond (is_digit b) (number_at all) (symbol_at all))) letter ∙ name_at_front (b ∷ bs) rest name,
      refl,
    )

-- ---- numbers

-- whether digits begin with another one than 0
abbrev begins_above : List ℕ → Bool
begins_above [] = false
begins_above (d ∷ ds) = not (d == 48)

-- digits that write a number
record Writes (n : ℕ) (ds : List ℕ) : Type 0 where
  digits : prefix_len is_digit ds ≡ length ds
  value_is : value ds ≡ n
  plain : is_plain ds ≡ true
  above : 1 ≤ n → begins_above ds ≡ true

digit : (k : ℕ) → k < 10 → is_digit (48 + k) ≡ true
digit k small = rw (le-leb 48 (48 + k) (omega arith), le-leb (48 + k) 57 (omega arith)) refl

still_above : (ds : List ℕ) (y : ℕ) → begins_above ds ≡ true → begins_above (ds ++ y ∷ []) ≡ true
still_above [] y e = absurd cc
still_above (d ∷ ds) y e = e

above_is_plain : (ds : List ℕ) → begins_above ds ≡ true → is_plain ds ≡ true
above_is_plain [] e = absurd cc
above_is_plain (d ∷ []) e = refl
above_is_plain (d ∷ c ∷ ds) e = e

writes_digit : (n : ℕ) → n < 10 → Writes n ((48 + n) ∷ [])
writes_digit n small = record {
  digits = rw (digit n small) refl;
  value_is = omega arith;
  plain = refl;
  above = λ some. ap not (ne_eqb (48 + n) 48 (λ e. omega arith));
}

writes_more : (n : ℕ) (ds : List ℕ) → 10 ≤ n → Writes (n / 10) ds → Writes n (ds ++ (48 + n % 10) ∷ [])
writes_more n ds big w =
    let above : begins_above (ds ++ (48 + n % 10) ∷ []) ≡ true = still_above ds (48 + n % 10) (w.above (omega arith)) in
    record {
      digits = run_grows is_digit ds (48 + n % 10) w.digits (digit (n % 10) (omega arith));
      value_is = let front = w.value_is in fold-append (λ (m d : ℕ). 10 * m + (d - 48)) 0 ds ((48 + n % 10) ∷ []) ∙ omega arith;
      plain = above_is_plain (ds ++ (48 + n % 10) ∷ []) above;
      above = λ some. above;
    }

number_at_front : (n : ℕ) (ds rest : List ℕ) → n < 2 ^ 32 → Writes n ds → number_at (ds ++ 32 ∷ rest) ≡ Ok (Number n, length ds)
unfolding number_at
number_at_front n ds rest small w =
    let all = ds ++ 32 ∷ rest in
    let reading = λ (r : List ℕ) (k : ℕ). cond {A = Answer} (is_plain r && nat_lt (value r) (2 ^ 32)) (Ok (Number (value r), k)) (Err bad_number) in
    ap (λ (k : ℕ). reading (take k all) k) (run_ends is_digit ds 32 rest w.digits refl)
    ∙ ap (λ (r : List ℕ). reading r (length ds)) (take-append_seam ds (32 ∷ rest))
    ∙ ap (λ (b : Bool). cond {A = Answer} (b && nat_lt (value ds) (2 ^ 32)) (Ok (Number (value ds), length ds)) (Err bad_number)) w.plain
    ∙ ap (λ (v : ℕ). cond {A = Answer} (nat_lt v (2 ^ 32)) (Ok (Number v, length ds)) (Err bad_number)) w.value_is
    ∙ ap (λ (b : Bool). cond {A = Answer} b (Ok (Number n, length ds)) (Err bad_number)) (lt-ltb n (2 ^ 32) small)

digit_is_no_letter : (d : ℕ) → is_digit d ≡ true → is_letter d ≡ false
digit_is_no_letter d e =
    let parts = and_parts (nat_le 48 d) (nat_le d 57) e in
    let low = leb-true 48 d parts.0 in
    let high = leb-true d 57 parts.1 in
    rw (lt-leb 97 d (omega arith), lt-leb 65 d (omega arith), ne_eqb d 95 (λ (same : d ≡ 95). omega arith)) refl

digits_read : (n : ℕ) (ds rest : List ℕ) → n < 2 ^ 32 → Writes n ds → (is_blank (ds ++ 32 ∷ rest) ≡ false) × (is_comment (ds ++ 32 ∷ rest) ≡ false) × (token_at (ds ++ 32 ∷ rest) ≡ Ok (Number n, length ds))
digits_read n [] rest small w = absurd (let p = w.plain in cc)
digits_read n (d ∷ ds) rest small w =
    let first : is_digit d ≡ true = prefix_len_passes is_digit (d ∷ ds) 0 0 (let whole = w.digits in omega arith) in
    let all = d ∷ ds ++ 32 ∷ rest in (
      no_space_where is_digit d first refl refl refl refl,
      no_comment_where is_digit d (ds ++ 32 ∷ rest) first refl,
      ap (λ (c : Bool). cond {A = Answer} c (name_at all) (cond (is_digit d) (number_at all) (symbol_at all))) (digit_is_no_letter d first)
          ∙ ap (λ (c : Bool). cond {A = Answer} c (number_at all) (symbol_at all)) first ∙ number_at_front n (d ∷ ds) rest small w,
    )

number_read : (n : ℕ) (rest : List ℕ) → n < 2 ^ 32 → IsRead (Number n) (before_bytes (Number n) rest)
number_read n rest small =
    let r = digits_read n (decimal n) rest small (decimal_by_steps Writes writes_digit writes_more n (omega arith)) in
    (r.0, r.1, r.2, refl)

-- ---- tokens

is_read : (t : TokenKind) (rest : List ℕ) → IsKind t → IsRead t (before_bytes t rest)
is_read (Word w) rest k = word_read w rest
is_read (Name n) rest k = name_read n rest k
is_read (Number n) rest k = number_read n rest k
is_read (Symbol s) rest k = symbol_read s rest

spells : (at line : ℕ) (ts : List TokenKind) → AllByRecursion IsKind ts → (us : List Token) × Spells at line (text_of ts) us × (kinds us ≡ ts)
spells at line [] all = ([], at_end at line, refl)
spells at line (t ∷ ts) all =
    let n = length (token_text t) in
    let r = is_read t (text_of ts) all.0 in
    let others = spells (at + n + 1) (next_line line (after t)) ts all.1 in (
      token_from at line t n ∷ others.0,
      token at line n (before_bytes t (text_of ts)) t others.0 r.0 r.1 r.2
          (subst (λ (bs : List ℕ). Spells (at + n) line bs others.0) (sym (drop-append_seam (token_text t) (after t ∷ text_of ts))) (after_space (at + n) line (after t) (text_of ts) others.0 r.3 others.1)),
      ap (λ (us : List TokenKind). t ∷ us) others.2,
    )

pub text_is_read_back : TextIsReadBack
text_is_read_back ts all = spells 0 1 ts all
