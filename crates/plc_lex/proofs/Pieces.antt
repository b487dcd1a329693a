-- What the token at the front of bytes is, and how long.
use Rattle.std.proofs.Common.{◌≡◌, ℕ, suc, ◌+◌, ◌<◌, ◌≤◌, ◌^◌, Bool, true, false, cond, ◌&&◌, nat_lt, nat_eq, ◌==◌}
use Rattle.std.proofs.Common.{List, [], ◌∷◌, length, take, Option, Some, None, Result, Ok, Err, option_map, find, refl}
use Rattle.std.proofs.Common.{sym, ap, ◌∙◌, subst, arith, ltb-true, ltb-false, eqb-true, length-take}
use Rattle.std.specs.List.{prefix_len, starts_with, list_all}
use Rattle.std.specs.Cmp.Lexicographic.{pointwise}
use Rattle.std.proofs.lemmas.Bool.{and_parts}
use Rattle.std.proofs.lemmas.Slice.Eq.{bytes_eq-Decides}
use Rattle.std.proofs.lemmas.List.Folds.{length-prefix_len}
use Rattle.std.proofs.lemmas.List.Sums.{prefix_len-le-length, sum_by-cons}
use Rattle.plc_lex.specs.declared.token.Keyword.{Keyword}
use Rattle.plc_lex.specs.declared.token.Symbol.{Symbol as SymbolName}
use Rattle.plc_lex.specs.declared.token.TokenKind.{TokenKind}
use Rattle.plc_lex.specs.declared.token.TokenKind.TheVariants.{Number, Symbol}
use Rattle.plc_lex.specs.Characters.{is_letter, is_digit, in_name, keyword_of, symbols_longest_first, symbol_in}
use Rattle.plc_lex.specs.Characters.{symbol_of}
use Rattle.plc_lex.specs.Spelling.{Refusal, long_name, bad_number, word_of, name_or_word, is_plain, value, name_at}
use Rattle.plc_lex.specs.Spelling.{number_at, symbol_or_none, symbol_at, token_at}
use Rattle.plc_lex.specs.Stops.{IsName, IsKind, line_feeds}

-- a token of so many bytes at the front, none of them a line feed
pub record IsPiece (bytes : List ℕ) (kind : TokenKind) (n : ℕ) : Type 0 where
  pub kind_is : IsKind kind
  pub not_empty : 0 < n
  pub within : n ≤ length bytes
  pub one_line : line_feeds (take n bytes) ≡ 0

module _ (p : ℕ → Bool) where
  kept : (x : ℕ) (xs : List ℕ) (n : ℕ) (b : Bool) → p x ≡ b → prefix_len p (take n xs) ≡ n → prefix_len p (take (cond b (1 + n) 0) (x ∷ xs)) ≡ cond b (1 + n) 0
  kept x xs n true e h = let s : 1 + n ≡ suc n = omega arith in rw (s, e, h) s
  kept x xs n false e h = refl

  -- the bytes that pass at the front all pass
  prefix_of_front : (xs : List ℕ) → prefix_len p (take (prefix_len p xs) xs) ≡ prefix_len p xs
  prefix_of_front [] = refl
  prefix_of_front (x ∷ xs) = kept x xs (prefix_len p xs) (p x) refl (prefix_of_front xs)

  first_passes : (x : ℕ) (xs : List ℕ) → p x ≡ true → prefix_len p (x ∷ xs) ≡ suc (prefix_len p xs)
  first_passes x xs e = rw e (omega arith)

no_feed : (x : ℕ) (t : Bool) → (x == 10) ≡ t → (x ≡ 10 → ⊥) → cond {A = ℕ} t 1 0 ≡ 0
no_feed x true e other = absurd (other (eqb-true x 10 e))
no_feed x false e other = refl

pub feeds_cons : (x : ℕ) (xs : List ℕ) → line_feeds (x ∷ xs) ≡ cond (x == 10) 1 0 + line_feeds xs
feeds_cons x xs = sum_by-cons (λ b. cond (b == 10) 1 0) x xs

module _ (p : ℕ → Bool) (stops : p 10 ≡ false) where
  kept_free : (x : ℕ) (xs : List ℕ) (n : ℕ) (b : Bool) → p x ≡ b → line_feeds (take n xs) ≡ 0 → line_feeds (take (cond b (1 + n) 0) (x ∷ xs)) ≡ 0
  kept_free x xs n true e h =
      let s : 1 + n ≡ suc n = omega arith in
      let other : cond {A = ℕ} (x == 10) 1 0 ≡ 0 = no_feed x (x == 10) refl (λ ten. let f : p 10 ≡ true = subst (λ y. p y ≡ true) ten e in absurd cc) in
      rw s (feeds_cons x (take n xs) ∙ omega arith)
  kept_free x xs n false e h = refl

  -- the bytes that pass at the front have no line feed
  pub front_free : (xs : List ℕ) → line_feeds (take (prefix_len p xs) xs) ≡ 0
  front_free [] = refl
  front_free (x ∷ xs) = kept_free x xs (prefix_len p xs) (p x) refl (front_free xs)

in_name_from_letter : (b : ℕ) → is_letter b ≡ true → in_name b ≡ true
in_name_from_letter b e = rw e refl

name_parts : (b : ℕ) (bs : List ℕ) (n : ℕ) → is_letter b ≡ true → prefix_len in_name (b ∷ bs) ≡ n → n ≤ 64 → keyword_of (take n (b ∷ bs)) ≡ None → IsName (take n (b ∷ bs))
name_parts b bs n letter is small none = record {
  first = let m : n ≡ suc (prefix_len in_name bs) = sym is ∙ first_passes in_name b bs (in_name_from_letter b letter) in rw m letter;
  whole = subst (λ k. prefix_len in_name (take k (b ∷ bs)) ≡ length (take k (b ∷ bs))) is (prefix_of_front in_name (b ∷ bs) ∙ sym (length-prefix_len in_name (b ∷ bs)));
  length_bound = let l : length (take n (b ∷ bs)) ≡ n = subst (λ k. length (take k (b ∷ bs)) ≡ k) is (length-prefix_len in_name (b ∷ bs)) in omega arith;
  no_keyword = none;
}

word_kind : (run : List ℕ) (word : Option Keyword) → keyword_of run ≡ word → (keyword_of run ≡ None → IsName run) → IsKind (word_of run word)
word_kind run None e name = name e
word_kind run (Some word) e name = tt

-- what a reader of the front answers
abbrev Answer : Type 0
Answer = Result (TokenKind × ℕ) Refusal

abbrev token_or : Answer → TokenKind × ℕ → TokenKind × ℕ
token_or (Ok t) d = t
token_or (Err why) d = d

-- two answers that are one have one token and one length
answered : (a b : TokenKind × ℕ) → ◌≡◌ {A = Answer} (Ok a) (Ok b) → (a.0 ≡ b.0) × (a.1 ≡ b.1)
answered a b h = let e : a ≡ b = ap (λ r. token_or r a) h in (ap (λ (p : TokenKind × ℕ). p.0) e, ap (λ (p : TokenKind × ℕ). p.1) e)

abbrev length_or : Option (SymbolName × ℕ) → ℕ → ℕ
length_or (Some s) d = s.1
length_or None d = d

read_name : (long : Bool) (m : ℕ) (found kind : TokenKind) (n : ℕ) → nat_lt 64 m ≡ long → cond {A = Answer} long (Err long_name) (Ok (found, m)) ≡ Ok (kind, n) → (m ≤ 64) × (found ≡ kind) × (m ≡ n)
read_name true m found kind n e h = absurd cc
read_name false m found kind n e h = (ltb-false _ _ e, (answered _ _ h).0, (answered _ _ h).1)

name_is : (b : ℕ) (bs : List ℕ) (kind : TokenKind) (n : ℕ) → is_letter b ≡ true → name_at (b ∷ bs) ≡ Ok (kind, n) → IsPiece (b ∷ bs) kind n
unfolding name_at
name_is b bs kind n letter h =
    let m = prefix_len in_name (b ∷ bs) in
    let run = take m (b ∷ bs) in
    let parts = read_name (nat_lt 64 m) m (name_or_word run) kind n refl h in
    record {
      kind_is = subst IsKind parts.1 (word_kind run (keyword_of run) refl (λ none. name_parts b bs m letter refl parts.0 none));
      not_empty = let s = first_passes in_name b bs (in_name_from_letter b letter) in omega (arith, parts.2);
      within = omega (arith, parts.2, prefix_len-le-length in_name (b ∷ bs));
      one_line = subst (λ k. line_feeds (take k (b ∷ bs)) ≡ 0) parts.2 (front_free in_name refl (b ∷ bs));
    }

read_number : (plain small : Bool) (m v : ℕ) (kind : TokenKind) (n : ℕ) → nat_lt v (2 ^ 32) ≡ small → cond {A = Answer} (plain && small) (Ok (Number v, m)) (Err bad_number) ≡ Ok (kind, n) → (v < 2 ^ 32) × (Number v ≡ kind) × (m ≡ n)
read_number false small m v kind n e h = absurd cc
read_number true false m v kind n e h = absurd cc
read_number true true m v kind n e h = (ltb-true _ _ e, (answered _ _ h).0, (answered _ _ h).1)

number_is : (b : ℕ) (bs : List ℕ) (kind : TokenKind) (n : ℕ) → is_digit b ≡ true → number_at (b ∷ bs) ≡ Ok (kind, n) → IsPiece (b ∷ bs) kind n
unfolding number_at
number_is b bs kind n digit h =
    let m = prefix_len is_digit (b ∷ bs) in
    let v = value (take m (b ∷ bs)) in
    let parts = read_number (is_plain (take m (b ∷ bs))) (nat_lt v (2 ^ 32)) m v kind n refl h in
    record {
      kind_is = subst IsKind parts.1 parts.0;
      not_empty = let s = first_passes is_digit b bs digit in omega (arith, parts.2);
      within = omega (arith, parts.2, prefix_len-le-length is_digit (b ∷ bs));
      one_line = subst (λ k. line_feeds (take k (b ∷ bs)) ≡ 0) parts.2 (front_free is_digit refl (b ∷ bs));
    }

same_length : (xs ys : List ℕ) → pointwise nat_eq xs ys ≡ true → length xs ≡ length ys
same_length [] [] e = refl
same_length [] (y ∷ ys) e = absurd cc
same_length (x ∷ xs) [] e = absurd cc
same_length (x ∷ xs) (y ∷ ys) e = ap suc (same_length xs ys (and_parts _ _ e).1)

within_text : (bytes text : List ℕ) → starts_with nat_eq bytes text ≡ true → length text ≤ length bytes
within_text bytes text e = omega (arith, same_length text (take (length text) bytes) e, length-take (length text) bytes)

-- each text of a table has bytes, and none of them is a line feed
abbrev is_text : List ℕ → Bool
is_text text = nat_lt 0 (length text) && (line_feeds text == 0)

abbrev are_texts : List (List ℕ × SymbolName) → Bool
are_texts table = list_all (λ (s : List ℕ × SymbolName). is_text s.0) table

-- so many bytes at the front are of a text
record IsAtFront (bytes : List ℕ) (n : ℕ) : Type 0 where
  not_empty : 0 < n
  within : n ≤ length bytes
  one_line : line_feeds (take n bytes) ≡ 0

text_at_front : (bytes text : List ℕ) (n : ℕ) → is_text text ≡ true → starts_with nat_eq bytes text ≡ true → length text ≡ n → IsAtFront bytes n
text_at_front bytes text n good starts is =
    let parts = and_parts (nat_lt 0 (length text)) (line_feeds text == 0) good in
    let same : text ≡ take (length text) bytes = (bytes_eq-Decides text (take (length text) bytes)).0 starts in
    record {
      not_empty = omega (arith, ltb-true 0 (length text) parts.0);
      within = omega (arith, within_text bytes text starts);
      one_line = subst (λ k. line_feeds (take k bytes) ≡ 0) is (subst (λ t. line_feeds t ≡ 0) same (eqb-true (line_feeds text) 0 parts.1));
    }

found_symbol : (table : List (List ℕ × SymbolName)) (bytes : List ℕ) (found : SymbolName × ℕ) → are_texts table ≡ true → symbol_in table bytes ≡ Some found → IsAtFront bytes found.1
found_symbol [] bytes found good e = absurd cc
found_symbol (s ∷ more) bytes found good e =
    let parts = and_parts (is_text s.0) (are_texts more) good in
    elim (starts_with nat_eq bytes s.0) as (λ t. starts_with nat_eq bytes s.0 ≡ t → option_map (λ (k : List ℕ × SymbolName). (k.1, length k.0)) (cond t (Some s) (find (λ (k : List ℕ × SymbolName). starts_with nat_eq bytes k.0) more)) ≡ Some found → IsAtFront bytes found.1) [
      | true ↦ λ t h. text_at_front bytes s.0 found.1 parts.0 t (ap (λ r. length_or r (length s.0)) h)
      | false ↦ λ t h. found_symbol more bytes found parts.1 h
    ] refl e

read_symbol : (symbol : Option (SymbolName × ℕ)) (bytes : List ℕ) (kind : TokenKind) (n : ℕ) → ((found : SymbolName × ℕ) → symbol ≡ Some found → IsAtFront bytes found.1) → symbol_or_none symbol ≡ Ok (kind, n) → IsPiece bytes kind n
read_symbol None bytes kind n front h = absurd cc
read_symbol (Some s) bytes kind n front h =
    let parts = answered (Symbol s.0, s.1) (kind, n) h in
    let there = subst (IsAtFront bytes) parts.1 (front s refl) in
    record { kind_is = subst IsKind parts.0 tt; not_empty = there.not_empty; within = there.within; one_line = there.one_line }

symbol_is : (bytes : List ℕ) (kind : TokenKind) (n : ℕ) → symbol_at bytes ≡ Ok (kind, n) → IsPiece bytes kind n
unfolding symbol_at symbol_of symbols_longest_first
symbol_is bytes kind n h = read_symbol (symbol_of bytes) bytes kind n (λ found e. found_symbol symbols_longest_first bytes found refl e) h

-- what is read at the front is a token within the bytes
pub piece_is : (bytes : List ℕ) (kind : TokenKind) (n : ℕ) → token_at bytes ≡ Ok (kind, n) → IsPiece bytes kind n
piece_is [] kind n h = absurd cc
piece_is (b ∷ bs) kind n h = by_class (is_letter b) (is_digit b) refl refl h
  where
    by_class : (letter digit : Bool) → is_letter b ≡ letter → is_digit b ≡ digit → cond {A = Answer} letter (name_at (b ∷ bs)) (cond digit (number_at (b ∷ bs)) (symbol_at (b ∷ bs))) ≡ Ok (kind, n) → IsPiece (b ∷ bs) kind n
    by_class true digit l d h = name_is b bs kind n l h
    by_class false true l d h = number_is b bs kind n d h
    by_class false false l d h = symbol_is (b ∷ bs) kind n h
