-- A text without digits that stands in a text with a number in it stands before the number or behind it.
use native.Mathlib.Omega.{arith}
use Rattle.std.proofs.Common.{◌≡◌, ◌++◌, ◌/◌, ◌%◌, ◌==◌, ◌&&◌, not, ℕ, zero, suc, Bool, true, false, List, [], ◌∷◌}
use Rattle.std.proofs.Common.{refl, ap, ◌∙◌, append_assoc}
use Rattle.std.specs.Prelude.{if◌then◌else◌, decimal}
use Rattle.std.specs.Char.{eq_ignore_ascii_case, is_ascii_digit}
use Rattle.std.specs.Fmt.{digit_glyph, digits, digits_onto}
use Rattle.std.specs.List.{list_any, list_all, starts_with}
use Rattle.std.proofs.lemmas.Bool.{and_left, and_parts, or_from, or_parts}
use Rattle.plc_html.specs.Laws.{holds, holds_one}
use Rattle.plc_html.specs.Tags.{between}

-- a text that has a byte, and no digit
abbrev pub is_digit_free : List ℕ → Bool
is_digit_free [] = false
is_digit_free (byte ∷ bytes) = not (list_any is_ascii_digit (byte ∷ bytes))

has_no_digit : (byte : ℕ) (bytes : List ℕ) → is_digit_free (byte ∷ bytes) ≡ true
    → list_any is_ascii_digit (byte ∷ bytes) ≡ false
has_no_digit byte bytes free = go (list_any is_ascii_digit (byte ∷ bytes)) free
  where
    go : (b : Bool) → not b ≡ true → b ≡ false
    go true e = absurd cc
    go false e = refl

differs : (byte digit : ℕ) → is_ascii_digit byte ≡ false → is_ascii_digit digit ≡ true
    → eq_ignore_ascii_case byte digit ≡ false
differs byte digit other is = grind arith

glyph_is_digit : (n : ℕ) → is_ascii_digit (digit_glyph false (n % 10)) ≡ true
glyph_is_digit n = grind arith

-- whether such a text begins another is told before the first digit
begins : (text front back : List ℕ) (digit : ℕ) → list_any is_ascii_digit text ≡ false
    → is_ascii_digit digit ≡ true
    → starts_with eq_ignore_ascii_case (front ++ digit ∷ back) text ≡ starts_with eq_ignore_ascii_case front text
begins [] front back digit plain is = refl
begins (byte ∷ bytes) [] back digit plain is = and_left _ _ (differs byte digit (or_parts _ _ plain).0 is)
begins (byte ∷ bytes) (first ∷ front) back digit plain is =
    ap (λ rest. eq_ignore_ascii_case byte first && rest) (begins bytes front back digit (or_parts _ _ plain).1 is)

beside_digit : (text front back : List ℕ) (digit : ℕ) → is_digit_free text ≡ true → is_ascii_digit digit ≡ true
    → holds text front ≡ false → holds text back ≡ false → holds text (front ++ digit ∷ back) ≡ false
beside_digit [] front back digit free is before behind = absurd cc
beside_digit (byte ∷ bytes) [] back digit free is before behind =
    or_from _ _ (begins (byte ∷ bytes) [] back digit (has_no_digit byte bytes free) is) behind
beside_digit (byte ∷ bytes) (first ∷ front) back digit free is before behind =
    or_from _ _
    (begins (byte ∷ bytes) (first ∷ front) back digit (has_no_digit byte bytes free) is ∙ (or_parts _ _ before).0)
    (beside_digit (byte ∷ bytes) front back digit free is (or_parts _ _ before).1 behind)

module _ (text front back : List ℕ) (free : is_digit_free text ≡ true) (before : holds text front ≡ false) where
  -- beside a digit that is the first of all, or more of which this is known
  beside_first : (last : Bool) (n : ℕ) (others more : List ℕ) → holds text (others ++ back) ≡ false
      → holds text (front ++ (more ++ back)) ≡ false
      → holds text (front ++ ((if last then digit_glyph false (n % 10) ∷ others else more) ++ back)) ≡ false
  beside_first true n others more behind known =
      beside_digit text front (others ++ back) _ free (glyph_is_digit n) before behind
  beside_first false n others more behind known = known

  -- beside the digits of a number that stand before others
  beside_digits : (k n : ℕ) (others : List ℕ) → holds text (others ++ back) ≡ false
      → holds text (front ++ (digits_onto (suc k) 10 false n others ++ back)) ≡ false
  beside_digits zero n others behind =
      beside_first (n / 10 == 0) n others _ behind
      (beside_digit text front (others ++ back) _ free (glyph_is_digit n) before behind)
  beside_digits (suc k) n others behind =
      beside_first (n / 10 == 0) n others _ behind
      (beside_digits k (n / 10) (digit_glyph false (n % 10) ∷ others)
      (beside_digit text [] (others ++ back) _ free (glyph_is_digit n) refl behind))

  beside_number : (n : ℕ) → holds text back ≡ false → holds text (front ++ decimal n ++ back) ≡ false
  unfolding digits
  beside_number n behind = rw (append_assoc front (decimal n) back) (beside_digits 63 n [] behind)

-- the same of many texts
all_beside_number : (texts : List (List ℕ)) (front back : List ℕ) (n : ℕ) → list_all is_digit_free texts ≡ true
    → holds_one texts front ≡ false → holds_one texts back ≡ false
    → holds_one texts (front ++ decimal n ++ back) ≡ false
all_beside_number [] front back n free before behind = refl
all_beside_number (text ∷ texts) front back n free before behind =
    or_from _ _
    (beside_number text front back (and_parts _ _ free).0 (or_parts _ _ before).0 n (or_parts _ _ behind).0)
    (all_beside_number texts front back n (and_parts _ _ free).1 (or_parts _ _ before).1 (or_parts _ _ behind).1)

-- .. and of many numbers
pub all_between : (texts : List (List ℕ)) (parts : List (List ℕ × ℕ)) (last : List ℕ)
    → list_all is_digit_free texts ≡ true → list_any (λ part. holds_one texts part.0) parts ≡ false
    → holds_one texts last ≡ false → holds_one texts (between parts last) ≡ false
all_between texts [] last free before behind = behind
all_between texts (part ∷ parts) last free before behind =
    all_beside_number texts part.0 (between parts last) part.1 free (or_parts _ _ before).0
    (all_between texts parts last free (or_parts _ _ before).1 behind)
