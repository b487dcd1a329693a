-- Decimal numbers as words: what is read is what would be written.
use Rattle.std.proofs.Common.{◌≡◌, ◌≢◌, ℕ, zero, suc, ◌<◌, ◌^◌, ◌==◌, Bool, true, false, List, [], ◌∷◌, length, get_or, Result, Ok, refl, sym, ◌∙◌, subst, arith, eqb-true}
use Rattle.std.specs.Fmt.{decimal}
use Rattle.std.specs.Str.Parse.{IsNumeral, AllDigits, digits_value, without_leading_plus, ParsesUnsigned}
use Rattle.std.specs.Str.{IsUtf8}
use Rattle.std.proofs.lemmas.Bool.{false≢true}
use Rattle.std.proofs.lemmas.Str.{IsUtf8-from_ascii}
use Rattle.std.proofs.lemmas.Fmt.{decimal_digit, first_decimal, decimal-digits_value, IsAscii-decimal, parse-decimal}
use Rattle.std.proofs.lemmas.Str.Parse.{numerals_by_value, tells_digits, without_leading_plus_none}
use Rattle.plc_sched.specs.NumberWords.{is_plain}

other : (c k : ℕ) (same : Bool) → (c == k) ≡ same → k < c → same ≡ false
other c k true e h = absurd (omega (arith, eqb-true c k e))
other c k false e h = refl

-- a byte above another is not that byte
pub is_above : (c k : ℕ) → k < c → (c == k) ≡ false
is_above c k h = other c k (c == k) refl h

plain_first : (ds : List ℕ) → 48 < get_or ds 0 0 → is_plain ds ≡ true
plain_first [] h = absurd (omega arith)
plain_first (b ∷ []) h = let e = is_above b 43 (omega arith) in rw e refl
plain_first (b ∷ c ∷ bs) h = let zero_apart = is_above b 48 h in let plus_apart = is_above b 43 (omega arith) in rw (zero_apart, plus_apart) refl

plain_decimal : (n : ℕ) → n < 2 ^ 64 → is_plain (decimal n) ≡ true
plain_decimal zero h = rw (decimal_digit 0 (omega arith)) refl
plain_decimal (suc n) h = plain_first (decimal (suc n)) (first_decimal (suc n) (omega arith) h)

no_plus : (bs : List ℕ) → is_plain bs ≡ true → get_or bs 0 0 ≢ 43
no_plus [] e = λ h. absurd (omega arith)
no_plus (b ∷ []) e = λ h. let f : is_plain (43 ∷ []) ≡ true = subst (λ x. is_plain (x ∷ []) ≡ true) h e in absurd cc
no_plus (b ∷ c ∷ bs) e = λ h. let f : is_plain (43 ∷ c ∷ bs) ≡ true = subst (λ x. is_plain (x ∷ c ∷ bs) ≡ true) h e in absurd cc

no_zero : (bs : List ℕ) → is_plain bs ≡ true → 0 < length bs → get_or bs 0 0 ≡ 48 → length bs ≡ 1
no_zero [] e some z = absurd (omega arith)
no_zero (b ∷ []) e some z = refl
no_zero (b ∷ c ∷ bs) e some z = let f : is_plain (48 ∷ c ∷ bs) ≡ true = subst (λ x. is_plain (x ∷ c ∷ bs) ≡ true) z e in absurd cc

-- a text is the numeral of a number
abbrev pub IsNumeralOf : List ℕ → ℕ → Type 0
IsNumeralOf text n = (IsNumeral 10 text × (digits_value 10 text < 2 ^ 32)) × (n ≡ digits_value 10 text)

-- a plain word that is parsed is what would be written of its number
pub parsed_is_decimal : (bs : List ℕ) (n : ℕ) → is_plain bs ≡ true → IsNumeralOf (without_leading_plus bs) n → decimal n ≡ bs
parsed_is_decimal bs n plain parsed =
    let p : IsNumeralOf bs n = subst (λ t. IsNumeralOf t n) (without_leading_plus_none bs (no_plus bs plain)) parsed in
    let d : decimal (digits_value 10 bs) ≡ bs = decimal-digits_value (numerals_by_value (AllDigits 10) tells_digits) bs p.0.0.1 p.0.0.0 (no_zero bs plain p.0.0.0) (omega (arith, p.0.1)) in
    subst (λ k. decimal k ≡ bs) (sym p.1) d

-- a word that is not plain is no number
pub not_plain : (n : ℕ) (word : List ℕ) → n < 2 ^ 64 → is_plain word ≡ false → decimal n ≡ word → ⊥
not_plain n word h other e = false≢true (sym other ∙ subst (λ w. is_plain w ≡ true) e (plain_decimal n h))

-- the word of a number is text
pub is_text : (n : ℕ) (word : List ℕ) → n < 2 ^ 64 → decimal n ≡ word → IsUtf8 word
is_text n word h e = subst IsUtf8 e (IsUtf8-from_ascii (decimal n) (IsAscii-decimal n h))

-- the word of a number is parsed to it
pub parsed_to : (E : Type 0) (n : ℕ) (word : List ℕ) (read : Result ℕ E) → n < 2 ^ 32 → decimal n ≡ word → ParsesUnsigned 32 10 word read → read ≡ Ok n
parsed_to E n word read h e parsed = parse-decimal 32 n word read h (omega arith) (sym e) parsed
