-- No sample is longer than a file may be.
use Rattle.std.proofs.Common.{◌≡◌, ◌≤◌, ◌*◌, ◌==◌, ℕ, suc, zero, Bool, true, false, List, [], ◌∷◌, ◌++◌, length, refl}
use Rattle.std.proofs.Common.{sym, subst, arith}
use Rattle.std.proofs.lemmas.List.{length-append}
use Rattle.std.proofs.lemmas.Fmt.{length-decimal-le_succ}
use Rattle.plc_base.specs.FileSizes.{largest_file}
use Rattle.plc_base.specs.Bounds.{most_copies}
use Rattle.plc_lex.specs.Spelling.{next_line}
use Rattle.plc_sample.specs.Sample.{declarations, operations, invariants, clauses, ending, numbered_byte, numbered}
use Rattle.plc_sample.specs.Sample.{copies, whole_text, kept_byte, without_from}

-- ---- a copy

byte_short : (number byte : ℕ) → number ≤ most_copies → length (numbered_byte number byte) ≤ 17
byte_short number byte few = go (byte == 35) refl
  where
    go : (b : Bool) → (byte == 35) ≡ b → length (numbered_byte number byte) ≤ 17
    go true e = rw e (let long = length-decimal-le_succ number (omega (arith, few)) in omega (arith, long, few))
    go false e = rw e (omega arith)

numbered_short : (number : ℕ) (part : List ℕ) → number ≤ most_copies → length (numbered number part) ≤ 17 * length part
numbered_short number [] few = omega arith
numbered_short number (byte ∷ more) few =
    omega (arith, length-append (numbered_byte number byte) (numbered number more), byte_short number byte few, numbered_short number more few)

copies_short : (k : ℕ) (part : List ℕ) → k ≤ most_copies → length part ≤ 1000 → length (copies k part) ≤ k * 17000
copies_short zero part few short = omega arith
copies_short (suc k) part few short =
    omega (arith, length-append (copies k part) (numbered (suc k) part), copies_short k part (omega (arith, few)) short, numbered_short (suc k) part few, short)

-- ---- the parts

parts_short : (length declarations ≤ 1000) × (length operations ≤ 1000) × (length invariants ≤ 1000)
    × (length clauses ≤ 1000) × (length ending ≤ 1000)
unfolding declarations operations invariants clauses ending
parts_short = (omega arith, omega arith, omega arith, omega arith, omega arith)

copies_bounded : (k : ℕ) (part : List ℕ) → k ≤ most_copies → length part ≤ 1000 → length (copies k part) ≤ 272000
copies_bounded k part few short = omega (arith, copies_short k part few short, few)

together : (a b c d e : List ℕ) → length a ≤ 1000 → length b ≤ 272000 → length c ≤ 1000 → length d ≤ 272000 → length e ≤ 1000 → length (a ++ b ++ c ++ d ++ e) ≤ largest_file
together a b c d e la lb lc ld le =
    omega (arith, length-append (a ++ b ++ c ++ d) e, length-append (a ++ b ++ c) d, length-append (a ++ b) c, length-append a b, la, lb, lc, ld, le)

whole_short : (k : ℕ) → k ≤ most_copies → length (whole_text k) ≤ largest_file
whole_short k few =
    together declarations (copies k operations) invariants (copies k clauses) ending
    parts_short.0 (copies_bounded k operations few parts_short.1) parts_short.2 (copies_bounded k clauses few parts_short.3) parts_short.4

-- ---- a line left out

kept_short : (without line byte : ℕ) → length (kept_byte without line byte) ≤ 1
kept_short without line byte = go (line == without) refl
  where
    go : (b : Bool) → (line == without) ≡ b → length (kept_byte without line byte) ≤ 1
    go true e = rw e (omega arith)
    go false e = rw e (omega arith)

without_short : (without line : ℕ) (text : List ℕ) → length (without_from without line text) ≤ length text
without_short without line [] = omega arith
without_short without line (byte ∷ more) =
    omega (arith, length-append (kept_byte without line byte) (without_from without (next_line line byte) more), kept_short without line byte, without_short without (next_line line byte) more)

pub kept_is_short : (k n : ℕ) (whole kept : List ℕ) → k ≤ most_copies → whole ≡ whole_text k → kept ≡ without_from n 1 whole → length kept ≤ largest_file
kept_is_short k n whole kept few whole_is kept_is =
    let short : length whole ≤ largest_file = subst (λ (t : List ℕ). length t ≤ largest_file) (sym whole_is) (whole_short k few) in
    subst (λ (t : List ℕ). length t ≤ largest_file) (sym kept_is) (bounded n whole short)
  where
    bounded : (without : ℕ) (text : List ℕ) → length text ≤ largest_file → length (without_from without 1 text) ≤ largest_file
    bounded without text short = omega (arith, without_short without 1 text, short)
