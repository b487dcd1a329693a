-- The number that a word spells is the one that is found among those in its range.
use Rattle.std.proofs.Common.{◌≡◌, ℕ, zero, suc, ◌+◌, ◌-◌, ◌≤◌, ◌<◌, ◌^◌, Bool, true, false, List, Option, Some, None, refl, sym, subst, ◌∙◌, arith}
use Rattle.std.specs.Prelude.{if◌then◌else◌, decimal}
use Rattle.std.specs.Str.{bytes_eq}
use Rattle.std.proofs.lemmas.Bool.{false≢true}
use Rattle.std.proofs.lemmas.Slice.Eq.{bytes_eq-Decides}
use Rattle.std.proofs.lemmas.Fmt.{decimal_injective}
use Rattle.plc_sched.specs.Numbers.{IsNumberOf}
use Rattle.plc_cli.specs.Requests.{number_among, number_in}

there_or_later : (least n : ℕ) (word : List ℕ) (rest : Option ℕ) → least ≤ n → least < 2 ^ 64 → n < 2 ^ 64 → decimal n ≡ word → (least < n → rest ≡ Some n) → (if bytes_eq (decimal least) word then Some least else rest) ≡ Some n
there_or_later least n word rest low small fits e later = go (bytes_eq (decimal least) word) refl
  where
    go : (b : Bool) → bytes_eq (decimal least) word ≡ b → (if bytes_eq (decimal least) word then Some least else rest) ≡ Some n
    go true is =
        let spelled : decimal least ≡ word = (bytes_eq-Decides (decimal least) word).0 is in
        let same : least ≡ n = decimal_injective least n small fits (spelled ∙ sym e) in
        rw (is, same) refl
    go false is =
        let other : least ≡ n → ⊥ = λ same. false≢true (sym is ∙ (bytes_eq-Decides (decimal least) word).1 (subst (λ (m : ℕ). decimal m ≡ word) (sym same) e)) in
        let above : least < n = omega (arith, low, other) in
        rw is (later above)

there : (count least n : ℕ) (word : List ℕ) → least ≤ n → n < least + count → least + count ≤ 2 ^ 64 → decimal n ≡ word → number_among least count word ≡ Some n
there zero least n word low high small e = absurd (omega (arith, low, high))
there (suc count) least n word low high small e =
    there_or_later least n word (number_among (least + 1) count word) low (omega (arith, small)) (omega (arith, high, small)) e
    (λ above. there count (least + 1) n word (omega (arith, above)) (omega (arith, high)) (omega (arith, small)) e)

neither : (least : ℕ) (word : List ℕ) (rest : Option ℕ) → (decimal least ≡ word → ⊥) → rest ≡ None → (if bytes_eq (decimal least) word then Some least else rest) ≡ None
neither least word rest other none = go (bytes_eq (decimal least) word) refl
  where
    go : (b : Bool) → bytes_eq (decimal least) word ≡ b → (if bytes_eq (decimal least) word then Some least else rest) ≡ None
    go true is = absurd (other ((bytes_eq-Decides (decimal least) word).0 is))
    go false is = rw is none

absent : (count least : ℕ) (word : List ℕ) → ((n : ℕ) → least ≤ n → n < least + count → decimal n ≡ word → ⊥) → number_among least count word ≡ None
absent zero least word none = refl
absent (suc count) least word none =
    neither least word (number_among (least + 1) count word) (none least (omega arith) (omega arith))
    (absent count (least + 1) word (λ n low high e. none n (omega (arith, low)) (omega (arith, high)) e))

pub number_found : (word : List ℕ) (least most : ℕ) (r : Option ℕ) → least ≤ most → most < 2 ^ 32 → IsNumberOf word least most r → r ≡ number_in least most word
unfolding number_in
number_found word least most None some small none = sym (absent (most - least + 1) least word (λ n low high e. none n low (omega (arith, some, high)) e))
number_found word least most (Some n) some small is =
    sym (there (most - least + 1) least n word is.0 (omega (arith, some, is.1)) (omega (arith, some, small)) is.2)
