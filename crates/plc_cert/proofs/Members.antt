-- An ascending list of locations is the list of the members of its set.
use Rattle.std.proofs.Common.{◌≡◌, ℕ, zero, suc, ◌+◌, ◌<◌, ◌≤◌, ◌==◌, ◌||◌, List, [], ◌∷◌, filter, Bool, true, false, if◌then◌else◌, inl, inr, refl, sym, ap, ap₂, ◌∙◌, subst, arith, ne_eqb}
use Rattle.std.specs.List.{AllByRecursion}
use Rattle.std.proofs.lemmas.Bool.{cases_eq, eq-eqb, eqb-true}
use Rattle.plc_base.specs.Mask.{no_members, single, union, has}
use Rattle.plc_base.proofs.MaskLemmas.{has-union, has-empty, has-single, union_small, mask-small}
use Rattle.plc_cert.specs.Written.{members}
use Rattle.plc_cert.proofs.Back.{Ascends, from_less}

-- the set of a list
abbrev pub set_of : List ℕ → ℕ
set_of [] = no_members
set_of (l ∷ ls) = union (single l) (set_of ls)

has-cons : (l : ℕ) (ls : List ℕ) (x : ℕ) → has (set_of (l ∷ ls)) x ≡ ((l == x) || has (set_of ls) x)
has-cons l ls x = has-union (single l) (set_of ls) x ∙ ap (λ b. b || has (set_of ls) x) (has-single l x)

-- what lies below the list is no member
below_none : (x : ℕ) (ls : List ℕ) → Ascends (x + 1) ls → has (set_of ls) x ≡ false
below_none x [] h = has-empty x
below_none x (l ∷ ls) h = has-cons l ls x ∙ ap₂ (λ a b. a || b) (ne_eqb l x (λ e. omega (arith, h.0, e))) (below_none x ls (from_less (l + 1) (x + 1) ls (omega (arith, h.0)) h.2))

filter_same : (p q : ℕ → Bool) (xs : List ℕ) → AllByRecursion (λ x. p x ≡ q x) xs → filter p xs ≡ filter q xs
filter_same p q [] h = refl
filter_same p q (x ∷ xs) h = ap₂ (λ b ys. if b then x ∷ ys else ys) h.0 (filter_same p q xs h.1)

-- n numbers from k
abbrev run : ℕ → ℕ → List ℕ
run k zero = []
run k (suc n) = k ∷ run (k + 1) n

run_each : (P : ℕ → Type 0) (k n : ℕ) → ((x : ℕ) → k ≤ x → P x) → AllByRecursion P (run k n)
run_each P k zero h = tt
run_each P k (suc n) h = (h k (omega arith), run_each P (k + 1) n (λ x le. h x (omega arith)))

none_pass : (p : ℕ → Bool) (xs : List ℕ) → ((x : ℕ) → p x ≡ false) → filter p xs ≡ []
none_pass p [] h = refl
none_pass p (x ∷ xs) h = ap (λ b. if b then x ∷ filter p xs else filter p xs) (h x) ∙ none_pass p xs h

or_false : (a b : Bool) → a ≡ false → (a || b) ≡ b
or_false true b h = absurd cc
or_false false b h = refl

or_true : (a b : Bool) → a ≡ true → (a || b) ≡ true
or_true true b h = refl
or_true false b h = absurd cc

first_is : (n k : ℕ) (ls : List ℕ) → filter (has (set_of ls)) (run (k + 1) n) ≡ ls → filter (has (set_of (k ∷ ls))) (run k (suc n)) ≡ k ∷ ls
first_is n k ls rest =
    let p = has (set_of (k ∷ ls)) in
    let later = filter p (run (k + 1) n) in
    let here : p k ≡ true = has-cons k ls k ∙ or_true _ _ (eq-eqb k k refl) in
    ap (λ b. if b then k ∷ later else later) here
    ∙ ap (λ xs. k ∷ xs) (filter_same p (has (set_of ls)) (run (k + 1) n) (run_each (λ x. p x ≡ has (set_of ls) x) (k + 1) n (λ x le. has-cons k ls x ∙ or_false _ _ (ne_eqb k x (λ e. omega arith)))) ∙ rest)

members_are : (n k : ℕ) (ls : List ℕ) → k + n ≡ 8 → Ascends k ls → filter (has (set_of ls)) (run k n) ≡ ls
members_are zero k [] e h = refl
members_are zero k (l ∷ ls) e h = absurd (omega (arith, h.0, h.1, e))
members_are (suc n) k [] e h = none_pass (has no_members) (run k (suc n)) has-empty
members_are (suc n) k (l ∷ ls) e h = elim (cases_eq l k) [
  | inl same ↦ subst (λ y. filter (has (set_of (y ∷ ls))) (run k (suc n)) ≡ y ∷ ls) (sym same) (first_is n k ls (members_are n (k + 1) ls (omega arith) (from_less (l + 1) (k + 1) ls (omega arith) h.2)))
  | inr other ↦
      let later = filter (has (set_of (l ∷ ls))) (run (k + 1) n) in
      let above : k + 1 ≤ l = omega (arith, h.0, other) in
      ap (λ b. if b then k ∷ later else later) (below_none k (l ∷ ls) (above, h.1, h.2)) ∙ members_are n (k + 1) (l ∷ ls) (omega arith) (above, h.1, h.2)
]

pub members-set_of : (ls : List ℕ) → Ascends 0 ls → members (set_of ls) ≡ ls
members-set_of ls h = members_are 8 0 ls refl h

pub set_of-small : (ls : List ℕ) (least : ℕ) → Ascends least ls → set_of ls < 256
set_of-small [] least h = omega arith
set_of-small (l ∷ ls) least h = union_small (single l) (set_of ls) (single_small l h.1) (set_of-small ls (l + 1) h.2)
  where
    single_small : (l : ℕ) → l < 8 → single l < 256
    single_small l h = mask-small (single l) (λ x e. omega (arith, eqb-true l x (sym (has-single l x) ∙ e)))
