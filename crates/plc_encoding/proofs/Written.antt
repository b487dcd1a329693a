-- Clauses that are written one after the other: those of a list's front are written, those of the rest are left.
use Rattle.std.proofs.Common.{◌≡◌, ◌<◌, ◌≤◌, ℕ, ◌+◌, List, [], ◌∷◌, ◌++◌, length, map, flat_map, get_or, drop, ◌∙◌, ap}
use Rattle.std.proofs.Common.{sym, zero-add}
use Rattle.std.proofs.lemmas.List.{at_drop_more, at_drop_all}
use Rattle.std.proofs.lemmas.Grind.{flat_map-append}
use Rattle.std.proofs.lemmas.List.FromFn.{map-range_with_len_more}
use Rattle.std.proofs.lemmas.List.Sums.{fold-append}
use Rattle.plc_logic.specs.declared.clause.Clause.{Clause}
use Rattle.plc_symbolic.specs.declared.symbolic.SymbolicLit.{SymbolicLit}
use Rattle.plc_symbolic.specs.Numbering.{Drafted, written, written_all}
use Rattle.plc_symbolic.specs.Terms.{Clauses}
use Rattle.plc_vocabulary.specs.Setting.{below}

-- two lists of clauses one after the other
pub written-append : (d : Drafted) (a b : Clauses) → written_all d (a ++ b) ≡ written_all (written_all d a) b
written-append d a b = fold-append written d a b

-- clauses for each item
pub written-flat_map : {X : Type 0} (f : X → Clauses) (d : Drafted) (xs : List X) (i : ℕ) (x : X) → i < length xs
    → written_all d (flat_map f (drop i xs))
    ≡ written_all (written_all d (f (get_or xs i x))) (flat_map f (drop (i + 1) xs))
written-flat_map f d xs i x h =
    at_drop_more (λ ys. written_all d (flat_map f ys)) xs i x h
    ∙ written-append d (f (get_or xs i x)) (flat_map f (drop (i + 1) xs))

pub written-flat_map_end : {X : Type 0} (f : X → Clauses) (d : Drafted) (xs : List X) (i : ℕ) → length xs ≤ i
    → written_all d (flat_map f (drop i xs)) ≡ d
written-flat_map_end f d xs i h = at_drop_all (λ ys. written_all d (flat_map f ys)) xs i h

-- a clause for each number
written-below : (f : ℕ → List SymbolicLit) (d : Drafted) (n : ℕ)
    → written_all d (map f (below (n + 1))) ≡ written (written_all d (map f (below n))) (f n)
written-below f d n =
    ap (written_all d) (map-range_with_len_more f 0 n n (zero-add n)) ∙ written-append d (map f (below n)) (f n ∷ [])

-- the clause of the next number is written
pub one-more-below : (f : ℕ → List SymbolicLit) (start old new : Drafted) (n : ℕ)
    → new ≡ written old (f n) → old ≡ written_all start (map f (below n))
    → new ≡ written_all start (map f (below (n + 1)))
one-more-below f start old new n e h = e ∙ ap (λ d. written d (f n)) h ∙ sym (written-below f start n)

-- ---- the items of a set, one after the other

-- the premises: those of clauses at two places, read for the acting thread, then those read for the owner
pub written-premises : (f g : Clause → Clauses) (d d₁ d₂ : Drafted) (a b ab c c₁ : List Clause)
    → ab ≡ a ++ b → c ≡ c₁ → d₁ ≡ written_all d (flat_map f a) → d₂ ≡ written_all d₁ (flat_map f b)
    → written_all d₂ (flat_map g c₁) ≡ written_all d (flat_map f ab ++ flat_map g c)
written-premises f g d d₁ d₂ a b ab c c₁ e k h₁ h₂ =
    ap (λ cs. written_all d₂ (flat_map g cs)) (sym k)
    ∙ ap (λ x. written_all x (flat_map g c))
    (h₂ ∙ ap (λ x. written_all x (flat_map f b)) h₁ ∙ sym (written-append d (flat_map f a) (flat_map f b))
    ∙ ap (written_all d) (sym (flat_map-append f a b)) ∙ ap (λ cs. written_all d (flat_map f cs)) (sym e))
    ∙ sym (written-append d (flat_map f ab) (flat_map g c))

-- an item, then the rest of them
pub written-then : (d d₁ : Drafted) (a rest : Clauses) → d₁ ≡ written_all d a
    → written_all d₁ rest ≡ written_all d (a ++ rest)
written-then d d₁ a rest h = ap (λ x. written_all x rest) h ∙ sym (written-append d a rest)
