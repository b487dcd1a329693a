-- What holds of the sets of spots that are chosen one after another, for whatever is true of a list of spots and stays
-- so with more of them. Spots that were looked at stand in a list of their own, so a spot more is a step of induction.
use Rattle.std.proofs.Common.{◌≡◌, ℕ, zero, suc, ◌<◌, true, false, Bool, List, [], ◌∷◌, ◌++◌, length, Some}
use Rattle.std.proofs.Common.{refl, sym, subst, ◌∙◌, ap, inl, arith, append_assoc}
use Rattle.std.specs.Prelude.{slice_get}
use Rattle.plc_auto.specs.declared.observer.Observer.{Observer}
use Rattle.plc_lang.specs.Skeleton.{Skeleton}
use Rattle.plc_suggest.specs.declared.spot.Spot.{Spot}
use Rattle.plc_suggest.specs.Spots.{spots_of}
use Rattle.plc_suggest.specs.Needed.{chosen, tried, IsTypable, AreNeeded, IsLeastTypable, IsNeverTypable}
use Rattle.plc_suggest.proofs.Claims.{IsPart}
use Rattle.plc_suggest.proofs.Marked.{typable_stays}
use Rattle.plc_suggest.proofs.Chosen.{part_more, part_trans, part_fewer, chosen_part}

-- for each spot whose flag is false, the spots before and what is tried for it have the property
abbrev Needless : (List Spot → Type 0) → List Spot → List Bool → List Spot → Type 0
Needless P done flags spots = (i : ℕ) → slice_get flags i ≡ Some false → P (done ++ tried flags i spots)

-- for each spot whose flag is true they don't
abbrev Needed : (List Spot → Type 0) → List Spot → List Bool → List Spot → Type 0
Needed P done flags spots = (i : ℕ) → slice_get flags i ≡ Some true → P (done ++ tried flags i spots) → ⊥

one_more : (done : List Spot) (x : Spot) (rest : List Spot) → (done ++ x ∷ []) ++ rest ≡ done ++ (x ∷ rest)
one_more done x rest = append_assoc done (x ∷ []) rest

-- the spots before and all others have the property, so the spots before and the chosen ones have it
chosen_have : (P : List Spot → Type 0) (done : List Spot) (flags : List Bool) (spots : List Spot)
    → length flags ≡ length spots → P (done ++ spots) → Needless P done flags spots → P (done ++ chosen flags spots)
chosen_have P done [] [] count have needless = have
chosen_have P done [] (x ∷ xs) count have needless = absurd (omega arith)
chosen_have P done (b ∷ flags) [] count have needless = absurd (omega arith)
chosen_have P done (true ∷ flags) (x ∷ xs) count have needless =
    subst P (one_more done x (chosen flags xs))
    (chosen_have P (done ++ x ∷ []) flags xs (omega arith) (subst P (sym (one_more done x xs)) have)
    (λ i h. subst P (sym (one_more done x (tried flags i xs))) (needless (suc i) h)))
chosen_have P done (false ∷ flags) (x ∷ xs) count have needless =
    chosen_have P done flags xs (omega arith) (needless 0 refl) (λ i h. needless (suc i) h)

-- two sets of needed spots are chosen by the same flags
one_choice : (P : List Spot → Type 0) (done : List Spot) (bs cs : List Bool) (spots : List Spot)
    → length bs ≡ length spots → length cs ≡ length spots → Needed P done bs spots → Needless P done bs spots
    → Needed P done cs spots → Needless P done cs spots → bs ≡ cs
one_choice P done [] [] [] m n b_needed b_needless c_needed c_needless = refl
one_choice P done [] (c ∷ cs) [] m n b_needed b_needless c_needed c_needless = absurd (omega arith)
one_choice P done (b ∷ bs) cs [] m n b_needed b_needless c_needed c_needless = absurd (omega arith)
one_choice P done [] cs (x ∷ xs) m n b_needed b_needless c_needed c_needless = absurd (omega arith)
one_choice P done (b ∷ bs) [] (x ∷ xs) m n b_needed b_needless c_needed c_needless = absurd (omega arith)
one_choice P done (true ∷ bs) (true ∷ cs) (x ∷ xs) m n b_needed b_needless c_needed c_needless =
    ap (λ (fs : List Bool). true ∷ fs) (one_choice P (done ++ x ∷ []) bs cs xs (omega arith) (omega arith)
    (λ i h k. b_needed (suc i) h (subst P (one_more done x (tried bs i xs)) k))
    (λ i h. subst P (sym (one_more done x (tried bs i xs))) (b_needless (suc i) h))
    (λ i h k. c_needed (suc i) h (subst P (one_more done x (tried cs i xs)) k))
    (λ i h. subst P (sym (one_more done x (tried cs i xs))) (c_needless (suc i) h)))
one_choice P done (true ∷ bs) (false ∷ cs) (x ∷ xs) m n b_needed b_needless c_needed c_needless =
    absurd (b_needed 0 refl (c_needless 0 refl))
one_choice P done (false ∷ bs) (true ∷ cs) (x ∷ xs) m n b_needed b_needless c_needed c_needless =
    absurd (c_needed 0 refl (b_needless 0 refl))
one_choice P done (false ∷ bs) (false ∷ cs) (x ∷ xs) m n b_needed b_needless c_needed c_needless =
    ap (λ (fs : List Bool). false ∷ fs) (one_choice P done bs cs xs (omega arith) (omega arith)
    (λ i h. b_needed (suc i) h) (λ i h. b_needless (suc i) h) (λ i h. c_needed (suc i) h) (λ i h. c_needless (suc i) h))

-- a chosen set without one of its spots is within what was tried for that spot
left_out : (flags : List Bool) (spots : List Spot) (fewer : List Bool) (i : ℕ) → i < length (chosen flags spots)
    → slice_get fewer i ≡ Some false
    → (j : ℕ) × (slice_get flags j ≡ Some true) × IsPart (chosen fewer (chosen flags spots)) (tried flags j spots)
left_out [] spots fewer i small h = absurd (omega arith)
left_out (b ∷ flags) [] fewer i small h = absurd (omega arith)
left_out (true ∷ flags) (x ∷ xs) [] i small h = absurd cc
left_out (true ∷ flags) (x ∷ xs) (true ∷ fewer) zero small h = absurd cc
left_out (true ∷ flags) (x ∷ xs) (false ∷ fewer) zero small h =
    let rest = chosen flags xs in
    (0, refl, part_trans (chosen fewer rest) rest xs (chosen_part fewer rest) (chosen_part flags xs))
left_out (true ∷ flags) (x ∷ xs) (true ∷ fewer) (suc i) small h =
    let r = left_out flags xs fewer i (omega arith) h in (suc r.0, r.1, inl (refl, r.2))
left_out (true ∷ flags) (x ∷ xs) (false ∷ fewer) (suc i) small h =
    let r = left_out flags xs fewer i (omega arith) h in
    (suc r.0, r.1, part_more (chosen fewer (chosen flags xs)) x (tried flags r.0 xs) r.2)
left_out (false ∷ flags) (x ∷ xs) fewer i small h =
    let r = left_out flags xs fewer i small h in (suc r.0, r.1, r.2)

-- ---- what follows for every program

pub one_set : (o : Observer) (s : Skeleton) (a b : List Spot) → AreNeeded o s a → AreNeeded o s b → a ≡ b
one_set o s a b x y =
    x.are ∙ ap (λ (flags : List Bool). chosen flags (spots_of s))
    (one_choice (IsTypable o s) [] x.flags y.flags (spots_of s) x.count y.count x.needed x.needless y.needed y.needless)
    ∙ sym y.are

pub least_set : (o : Observer) (s : Skeleton) (spots : List Spot) → IsTypable o s (spots_of s) → AreNeeded o s spots
    → IsLeastTypable o s spots
least_set o s spots all x = record {
  typable =
      subst (IsTypable o s) (sym x.are) (chosen_have (IsTypable o s) [] x.flags (spots_of s) x.count all x.needless);
  none_fewer = λ flags i small h typable.
      let below = subst (λ (ys : List Spot). i < length ys) x.are small in
      let r = left_out x.flags (spots_of s) flags i below h in
      let fewer = subst (λ (ys : List Spot). IsTypable o s (chosen flags ys)) x.are typable in
      x.needed r.0 r.1 (typable_stays o s (chosen flags (chosen x.flags (spots_of s))) (tried x.flags r.0 (spots_of s))
      (part_fewer (chosen flags (chosen x.flags (spots_of s))) (tried x.flags r.0 (spots_of s)) r.2) fewer);
}

pub never_typable : (o : Observer) (s : Skeleton) → (IsTypable o s (spots_of s) → ⊥) → IsNeverTypable o s
never_typable o s never flags typable =
    never (typable_stays o s (chosen flags (spots_of s)) (spots_of s)
    (part_fewer (chosen flags (spots_of s)) (spots_of s) (chosen_part flags (spots_of s))) typable)
