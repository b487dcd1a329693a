-- Where the ground set of no obligation has a model: each kind of obligation, by its parts.
use Rattle.std.proofs.Common.{◌≡◌, ℕ, zero, suc, ◌+◌, ◌<◌, Bool, true, false, List, [], ◌∷◌, ◌++◌, map, length, Some}
use Rattle.std.proofs.Common.{slice_get, ap, ◌∙◌, subst, arith}
use Rattle.std.specs.Prelude.{if◌then◌else◌}
use Rattle.std.specs.List.{range_with_len}
use Rattle.plc_lang.specs.declared.syntax.Primitive.{Primitive}
use Rattle.plc_lang.specs.WellSorted.{is_claim}
use Rattle.plc_flow.specs.declared.flow.Flow.{Flow}
use Rattle.plc_flow.specs.declared.flow.Gate.{Gate}
use Rattle.plc_flow.specs.declared.flow.Step.{Step}
use Rattle.plc_logic.specs.declared.clause.Outline.{Outline}
use Rattle.plc_ground.specs.Trees.{HasModel}
use Rattle.plc_vocabulary.specs.declared.obligations.Obligation.{Obligation}
use Rattle.plc_vocabulary.specs.declared.obligations.Obligation.TheVariants.{Start, Enter, Own, Other, Claim}
use Rattle.plc_vocabulary.specs.Points.{count_at}
use Rattle.plc_vocabulary.specs.Setting.{below}
use Rattle.plc_oblig.specs.GroundSets.{ground_set}
use Rattle.plc_oblig.specs.Obligations.{op_id, step_id, point_id, parts_from, starts, enters_of, own_count, owns_of}
use Rattle.plc_oblig.specs.Obligations.{others_at, others_of, claims_in, claims_of, enters, owns, others, claims}
use Rattle.plc_oblig.specs.Obligations.{obligations}
use Rattle.plc_flow.proofs.Each.{Each}
use Rattle.plc_oblig.specs.Outlines.{OutlineHolds}
use Rattle.plc_oblig.proofs.Lists.{each_left, each_right, each_of_all}

-- ---- lists, backwards

map_back : {A B : Type 0} (P : B → Type 0) (f : A → B) (xs : List A) → Each P (map f xs) → Each (λ x. P (f x)) xs
map_back P f [] h = tt
map_back P f (x ∷ xs) h = (h.0, map_back P f xs h.1)

range_back : (P : ℕ → Type 0) (a n i : ℕ) → Each P (range_with_len a n) → i < n → P (a + i)
range_back P a zero i h less = absurd (omega arith)
range_back P a (suc n) zero h less = subst P (let same : a ≡ a + 0 = omega arith in same) h.0
range_back P a (suc n) (suc i) h less =
    subst P (let same : a + 1 + i ≡ a + suc i = omega arith in same) (range_back P (a + 1) n i h.1 (omega arith))

below_back : (P : ℕ → Type 0) (n i : ℕ) → Each P (below n) → i < n → P i
below_back P n i h less = subst P (let same : 0 + i ≡ i = omega arith in same) (range_back P 0 n i h less)

parts_back : {A X : Type 0} (P : X → Type 0) (part : ℕ → A → List X) (k : ℕ) (xs : List A)
    → Each P (parts_from part k xs) → (j : ℕ) (x : A) → slice_get xs j ≡ Some x → Each P (part (k + j) x)
parts_back P part k [] h j x at = cc
parts_back P part k (y ∷ xs) h zero x at =
    let same : y ≡ x = cc in
    let number : k ≡ k + 0 = omega arith in
    subst (λ k. Each P (part k x)) number
    (subst (λ y. Each P (part k y)) same (each_left P (part k y) (parts_from part (k + 1) xs) h))
parts_back P part k (y ∷ xs) h (suc j) x at =
    let number : k + 1 + j ≡ k + suc j = omega arith in
    subst (λ k. Each P (part k x)) number
    (parts_back P part (k + 1) xs (each_right P (part k y) (parts_from part (k + 1) xs) h) j x at)

first_part : {A X : Type 0} (P : X → Type 0) (part : ℕ → A → List X) (xs : List A) → Each P (parts_from part 0 xs)
    → (j : ℕ) (x : A) → slice_get xs j ≡ Some x → Each P (part j x)
first_part P part xs h j x at =
    subst (λ k. Each P (part k x)) (let same : 0 + j ≡ j = omega arith in same) (parts_back P part 0 xs h j x at)

range_at : (a n i : ℕ) → i < n → slice_get (range_with_len a n) i ≡ Some (a + i)
range_at a zero i less = absurd (omega arith)
range_at a (suc n) zero less = ap Some (let same : a ≡ a + 0 = omega arith in same)
range_at a (suc n) (suc i) less =
    range_at (a + 1) n i (omega arith) ∙ ap Some (let same : a + 1 + i ≡ a + suc i = omega arith in same)

below_at : (n i : ℕ) → i < n → slice_get (below n) i ≡ Some i
below_at n i less = range_at 0 n i less ∙ ap Some (let same : 0 + i ≡ i = omega arith in same)

claims_back : (P : Obligation → Type 0) (k j : ℕ) (ps : List Primitive) → Each P (claims_in k j ps)
    → (i : ℕ) (p : Primitive) → slice_get ps i ≡ Some p → is_claim p ≡ true → P (Claim (step_id k) (j + i))
claims_back P k j [] h i p at claim = cc
claims_back P k j (q ∷ ps) h zero p at claim =
    let same : is_claim q ≡ true = (let s : q ≡ p = cc in ap is_claim s ∙ claim) in
    let there =
    subst (λ b. Each P
    (if b then Claim (step_id k) j ∷ claims_in k (j + 1) ps else claims_in k (j + 1) ps)) same h in
    subst (λ j. P (Claim (step_id k) j)) (let number : j ≡ j + 0 = omega arith in number) there.0
claims_back P k j (q ∷ ps) h (suc i) p at claim =
    let number : j + 1 + i ≡ j + suc i = omega arith in
    subst (λ j. P (Claim (step_id k) j)) number (claims_back P k (j + 1) ps (rest (is_claim q) h) i p at claim)
  where
    rest : (b : Bool) → Each P (if b then Claim (step_id k) j ∷ claims_in k (j + 1) ps else claims_in k (j + 1) ps)
        → Each P (claims_in k (j + 1) ps)
    rest true h = h.1
    rest false h = h

-- ---- obligations

abbrev pub NoModel : Flow → Outline → Obligation → Type 0
NoModel flow outline o = HasModel (ground_set flow outline o) → ⊥

pub record AreMet (flow : Flow) (outline : Outline) : Type 0 where
  pub start : (i : ℕ) → i < length outline.invariants → NoModel flow outline (Start i)
  pub enter : (op : ℕ) (gate : Gate) (c : ℕ) → slice_get flow.gates op ≡ Some gate
      → c < count_at flow outline gate.entry.0 → NoModel flow outline (Enter (op_id op) c)
  pub own : (k : ℕ) (s : Step) (c : ℕ) → slice_get flow.steps k ≡ Some s → c < own_count flow outline s
      → NoModel flow outline (Own (step_id k) c)
  pub other : (k : ℕ) (s : Step) (p c : ℕ) → slice_get flow.steps k ≡ Some s → p < flow.points
      → c < count_at flow outline p → NoModel flow outline (Other (step_id k) (point_id p) c)
  pub claim : (k : ℕ) (s : Step) (j : ℕ) (q : Primitive) → slice_get flow.steps k ≡ Some s
      → slice_get s.prims j ≡ Some q → is_claim q ≡ true → NoModel flow outline (Claim (step_id k) j)

module _ (flow : Flow) (outline : Outline) where
  abbrev P : Obligation → Type 0
  P o = HasModel (ground_set flow outline o) → ⊥

  -- those of each kind
  record ByKind : Type 0 where
    of_starts : Each P (starts outline)
    of_enters : Each P (enters flow outline)
    of_owns : Each P (owns flow outline)
    of_others : Each P (others flow outline)
    of_claims : Each P (claims flow)

  by_kind : OutlineHolds flow outline → ByKind
  unfolding obligations
  by_kind holds =
      let all = each_of_all P (obligations flow outline) holds in
      let a = each_right P (starts outline)
      (enters flow outline ++ (owns flow outline ++ (others flow outline ++ claims flow))) all in
      let b = each_right P (enters flow outline) (owns flow outline ++ (others flow outline ++ claims flow)) a in
      let c = each_right P (owns flow outline) (others flow outline ++ claims flow) b in
      record {
        of_starts =
            each_left P (starts outline)
            (enters flow outline ++ (owns flow outline ++ (others flow outline ++ claims flow))) all;
        of_enters = each_left P (enters flow outline) (owns flow outline ++ (others flow outline ++ claims flow)) a;
        of_owns = each_left P (owns flow outline) (others flow outline ++ claims flow) b;
        of_others = each_left P (others flow outline) (claims flow) c;
        of_claims = each_right P (others flow outline) (claims flow) c;
      }

  pub are_met : OutlineHolds flow outline → AreMet flow outline
  are_met holds =
      let k = by_kind holds in
      record {
        start = λ i less. below_back (λ i. P (Start i)) (length outline.invariants) i
            (map_back P Start (below (length outline.invariants)) k.of_starts) less;
        enter = λ op gate c at less. below_back (λ c. P (Enter (op_id op) c)) (count_at flow outline gate.entry.0) c
            (map_back P (Enter (op_id op)) (below (count_at flow outline gate.entry.0))
            (first_part P (enters_of flow outline) flow.gates k.of_enters op gate at)) less;
        own = λ n s c at less. below_back (λ c. P (Own (step_id n) c)) (own_count flow outline s) c
            (map_back P (Own (step_id n)) (below (own_count flow outline s))
            (first_part P (owns_of flow outline) flow.steps k.of_owns n s at)) less;
        other = λ n s p c at small less. below_back (λ c. P (Other (step_id n) (point_id p) c))
            (count_at flow outline p) c
            (map_back P (Other (step_id n) (point_id p)) (below (count_at flow outline p))
            (first_part P (others_at flow outline n) (below flow.points)
            (first_part P (others_of flow outline) flow.steps k.of_others n s at) p p
            (below_at flow.points p small))) less;
        claim = λ n s j q at there claim. subst (λ j. P (Claim (step_id n) j))
            (let same : 0 + j ≡ j = omega arith in same)
            (claims_back P n 0 s.prims (first_part P claims_of flow.steps k.of_claims n s at) j q there claim);
      }
