-- The list of obligations is the runs joined, and what is left of it: the runs of a group, then those of the groups
-- after it.
use Rattle.std.proofs.Common.{◌≡◌, ℕ, zero, suc, ◌+◌, ◌-◌, ◌*◌, ◌<◌, ◌≤◌, Bool, true, false, if◌then◌else◌, List, [], ◌∷◌, ◌++◌, map, flat_map, length, drop, slice_get, Some, None, Ok, Err, refl, sym, ap, ap₂, ◌∙◌, subst, arith, append_assoc, append-nil, length-append}
use Rattle.std.specs.List.{range_with_len}
use Rattle.std.specs.Prelude.{slice_index_or}
use Rattle.std.proofs.Math.Seq.{drop-append-add}
use Rattle.std.proofs.lemmas.Grind.{flat_map-append}
use Rattle.std.proofs.lemmas.List.Folds.{flat_map-map}
use Rattle.std.proofs.lemmas.List.FromFn.{length-range_with_len, length-map-range_with_len, get_or-range_with_len}
use Rattle.std.proofs.lemmas.Option.{slice_get-map, slice_get-get_or, slice_get_within}
use Rattle.std.specs.Option.{option_map}
use Rattle.plc_base.specs.declared.ids.StepId.{StepId}
use Rattle.plc_lang.specs.declared.syntax.Primitive.{Primitive}
use Rattle.plc_lang.specs.WellSorted.{is_claim}
use Rattle.plc_flow.specs.declared.flow.Gate.{Gate}
use Rattle.plc_flow.specs.declared.flow.Step.{Step}
use Rattle.plc_flow.specs.declared.flow.Flow.{Flow}
use Rattle.plc_logic.specs.declared.clause.Outline.{Outline}
use Rattle.plc_vocabulary.specs.declared.obligations.Obligation.{Obligation}
use Rattle.plc_vocabulary.specs.declared.obligations.Obligation.TheVariants.{Enter, Own, Other, Claim}
use Rattle.plc_vocabulary.specs.Parts.{prims_of, step_prims}
use Rattle.plc_vocabulary.specs.Points.{count_at}
use Rattle.plc_vocabulary.specs.Setting.{below}
use Rattle.plc_base.proofs.Lists.{drop_there, slice_left}
use Rattle.plc_oblig.specs.declared.runs.Group.{Group}
use Rattle.plc_oblig.specs.declared.runs.Group.TheVariants.{Starts, Entries, OwnSteps, AtPoints, Claims}
use Rattle.plc_oblig.specs.Obligations.{op_id, step_id, point_id, parts_from, own_count, starts, enters_of, enters, owns_of, owns, others_at, others_of, others, claims_in, claims_of, claims, obligations}
use Rattle.plc_oblig.specs.Runs.{groups, step_groups, parts_of, count_if, one_if, count_in, in_part, run, from_part, runs, part_if, from_group, IsFoundFrom}

-- ---- lists

pub drop_past : {A : Type 0} (xs : List A) (i : ℕ) → length xs ≤ i → drop i xs ≡ []
drop_past [] zero h = refl
drop_past [] (suc i) h = refl
drop_past (x ∷ xs) zero h = absurd (omega arith)
drop_past (x ∷ xs) (suc i) h = drop_past xs i (omega arith)

drop_nil : {A : Type 0} (n : ℕ) → drop {A = A} n [] ≡ []
drop_nil zero = refl
drop_nil (suc n) = refl

-- what is left begins with the item at its place, or is nothing
pub first_left : {A : Type 0} (xs ys : List A) (i : ℕ) (x : A) → drop i xs ≡ x ∷ ys → Some x ≡ slice_get xs i
first_left [] ys zero x e = cc
first_left [] ys (suc i) x e = cc
first_left (z ∷ xs) ys zero x e = cc
first_left (z ∷ xs) ys (suc i) x e = first_left xs ys i x e

pub nothing_left : {A : Type 0} (xs : List A) (i : ℕ) → drop i xs ≡ [] → None ≡ slice_get xs i
nothing_left [] zero e = refl
nothing_left [] (suc i) e = refl
nothing_left (z ∷ xs) zero e = cc
nothing_left (z ∷ xs) (suc i) e = nothing_left xs i e

below_there : (n i : ℕ) → i < n → slice_get (below n) i ≡ Some i
below_there n i lt =
    let e : 0 + i ≡ i = omega arith in
    slice_get-get_or (below n) i i (let l = length-range_with_len 0 n in omega arith) ∙ ap Some (get_or-range_with_len 0 n i i lt ∙ e)

slice_below : {X : Type 0} (f : ℕ → X) (n i : ℕ) → i < n → slice_get (map f (below n)) i ≡ Some (f i)
slice_below f n i lt = slice_get-map f (below n) i ∙ ap (option_map f) (below_there n i lt)

-- the item at an index, whichever is read past the end
pub at_index : {A : Type 0} (xs items : List A) (k : ℕ) (d : A) → items ≡ xs → k < length items → slice_get xs k ≡ Some (slice_index_or items k d)
at_index xs items k d same lt = ap (λ ys. slice_get ys k) (sym same) ∙ slice_get-get_or items k d lt

-- ---- parts one after another

module _ {A X : Type 0} (f : A → List X) where
  begins : (k : ℕ) (xs : List A) → part_if f (slice_get xs k) ++ flat_map f (drop (k + 1) xs) ≡ flat_map f (drop k xs)
  begins zero [] = refl
  begins zero (x ∷ xs) = refl
  begins (suc k) [] = ap (flat_map f) (drop_nil (suc k + 1))
  begins (suc k) (x ∷ xs) =
      let e : suc k + 1 ≡ suc (k + 1) = omega arith in
      ap (λ n. part_if f (slice_get xs k) ++ flat_map f (drop n (x ∷ xs))) e ∙ begins k xs

  none_left : (g : A → List X) (k : ℕ) (xs : List A) → length xs ≤ k → part_if g (slice_get xs k) ++ flat_map f (drop (k + 1) xs) ≡ []
  none_left g zero [] h = refl
  none_left g zero (x ∷ xs) h = absurd (omega arith)
  none_left g (suc k) [] h = ap (flat_map f) (drop_nil (suc k + 1))
  none_left g (suc k) (x ∷ xs) h =
      let e : suc k + 1 ≡ suc (k + 1) = omega arith in
      ap (λ n. part_if g (slice_get xs k) ++ flat_map f (drop n (x ∷ xs))) e ∙ none_left g k xs (omega arith)

module _ {A X : Type 0} (part : ℕ → A → List X) (f : ℕ → List X) where
  parts_on : (k : ℕ) (xs : List A) → ((i : ℕ) (a : A) → slice_get xs i ≡ Some a → part (k + i) a ≡ f (k + i))
      → parts_from part k xs ≡ flat_map f (range_with_len k (length xs))
  parts_on k [] h = refl
  parts_on k (x ∷ xs) h =
      let e : k + 0 ≡ k = omega arith in
      ap₂ (λ ys zs. ys ++ zs) (subst (λ n. part n x ≡ f n) e (h 0 x refl))
      (parts_on (k + 1) xs (λ i a is. let d : k + suc i ≡ (k + 1) + i = omega arith in subst (λ n. part n a ≡ f n) d (h (suc i) a is)))

  -- parts by their numbers
  parts_are : (xs : List A) → ((i : ℕ) (a : A) → slice_get xs i ≡ Some a → part i a ≡ f i)
      → parts_from part 0 xs ≡ flat_map f (below (length xs))
  parts_are xs h = parts_on 0 xs (λ i a is. let e : i ≡ 0 + i = omega arith in subst (λ n. part n a ≡ f n) e (h i a is))

-- ---- how many groups there are

steps_length : (f : ℕ → Group) (n : ℕ) → length (map f (below n)) ≡ n
steps_length f n = length-map-range_with_len f 0 n

pub groups_length : (flow : Flow) → length (groups flow) ≡ 3 + 2 * length flow.steps
unfolding groups
groups_length flow =
    let a = length-append (step_groups AtPoints flow) (step_groups Claims flow) in
    let b = steps_length (λ k. AtPoints (step_id k)) (length flow.steps) in
    let c = steps_length (λ k. Claims (step_id k)) (length flow.steps) in omega arith

module _ (flow : Flow) (outline : Outline) where
  -- ---- the list is the runs joined

  starts_are : starts outline ≡ runs flow outline Starts
  starts_are = sym (append-nil (starts outline))

  enters_are : enters flow outline ≡ runs flow outline Entries
  enters_are = parts_are (enters_of flow outline) (run flow outline Entries) flow.gates
      (λ i g is. ap (λ o. map (Enter (op_id i)) (below (count_if (λ (x : Gate). count_at flow outline x.entry.0) o))) (sym is))

  owns_are : owns flow outline ≡ runs flow outline OwnSteps
  owns_are = parts_are (owns_of flow outline) (run flow outline OwnSteps) flow.steps
      (λ i s is. ap (λ o. map (Own (step_id i)) (below (count_if (own_count flow outline) o))) (sym is))

  at_points : (k : ℕ) (s : Step) → others_of flow outline k s ≡ runs flow outline (AtPoints (step_id k))
  at_points k s =
      parts_are (others_at flow outline k) (run flow outline (AtPoints (step_id k))) (below flow.points)
      (λ i p is. let small = slice_get_within (below flow.points) i p is in
      let l = length-range_with_len 0 flow.points in
      let there = below_there flow.points i (omega arith) in
      let same : p ≡ i = cc in
      ap (λ q. map (Other (step_id k) (point_id q)) (below (count_at flow outline q))) same)
      ∙ ap (λ n. flat_map (run flow outline (AtPoints (step_id k))) (below n)) (length-range_with_len 0 flow.points)

  others_are : others flow outline ≡ flat_map (runs flow outline) (step_groups AtPoints flow)
  others_are =
      parts_are (others_of flow outline) (λ k. runs flow outline (AtPoints (step_id k))) flow.steps (λ i s is. at_points i s)
      ∙ sym (flat_map-map (runs flow outline) (λ k. AtPoints (step_id k)) (below (length flow.steps)))

  abbrev claim_part : ℕ → ℕ → Primitive → List Obligation
  claim_part k j p = map (λ (n : ℕ). Claim (step_id k) j) (below (one_if (is_claim p)))

  claim_parts : (k j : ℕ) (ps : List Primitive) → claims_in k j ps ≡ parts_from (claim_part k) j ps
  claim_parts k j [] = refl
  claim_parts k j (p ∷ ps) = go (is_claim p) (claim_parts k (j + 1) ps)
    where
      go : (b : Bool) → claims_in k (j + 1) ps ≡ parts_from (claim_part k) (j + 1) ps
          → (if b then Claim (step_id k) j ∷ claims_in k (j + 1) ps else claims_in k (j + 1) ps)
          ≡ map (λ (n : ℕ). Claim (step_id k) j) (below (one_if b)) ++ parts_from (claim_part k) (j + 1) ps
      go true h = ap (λ xs. Claim (step_id k) j ∷ xs) h
      go false h = h

  of_step : (k : ℕ) (s : Step) → slice_get flow.steps k ≡ Some s → claims_of k s ≡ runs flow outline (Claims (step_id k))
  of_step k s is =
      ap (λ o. claims_in k 0 (prims_of o)) (sym is) ∙ claim_parts k 0 (step_prims flow k)
      ∙ parts_are (claim_part k) (run flow outline (Claims (step_id k))) (step_prims flow k)
      (λ i p there. ap (λ o. map (λ (n : ℕ). Claim (step_id k) i) (below (count_if (λ (q : Primitive). one_if (is_claim q)) o))) (sym there))

  claims_are : claims flow ≡ flat_map (runs flow outline) (step_groups Claims flow)
  claims_are =
      parts_are claims_of (λ k. runs flow outline (Claims (step_id k))) flow.steps of_step
      ∙ sym (flat_map-map (runs flow outline) (λ k. Claims (step_id k)) (below (length flow.steps)))

  pub all_left : obligations flow outline ≡ from_group flow outline 0 0
  unfolding obligations from_group groups
  all_left =
      ap₂ (λ xs ys. xs ++ ys) starts_are (ap₂ (λ xs ys. xs ++ ys) enters_are (ap₂ (λ xs ys. xs ++ ys) owns_are
      (ap₂ (λ xs ys. xs ++ ys) others_are claims_are ∙ sym (flat_map-append (runs flow outline) (step_groups AtPoints flow) (step_groups Claims flow)))))

  -- ---- the runs of a group

  run_there : (group : Group) (k : ℕ) → k < parts_of flow group
      → from_part flow outline group k ≡ run flow outline group k ++ from_part flow outline group (k + 1)
  run_there group k lt =
      ap (flat_map (run flow outline group)) (drop_there (below (parts_of flow group)) k k (below_there (parts_of flow group) k lt))

  no_runs : (group : Group) (k : ℕ) → parts_of flow group ≤ k → from_part flow outline group k ≡ []
  no_runs group k past =
      ap (flat_map (run flow outline group))
      (drop_past (below (parts_of flow group)) k (let l = length-range_with_len 0 (parts_of flow group) in omega arith))

  run_length : (group : Group) (k : ℕ) → length (run flow outline group k) ≡ count_in flow outline group k
  run_length group k = length-map-range_with_len (in_part group k) 0 (count_in flow outline group k)

  pub run_counted : (group : Group) (k n total whole : ℕ) → k < parts_of flow group → n ≡ count_in flow outline group k
      → total + length (from_part flow outline group k) ≡ whole → (total + n) + length (from_part flow outline group (k + 1)) ≡ whole
  run_counted group k n total whole lt count h =
      let l = ap length (run_there group k lt) ∙ length-append (run flow outline group k) (from_part flow outline group (k + 1)) in
      let r = run_length group k in omega arith

  pub runs_counted : (group : Group) (k total whole : ℕ) → parts_of flow group ≤ k → total + length (from_part flow outline group k) ≡ whole → total ≡ whole
  runs_counted group k total whole past h = let l = ap length (no_runs group k past) in omega arith

  same_lengths : {A X : Type 0} (f g : A → List X) → ((a : A) → length (f a) ≡ length (g a)) → (xs : List A) → length (flat_map f xs) ≡ length (flat_map g xs)
  same_lengths f g h [] = refl
  same_lengths f g h (x ∷ xs) =
      let a = length-append (f x) (flat_map f xs) in let b = length-append (g x) (flat_map g xs) in
      let c = h x in let d = same_lengths f g h xs in omega arith

  -- each step has as many at points as step 0
  pub each_length : (group : Group) (s : StepId) → group ≡ AtPoints s → length (runs flow outline (AtPoints (step_id 0))) ≡ length (runs flow outline group)
  each_length group s is =
      same_lengths (run flow outline (AtPoints (step_id 0))) (run flow outline (AtPoints s)) (λ p. run_length (AtPoints (step_id 0)) p ∙ sym (run_length (AtPoints s) p)) (below flow.points)
      ∙ ap (λ g. length (runs flow outline g)) (sym is)

  -- so many after the beginning of a part is so many after the beginning of another; whatever comes after the group
  abbrev pub IsPassed : Group → ℕ → ℕ → ℕ → ℕ → Type 0
  IsPassed group part number k left = (more : List Obligation)
      → drop number (from_part flow outline group part ++ more) ≡ drop left (from_part flow outline group k ++ more)

  module _ (group : Group) (part number k left : ℕ) (passed : IsPassed group part number k left) where
    pub run_found : (n : ℕ) → k < parts_of flow group → n ≡ count_in flow outline group k → left < n
        → IsFoundFrom flow outline group part number (Ok (k, left))
    run_found n lt count small more =
        passed more
        ∙ drop_there (from_part flow outline group k ++ more) left (in_part group k left)
        (slice_left (from_part flow outline group k) more left (in_part group k left)
        (ap (λ xs. slice_get xs left) (run_there group k lt)
        ∙ slice_left (run flow outline group k) (from_part flow outline group (k + 1)) left (in_part group k left)
        (slice_below (in_part group k) (count_in flow outline group k) left (omega arith))))

    pub run_passed : (n : ℕ) → k < parts_of flow group → n ≡ count_in flow outline group k → n ≤ left
        → IsPassed group part number (k + 1) (left - n)
    run_passed n lt count large more =
        let r = run_length group k in
        let e : left ≡ length (run flow outline group k) + (left - n) = omega arith in
        passed more
        ∙ ap (λ xs. drop left (xs ++ more)) (run_there group k lt)
        ∙ ap (drop left) (append_assoc (run flow outline group k) (from_part flow outline group (k + 1)) more)
        ∙ ap (λ m. drop m (run flow outline group k ++ (from_part flow outline group (k + 1) ++ more))) e
        ∙ drop-append-add (run flow outline group k) (from_part flow outline group (k + 1) ++ more) (left - n)

    pub runs_passed : parts_of flow group ≤ k → IsFoundFrom flow outline group part number (Err left)
    runs_passed past more = passed more ∙ ap (λ xs. drop left (xs ++ more)) (no_runs group k past)

  -- ---- groups

  in_group : (g k : ℕ) (group : Group) → slice_get (groups flow) g ≡ Some group
      → from_group flow outline g k ≡ from_part flow outline group k ++ flat_map (runs flow outline) (drop (g + 1) (groups flow))
  unfolding from_group
  in_group g k group is =
      ap (λ o. part_if (λ x. from_part flow outline x k) o ++ flat_map (runs flow outline) (drop (g + 1) (groups flow))) is

  group_begins : (g : ℕ) → from_group flow outline g 0 ≡ flat_map (runs flow outline) (drop g (groups flow))
  unfolding from_group
  group_begins g = begins (runs flow outline) g (groups flow)

  no_groups : (g k : ℕ) → 3 + 2 * length flow.steps ≤ g → from_group flow outline g k ≡ []
  unfolding from_group
  no_groups g k past =
      none_left (runs flow outline) (λ x. from_part flow outline x k) g (groups flow) (let l = groups_length flow in omega arith)

  pub group_counted : (g n total whole : ℕ) (group : Group) → slice_get (groups flow) g ≡ Some group → n ≡ length (runs flow outline group)
      → total + length (from_group flow outline g 0) ≡ whole → (total + n) + length (from_group flow outline (g + 1) 0) ≡ whole
  group_counted g n total whole group is count h =
      let a = ap length (in_group g 0 group is) ∙ length-append (runs flow outline group) (flat_map (runs flow outline) (drop (g + 1) (groups flow))) in
      let b = ap length (group_begins (g + 1)) in omega arith

  pub groups_counted : (g total whole : ℕ) → 3 + 2 * length flow.steps ≤ g → total + length (from_group flow outline g 0) ≡ whole → total ≡ whole
  groups_counted g total whole past h = let l = ap length (no_groups g 0 past) in omega arith

  module _ (list : List Obligation) (g part left : ℕ) (rest : list ≡ drop left (from_group flow outline g part)) where
    pub group_found : (group : Group) (found : ℕ × ℕ) → slice_get (groups flow) g ≡ Some group → IsFoundFrom flow outline group part left (Ok found)
        → list ≡ in_part group found.0 found.1 ∷ drop (found.1 + 1) (from_group flow outline g found.0)
    group_found group found is h =
        rest ∙ ap (drop left) (in_group g part group is) ∙ h (flat_map (runs flow outline) (drop (g + 1) (groups flow)))
        ∙ ap (λ xs. in_part group found.0 found.1 ∷ drop (found.1 + 1) xs) (sym (in_group g found.0 group is))

    pub group_passed : (group : Group) (after : ℕ) → slice_get (groups flow) g ≡ Some group → IsFoundFrom flow outline group part left (Err after)
        → list ≡ drop after (from_group flow outline (g + 1) 0)
    group_passed group after is h =
        rest ∙ ap (drop left) (in_group g part group is) ∙ h (flat_map (runs flow outline) (drop (g + 1) (groups flow)))
        ∙ ap (drop after) (sym (group_begins (g + 1)))

    pub groups_passed : 3 + 2 * length flow.steps ≤ g → list ≡ []
    groups_passed past = rest ∙ ap (drop left) (no_groups g part past) ∙ drop_nil left

-- ---- the group with a number

after_three : {A : Type 0} (a b c : A) (xs : List A) (g : ℕ) → 3 ≤ g → slice_get (a ∷ b ∷ c ∷ xs) g ≡ slice_get xs (g - 3)
after_three a b c xs zero h = absurd (omega arith)
after_three a b c xs (suc zero) h = absurd (omega arith)
after_three a b c xs (suc (suc zero)) h = absurd (omega arith)
after_three a b c xs (suc (suc (suc g))) h = let e : g ≡ suc (suc (suc g)) - 3 = omega arith in ap (slice_get xs) e

slice_past : {X : Type 0} (xs ys : List X) (i n : ℕ) → n ≡ length xs + i → slice_get (xs ++ ys) n ≡ slice_get ys i
slice_past [] ys i n e = let f : n ≡ i = omega arith in ap (slice_get ys) f
slice_past (z ∷ zs) ys i zero e = absurd (omega arith)
slice_past (z ∷ zs) ys i (suc n) e = slice_past zs ys i n (omega arith)

module _ (flow : Flow) (g : ℕ) where
  pub group_0 : g < 1 → slice_get (groups flow) g ≡ Some Starts
  unfolding groups
  group_0 lt = ap (slice_get (groups flow)) (let e : g ≡ 0 = omega arith in e)

  pub group_1 : 1 ≤ g → g < 2 → slice_get (groups flow) g ≡ Some Entries
  unfolding groups
  group_1 le lt = ap (slice_get (groups flow)) (let e : g ≡ 1 = omega arith in e)

  pub group_2 : 2 ≤ g → g < 3 → slice_get (groups flow) g ≡ Some OwnSteps
  unfolding groups
  group_2 le lt = ap (slice_get (groups flow)) (let e : g ≡ 2 = omega arith in e)

  pub group_of_points : (n : ℕ) → n ≡ length flow.steps → 3 ≤ g → g - 3 < n → slice_get (groups flow) g ≡ Some (AtPoints (step_id (g - 3)))
  unfolding groups
  group_of_points n steps h lt =
      after_three Starts Entries OwnSteps (step_groups AtPoints flow ++ step_groups Claims flow) g h
      ∙ slice_left (step_groups AtPoints flow) (step_groups Claims flow) (g - 3) (AtPoints (step_id (g - 3)))
      (slice_below (λ k. AtPoints (step_id k)) (length flow.steps) (g - 3) (omega arith))

  pub group_of_claims : (n : ℕ) → n ≡ length flow.steps → 3 ≤ g → n ≤ g - 3 → g < 3 + 2 * length flow.steps
      → slice_get (groups flow) g ≡ Some (Claims (step_id (g - 3 - n)))
  unfolding groups
  group_of_claims n steps h past within =
      let a = steps_length (λ k. AtPoints (step_id k)) (length flow.steps) in
      after_three Starts Entries OwnSteps (step_groups AtPoints flow ++ step_groups Claims flow) g h
      ∙ slice_past (step_groups AtPoints flow) (step_groups Claims flow) (g - 3 - n) (g - 3) (omega arith)
      ∙ slice_below (λ k. Claims (step_id k)) (length flow.steps) (g - 3 - n) (omega arith)

-- ---- how many obligations a part has

module _ (flow : Flow) (outline : Outline) (group : Group) (k n : ℕ) where
  pub entry_count : (g : Gate) → group ≡ Entries → slice_get flow.gates k ≡ Some g → n ≡ count_at flow outline g.entry.0 → n ≡ count_in flow outline group k
  entry_count g is there e =
      e ∙ ap (count_if (λ (x : Gate). count_at flow outline x.entry.0)) (sym there) ∙ ap (λ x. count_in flow outline x k) (sym is)

  pub own_counted : (s : Step) → group ≡ OwnSteps → slice_get flow.steps k ≡ Some s → n ≡ own_count flow outline s → n ≡ count_in flow outline group k
  own_counted s is there e = e ∙ ap (count_if (own_count flow outline)) (sym there) ∙ ap (λ x. count_in flow outline x k) (sym is)

  pub claim_count : (s : StepId) (p : Primitive) → group ≡ Claims s → slice_get (step_prims flow s.0) k ≡ Some p → n ≡ one_if (is_claim p) → n ≡ count_in flow outline group k
  claim_count s p is there e =
      e ∙ ap (count_if (λ (q : Primitive). one_if (is_claim q))) (sym there) ∙ ap (λ x. count_in flow outline x k) (sym is)
