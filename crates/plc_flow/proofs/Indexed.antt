-- The index of the steps by their first points, one step after another, and the step that it finds.
use Rattle.std.proofs.Common.{◌≡◌, ◌≢◌, ℕ, zero, suc, ◌+◌, ◌<◌, Bool, true, false, cond, Option, Some, None, List, [], ◌∷◌, ◌++◌, length, filter, map, get_or, slice_get, set, take, refl, sym, ap, subst, ◌∙◌, arith, inl, inr, get_or-set_same, get_or-set_other, length-set}
use Rattle.std.specs.Prelude.{◌⊎◌, ◌==◌, if◌then◌else◌, option_map, option_and_then}
use Rattle.std.proofs.lemmas.Bool.{cases_eq, eq-eqb, ne_eqb}
use Rattle.std.proofs.lemmas.List.{append-nil, get_or_read, length-take-le, take_more}
use Rattle.std.proofs.lemmas.Option.{slice_get-map}
use Rattle.plc_base.specs.declared.ids.PointId.{PointId}
use Rattle.plc_flow.specs.declared.flow.Step.{Step}
use Rattle.plc_flow.specs.declared.flow.Flow.{Flow}
use Rattle.plc_flow.specs.declared.steps_by_point.StepsByPoint.{StepsByPoint}
use Rattle.plc_flow.specs.declared.flow.Gate.{Gate}
use Rattle.plc_flow.specs.Points.{leaves, steps_from}
use Rattle.plc_flow.specs.WellFormed.{IsPointOf, GatesFrom, IsWellFormed}
use Rattle.plc_flow.specs.StepsByPoint.{places_from, IsIndexOf, first_points}
use Rattle.plc_flow.proofs.Gates.{gates_rise}

-- ---- how it is made

-- the rows of so many points that these first points make
pub record HasRows (points : ℕ) (firsts : List PointId) (rows : List (List ℕ)) : Type 0 where
  pub count : length rows ≡ points
  pub each : (p : ℕ) → get_or rows p [] ≡ places_from 0 p firsts

-- what one more first point adds to a row
abbrev added : ℕ → Bool → List ℕ
added k b = if b then k ∷ [] else []

places_more : (k p : ℕ) (qs : List PointId) (q : PointId) (b : Bool) → (q.0 == p) ≡ b → places_from k p (qs ++ q ∷ []) ≡ places_from k p qs ++ added (k + length qs) b
places_more k p [] q b is = ap (added k) is ∙ (let e : k ≡ k + 0 = omega arith in ap (λ n. added n b) e)
places_more k p (r ∷ qs) q b is = go (r.0 == p) (places_more (k + 1) p qs q b is ∙ (let e : k + 1 + length qs ≡ k + suc (length qs) = omega arith in ap (λ n. places_from (k + 1) p qs ++ added n b) e))
  where
    go : (c : Bool) → places_from (k + 1) p (qs ++ q ∷ []) ≡ places_from (k + 1) p qs ++ added (k + suc (length qs)) b → (if c then k ∷ places_from (k + 1) p (qs ++ q ∷ []) else places_from (k + 1) p (qs ++ q ∷ [])) ≡ (if c then k ∷ places_from (k + 1) p qs else places_from (k + 1) p qs) ++ added (k + suc (length qs)) b
    go true rest = ap (λ (xs : List ℕ). k ∷ xs) rest
    go false rest = rest

pub rows_more : (points : ℕ) (firsts : List PointId) (k : ℕ) (q : PointId) (d : PointId) (rows : List (List ℕ)) (row new : List ℕ) → k < length firsts → q ≡ get_or firsts k d → q.0 < points → HasRows points (take k firsts) rows
    → row ≡ get_or rows q.0 row → new ≡ row ++ k ∷ [] → HasRows points (take (k + 1) firsts) (set rows q.0 new)
rows_more points firsts k q d rows row new inside read small old at made = record {
  count = length-set rows q.0 new ∙ old.count;
  each = λ p. each p (cases_eq p q.0);
}
  where
    there : q.0 < length rows
    there = subst (λ (n : ℕ). q.0 < n) (sym old.count) small

    so_far : take (k + 1) firsts ≡ take k firsts ++ q ∷ []
    so_far = take_more firsts k d inside ∙ ap (λ (x : PointId). take k firsts ++ x ∷ []) (sym read)

    many : 0 + length (take k firsts) ≡ k
    many = let n = length-take-le k firsts (omega arith) in omega arith

    more : (p : ℕ) (b : Bool) → (q.0 == p) ≡ b → places_from 0 p (take (k + 1) firsts) ≡ places_from 0 p (take k firsts) ++ added k b
    more p b is = ap (places_from 0 p) so_far ∙ places_more 0 p (take k firsts) q b is ∙ ap (λ n. places_from 0 p (take k firsts) ++ added n b) many

    row_is : row ≡ places_from 0 q.0 (take k firsts)
    row_is = get_or_read rows q.0 row there at [] ∙ old.each q.0

    here : get_or (set rows q.0 new) q.0 [] ≡ places_from 0 q.0 (take (k + 1) firsts)
    here = get_or-set_same rows q.0 new [] there ∙ made ∙ ap (λ (xs : List ℕ). xs ++ k ∷ []) row_is ∙ sym (more q.0 true (eq-eqb q.0 q.0 refl))

    each : (p : ℕ) → (p ≡ q.0) ⊎ (p ≢ q.0) → get_or (set rows q.0 new) p [] ≡ places_from 0 p (take (k + 1) firsts)
    each p (inl same) = subst (λ (n : ℕ). get_or (set rows q.0 new) n [] ≡ places_from 0 n (take (k + 1) firsts)) (sym same) here
    each p (inr other) = get_or-set_other rows q.0 p new [] other ∙ old.each p ∙ sym (more p false (ne_eqb q.0 p (λ e. other (sym e))) ∙ append-nil (places_from 0 p (take k firsts)))

-- ---- what it is made of

gate_within : (n end : ℕ) (gs : List Gate) (k : ℕ) (g : Gate) (p : ℕ) → GatesFrom n gs end → slice_get gs k ≡ Some g → IsPointOf g p → p < end
gate_within n end [] k g p all at within = cc
gate_within n end (x ∷ xs) zero g p all at within =
    let same : x ≡ g = cc in
    let first : p < x.after = subst (λ (y : Gate). p < y.after) (sym same) within.1 in
    omega (arith, first, gates_rise x.after end xs all.4)
gate_within n end (x ∷ xs) (suc k) g p all at within = gate_within x.after end xs k g p all.4 at within

pub firsts_within : (flow : Flow) → IsWellFormed flow → (k : ℕ) (p : PointId) → slice_get (first_points flow) k ≡ Some p → p.0 < flow.points
firsts_within flow well k p at = go (slice_get flow.steps k) refl (sym (slice_get-map (λ (s : Step). s.from) flow.steps k) ∙ at)
  where
    go : (o : Option Step) → slice_get flow.steps k ≡ o → option_map (λ (s : Step). s.from) o ≡ Some p → p.0 < flow.points
    go None is e = cc
    go (Some s) is e =
        let same : s.from ≡ p = cc in
        let w = well.steps k s is in
        subst (λ (q : PointId). q.0 < flow.points) same (gate_within 0 flow.points flow.gates s.op.0 w.0 s.from.0 well.ranges w.1 w.2)

-- ---- what it finds

-- all has the steps at places k, k + 1, ..
found : (p k : ℕ) (steps all : List Step) (n : ℕ) → ((j : ℕ) → slice_get all (k + j) ≡ slice_get steps j)
    → option_and_then (slice_get all) (slice_get (places_from k p (map (λ (s : Step). s.from) steps)) n) ≡ slice_get (filter (leaves p) steps) n
found p k [] all n there = refl
found p k (s ∷ steps) all n there = go (s.from.0 == p) n (λ m. found p (k + 1) steps all m later)
  where
    later : (j : ℕ) → slice_get all (k + 1 + j) ≡ slice_get steps j
    later j = let e : k + 1 + j ≡ k + suc j = omega arith in ap (slice_get all) e ∙ there (suc j)

    go : (b : Bool) (m : ℕ) → ((m : ℕ) → option_and_then (slice_get all) (slice_get (places_from (k + 1) p (map (λ (s : Step). s.from) steps)) m) ≡ slice_get (filter (leaves p) steps) m)
        → option_and_then (slice_get all) (slice_get (if b then k ∷ places_from (k + 1) p (map (λ (s : Step). s.from) steps) else places_from (k + 1) p (map (λ (s : Step). s.from) steps)) m) ≡ slice_get (cond b (s ∷ filter (leaves p) steps) (filter (leaves p) steps)) m
    go true zero more = let e : k ≡ k + 0 = omega arith in ap (slice_get all) e ∙ there 0
    go true (suc m) more = more m
    go false m more = more m

pub step_found : (flow : Flow) (index : StepsByPoint) (at nth : ℕ) (row : List ℕ) → IsIndexOf (first_points flow) index → row ≡ get_or index.rows at [] → option_and_then (slice_get flow.steps) (slice_get row nth) ≡ slice_get (steps_from flow at) nth
step_found flow index at nth row is row_is =
    ap (λ (xs : List ℕ). option_and_then (slice_get flow.steps) (slice_get xs nth)) (row_is ∙ is at)
    ∙ found at 0 flow.steps flow.steps nth (λ j. let e : 0 + j ≡ j = omega arith in ap (slice_get flow.steps) e)
