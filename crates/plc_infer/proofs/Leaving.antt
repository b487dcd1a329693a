-- What the index of a program's steps has of a point: each step that leaves the point, and steps alone.
use Rattle.std.proofs.Common.{◌≡◌, ℕ, zero, suc, ◌+◌, ◌<◌, ◌≤◌, Bool, true, false, Some, List, [], ◌∷◌, length, get_or, drop, set, sym, ap, subst, ◌∙◌, arith, inl, inr}
use Rattle.std.specs.Prelude.{◌==◌, if◌then◌else◌, slice_get, option_map}
use Rattle.std.proofs.lemmas.Bool.{eq-eqb}
use Rattle.std.proofs.lemmas.List.{length-map}
use Rattle.std.proofs.lemmas.Option.{slice_get-map, slice_get-get_or, slice_get_within}
use Rattle.plc_base.specs.declared.ids.PointId.{PointId}
use Rattle.plc_auto.specs.declared.observer.Observer.{Observer}
use Rattle.plc_type.specs.declared.env.Env.{Env}
use Rattle.plc_flow.specs.StepsByPoint.{places_from}
use Rattle.plc_infer.specs.declared.program.Edge.{Edge}
use Rattle.plc_infer.specs.declared.program.Program.{Program}
use Rattle.plc_infer.specs.Programs.{program_of, passage_at, first_points, IsProgram}
use Rattle.plc_infer.specs.Graphs.{graph_of, CanRun}
use Rattle.plc_infer.specs.Starts.{starts_of}
use Rattle.plc_infer.specs.WorkLists.{Among, UnderWay}
use Rattle.plc_infer.proofs.Lists.{among_drop}
use Rattle.plc_infer.proofs.Listed.{taken}
use Rattle.plc_infer.proofs.Programs.{steps_length, step_at, step_from, from_point, no_edge, program_laws}

-- ---- places in a list of points

among_places : (k p : ℕ) (qs : List PointId) (j : ℕ) (q : PointId) → slice_get qs j ≡ Some q → q.0 ≡ p → Among (places_from k p qs) (k + j)
among_places k p [] j q at is = cc
among_places k p (r ∷ qs) zero q at is =
    let same : r ≡ q = cc in
    let here : (r.0 == p) ≡ true = ap (λ (x : PointId). x.0 == p) same ∙ eq-eqb q.0 p is in
    let e : k ≡ k + 0 = omega arith in
    subst (λ (b : Bool). Among (if b then k ∷ places_from (k + 1) p qs else places_from (k + 1) p qs) (k + 0)) (sym here) (inl e)
among_places k p (r ∷ qs) (suc j) q at is = go (r.0 == p) (let e : k + 1 + j ≡ k + suc j = omega arith in subst (Among (places_from (k + 1) p qs)) e (among_places (k + 1) p qs j q at is))
  where
    go : (b : Bool) → Among (places_from (k + 1) p qs) (k + suc j) → Among (if b then k ∷ places_from (k + 1) p qs else places_from (k + 1) p qs) (k + suc j)
    go true a = inr a
    go false a = a

places_below : (k p : ℕ) (qs : List PointId) (n : ℕ) → Among (places_from k p qs) n → n < k + length qs
places_below k p [] n a = absurd a
places_below k p (r ∷ qs) n a = go (r.0 == p) a (λ later. let h = places_below (k + 1) p qs n later in omega arith)
  where
    go : (b : Bool) → Among (if b then k ∷ places_from (k + 1) p qs else places_from (k + 1) p qs) n → (Among (places_from (k + 1) p qs) n → n < k + suc (length qs)) → n < k + suc (length qs)
    go true (inl e) rest = omega arith
    go true (inr a) rest = rest a
    go false a rest = rest a

-- ---- the first points of a program

firsts_length : (p : Program) → length (first_points p) ≡ length p.steps.now
firsts_length p = length-map p.steps.now (λ (e : Edge). e.from)

first_at : (p : Program) (k : ℕ) → k < length p.steps.now → slice_get (first_points p) k ≡ Some (step_at p k).from
first_at p k small = slice_get-map (λ (e : Edge). e.from) p.steps.now k ∙ ap (option_map (λ (e : Edge). e.from)) (slice_get-get_or p.steps.now k no_edge small)

some_point : (p q : PointId) → Some p ≡ Some q → p ≡ q
some_point p q e = cc

pub firsts_few : (p : Program) → IsProgram (program_of p) → length (first_points p) ≤ 65536
firsts_few p well = let few = well.few_steps in omega (arith, few, steps_length p, firsts_length p)

pub firsts_within : (p : Program) → IsProgram (program_of p) → (k : ℕ) (q : PointId) → slice_get (first_points p) k ≡ Some q → q.0 < length p.locals.now
firsts_within p well k q at =
    let counted = slice_get_within (first_points p) k q at in
    let inside : k < length p.steps.now = omega (arith, counted, firsts_length p) in
    let same : (step_at p k).from ≡ q = some_point (step_at p k).from q (sym (first_at p k inside) ∙ at) in
    subst (λ (x : PointId). x.0 < length p.locals.now) same (from_point p k well inside)

-- ---- the steps of a point

pub leaving_all : (p : Program) (at k : ℕ) → k < length (program_of p).passages → (passage_at (program_of p) k).from ≡ at → Among (places_from 0 at (first_points p)) k
leaving_all p at k small from =
    let inside : k < length p.steps.now = subst (λ (n : ℕ). k < n) (steps_length p) small in
    let e : 0 + k ≡ k = omega arith in
    subst (Among (places_from 0 at (first_points p))) e (among_places 0 at (first_points p) k (step_at p k).from (first_at p k inside) (sym (step_from p k inside) ∙ from))

pub leaving_known : (p : Program) (at k : ℕ) → Among (places_from 0 at (first_points p)) k → k < length (program_of p).passages
leaving_known p at k a = let h = places_below 0 at (first_points p) k a in omega (arith, h, firsts_length p, steps_length p)

-- a point is taken, and the index has the steps that leave it
pub leaving_taken : (o : Observer) (p : Program) → IsProgram (program_of p) → (asked : ℕ → Env → Type 0) (envs : List Env) (at : ℕ) (queue left steps : List ℕ) (marks unmarked : List Bool)
    → UnderWay (graph_of o (program_of p)) asked (starts_of o (program_of p)) envs queue marks [] → queue ≡ at ∷ left → unmarked ≡ set marks at false → steps ≡ places_from 0 at (first_points p)
    → UnderWay (graph_of o (program_of p)) asked (starts_of o (program_of p)) envs left unmarked steps
leaving_taken o p well asked envs at queue left steps marks unmarked u q m row =
    let graph = graph_of o (program_of p) in
    let starts = starts_of o (program_of p) in
    let before : UnderWay graph asked starts envs (at ∷ left) marks [] = subst (λ (xs : List ℕ). UnderWay graph asked starts envs xs marks []) q u in
    rw (m, row) (taken graph (program_laws o (program_of p) well) asked starts envs at left marks (places_from 0 at (first_points p)) before (leaving_all p at) (leaving_known p at))

-- ---- steps that are still to be looked at

pub may_run : (o : Observer) (p : Program) (asked : ℕ → Env → Type 0) (envs : List Env) (queue : List ℕ) (marks : List Bool) (steps : List ℕ) (i : ℕ)
    → IsProgram (program_of p) → i < length steps → UnderWay (graph_of o (program_of p)) asked (starts_of o (program_of p)) envs queue marks (drop i steps)
    → CanRun o p (get_or steps i 0) envs
may_run o p asked envs queue marks steps i well small under_way = record {
  program = well;
  known = subst (λ (n : ℕ). get_or steps i 0 < n) (steps_length p) (under_way.steps (get_or steps i 0) (among_drop steps i small));
  shaped = under_way.rising.shaped;
}
