-- A step that a thread may take, where what the outline says holds: its claims are true, and the outline's clauses hold
-- after it.
use Rattle.std.proofs.Common.{◌≡◌, ℕ, zero, suc, ◌+◌, ◌<◌, ◌≤◌, Bool, true, false, cond, List, [], ◌∷◌, ◌++◌, take}
use Rattle.std.proofs.Common.{filter, length, count_by, Option, Some, None, slice_get, refl, sym, ap, ◌∙◌, subst, arith}
use Rattle.std.proofs.lemmas.Bool.{eqb-true}
use Rattle.std.proofs.lemmas.List.{length-map}
use Rattle.std.proofs.lemmas.List.Sums.{sum_by-take-le}
use Rattle.std.proofs.lemmas.Option.{slice_get_within}
use Rattle.plc_lang.specs.declared.syntax.Primitive.{Primitive}
use Rattle.plc_lang.specs.declared.syntax.Primitive.TheVariants.{Active}
use Rattle.plc_lang.specs.Allocation.{is_new}
use Rattle.plc_lang.specs.Locals.{locals_of}
use Rattle.plc_lang.specs.Shape.{Shape, shape_of, PrimitiveIn, PrimitivesIn}
use Rattle.plc_lang.specs.WellSorted.{is_claim, AreWellSorted}
use Rattle.plc_flow.specs.declared.flow.Flow.{Flow}
use Rattle.plc_flow.specs.declared.flow.Gate.{Gate}
use Rattle.plc_flow.specs.declared.flow.Step.{Step}
use Rattle.plc_flow.specs.declared.points.Point.{Point}
use Rattle.plc_flow.specs.WellFormed.{GatesFrom}
use Rattle.plc_flow.specs.Points.{leaves, steps_from, IsStepOf}
use Rattle.plc_flow.proofs.Leaving.{filter_member, stay_in_their_gate}
use Rattle.plc_logic.specs.declared.clause.Clause.{Clause}
use Rattle.plc_logic.specs.declared.clause.Outline.{Outline}
use Rattle.plc_logic.specs.Fit.{ClauseFits, InvariantFits}
use Rattle.plc_vocabulary.specs.declared.obligations.Obligation.{Obligation}
use Rattle.plc_vocabulary.specs.declared.obligations.Obligation.TheVariants.{Own, Other, Claim}
use Rattle.plc_vocabulary.specs.Fit.{Fits}
use Rattle.plc_vocabulary.specs.Marks.{program_uses_marks}
use Rattle.plc_vocabulary.specs.Parts.{prims_of, locals_of_step, clauses_before, clauses_after, executed, acting_locals}
use Rattle.plc_vocabulary.specs.Parts.{owner_locals, acting_premises, owner_premises, conclusion}
use Rattle.plc_vocabulary.specs.Points.{count_at, stands_at, clauses_at}
use Rattle.plc_oblig.specs.Obligations.{step_id, point_id}
use Rattle.plc_gc.specs.State.{GcState, count, locals_of as locals_held}
use Rattle.plc_gc.specs.Clauses.{Holds}
use Rattle.plc_gc.specs.Claims.{claim_holds, ClaimsHold}
use Rattle.plc_gc.specs.Primitives.{goes, after}
use Rattle.plc_gc.specs.Ranges.{IsInRange, ValuesAreInRange}
use Rattle.plc_gc.specs.Run.{turn, execute}
use Rattle.plc_gc.specs.Unmarked.{AllUnmarked}
use Rattle.plc_gc.proofs.Busy.{IsBusyAt}
use Rattle.plc_gc.proofs.Frames.{held_is}
use Rattle.plc_flow.proofs.Each.{Each, each_both, each_get}
use Rattle.plc_oblig.proofs.Lists.{each_place, each_of_all}
use Rattle.plc_outline_sound.proofs.Premises.{IsPremise}
use Rattle.plc_outline_sound.proofs.Beginning.{BeginsAs}
use Rattle.plc_outline_sound.proofs.Broken.{scene_of, IsReady}
use Rattle.plc_oblig.proofs.Standing.{Stands, point_clauses_fit, op_locals, locals_at}
use Rattle.plc_outline_sound.proofs.Obliged.{AreMet}
use Rattle.plc_outline_sound.proofs.Concluding.{invariant_read, point_read, invariants_hold, point_hold, concludes, claims_truly}
use Rattle.plc_outline_sound.proofs.Parameters.{shape_fits}
use Rattle.plc_base.proofs.Lists.{slice_left}
use Rattle.plc_vocabulary.proofs.ActSorts.{front_in}
use Rattle.plc_vocabulary.proofs.Fitting.{sorted_front}

-- ---- lists

slice_right : {A : Type 0} (xs ys : List A) (i : ℕ) (x : A) → slice_get ys i ≡ Some x
    → slice_get (xs ++ ys) (length xs + i) ≡ Some x
slice_right [] ys i x at = ap (slice_get ys) (let same : 0 + i ≡ i = omega arith in same) ∙ at
slice_right (y ∷ xs) ys i x at =
    ap (slice_get (y ∷ (xs ++ ys))) (let same : suc (length xs) + i ≡ suc (length xs + i) = omega arith in same)
    ∙ slice_right xs ys i x at

names_at : (h : Shape) (ks : List Primitive) (j : ℕ) (k : Primitive) → PrimitivesIn h ks → slice_get ks j ≡ Some k
    → PrimitiveIn h k
names_at h [] j k is at = cc
names_at h (x ∷ ks) zero k is at = subst (PrimitiveIn h) (let same : x ≡ k = cc in same) is.0
names_at h (x ∷ ks) (suc j) k is at = names_at h ks j k is.1 at

pub clauses_counted : (flow : Flow) (outline : Outline) (p c : ℕ) (x : Clause)
    → slice_get (clauses_at flow outline p) c ≡ Some x → c < count_at flow outline p
clauses_counted flow outline p c x at =
    (let less = slice_get_within (clauses_at flow outline p) c x at in let n =
    length-map (filter (stands_at flow p) outline.items) (λ i. i.clause) in omega arith)

-- ---- points

gates_rise : (n end : ℕ) (gs : List Gate) → GatesFrom n gs end → n ≤ end
gates_rise n end [] h = omega arith
gates_rise n end (g ∷ gs) h = (let r = gates_rise g.after end gs h.4 in let a = h.3 in omega arith)

pub gate_ends : (n end : ℕ) (gs : List Gate) (k : ℕ) (g : Gate) → GatesFrom n gs end → slice_get gs k ≡ Some g
    → g.after ≤ end
gate_ends n end [] k g h at = cc
gate_ends n end (x ∷ gs) zero g h at =
    (let same : x ≡ g = cc in subst (λ (g : Gate). g.after ≤ end) same (gates_rise x.after end gs h.4))
gate_ends n end (x ∷ gs) (suc k) g h at = gate_ends x.after end gs k g h.4 at

-- ---- claims

claims_hold : (t : ℕ) (ks : List Primitive) (g : GcState)
    → ((j : ℕ) (k : Primitive) (h : GcState) → slice_get ks j ≡ Some k → is_claim k ≡ true
    → execute g t (take j ks) ≡ Some h → claim_holds h t k ≡ true) → ClaimsHold g t ks
claims_hold t [] g f = tt
claims_hold t (k ∷ ks) g f = (
  first (is_claim k) refl,
  λ went. claims_hold t ks (after g t k)
      (λ j q h at claim e. f (suc j) q h at claim
      (went_on (goes g t k) went (execute (after g t k) t (take j ks)) e)),
)
  where
    no_claim : (k : Primitive) → is_claim k ≡ false → claim_holds g t k ≡ true
    no_claim (Active p) e = cc
    no_claim k e = refl

    first : (b : Bool) → is_claim k ≡ b → claim_holds g t k ≡ true
    first true is = f zero k g refl is refl
    first false is = no_claim k is

    went_on : {h : GcState} (b : Bool) → b ≡ true → (o : Option GcState) → o ≡ Some h → turn b o ≡ Some h
    went_on true is o e = e
    went_on false is o e = cc

is_active : (k : Primitive) → is_claim k ≡ true → (p : _) × (k ≡ Active p)
is_active (Active p) h = (p, refl)
is_active k h = cc

-- ---- a step

-- a thread at a point from which the step leaves, and all that the outline says of the state
pub record IsAt (flow : Flow) (outline : Outline) (g : GcState) (t : ℕ) (p : Point) (step : Step) : Type 0 where
  pub busy : IsBusyAt flow g t p
  pub nth : ℕ
  pub leaves_there : slice_get (steps_from flow p.at) nth ≡ Some step
  pub fields : g.fields ≡ flow.file.fields
  pub ranges : IsInRange g
  pub unmarked : program_uses_marks flow outline ≡ false → AllUnmarked g
  pub values : ValuesAreInRange flow.file g
  pub invariants : Each (Holds g None) outline.invariants
  pub clauses : Each (Holds g (Some t)) (clauses_at flow outline p.at)

module _ (flow : Flow) (outline : Outline) (fits : Fits flow outline) (met : AreMet flow outline) (g : GcState) (t : ℕ)
    (p : Point) (step : Step) (is : IsAt flow outline g t p step) where
  of_flow : IsStepOf flow p.op is.busy.gate step
  of_flow = stay_in_their_gate flow fits.flow_fits.well p.op is.busy.gate p.at is.nth step is.busy.opens is.busy.within
      is.leaves_there

  from_there : step.from.0 ≡ p.at
  from_there = eqb-true step.from.0 p.at (filter_member (leaves p.at) flow.steps is.nth step is.leaves_there).2

  stands : Stands flow p.op p.at is.busy.operation
  stands = record { gate = is.busy.gate; opens = is.busy.opens; within = is.busy.within; named = is.busy.named }

  stands_to : Stands flow p.op step.to.0 is.busy.operation
  stands_to = record { gate = is.busy.gate; opens = is.busy.opens; within = of_flow.leads; named = is.busy.named }

  declared : (locals_held g t).declared ≡ is.busy.operation.locals
  declared = ap (λ l. l.declared) (held_is g t is.busy.locals is.busy.held) ∙ is.busy.fits.declared

  invariants_fit : Each (InvariantFits flow.file) outline.invariants
  invariants_fit = each_of_all (InvariantFits flow.file) outline.invariants fits.outline_fits.each_invariant

  names : PrimitivesIn (shape_of flow.file is.busy.operation) step.prims
  names = fits.flow_fits.steps of_flow.place step is.busy.operation of_flow.there
      (ap (slice_get flow.file.ops) of_flow.of_op ∙ is.busy.named)

  -- the step's number, its primitives, its operation's locals and the clauses of its points
  prims : prims_of (slice_get flow.steps of_flow.place) ≡ step.prims
  prims = ap prims_of of_flow.there

  its_locals : locals_of_step flow (slice_get flow.steps of_flow.place) ≡ is.busy.operation.locals
  its_locals =
      ap (locals_of_step flow) of_flow.there ∙ ap (locals_of flow.file.ops) of_flow.of_op
      ∙ op_locals flow p.op is.busy.operation is.busy.named

  its_premises : outline.invariants ++ clauses_before flow outline (slice_get flow.steps of_flow.place)
      ≡ outline.invariants ++ clauses_at flow outline p.at
  its_premises =
      ap (λ cs. outline.invariants ++ cs)
      (ap (clauses_before flow outline) of_flow.there ∙ ap (clauses_at flow outline) from_there)

  -- all but the conclusion
  ready : (o : Obligation) (ks : List Primitive) (u : ℕ) (h : GcState) → (u ≡ t → ⊥) → executed flow o ≡ ks
      → acting_locals flow o ≡ is.busy.operation.locals
      → acting_premises flow outline o ≡ outline.invariants ++ clauses_at flow outline p.at
      → ((b : ℕ → ℕ) → BeginsAs (scene_of flow o t u (count g) b) g o)
      → ((b : ℕ → ℕ)
      → Each (IsPremise flow.file (scene_of flow o t u (count g) b) g true) (owner_premises flow outline o))
      → PrimitivesIn (shape_of flow.file is.busy.operation) ks → AreWellSorted flow.file ks → count_by is_new ks ≤ 1
      → execute g t ks ≡ Some h → IsReady flow outline o t u g h
  ready o ks u h ne same locals premises begins owners named sorted one e = record {
    apart = ne;
    shape = shape_of flow.file is.busy.operation;
    shaped = subst (Rattle.plc_outline_sound.proofs.Variables.ShapeFits (shape_of flow.file is.busy.operation)) (sym locals)
        (shape_fits flow.file is.busy.operation
        (fits.sorted.file.each_op p.op is.busy.operation is.busy.named).parameters);
    names = subst (PrimitivesIn (shape_of flow.file is.busy.operation)) (sym same) named;
    sorted = subst (AreWellSorted flow.file) (sym same) sorted;
    one_new = subst (λ ks. count_by is_new ks ≤ 1) (sym same) one;
    taken = ap (execute g t) same ∙ e;
    fields = is.fields;
    ranges = is.ranges;
    unmarked = is.unmarked;
    values = is.values;
    begins = begins;
    acting_holds = λ b. subst (Each (IsPremise flow.file (scene_of flow o t u (count g) b) g false)) (sym premises)
        (each_both (IsPremise flow.file (scene_of flow o t u (count g) b) g false) outline.invariants
        (clauses_at flow outline p.at)
        (invariants_hold flow.file (scene_of flow o t u (count g) b) g outline.invariants invariants_fit is.invariants)
        (point_hold flow.file (scene_of flow o t u (count g) b) g false is.busy.operation.locals
        (clauses_at flow outline p.at) locals declared
        (point_clauses_fit flow outline fits p.op p.at is.busy.operation stands) is.clauses));
    owner_holds = owners;
  }

  other_thread : suc t ≡ t → ⊥
  other_thread e = omega arith

  one : count_by is_new step.prims ≤ 1
  one = (fits.sorted.steps of_flow.place step of_flow.there).one_new

  sorted_all : AreWellSorted flow.file step.prims
  sorted_all = (fits.sorted.steps of_flow.place step of_flow.there).each

  -- ---- claims

  claim_ready : (j : ℕ) (h : GcState) → execute g t (take j step.prims) ≡ Some h
      → IsReady flow outline (Claim (step_id of_flow.place) j) t (suc t) g h
  claim_ready j h e =
      ready (Claim (step_id of_flow.place) j) (take j step.prims) (suc t) h other_thread
      (ap (take j) prims) its_locals its_premises (λ b. tt) (λ b. tt)
      (front_in (shape_of flow.file is.busy.operation) j step.prims names)
      (sorted_front flow.file j step.prims sorted_all)
      (let le = sum_by-take-le (λ x. cond (is_new x) 1 0) step.prims j in let n = one in omega arith) e

  pub claims_true : ClaimsHold g t step.prims
  unfolding claim_ready ready
  claims_true = claims_hold t step.prims g (λ j k h at claim e.
      let a = is_active k claim in
      subst (λ k. claim_holds h t k ≡ true) (sym a.1)
      (claims_truly flow outline (Claim (step_id of_flow.place) j) t (suc t) g h (claim_ready j h e)
      (met.claim of_flow.place step j k of_flow.there at claim) a.0 refl
      (ap (λ ks. slice_get ks j) prims ∙ at ∙ ap Some a.1)
      (subst (PrimitiveIn (shape_of flow.file is.busy.operation)) a.1
      (names_at (shape_of flow.file is.busy.operation) step.prims j k names at))))

  -- ---- after the step

  own_ready : (c : ℕ) (h : GcState) → execute g t step.prims ≡ Some h
      → IsReady flow outline (Own (step_id of_flow.place) c) t (suc t) g h
  own_ready c h e =
      ready (Own (step_id of_flow.place) c) step.prims (suc t) h other_thread prims its_locals its_premises (λ b. tt)
      (λ b. tt) names sorted_all one e

  own_conclusion : (c : ℕ)
      → conclusion flow outline (Own (step_id of_flow.place) c)
      ≡ slice_get (outline.invariants ++ clauses_at flow outline step.to.0) c
  own_conclusion c = ap (λ s. slice_get (outline.invariants ++ clauses_after flow outline s) c) of_flow.there

  pub invariants_after : (h : GcState) → execute g t step.prims ≡ Some h → Each (Holds h None) outline.invariants
  invariants_after h e = each_place (Holds h None) outline.invariants (λ i c at.
      concludes flow outline (Own (step_id of_flow.place) i) t (suc t) g h (own_ready i h e)
      (met.own of_flow.place step i of_flow.there
      (let less = slice_get_within outline.invariants i c at in omega arith)) c None
      (own_conclusion i ∙ slice_left outline.invariants (clauses_at flow outline step.to.0) i c at) refl
      (record {
        locals = [];
        in_operation = false;
        reads =
            λ b. invariant_read flow.file
            (scene_of flow (Own (step_id of_flow.place) i) t (suc t) (count g) b) h false c;
        fits = each_get (InvariantFits flow.file) outline.invariants invariants_fit i c at;
      }))

  pub own_after : (h : GcState) → execute g t step.prims ≡ Some h
      → (locals_held h t).declared ≡ is.busy.operation.locals
      → Each (Holds h (Some t)) (clauses_at flow outline step.to.0)
  own_after h e held = each_place (Holds h (Some t)) (clauses_at flow outline step.to.0) (λ j c at.
      concludes flow outline (Own (step_id of_flow.place) (length outline.invariants + j)) t (suc t) g h
      (own_ready (length outline.invariants + j) h e)
      (met.own of_flow.place step (length outline.invariants + j) of_flow.there
      (let less = clauses_counted flow outline step.to.0 j c at in omega arith)) c (Some t)
      (own_conclusion (length outline.invariants + j)
      ∙ slice_right outline.invariants (clauses_at flow outline step.to.0) j c at) refl
      (record {
        locals = is.busy.operation.locals;
        in_operation = true;
        reads = λ b. point_read flow.file
            (scene_of flow (Own (step_id of_flow.place) (length outline.invariants + j)) t (suc t)
            (count g) b) h false is.busy.operation.locals c its_locals held;
        fits = each_get (ClauseFits flow.file is.busy.operation.locals true) (clauses_at flow outline step.to.0)
            (point_clauses_fit flow outline fits p.op step.to.0 is.busy.operation stands_to) j c at;
      }))

  module _ (u : ℕ) (q : Point) (ne : u ≡ t → ⊥) (other : IsBusyAt flow g u q)
      (holds : Each (Holds g (Some u)) (clauses_at flow outline q.at)) where
    stands_other : Stands flow q.op q.at other.operation
    stands_other = record { gate = other.gate; opens = other.opens; within = other.within; named = other.named }

    other_fits : Each (ClauseFits flow.file other.operation.locals true) (clauses_at flow outline q.at)
    other_fits = point_clauses_fit flow outline fits q.op q.at other.operation stands_other

    other_locals : owner_locals flow (Other (step_id of_flow.place) (point_id q.at) 0) ≡ other.operation.locals
    other_locals = locals_at flow outline fits q.op q.at other.operation stands_other

    other_declared : (locals_held g u).declared ≡ other.operation.locals
    other_declared = ap (λ l. l.declared) (held_is g u other.locals other.held) ∙ other.fits.declared

    other_ready : (c : ℕ) (h : GcState) → execute g t step.prims ≡ Some h
        → IsReady flow outline (Other (step_id of_flow.place) (point_id q.at) c) t u g h
    other_ready c h e =
        ready (Other (step_id of_flow.place) (point_id q.at) c) step.prims u h ne prims its_locals its_premises
        (λ b. tt)
        (λ b. point_hold flow.file
        (scene_of flow (Other (step_id of_flow.place) (point_id q.at) c) t u
        (count g) b) g true other.operation.locals
        (clauses_at flow outline q.at) other_locals other_declared other_fits holds)
        names sorted_all one e

    small : q.at < flow.points
    small = (let a = other.within.1 in let b =
        gate_ends 0 flow.points flow.gates q.op other.gate fits.flow_fits.well.ranges other.opens in omega arith)

    pub other_after : (h : GcState) → execute g t step.prims ≡ Some h
        → (locals_held h u).declared ≡ other.operation.locals → Each (Holds h (Some u)) (clauses_at flow outline q.at)
    other_after h e held = each_place (Holds h (Some u)) (clauses_at flow outline q.at) (λ j c at.
        concludes flow outline (Other (step_id of_flow.place) (point_id q.at) j) t u g h (other_ready j h e)
        (met.other of_flow.place step q.at j of_flow.there small (clauses_counted flow outline q.at j c at)) c
        (Some u) at refl
        (record {
          locals = other.operation.locals;
          in_operation = true;
          reads = λ b. point_read flow.file
              (scene_of flow (Other (step_id of_flow.place) (point_id q.at) j) t u
              (count g) b) h true other.operation.locals c other_locals held;
          fits = each_get (ClauseFits flow.file other.operation.locals true)
              (clauses_at flow outline q.at) other_fits j c at;
        }))
