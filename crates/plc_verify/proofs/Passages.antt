-- Steps of a flow over environments, part by part and together.
use Rattle.std.proofs.Common.{◌≡◌, ℕ, suc, ◌<◌, ◌≤◌, Bool, true, false, List, [], ◌∷◌, length, get_or, replicate, Some, None, refl, sym, ap, subst, ◌∙◌, arith, inl, inr}
use Rattle.std.specs.Prelude.{slice_get, option_map, Result, Ok, Err, MatchResult}
use Rattle.std.proofs.lemmas.Bool.{and_from, cases_lt}
use Rattle.std.proofs.lemmas.List.{length-map, get_or_default, get_or_past}
use Rattle.std.proofs.lemmas.List.Sums.{count_by-le-length}
use Rattle.std.proofs.lemmas.Option.{slice_get-map, slice_get_within, slice_get_past, slice_get_cases}
use Rattle.plc_base.specs.Mask.{within}
use Rattle.plc_base.specs.Limits.{most}
use Rattle.plc_base.specs.declared.limits.What1.TheVariants as limits
use Rattle.plc_lang.specs.declared.syntax.Op.{Op}
use Rattle.plc_lang.specs.declared.syntax.Primitive.{Primitive}
use Rattle.plc_lang.specs.Locals.{is_pointer}
use Rattle.plc_lang.specs.Fit.{FileFits}
use Rattle.plc_lang.specs.declared.syntax.Var.TheVariants as vars
use Rattle.plc_lang.specs.Skeleton.{Passage, locals_at}
use Rattle.plc_auto.specs.declared.observer.Observer.{Observer}
use Rattle.plc_auto.specs.Sets.{all_locations}
use Rattle.plc_type.specs.declared.env.PtrType.{PtrType}
use Rattle.plc_type.specs.declared.env.Env.{Env}
use Rattle.plc_type.specs.Types.{bare, type_below}
use Rattle.plc_type.specs.Environments.{types_below, env_below, bottom, entry}
use Rattle.plc_type.proofs.Ordered.{env_parts, env_from}
use Rattle.plc_xfer.specs.Rules.{type_of, FitsObserver}
use Rattle.plc_xfer.specs.Typings.{IsEnvironment, IsTyping, env_at, led, fault_at, fault_in, fault_under}
use Rattle.plc_xfer.proofs.Order.{bottom_least, led_is, well_formed, replicate_below}
use Rattle.plc_xfer.proofs.Facts.{well_formed_fits}
use Rattle.plc_flow.specs.declared.flow.Gate.{Gate}
use Rattle.plc_flow.specs.declared.flow.Step.{Step}
use Rattle.plc_flow.specs.declared.flow.Flow.{Flow}
use Rattle.plc_flow.specs.Skeleton.{skeleton_of, passage_of}
use Rattle.plc_flow.specs.WellFormed.{IsWellFormed}
use Rattle.plc_verify.specs.declared.fault.Slot.{Slot}
use Rattle.plc_verify.specs.declared.fault.Slot.TheVariants.{W, Local}
use Rattle.plc_verify.specs.Environments.{with_shared, PointsHold, EntryHolds, EntriesHold, StepHolds, LocalBelow, IsFirstAbove, FailsInStep, FailsAfterStep}
use Rattle.plc_verify.specs.declared.fault.VerifyFault.{VerifyFault}
use Rattle.plc_verify.specs.declared.steps.Outcome.{Outcome}
use Rattle.plc_verify.specs.Tests.{NoneAbove, IsRun, MayFail}
use Rattle.plc_verify.proofs.Points.{no_gate, read_gate, there, entry_point}
use Rattle.plc_flow.proofs.Gates.{point_count}

-- ---- two environments

pub local_at : (e : Env) (v : ℕ) → type_of e (vars.Local v) ≡ get_or e.locals v (bare e.w)
unfolding type_of
local_at e v = refl

-- the types that the code reads are those of the locals
pub compared : (a b : Env) (ts us : List PtrType) (v : ℕ) (t u : PtrType) → ts ≡ a.locals → us ≡ b.locals → v < length ts → length a.locals ≡ length b.locals → t ≡ get_or ts v t → u ≡ get_or us v u
    → type_below t u ≡ type_below (type_of a (vars.Local v)) (type_of b (vars.Local v))
compared a b ts us v t u at bt small same x y =
    let one : v < length a.locals = subst (λ (zs : List PtrType). v < length zs) at small in
    let other : v < length b.locals = omega arith in
    let first : t ≡ type_of a (vars.Local v) = x ∙ ap (λ (zs : List PtrType). get_or zs v t) at ∙ get_or_default a.locals v t (bare a.w) one ∙ sym (local_at a v) in
    let second : u ≡ type_of b (vars.Local v) = y ∙ ap (λ (zs : List PtrType). get_or zs v u) bt ∙ get_or_default b.locals v u (bare b.w) other ∙ sym (local_at b v) in
    ap (λ (z : PtrType). type_below z u) first ∙ ap (type_below (type_of a (vars.Local v))) second

bare_below : (m n : ℕ) → within m n ≡ true → type_below (bare m) (bare n) ≡ true
bare_below m n h = and_from _ _ refl h

-- there are no locals past the end
pub past_end : (a b : Env) (v : ℕ) → length a.locals ≤ v → length a.locals ≡ length b.locals → within a.w b.w ≡ true → LocalBelow a b v
past_end a b v past same h =
    let first : type_of a (vars.Local v) ≡ bare a.w = local_at a v ∙ get_or_past a.locals v (bare a.w) past in
    let second : type_of b (vars.Local v) ≡ bare b.w = local_at b v ∙ get_or_past b.locals v (bare b.w) (omega arith) in
    ap (λ (z : PtrType). type_below z (type_of b (vars.Local v))) first ∙ ap (type_below (bare a.w)) second ∙ bare_below a.w b.w h

pub none_above : (a b : Env) (n : ℕ) → length a.locals ≤ n → length a.locals ≡ length b.locals → within a.w b.w ≡ true → ((u : ℕ) → u < n → LocalBelow a b u) → NoneAbove a b
none_above a b n all same h below = (
  h,
  λ v. elim (cases_lt v n) [
    | inl low ↦ below v low
    | inr high ↦ past_end a b v (omega arith) same h
  ],
)

-- types of shared pointers in the second change nothing of how the first compares with it
pub none_above_whole : (n : ℕ) (a b : Env) → NoneAbove a b → NoneAbove a (with_shared n b)
unfolding type_of
none_above_whole n a b none = none

pub first_above_whole : (n : ℕ) (a b : Env) (var : Slot) → IsFirstAbove a b var → IsFirstAbove a (with_shared n b) var
unfolding type_of
first_above_whole n a b W above = above
first_above_whole n a b (Local v) above = above

types_from : (x y : List PtrType) (t u : PtrType) → length x ≡ length y → ((v : ℕ) → type_below (get_or x v t) (get_or y v u) ≡ true) → types_below x y ≡ true
types_from [] y t u same h = refl
types_from (a ∷ x) [] t u same h = absurd (omega arith)
types_from (a ∷ x) (b ∷ y) t u same h = and_from _ _ (h 0) (types_from x y t u (omega arith) (λ v. h (suc v)))

shared_below : (o : Observer) (n m : ℕ) (a b : Env) → IsEnvironment o n m a → IsEnvironment o n m b → within a.w b.w ≡ true → types_below a.shared b.shared ≡ true
shared_below o n m a b x y h =
    ap (λ (ts : List PtrType). types_below ts b.shared) x.shared_types ∙ ap (types_below (replicate n (bare a.w))) y.shared_types
    ∙ replicate_below n (bare a.w) (bare b.w) (bare_below a.w b.w h)

all_below : (o : Observer) (n m : ℕ) (a b : Env) → IsEnvironment o n m a → IsEnvironment o n m b → NoneAbove a b → env_below a b ≡ true
unfolding type_of
all_below o n m a b x y (anywhere, each) =
    env_from a b anywhere (shared_below o n m a b x y anywhere) (types_from a.locals b.locals (bare a.w) (bare b.w) (x.count ∙ sym y.count) each)

entry_below : (o : Observer) (n m : ℕ) (e : Env) → IsEnvironment o n m e → within (all_locations o) e.w ≡ true → env_below (entry n m (all_locations o)) e ≡ true
entry_below o n m e x h =
    env_from (entry n m (all_locations o)) e h
    (ap (types_below (replicate n (bare (all_locations o)))) x.shared_types ∙ replicate_below n (bare (all_locations o)) (bare e.w) (bare_below (all_locations o) e.w h))
    (env_parts (bottom n m) e (bottom_least o n m e x)).2

-- ---- the ends of a step

-- both are points, with environments for the same pointers
pub record Ends (o : Observer) (flow : Flow) (envs : List Env) (s : Step) : Type 0 where
  pub from_in : s.from.0 < length envs
  pub to_in : s.to.0 < length envs
  pub from_is : IsEnvironment o (length flow.file.shared) (locals_at (skeleton_of flow) s.from.0) (env_at envs s.from.0)
  pub to_is : IsEnvironment o (length flow.file.shared) (locals_at (skeleton_of flow) s.from.0) (env_at envs s.to.0)
  pub few : locals_at (skeleton_of flow) s.from.0 ≤ most limits.Locals

pub ends : (o : Observer) (flow : Flow) (envs : List Env) (k : ℕ) (s : Step) → IsWellFormed flow → FileFits flow.file → PointsHold o (skeleton_of flow) envs → slice_get flow.steps k ≡ Some s → Ends o flow envs s
ends o flow envs k s w file points e =
    let at = w.steps k s e in
    elim (slice_get_cases flow.file.ops s.op.0).1 [
      | inl found ↦ here at.0 at.1 found.0 found.2 at.2 at.3
      | inr past ↦ let small = slice_get_within flow.gates s.op.0 at.0 at.1 in let same = w.gates in absurd (let p = past.0 in omega arith)
    ]
  where
    here : (g : Gate) → slice_get flow.gates s.op.0 ≡ Some g → (op : Op) → slice_get flow.file.ops s.op.0 ≡ Some op → (g.first ≤ s.from.0) × (s.from.0 < g.after) → (g.first ≤ s.to.0) × (s.to.0 < g.after) → Ends o flow envs s
    here g gate_is op op_is from to =
        let f = there flow s.op.0 s.from.0 g op w gate_is op_is from in
        let t = there flow s.op.0 s.to.0 g op w gate_is op_is to in
        let count = point_count flow w in
        let one_each = points.one_each in
        let fp = f.point in
        let tp = t.point in
        let same : locals_at (skeleton_of flow) s.to.0 ≡ locals_at (skeleton_of flow) s.from.0 = t.locals ∙ sym f.locals in
        record {
          from_in = omega arith;
          to_in = omega arith;
          from_is = points.points s.from.0 (omega arith);
          to_is = subst (λ (m : ℕ). IsEnvironment o (length flow.file.shared) m (env_at envs s.to.0)) same (points.points s.to.0 (omega arith));
          few = let l = (file.each_op s.op.0 op op_is).locals in let n = count_by-le-length is_pointer op.locals in let m = f.locals in omega arith;
        }

-- the environment that the code reads
pub env_read : (envs : List Env) (p : ℕ) (e : Env) → p < length envs → e ≡ get_or envs p e → e ≡ env_at envs p
env_read envs p e small is = is ∙ get_or_default envs p e (bottom 0 0) small

pub env_fits_observer : (o : Observer) (n m : ℕ) (e : Env) → IsEnvironment o n m e → FitsObserver o e
env_fits_observer o n m e x = well_formed_fits o e (well_formed o n m e x)

-- ---- what is judged of a step

module _ (o : Observer) (flow : Flow) (envs : List Env) (k : ℕ) (s : Step) (w : IsWellFormed flow) (file : FileFits flow.file) (entries : EntriesHold o (skeleton_of flow) envs) (is : slice_get flow.steps k ≡ Some s) where
  passage_here : slice_get (skeleton_of flow).passages k ≡ Some (passage_of s)
  passage_here = slice_get-map passage_of flow.steps k ∙ ap (option_map passage_of) is

  under : (i : ℕ) → fault_under o (skeleton_of flow) envs k i ≡ fault_at o (env_at envs s.from.0) s.prims i
  under i = ap (fault_in o envs i) passage_here

  pub in_step : (i : ℕ) → ((l : ℕ) → l < k → StepHolds o (skeleton_of flow) envs l) → ((j : ℕ) → j < i → fault_at o (env_at envs s.from.0) s.prims j ≡ None)
      → (fault_at o (env_at envs s.from.0) s.prims i ≡ None → ⊥) → FailsInStep o (skeleton_of flow) envs k i
  in_step i before sooner fails = record {
    entries = entries;
    before = before;
    sooner = λ j h. under j ∙ sooner j h;
    fails = λ h. fails (sym (under i) ∙ h);
  }

  pub after_step : (var : Slot) → ((l : ℕ) → l < k → StepHolds o (skeleton_of flow) envs l) → ((i : ℕ) → fault_at o (env_at envs s.from.0) s.prims i ≡ None)
      → IsFirstAbove (led o (env_at envs s.from.0) s.prims) (env_at envs s.to.0) var → FailsAfterStep o (skeleton_of flow) envs k var
  after_step var before runs above = record {
    entries = entries;
    before = before;
    runs = λ i. under i ∙ runs i;
    passage = passage_of s;
    passage_is = passage_here;
    fails = above;
  }

  -- what the code has run is the step from the environment of its first point
  pub ran : (e : Env) (ps : List Primitive) (r : Outcome) → e ≡ env_at envs s.from.0 → ps ≡ s.prims → IsRun o e ps r → IsRun o (env_at envs s.from.0) s.prims r
  ran e ps r env prims run = subst (λ (x : Env). IsRun o x s.prims r) env (subst (λ (ks : List Primitive). IsRun o e ks r) prims run)

  pub same_locals : length (led o (env_at envs s.from.0) s.prims).locals ≡ length (env_at envs s.to.0).locals
  same_locals =
      let e = ends o flow envs k s w file entries.points is in
      (led_is o _ _ (env_at envs s.from.0) s.prims e.from_is).count ∙ sym e.to_is.count

  pub few_locals : length (led o (env_at envs s.from.0) s.prims).locals ≤ 65536
  few_locals =
      let e = ends o flow envs k s w file entries.points is in
      let count = (led_is o _ _ (env_at envs s.from.0) s.prims e.from_is).count in
      let few = e.few in
      omega arith

  pub step_holds : ((i : ℕ) → fault_at o (env_at envs s.from.0) s.prims i ≡ None) → NoneAbove (led o (env_at envs s.from.0) s.prims) (env_at envs s.to.0) → StepHolds o (skeleton_of flow) envs k
  step_holds runs none = (
    λ i. under i ∙ runs i,
    λ x e.
        let same : passage_of s ≡ x = let both : Some (passage_of s) ≡ Some x = sym passage_here ∙ e in cc in
        subst (λ (y : Passage). env_below (led o (env_at envs y.from) y.prims) (env_at envs y.to) ≡ true) same below,
  )
    where
      below : env_below (led o (env_at envs s.from.0) s.prims) (env_at envs s.to.0) ≡ true
      below =
          let e = ends o flow envs k s w file entries.points is in
          all_below o (length flow.file.shared) (locals_at (skeleton_of flow) s.from.0) (led o (env_at envs s.from.0) s.prims) (env_at envs s.to.0)
          (led_is o (length flow.file.shared) (locals_at (skeleton_of flow) s.from.0) (env_at envs s.from.0) s.prims e.from_is) e.to_is none

-- ---- entries

module _ (o : Observer) (flow : Flow) (envs : List Env) (w : IsWellFormed flow) (one_each : length envs ≡ flow.points) (i : ℕ) (gs : List Gate) (gates_are : gs ≡ flow.gates)
    (small : i < length gs) where
  abbrev pub gate : Gate
  gate = get_or gs i no_gate

  gate_is : slice_get flow.gates i ≡ Some gate
  gate_is = read_gate gs flow.gates i gates_are (subst (λ (hs : List Gate). i < length hs) gates_are small)

  entry_here : slice_get (skeleton_of flow).entries i ≡ Some gate.entry.0
  entry_here = slice_get-map (λ (x : Gate). x.entry.0) flow.gates i ∙ ap (option_map (λ (x : Gate). x.entry.0)) gate_is

  pub entry_in : gate.entry.0 < length envs
  entry_in = let h = entry_point flow i gate w gate_is in omega arith

  -- the environment that the code reads there, and how its locations compare with all
  module _ (e : Env) (read : e ≡ get_or envs gate.entry.0 e) (all : ℕ) (all_are : all ≡ all_locations o) (test : Bool) (tested : test ≡ within all (get_or envs gate.entry.0 e).w) where
    all_within : within (all_locations o) e.w ≡ test
    all_within = ap (λ (m : ℕ). within m e.w) (sym all_are) ∙ ap (λ (x : Env). within all x.w) read ∙ sym tested

    read_is : e ≡ env_at envs gate.entry.0
    read_is = env_read envs gate.entry.0 e entry_in read

    pub entry_holds : test ≡ true → EntryHolds o (skeleton_of flow) envs i
    entry_holds h p at =
        let same : gate.entry.0 ≡ p = let both : Some gate.entry.0 ≡ Some p = sym entry_here ∙ at in cc in
        subst (λ (q : ℕ). within (all_locations o) (env_at envs q).w ≡ true) same
        (subst (λ (x : Env). within (all_locations o) x.w ≡ true) read_is (all_within ∙ h))

    pub entry_fails : test ≡ false → EntryHolds o (skeleton_of flow) envs i → ⊥
    entry_fails h holds =
        let at : within (all_locations o) e.w ≡ true = subst (λ (x : Env). within (all_locations o) x.w ≡ true) (sym read_is) (holds gate.entry.0 entry_here) in
        let both : false ≡ true = sym h ∙ sym all_within ∙ at in
        absurd cc

pub no_entry : (o : Observer) (flow : Flow) (envs : List Env) (i : ℕ) → length flow.gates ≤ i → EntryHolds o (skeleton_of flow) envs i
no_entry o flow envs i past p at =
    let none = slice_get_past (skeleton_of flow).entries i (let l = length-map flow.gates (λ (x : Gate). x.entry.0) in omega arith) in
    let both : Some p ≡ None = sym at ∙ none in
    absurd cc

-- ---- all of it

pub is_typing : (o : Observer) (flow : Flow) (envs : List Env) → IsWellFormed flow → EntriesHold o (skeleton_of flow) envs
    → ((k : ℕ) → k < length flow.steps → StepHolds o (skeleton_of flow) envs k) → IsTyping o (skeleton_of flow) envs
is_typing o flow envs w h steps = record {
  pretyping = record {
    count = h.points.one_each;
    environments = h.points.points;
    entries = λ i p e. entry_below o (length flow.file.shared) (locals_at (skeleton_of flow) p) (env_at envs p) (h.points.points p (point_of i p e)) (h.entries i p e);
    flows = λ k x e. (steps k (let l = length-map flow.steps passage_of in let s = slice_get_within (skeleton_of flow).passages k x e in omega arith)).1 x e;
  };
  holding = λ k i. elim (cases_lt k (length flow.steps)) [
    | inl small ↦ (steps k small).0 i
    | inr past ↦ ap (fault_in o envs i) (slice_get_past (skeleton_of flow).passages k (let l = length-map flow.steps passage_of in omega arith))
  ];
}
  where
    point_of : (i p : ℕ) → slice_get (skeleton_of flow).entries i ≡ Some p → p < length (skeleton_of flow).locals
    point_of i p e = elim (slice_get_cases flow.gates i).1 [
      | inl found ↦
          let h = entry_point flow i found.0 w found.2 in
          let count = point_count flow w in
          let here : slice_get (skeleton_of flow).entries i ≡ Some found.0.entry.0 = slice_get-map (λ (x : Gate). x.entry.0) flow.gates i ∙ ap (option_map (λ (x : Gate). x.entry.0)) found.2 in
          let both : Some found.0.entry.0 ≡ Some p = sym here ∙ e in
          let same : found.0.entry.0 ≡ p = cc in
          omega arith
      | inr past ↦
          let none = slice_get_past (skeleton_of flow).entries i (let l = length-map flow.gates (λ (x : Gate). x.entry.0) in let q = past.0 in omega arith) in
          let both : Some p ≡ None = sym e ∙ none in
          absurd cc
    ]

-- the answer on steps is the answer on the whole
pub typed : (o : Observer) (flow : Flow) (envs : List Env) → IsWellFormed flow → EntriesHold o (skeleton_of flow) envs → (r : Result (Unit {0}) VerifyFault)
    → MatchResult r (λ _. (k : ℕ) → k < length flow.steps → StepHolds o (skeleton_of flow) envs k) (MayFail o (skeleton_of flow) envs)
    → MatchResult r (λ _. IsTyping o (skeleton_of flow) envs) (MayFail o (skeleton_of flow) envs)
typed o flow envs w entries (Ok u) h = is_typing o flow envs w entries h
typed o flow envs w entries (Err f) h = h
