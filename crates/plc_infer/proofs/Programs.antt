-- What the code reads of a program and of the environments at its points.
use Rattle.std.proofs.Common.{◌≡◌, ℕ, ◌<◌, List, [], length, get_or, Bool, inl, inr, refl, sym, ap, subst, ◌∙◌, arith}
use Rattle.std.specs.Prelude.{slice_set, true, false}
use Rattle.std.proofs.lemmas.List.{length-map, get_or-map, get_or_default}
use Rattle.std.proofs.lemmas.Option.{slice_get_read, get_or_from_slice_get}
use Rattle.plc_auto.specs.declared.observer.Observer.{Observer}
use Rattle.plc_lang.specs.Skeleton.{Skeleton, Passage, locals_at}
use Rattle.plc_type.specs.declared.env.Env.{Env}
use Rattle.plc_type.specs.Environments.{bottom, env_below, env_join, SameShape}
use Rattle.plc_type.proofs.Ordered.{ordered}
use Rattle.plc_xfer.specs.Rules.{FitsObserver}
use Rattle.plc_xfer.specs.Typings.{env_at, led, IsEnvironment, IsStrongest}
use Rattle.plc_xfer.proofs.Order.{kept, well_formed, same_shape, led_is}
use Rattle.plc_xfer.proofs.Facts.{well_formed_fits}
use Rattle.plc_infer.specs.declared.program.Edge.{Edge}
use Rattle.plc_infer.specs.declared.program.Program.{Program}
use Rattle.plc_infer.specs.Programs.{edge_of, program_of, some_passage, passage_at, IsProgram}
use Rattle.plc_infer.specs.Starts.{starts_of}
use Rattle.plc_infer.specs.Graphs.{graph_of, CanRun}
use Rattle.plc_infer.specs.WorkLists.{Looked, Puts}
use Rattle.plc_infer.specs.Trials.{Raises}
use Rattle.plc_infer.specs.Iteration.{Laws, Shaped, Stays, Relaxed, IsStrongest as IsLeast}
use Rattle.plc_infer.proofs.Environments.{fits_is}
use Rattle.plc_infer.proofs.Skeletal.{lawful, starts_shaped, starts_are, strongest_is}

pub steps_length : (p : Program) → length (program_of p).passages ≡ length p.steps.now
steps_length p = length-map p.steps.now edge_of

pub step_is : (p : Program) (k : ℕ) (x : Edge) → k < length p.steps.now → x ≡ get_or p.steps.now k x → passage_at (program_of p) k ≡ edge_of x
step_is p k x small is = get_or-map edge_of p.steps.now k x some_passage small ∙ ap edge_of (sym is)

abbrev pub no_edge : Edge
no_edge = record { from = record { 0 = 0 }; to = record { 0 = 0 }; prims = record { ref_ptr = (0, 0); now = [] } }

-- the step that the code reads
abbrev pub step_at : Program → ℕ → Edge
step_at p k = get_or p.steps.now k no_edge

pub step_read : (p : Program) (k : ℕ) → k < length p.steps.now → step_at p k ≡ get_or p.steps.now k (step_at p k)
step_read p k small = get_or_default p.steps.now k no_edge (step_at p k) small

pub step_from : (p : Program) (k : ℕ) → k < length p.steps.now → (passage_at (program_of p) k).from ≡ (step_at p k).from.0
step_from p k small = ap (λ (x : Passage). x.from) (step_is p k (step_at p k) small (step_read p k small))

pub step_to : (p : Program) (k : ℕ) → k < length p.steps.now → (passage_at (program_of p) k).to ≡ (step_at p k).to.0
step_to p k small = ap (λ (x : Passage). x.to) (step_is p k (step_at p k) small (step_read p k small))

pub from_point : (p : Program) (k : ℕ) → IsProgram (program_of p) → k < length p.steps.now → (step_at p k).from.0 < length (program_of p).locals
from_point p k well small = subst (λ (n : ℕ). n < length (program_of p).locals) (step_from p k small) (well.from_in k (subst (λ (n : ℕ). k < n) (sym (steps_length p)) small))

pub step_short : (p : Program) (k : ℕ) → IsProgram (program_of p) → k < length p.steps.now → length (step_at p k).prims.now < 65536
step_short p k well small = subst (λ (x : Passage). length x.prims < 65536) (step_is p k (step_at p k) small (step_read p k small)) (well.short k (subst (λ (n : ℕ). k < n) (sym (steps_length p)) small))

-- what the lemmas on climbing need of a program
pub program_laws : (o : Observer) (s : Skeleton) → IsProgram s → Laws (graph_of o s)
program_laws o s well = lawful ordered kept o s well

pub program_starts : (o : Observer) (s : Skeleton) → IsProgram s → Shaped (graph_of o s) (starts_of o s)
program_starts o s well = starts_shaped ordered kept o s (starts_of o s) (starts_are ordered kept o s well)

-- what the iteration ends with is a pre-typing below each other
pub program_strongest : (o : Observer) (s : Skeleton) → IsProgram s → (envs : List Env) → IsLeast (graph_of o s) (starts_of o s) envs → IsStrongest o s envs
program_strongest o s well envs least = strongest_is ordered kept o s (starts_of o s) (starts_are ordered kept o s well) well envs least

-- the environment of a point, as the code reads it
env_there : (o : Observer) (s : Skeleton) (envs : List Env) (q : ℕ) (e : Env) → Shaped (graph_of o s) envs → q < length s.locals → e ≡ get_or envs q e
    → (e ≡ env_at envs q) × IsEnvironment o s.shared (locals_at s q) (env_at envs q)
env_there o s envs q e shaped small is =
    let within : q < length envs = omega (arith, shaped.count) in
    let read = slice_get_read envs (length envs) q e refl within is in
    (sym (get_or_from_slice_get envs q e (bottom 0 0) read), fits_is o s.shared (locals_at s q) (env_at envs q) (shaped.fitting q small))

-- what the code did, in the words of the iteration
abbrev Left : Observer → List Env → Passage → Type 0
Left o envs x = env_below (led o (env_at envs x.from) x.prims) (env_at envs x.to) ≡ true

abbrev Raised : Observer → List Env → List Env → Passage → Type 0
Raised o old new x = (env_below (led o (env_at old x.from) x.prims) (env_at old x.to) ≡ false) × (new ≡ slice_set old x.to (env_join (env_at old x.to) (led o (env_at old x.from) x.prims)))

-- a step that the code reads, with environments
module _ (o : Observer) (p : Program) (envs : List Env) (k : ℕ) (x : Edge) (well : IsProgram (program_of p)) (shaped : Shaped (graph_of o (program_of p)) envs)
    (small : k < length p.steps.now) (is : x ≡ get_or p.steps.now k x) where
  within : k < length (program_of p).passages
  within = subst (λ (n : ℕ). k < n) (sym (steps_length p)) small

  from_in : x.from.0 < length (program_of p).locals
  from_in = subst (λ (y : Passage). y.from < length (program_of p).locals) (step_is p k x small is) (well.from_in k within)

  to_in : x.to.0 < length (program_of p).locals
  to_in = subst (λ (y : Passage). y.to < length (program_of p).locals) (step_is p k x small is) (well.to_in k within)

  same_locals : locals_at (program_of p) x.to.0 ≡ locals_at (program_of p) x.from.0
  same_locals = subst (λ (y : Passage). locals_at (program_of p) y.to ≡ locals_at (program_of p) y.from) (step_is p k x small is) (well.same_locals k within)

  pub from_within : x.from.0 < length envs
  from_within = subst (λ (n : ℕ). x.from.0 < n) (sym shaped.count) from_in

  pub to_within : x.to.0 < length envs
  to_within = subst (λ (n : ℕ). x.to.0 < n) (sym shaped.count) to_in

  pub from_there : (e : Env) → e ≡ get_or envs x.from.0 e → (e ≡ env_at envs x.from.0) × IsEnvironment o (program_of p).shared (locals_at (program_of p) x.from.0) (env_at envs x.from.0)
  from_there e read = env_there o (program_of p) envs x.from.0 e shaped from_in read

  pub to_there : (e : Env) → e ≡ get_or envs x.to.0 e → (e ≡ env_at envs x.to.0) × IsEnvironment o (program_of p).shared (locals_at (program_of p) x.to.0) (env_at envs x.to.0)
  to_there e read = env_there o (program_of p) envs x.to.0 e shaped to_in read

  -- an environment as it is read may be handed to the rules
  pub from_fits : (e : Env) → e ≡ get_or envs x.from.0 e → FitsObserver o e
  from_fits e read =
      let from = from_there e read in
      subst (FitsObserver o) (sym from.0) (well_formed_fits o (env_at envs x.from.0) (well_formed o (program_of p).shared (locals_at (program_of p) x.from.0) (env_at envs x.from.0) from.1))

  -- what a step leads to has the shape of its last point
  pub led_shape : (a b : Env) → a ≡ get_or envs x.from.0 a → b ≡ get_or envs x.to.0 b → SameShape b (led o a x.prims.now)
  led_shape a b read_a read_b =
      let from = from_there a read_a in
      let to = to_there b read_b in
      let n = (program_of p).shared in
      let m = locals_at (program_of p) x.from.0 in
      let is_from : IsEnvironment o n m a = subst (IsEnvironment o n m) (sym from.0) from.1 in
      let is_to : IsEnvironment o n m b = subst (λ (l : ℕ). IsEnvironment o n l b) same_locals (subst (IsEnvironment o n (locals_at (program_of p) x.to.0)) (sym to.0) to.1) in
      same_shape o n m b (led o a x.prims.now) is_to (led_is o n m a x.prims.now is_from)

  last_read : env_at envs x.to.0 ≡ get_or envs x.to.0 (env_at envs x.to.0)
  last_read = get_or_default envs x.to.0 (bottom 0 0) (env_at envs x.to.0) to_within

  pub stays : (a b : Env) → a ≡ get_or envs x.from.0 a → b ≡ get_or envs x.to.0 b → env_below (led o a x.prims.now) b ≡ true → Stays (graph_of o (program_of p)) envs k
  stays a b read_a read_b h =
      let from = (from_there a read_a).0 in
      let to = (to_there b read_b).0 in
      let here : Left o envs (edge_of x) = ap (λ (e : Env). env_below (led o e x.prims.now) (env_at envs x.to.0)) (sym from) ∙ ap (env_below (led o a x.prims.now)) (sym to) ∙ h in
      subst (Left o envs) (sym (step_is p k x small is)) here

  pub raised : (new : List Env) (a b c : Env) → a ≡ get_or envs x.from.0 a → b ≡ get_or envs x.to.0 b → env_below (led o a x.prims.now) b ≡ false → c ≡ env_join b (led o a x.prims.now) → new ≡ slice_set envs x.to.0 c
      → Relaxed (graph_of o (program_of p)) k envs new true
  raised new a b c read_a read_b h join made_new =
      let from = (from_there a read_a).0 in
      let to = (to_there b read_b).0 in
      let below : env_below (led o (env_at envs x.from.0) x.prims.now) (env_at envs x.to.0) ≡ false = ap (λ (e : Env). env_below (led o e x.prims.now) (env_at envs x.to.0)) (sym from) ∙ ap (env_below (led o a x.prims.now)) (sym to) ∙ h in
      let made : c ≡ env_join (env_at envs x.to.0) (led o (env_at envs x.from.0) x.prims.now) = join ∙ ap (λ (e : Env). env_join e (led o a x.prims.now)) to ∙ ap (λ (e : Env). env_join (env_at envs x.to.0) (led o e x.prims.now)) from in
      let here : Raised o envs new (edge_of x) = (below, made_new ∙ ap (slice_set envs x.to.0) made) in
      subst (Raised o envs new) (sym (step_is p k x small is)) here

  -- where what was reached is what the step leads to, raising its last point is a look at the step
  raised_look : (new : List Env) (a r : Env) (queue queue' : List ℕ) (marks marks' : List Bool) → a ≡ get_or envs x.from.0 a → r ≡ led o a x.prims.now
      → Raises x.to.0 r envs new queue queue' marks marks' → Looked (graph_of o (program_of p)) k envs new queue queue' marks marks'
  raised_look new a r queue queue' marks marks' read leads (inl (below, same, line, marked)) =
      inl ((stays a (env_at envs x.to.0) read last_read (subst (λ (e : Env). env_below e (env_at envs x.to.0) ≡ true) leads below), same), line, marked)
  raised_look new a r queue queue' marks marks' read leads (inr (out, made, puts)) =
      inr (
        raised new a (env_at envs x.to.0) (env_join (env_at envs x.to.0) r) read last_read (subst (λ (e : Env). env_below e (env_at envs x.to.0) ≡ false) leads out)
            (ap (env_join (env_at envs x.to.0)) leads) made,
        subst (λ (n : ℕ). Puts n queue queue' marks marks') (sym (ap (λ (y : Passage). y.to) (step_is p k x small is))) puts,
      )

-- the step that the code reads has both its points
module _ (o : Observer) (p : Program) (envs : List Env) (k : ℕ) (well : IsProgram (program_of p))
    (shaped : Shaped (graph_of o (program_of p)) envs) (small : k < length p.steps.now) where
  pub from_inside : (step_at p k).from.0 < length envs
  from_inside = from_within o p envs k (step_at p k) well shaped small (step_read p k small)

  pub to_inside : (step_at p k).to.0 < length envs
  to_inside = to_within o p envs k (step_at p k) well shaped small (step_read p k small)

-- the same of a step that may be run
module _ {o : Observer} {p : Program} {k : ℕ} {envs : List Env} (run : CanRun o p k envs) where
  there : step_at p k ≡ get_or p.steps.now k (step_at p k)
  there = step_read p k run.known

  pub run_from_inside : (step_at p k).from.0 < length envs
  run_from_inside = from_within o p envs k (step_at p k) run.program run.shaped run.known there

  pub run_to_inside : (step_at p k).to.0 < length envs
  run_to_inside = to_within o p envs k (step_at p k) run.program run.shaped run.known there

  pub run_fits : (a : Env) → a ≡ get_or envs (step_at p k).from.0 a → FitsObserver o a
  run_fits a read = from_fits o p envs k (step_at p k) run.program run.shaped run.known there a read

  pub run_shape : (a : Env) → a ≡ get_or envs (step_at p k).from.0 a
      → SameShape (env_at envs (step_at p k).to.0) (led o a (step_at p k).prims.now)
  run_shape a read =
      led_shape o p envs k (step_at p k) run.program run.shaped run.known there a (env_at envs (step_at p k).to.0) read
      (last_read o p envs k (step_at p k) run.program run.shaped run.known there)

  pub run_look : (new : List Env) (a r : Env) (queue queue' : List ℕ) (marks marks' : List Bool)
      → a ≡ get_or envs (step_at p k).from.0 a → r ≡ led o a (step_at p k).prims.now
      → Raises (step_at p k).to.0 r envs new queue queue' marks marks'
      → Looked (graph_of o (program_of p)) k envs new queue queue' marks marks'
  run_look = raised_look o p envs k (step_at p k) run.program run.shaped run.known there
