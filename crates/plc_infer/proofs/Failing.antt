-- The first fault of a step, found by running it, and of a flow, step by step.
use Rattle.std.proofs.Common.{◌≡◌, ℕ, suc, ◌+◌, ◌<◌, true, false, List, ◌∷◌, length, get_or, drop, Option, Some, None, sym, ap, subst, ◌∙◌, arith, below_more, drop-cons}
use Rattle.std.specs.Prelude.{is_none}
use Rattle.plc_lang.specs.declared.syntax.Primitive.{Primitive}
use Rattle.plc_auto.specs.declared.observer.Observer.{Observer}
use Rattle.plc_type.specs.declared.env.Env.{Env}
use Rattle.plc_xfer.specs.declared.fault.TypeFault.{TypeFault}
use Rattle.plc_xfer.specs.Rules.{fault_of, env_after}
use Rattle.plc_xfer.specs.Typings.{env_at, fault_at}
use Rattle.plc_lang.specs.Skeleton.{Passage}
use Rattle.plc_infer.specs.declared.program.Edge.{Edge}
use Rattle.plc_infer.specs.declared.program.Program.{Program}
use Rattle.plc_infer.specs.Programs.{edge_of, program_of, passage_at, IsProgram}
use Rattle.plc_infer.specs.Graphs.{graph_of}
use Rattle.plc_infer.specs.Iteration.{Shaped, Holds, HoldBelow, IsFirstFailing}
use Rattle.plc_infer.proofs.Programs.{step_is, steps_length, from_there}

module _ (o : Observer) (first e : Env) (prims : List Primitive) (i : ℕ) (d : Primitive) (small : i < length prims)
    (from_here : (j : ℕ) → fault_at o first prims (i + j) ≡ fault_at o e (drop i prims) j) where
  next : drop i prims ≡ get_or prims i d ∷ drop (suc i) prims
  next = drop-cons prims i d small

  here : fault_at o first prims i ≡ fault_of e (get_or prims i d)
  here =
      let same : i ≡ i + 0 = omega arith in
      ap (fault_at o first prims) same ∙ from_here 0 ∙ ap (λ (ks : List Primitive). fault_at o e ks 0) next

  pub found : (f : TypeFault) → Some f ≡ fault_of e (get_or prims i d) → fault_at o first prims i ≡ Some f
  found f h = here ∙ sym h

  pub failed : is_none (fault_of e (get_or prims i d)) ≡ false → is_none (fault_at o first prims i) ≡ false
  failed h = ap is_none here ∙ h

  pub passed : ((j : ℕ) → j < i → fault_at o first prims j ≡ None) → None ≡ fault_of e (get_or prims i d) → (j : ℕ) → j < i + 1 → fault_at o first prims j ≡ None
  passed before h = below_more (λ (j : ℕ). fault_at o first prims j ≡ None) i before (here ∙ sym h)

  pub goes_on : (after : Env) → after ≡ env_after o e (get_or prims i d) → (j : ℕ) → fault_at o first prims (i + 1 + j) ≡ fault_at o after (drop (i + 1) prims) j
  goes_on after is j =
      let same : i + 1 + j ≡ i + suc j = omega arith in
      let one : suc i ≡ i + 1 = omega arith in
      ap (fault_at o first prims) same ∙ from_here (suc j) ∙ ap (λ (ks : List Primitive). fault_at o e ks (suc j)) next
      ∙ ap (λ (x : Env). fault_at o x (drop (suc i) prims) j) (sym is) ∙ ap (λ (n : ℕ). fault_at o after (drop n prims) j) one

some_is : (f : Option TypeFault) (x : TypeFault) → f ≡ Some x → is_none f ≡ false
some_is f x h = ap is_none h

none_is : (f : Option TypeFault) → f ≡ None → is_none f ≡ true
none_is f h = ap is_none h

abbrev Faulty : Observer → List Env → ℕ → TypeFault → Passage → Type 0
Faulty o envs i f x = (i < length x.prims) × (fault_at o (env_at envs x.from) x.prims i ≡ Some f) × ((j : ℕ) → j < i → fault_at o (env_at envs x.from) x.prims j ≡ None)

abbrev Faultless : Observer → List Env → Passage → Type 0
Faultless o envs x = (i : ℕ) → i < length x.prims → is_none (fault_at o (env_at envs x.from) x.prims i) ≡ true

module _ (o : Observer) (p : Program) (envs : List Env) (k : ℕ) (x : Edge) (e : Env) (well : IsProgram (program_of p)) (shaped : Shaped (graph_of o (program_of p)) envs) (small : k < length p.steps.now)
    (is : x ≡ get_or p.steps.now k x) (read : e ≡ get_or envs x.from.0 e) where
  same : e ≡ env_at envs x.from.0
  same = (from_there o p envs k x well shaped small is e read).0

  pub holds_here : ((i : ℕ) → i < length x.prims.now → fault_at o e x.prims.now i ≡ None) → (i : ℕ) → i < length (passage_at (program_of p) k).prims → Holds (graph_of o (program_of p)) envs k i
  holds_here h =
      let here : Faultless o envs (edge_of x) = λ i within. none_is _ (ap (λ (a : Env). fault_at o a x.prims.now i) (sym same) ∙ h i within) in
      subst (Faultless o envs) (sym (step_is p k x small is)) here

  pub first_failing : (i : ℕ) (f : TypeFault) → HoldBelow (graph_of o (program_of p)) envs k → i < length x.prims.now → fault_at o e x.prims.now i ≡ Some f → ((j : ℕ) → j < i → fault_at o e x.prims.now j ≡ None)
      → IsFirstFailing (graph_of o (program_of p)) envs k i × (fault_at o (env_at envs (passage_at (program_of p) k).from) (passage_at (program_of p) k).prims i ≡ Some f)
  first_failing i f earlier within found before =
      let here : Faulty o envs i f (edge_of x) = (within, ap (λ (a : Env). fault_at o a x.prims.now i) (sym same) ∙ found, λ j less. ap (λ (a : Env). fault_at o a x.prims.now j) (sym same) ∙ before j less) in
      let at = subst (Faulty o envs i f) (sym (step_is p k x small is)) here in (
        record {
          step_in = omega (arith, steps_length p);
          condition_in = at.0;
          fails = some_is _ f at.1;
          earlier = earlier;
          before = λ j less. none_is _ (at.2 j less);
        },
        at.1,
      )
