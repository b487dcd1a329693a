-- Environments as a certificate has them, and with types of shared pointers.
use Rattle.std.proofs.Common.{◌≡◌, ℕ, zero, suc, ◌+◌, ◌<◌, ◌≤◌, true, false, length, map, drop, get_or, Some, List, [], ◌∷◌, refl, sym, ap, subst, ◌∙◌, arith, inl, inr}
use Rattle.std.specs.Prelude.{slice_get}
use Rattle.std.proofs.lemmas.Bool.{and_parts, and_from, eq-eqb, eqb-true, cases_lt}
use Rattle.std.proofs.lemmas.List.{length-map, get_or-map, drop_all}
use Rattle.plc_lang.specs.declared.syntax.Op.{Op}
use Rattle.plc_lang.specs.Locals.{pointers_of}
use Rattle.plc_base.specs.Mask.{within}
use Rattle.plc_lang.specs.Skeleton.{Skeleton, locals_at}
use Rattle.plc_auto.specs.declared.observer.Observer.{Observer}
use Rattle.plc_auto.specs.Sets.{all_locations}
use Rattle.plc_type.specs.declared.env.Env.{Env}
use Rattle.plc_type.specs.Environments.{bottom}
use Rattle.plc_xfer.specs.Typings.{IsEnvironment, env_at}
use Rattle.plc_flow.specs.declared.flow.Gate.{Gate}
use Rattle.plc_flow.specs.declared.flow.Flow.{Flow}
use Rattle.plc_flow.specs.Skeleton.{skeleton_of}
use Rattle.plc_flow.specs.WellFormed.{IsWellFormed, IsPointOf}
use Rattle.plc_verify.specs.Environments.{with_shared, completed, PointHolds, PointsHold, EntryHolds, EntriesHold, IsFirstNarrow, FailsAtPoint}
use Rattle.plc_verify.specs.Tests.{env_fits, IsFirstUnfit, AllFit}
use Rattle.plc_verify.proofs.Points.{no_gate, read_gate, read_item, there, extent, begins, begins_at}
use Rattle.plc_flow.proofs.Gates.{point_count}

-- the test says whether an environment is one
is_env : (o : Observer) (n m : ℕ) (e : Env) → env_fits o m e ≡ true → IsEnvironment o n m (with_shared n e)
is_env o n m e h =
    let a = and_parts _ _ h in
    let b = and_parts _ _ a.1 in
    record { anywhere = a.0; shared_types = refl; count = eqb-true _ _ b.0; types = b.1 }

no_env : (o : Observer) (n m : ℕ) (e : Env) → env_fits o m e ≡ false → IsEnvironment o n m (with_shared n e) → ⊥
no_env o n m e h x =
    let fits : env_fits o m e ≡ true = and_from _ _ x.anywhere (and_from _ _ (eq-eqb _ _ x.count) x.types) in
    absurd cc

pub completed_length : (flow : Flow) (envs : List Env) → length (completed flow envs) ≡ length envs
completed_length flow envs = length-map envs (with_shared (length flow.file.shared))

pub completed_at : (flow : Flow) (envs : List Env) (p : ℕ) → p < length envs → env_at (completed flow envs) p ≡ with_shared (length flow.file.shared) (env_at envs p)
completed_at flow envs p small = get_or-map (with_shared (length flow.file.shared)) envs p (bottom 0 0) (bottom 0 0) small

-- types of shared pointers leave W as it is, so each operation begins as before
same_w : (n : ℕ) (envs : List Env) (p : ℕ) → (env_at (map (with_shared n) envs) p).w ≡ (env_at envs p).w
same_w n [] p = refl
same_w n (e ∷ es) zero = refl
same_w n (e ∷ es) (suc p) = same_w n es p

module _ (o : Observer) (s : Skeleton) (flow : Flow) (envs : List Env) where
  same_entry : (p : ℕ) → within (all_locations o) (env_at (completed flow envs) p).w ≡ within (all_locations o) (env_at envs p).w
  same_entry p = ap (within (all_locations o)) (same_w (length flow.file.shared) envs p)

  entry_whole : (i : ℕ) → EntryHolds o s envs i → EntryHolds o s (completed flow envs) i
  entry_whole i holds p at = same_entry p ∙ holds p at

  pub narrow_whole : (i : ℕ) → IsFirstNarrow o s envs i → IsFirstNarrow o s (completed flow envs) i
  narrow_whole i narrow = record {
    before = λ j h. entry_whole j (narrow.before j h);
    fails = λ holds. narrow.fails (λ p at. sym (same_entry p) ∙ holds p at);
  }

module _ (flow : Flow) (w : IsWellFormed flow) (o : Observer) (envs : List Env) (one_each : length envs ≡ flow.points) where
  abbrev Holds : ℕ → Type 0
  Holds p = PointHolds o (skeleton_of flow) (completed flow envs) p

  one_for_each : length (completed flow envs) ≡ length (skeleton_of flow).locals
  one_for_each = completed_length flow envs ∙ one_each ∙ sym (point_count flow w)

  pub points_hold : ((p : ℕ) → Holds p) → PointsHold o (skeleton_of flow) (completed flow envs)
  points_hold points = record { one_each = one_for_each; points = points }

  pub entries_hold : ((p : ℕ) → Holds p) → ((i : ℕ) → EntryHolds o (skeleton_of flow) envs i) → EntriesHold o (skeleton_of flow) (completed flow envs)
  entries_hold points entries = record {
    points = points_hold points;
    entries = λ i. entry_whole o (skeleton_of flow) flow envs i (entries i);
  }

  -- the points of the operations before number k hold
  abbrev pub Before : ℕ → Type 0
  Before k = (q : ℕ) → q < begins (drop k flow.gates) flow.points → Holds q

  pub at_first : Before 0
  at_first q h = let zero_is = begins_at flow w in absurd (omega arith)

  -- what the code reads of operation k
  module _ (k : ℕ) (gs : List Gate) (ops : List Op) (op : Op) (m : ℕ) (gates_are : gs ≡ flow.gates) (ops_are : ops ≡ flow.file.ops)
      (small : k < length ops) (op_read : op ≡ get_or ops k op) (count : m ≡ pointers_of op) where
    abbrev pub gate : Gate
    gate = get_or gs k no_gate

    here : k < length flow.file.ops
    here = subst (λ (os : List Op). k < length os) ops_are small

    gate_is : slice_get flow.gates k ≡ Some gate
    gate_is = read_gate gs flow.gates k gates_are (let n = w.gates in let h = here in omega arith)

    op_is : slice_get flow.file.ops k ≡ Some op
    op_is = read_item ops flow.file.ops k op ops_are here op_read

    holds : (p : ℕ) → IsPointOf gate p → env_fits o m (env_at envs p) ≡ true → Holds p
    holds p at h inside_points =
        let t = there flow k p gate op w gate_is op_is at in
        let inside : p < length envs = let s = t.point in omega arith in
        subst (λ (e : Env). IsEnvironment o (length flow.file.shared) (locals_at (skeleton_of flow) p) e) (sym (completed_at flow envs p inside))
        (subst (λ (n : ℕ). IsEnvironment o (length flow.file.shared) n (with_shared (length flow.file.shared) (env_at envs p))) (count ∙ sym t.locals)
        (is_env o (length flow.file.shared) m (env_at envs p) h))

    fails : (p : ℕ) → IsPointOf gate p → env_fits o m (env_at envs p) ≡ false → Holds p → ⊥
    fails p at h x =
        let t = there flow k p gate op w gate_is op_is at in
        let s = t.point in
        let inside : p < length envs = omega arith in
        let points = point_count flow w in
        let e = x (omega arith) in
        no_env o (length flow.file.shared) m (env_at envs p) h
        (subst (λ (n : ℕ). IsEnvironment o (length flow.file.shared) n (with_shared (length flow.file.shared) (env_at envs p))) (t.locals ∙ sym count)
        (subst (λ (a : Env). IsEnvironment o (length flow.file.shared) (locals_at (skeleton_of flow) p) a) (completed_at flow envs p inside) e))

    pub gate_ends : gate.after ≤ length envs
    gate_ends = let x = (extent flow k gate w gate_is).within in omega arith

    pub next_holds : Before k → AllFit o m envs gate.first gate.after → Before (k + 1)
    next_holds before all q h =
        let x = extent flow k gate w gate_is in
        elim (cases_lt q gate.first) [
          | inl low ↦ before q (subst (λ (n : ℕ). q < n) (sym x.here) low)
          | inr high ↦ let below : q < gate.after = subst (λ (n : ℕ). q < n) x.next h in holds q (high, below) (all q high below)
        ]

    pub first_bad : Before k → (p : ℕ) → IsFirstUnfit o m envs gate.first gate.after p → FailsAtPoint o (skeleton_of flow) (completed flow envs) p
    first_bad before p f = record {
      one_each = one_for_each;
      before = λ q h. elim (cases_lt q gate.first) [
        | inl low ↦ before q (subst (λ (n : ℕ). q < n) (sym (extent flow k gate w gate_is).here) low)
        | inr high ↦ let below : q < gate.after = let b = f.below in omega arith in holds q (high, below) (f.before q high h)
      ];
      fails = fails p (f.from, f.below) f.fails;
    }

  pub all_hold : (n : ℕ) → length flow.gates ≤ n → Before n → (p : ℕ) → Holds p
  all_hold n past before p small =
      let none : drop n flow.gates ≡ [] = drop_all n flow.gates past in
      let points = point_count flow w in
      let inside : p < flow.points = omega arith in
      before p (subst (λ (gs : List Gate). p < begins gs flow.points) (sym none) inside) small
