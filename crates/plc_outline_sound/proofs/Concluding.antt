-- Where the ground set of an obligation has no model, its conclusion holds after each step that goes from a state in
-- which the premises hold.
use Rattle.std.proofs.Common.{◌≡◌, ℕ, suc, ◌<◌, ◌≤◌, Bool, true, false, nat_lt, List, [], ◌∷◌, length, Option, Some}
use Rattle.std.proofs.Common.{None, slice_get, refl, sym, ap, ◌∙◌, subst, inl, inr}
use Rattle.std.specs.Prelude.{if◌then◌else◌}
use Rattle.std.proofs.lemmas.Bool.{cases_Bool, lt-ltb, le-ltb}
use Rattle.plc_lang.specs.declared.syntax.Local.{Local}
use Rattle.plc_lang.specs.declared.syntax.File.{File}
use Rattle.plc_lang.specs.declared.syntax.Var.{Var}
use Rattle.plc_lang.specs.declared.syntax.Primitive.TheVariants.{Active}
use Rattle.plc_lang.specs.Shape.{VarIn}
use Rattle.plc_logic.specs.declared.clause.Clause.{Clause}
use Rattle.plc_logic.specs.declared.clause.Outline.{Outline}
use Rattle.plc_logic.specs.Fit.{LiteralFits, in_reach_of, ClauseFits, InvariantFits}
use Rattle.plc_flow.specs.declared.flow.Flow.{Flow}
use Rattle.plc_vocabulary.specs.declared.obligations.Obligation.{Obligation}
use Rattle.plc_encoding.specs.Items.{me}
use Rattle.plc_vocabulary.specs.Parts.{has_owner, conclusion, claim_made}
use Rattle.plc_gc.specs.State.{GcState, count, locals_of}
use Rattle.plc_gc.specs.Clauses.{declared_value, declared_mark, holds_at, Holds}
use Rattle.plc_gc.specs.Claims.{claim_holds}
use Rattle.plc_flow.proofs.Each.{Each}
use Rattle.plc_oblig.proofs.Lists.{each_of_all}
use Rattle.plc_outline_sound.proofs.Scene.{Scene, locals_for, thread_for, symbol_in}
use Rattle.plc_outline_sound.proofs.Reading.{IsReadFor, local_is, mark_is}
use Rattle.plc_outline_sound.proofs.Premises.{IsPremise}
use Rattle.plc_outline_sound.proofs.Broken.{scene_of, ClaimFails, ClauseFails, IsReady}
use Rattle.plc_outline_sound.proofs.Central.{has_model}
use Rattle.plc_outline_sound.proofs.Obliged.{NoModel}
use Rattle.plc_outline_sound.proofs.Agreement.{bound_some}

-- ---- what clauses may name

-- an invariant is read for nobody
pub invariant_read : (file : File) (w : Scene) (g : GcState) (owner : Bool) (c : Clause)
    → IsReadFor w file (in_reach_of file [] false c) g None owner
invariant_read file w g owner c =
    record { of_file = refl; declared = λ k l at. cc; value = λ k l at. cc; marks = λ k l at. cc; thread = λ e. cc }

-- a clause of a point is read for the thread at the point, which holds its operation's locals
pub point_read : (file : File) (w : Scene) (g : GcState) (owner : Bool) (ls : List Local) (c : Clause)
    → locals_for w owner ≡ ls → (locals_of g (thread_for w owner)).declared ≡ ls
    → IsReadFor w file (in_reach_of file ls true c) g (Some (thread_for w owner)) owner
point_read file w g owner ls c same declared = record {
  of_file = refl;
  declared = λ k l at. ap (λ ls. slice_get ls k) same ∙ at;
  value = λ k l at. local_is w g owner k
      ∙ ap (λ ls. declared_value g (thread_for w owner) ls k (slice_get ls k)) (same ∙ sym declared);
  marks = λ k l at. mark_is w g owner k
      ∙ ap (λ ls. declared_mark g (thread_for w owner) ls k (slice_get ls k)) (same ∙ sym declared);
  thread = λ e. thread_is owner;
}
  where
    thread_is : (owner : Bool) → symbol_in w g (me owner) ≡ suc (thread_for w owner)
    thread_is false = refl
    thread_is true = refl

each_fits : (file : File) (ls : List Local) (b : Bool) (c : Clause) → ClauseFits file ls b c
    → Each (LiteralFits (in_reach_of file ls b c)) c.literals
each_fits file ls b c fits = each_of_all (LiteralFits (in_reach_of file ls b c)) c.literals fits.each

-- ---- premises

pub invariants_hold : (file : File) (w : Scene) (g : GcState) (cs : List Clause) → Each (InvariantFits file) cs
    → Each (Holds g None) cs → Each (IsPremise file w g false) cs
invariants_hold file w g [] fit h = tt
invariants_hold file w g (c ∷ cs) fit h = (
  record {
    reach = in_reach_of file [] false c;
    who = None;
    reads = invariant_read file w g false c;
    fits = each_fits file [] false c fit.0;
    holds = h.0;
  },
  invariants_hold file w g cs fit.1 h.1,
)

pub point_hold : (file : File) (w : Scene) (g : GcState) (owner : Bool) (ls : List Local) (cs : List Clause)
    → locals_for w owner ≡ ls → (locals_of g (thread_for w owner)).declared ≡ ls → Each (ClauseFits file ls true) cs
    → Each (Holds g (Some (thread_for w owner))) cs → Each (IsPremise file w g owner) cs
point_hold file w g owner ls [] same declared fit h = tt
point_hold file w g owner ls (c ∷ cs) same declared fit h = (
  record {
    reach = in_reach_of file ls true c;
    who = Some (thread_for w owner);
    reads = point_read file w g owner ls c same declared;
    fits = each_fits file ls true c fit.0;
    holds = h.0;
  },
  point_hold file w g owner ls cs same declared fit.1 h.1,
)

-- ---- conclusions

-- how the conclusion is read after the step
pub record IsConcluded (flow : Flow) (o : Obligation) (acting owner : ℕ) (g h : GcState) (c : Clause)
    (who : Option ℕ) : Type 0 where
  pub locals : List Local
  pub in_operation : Bool
  pub reads : (b : ℕ → ℕ) → IsReadFor (scene_of flow o acting owner (count g) b) flow.file
      (in_reach_of flow.file locals in_operation c) h who (has_owner o)
  pub fits : ClauseFits flow.file locals in_operation c

-- a binding, null past so many names
abbrev cut : ℕ → (ℕ → ℕ) → ℕ → ℕ
cut n b i = if nat_lt i n then b i else 0

cut_below : (n : ℕ) (b : ℕ → ℕ) (i : ℕ) → i < n → cut n b i ≡ b i
cut_below n b i less = rw (lt-ltb i n less) refl

cut_past : (n : ℕ) (b : ℕ → ℕ) (i : ℕ) → n ≤ i → cut n b i ≡ 0
cut_past n b i more = rw (le-ltb i n more) refl

module _ (flow : Flow) (outline : Outline) (o : Obligation) (acting owner : ℕ) (g h : GcState)
    (ready : IsReady flow outline o acting owner g h) (none : NoModel flow outline o) where
  breaks : (b : ℕ → ℕ) → ClauseFails flow.file (scene_of flow o acting owner (count g) b) h (has_owner o)
      (conclusion flow outline o) → ClaimFails (scene_of flow o acting owner (count g) b) h ready.shape
      (claim_made flow o) → ⊥
  breaks b clause claim = none (has_model flow outline o acting owner b g h
      (record { ready = ready; clause_fails = clause; claim_fails = claim }))

  -- a clause holds
  pub concludes : (c : Clause) (who : Option ℕ) → conclusion flow outline o ≡ Some c → claim_made flow o ≡ None
      → IsConcluded flow o acting owner g h c who → Holds h who c
  concludes c who is no_claim read b named = elim (cases_Bool (holds_at h who b c)) [
    | inl holds ↦ holds
    | inr fails ↦ absurd (breaks (cut (length c.bound.names) b)
        (subst (ClauseFails flow.file (scene_of flow o acting owner (count g) (cut (length c.bound.names) b)) h
        (has_owner o)) (sym is) (record {
          reach = in_reach_of flow.file read.locals read.in_operation c;
          who = who;
          reads = read.reads (cut (length c.bound.names) b);
          fits = each_fits flow.file read.locals read.in_operation c read.fits;
          named = λ i less. subst (λ n. (0 < n) × (n < count h)) (sym (cut_below (length c.bound.names) b i less))
              (named i less);
          past = cut_past (length c.bound.names) b;
          fails = bound_some h who (in_reach_of flow.file read.locals read.in_operation c) b
              (cut (length c.bound.names) b) (cut_below (length c.bound.names) b) c.literals
              (each_fits flow.file read.locals read.in_operation c read.fits) ∙ fails;
        }))
        (subst (ClaimFails (scene_of flow o acting owner (count g) (cut (length c.bound.names) b)) h ready.shape)
        (sym no_claim) tt))
  ]

  -- a claim is true
  pub claims_truly : (p : Var) → conclusion flow outline o ≡ None → claim_made flow o ≡ Some (Active p)
      → VarIn ready.shape p → claim_holds h acting (Active p) ≡ true
  claims_truly p no_clause is there = elim (cases_Bool (claim_holds h acting (Active p))) [
    | inl holds ↦ holds
    | inr fails ↦ absurd (breaks (λ i. 0)
        (subst (ClauseFails flow.file (scene_of flow o acting owner (count g) (λ i. 0)) h (has_owner o))
        (sym no_clause) tt)
        (subst (ClaimFails (scene_of flow o acting owner (count g) (λ i. 0)) h ready.shape) (sym is)
        (p, refl, there, fails)))
  ]
