-- What was found so far of the obligations that were handed out, and that the first that is found is the least open one.
use Rattle.std.proofs.Common.{◌≡◌, ℕ, ◌+◌, Bool, true, false, Option, Some, None, List, [], ◌∷◌, ◌++◌, length, refl, sym, ap, ◌∙◌, subst, arith}
use Rattle.std.specs.Prelude.{All, MatchOption}
use Rattle.std.specs.Option.{option_to_list}
use Rattle.std.proofs.lemmas.List.{length-append}
use Rattle.std.proofs.lemmas.List.Elements.{All-nil, All-cons}
use Rattle.plc_flow.specs.declared.flow.Flow.{Flow}
use Rattle.plc_logic.specs.declared.clause.Outline.{Outline}
use Rattle.plc_vocabulary.specs.declared.obligations.Obligation.{Obligation}
use Rattle.plc_oblig.specs.Obligations.{obligations}
use Rattle.plc_oblig.specs.Outlines.{IsKept, IsLeastOpen}
use Rattle.plc_check.specs.declared.counterexample.Counterexample.{Counterexample}
use Rattle.plc_check.specs.declared.open.OpenObligations.{OpenObligations}
use Rattle.plc_check.specs.Open.{IsCounterexample, AreOpenOf, none, kept, broken, EndsBy, AreOpen}
use Rattle.plc_check.specs.Counterexamples.{IsFirstCounterexample}
use Rattle.plc_check.proofs.SoFar.{SoFar, begun, advanced, listed_more, listed_all}
use Rattle.plc_check.proofs.Opening.{least_broken}

module _ (flow : Flow) (outline : Outline) where
  -- of the obligations these are left, and this was found of the others
  pub record FoundSoFar (left : List Obligation) (xs : List Counterexample) : Type 0 where
    pub looked : List Obligation
    pub listed : obligations flow outline ≡ looked ++ left
    pub found : AreOpenOf flow outline looked xs

  -- ---- one more obligation

  kept_last : (os : List Obligation) (xs : List Counterexample) (o : Obligation) → AreOpenOf flow outline os xs → IsKept flow outline o
      → AreOpenOf flow outline (os ++ o ∷ []) xs
  kept_last os xs o none this = kept this none
  kept_last os xs o (kept {os = ps} h more) this = kept h (kept_last ps xs o more this)
  kept_last os xs o (broken {os = ps} {xs = ys} h more) this = broken h (kept_last ps ys o more this)

  broken_last : (os : List Obligation) (xs : List Counterexample) (x : Counterexample) → AreOpenOf flow outline os xs
      → IsCounterexample flow outline x → AreOpenOf flow outline (os ++ x.obligation ∷ []) (xs ++ x ∷ [])
  broken_last os xs x none this = broken this none
  broken_last os xs x (kept {os = ps} h more) this = kept h (broken_last ps xs x more this)
  broken_last os xs x (broken {os = ps} {xs = ys} h more) this = broken h (broken_last ps ys x more this)

  pub none_found : (left : List Obligation) (xs : List Counterexample) → left ≡ obligations flow outline → xs ≡ [] → FoundSoFar left xs
  none_found left xs whole empty = record { looked = []; listed = sym whole; found = subst (AreOpenOf flow outline []) (sym empty) none }

  pub one_kept : (left new : List Obligation) (xs : List Counterexample) (o : Obligation) → FoundSoFar left xs → left ≡ o ∷ new
      → IsKept flow outline o → FoundSoFar new xs
  one_kept left new xs o s e this = record {
    looked = s.looked ++ o ∷ [];
    listed = listed_more (obligations flow outline) s.looked left new o s.listed e;
    found = kept_last s.looked xs o s.found this;
  }

  pub one_broken : (left new : List Obligation) (xs : List Counterexample) (o : Obligation) (x : Counterexample) → FoundSoFar left xs → left ≡ o ∷ new
      → (x.obligation ≡ o) × IsCounterexample flow outline x → FoundSoFar new (xs ++ x ∷ [])
  one_broken left new xs o x s e this = record {
    looked = s.looked ++ o ∷ [];
    listed = listed_more (obligations flow outline) s.looked left new o s.listed e;
    found = subst (λ (p : Obligation). AreOpenOf flow outline (s.looked ++ p ∷ []) (xs ++ x ∷ [])) this.0 (broken_last s.looked xs x s.found this.1);
  }

  -- ---- the first that is found

  all_kept : (os : List Obligation) (xs : List Counterexample) → AreOpenOf flow outline os xs → length xs ≡ 0 → All (IsKept flow outline) os
  all_kept os xs none few = All-nil (IsKept flow outline)
  all_kept os xs (kept {o = o} {os = ps} h more) few = All-cons (IsKept flow outline) o ps h (all_kept ps xs more few)
  all_kept os xs (broken h more) few = absurd (omega arith)

  first_found : (left os : List Obligation) (x : Counterexample) (xs ys : List Counterexample) → AreOpenOf flow outline os ys → ys ≡ x ∷ xs
      → SoFar (IsKept flow outline) (obligations flow outline) (os ++ left) → IsLeastOpen flow outline x.obligation × IsCounterexample flow outline x
  first_found left os x xs ys none e s = absurd cc
  first_found left os x xs ys (kept {o = o} {os = ps} h more) e s =
      first_found left ps x xs ys more e (advanced (IsKept flow outline) (obligations flow outline) (o ∷ ps ++ left) (ps ++ left) o s refl h)
  first_found left os x xs ys (broken {os = ps} {x = y} {xs = zs} h more) e s =
      let same : y ≡ x = cc in
      subst (λ (z : Counterexample). IsLeastOpen flow outline z.obligation × IsCounterexample flow outline z) same
      (least_broken flow outline (y.obligation ∷ ps ++ left) (ps ++ left) y.obligation y s refl (refl, h))

  none_left : (all : Bool) (left : List Obligation) (xs : List Counterexample) → EndsBy all 1 left xs → length xs ≡ 0 → left ≡ []
  none_left true left xs ends few = ends
  none_left false left xs ends few = absurd (omega arith)

  -- what is taken from the end of an answer of at most one
  pub first_of : (answer : OpenObligations) (rest : List Counterexample) (taken : Option Counterexample) (count fewer : ℕ) → AreOpen flow outline 1 answer
      → answer.found ≡ rest ++ option_to_list taken → count ≡ length answer.found
      → MatchOption taken ((count ≡ 0) × (fewer ≡ 0)) (λ _. fewer + 1 ≡ count) → IsFirstCounterexample flow outline taken
  first_of answer rest None count fewer is e counted empty =
      let no_one : length answer.found ≡ 0 = sym counted ∙ empty.0 in
      subst (All (IsKept flow outline)) (sym (listed_all (obligations flow outline) is.looked is.left is.listed (none_left answer.all is.left answer.found is.ends no_one)))
      (all_kept is.looked answer.found is.found no_one)
  first_of answer [] (Some x) count fewer is e counted one =
      first_found is.left is.looked x [] answer.found is.found e
      (subst (SoFar (IsKept flow outline) (obligations flow outline)) is.listed (begun (IsKept flow outline) (obligations flow outline)))
  first_of answer (y ∷ ys) (Some x) count fewer is e counted one =
      let long = ap length e ∙ length-append (y ∷ ys) (x ∷ []) in
      absurd (omega (arith, long, is.few))
