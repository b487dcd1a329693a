-- The first letter of a location's name, which a retirement and a free of the address turn.
use Rattle.std.proofs.Common.{◌≡◌, ℕ, ◌<◌, Bool, true, false, not, ◌&&◌, ◌||◌, List, [], ◌∷◌, ◌++◌, Option, Some, None, is_none, refl, sym, ap, ◌∙◌, arith, inl, inr}
use Rattle.std.specs.Prelude.{if◌then◌else◌}
use Rattle.std.specs.List.{list_any}
use Rattle.std.proofs.lemmas.Bool.{and_parts, and_from, cases_Bool, ltb-true, eq-eqb, not-true, not_from_false, ne_eqb}
use Rattle.plc_base.specs.Mask.{has}
use Rattle.plc_auto.specs.declared.event.Event.{Event}
use Rattle.plc_auto.specs.declared.event.Event.TheVariants.{Call as Called, Done as Returned, Free as Freed}
use Rattle.plc_auto.specs.declared.event.EvKind.{EvKind}
use Rattle.plc_auto.specs.declared.event.EvKind.TheVariants.{Free}
use Rattle.plc_auto.specs.declared.observer.Observer.{Observer}
use Rattle.plc_auto.specs.declared.observer.Observer.TheVariants.{Plain, Hazard, Epoch}
use Rattle.plc_auto.specs.Table.{count_of, step, is_well_formed}
use Rattle.plc_base.specs.Functions.{is_retire}
use Rattle.plc_auto.specs.Location.{is_this, step_by, advance, location_from, location, Allowed, is_retired_location, stands_retired, is_retired_after}
use Rattle.plc_auto.specs.Sets.{unretired, safe}
use Rattle.plc_auto.specs.Laws.{is_free, is_retirement, retired_by, is_retire_call, LettersTurn, RetiredForAllThreads, FreesFollowRetirements}
use Rattle.plc_auto.proofs.Tables.{bad_by_free, unretired_stays, unretired_kept, retired_turns, retirement_turns}
use Rattle.plc_auto.proofs.SetLemmas.{has-unretired, has-safe}
use Rattle.plc_auto.specs.Events.{kind_of}
use Rattle.plc_auto.proofs.Histories.{is_own, is_on, step_by_is, step_by_live, initial_live, from_bad, location_longer, location_live, allowed_last, allowed_shorter}

from_unretired : (o : Observer) → is_well_formed o ≡ true → (l k : ℕ) (kind : EvKind) (by_own on_this : Bool) → l < count_of o → is_retired_location o l ≡ false → step o l kind by_own on_this ≡ Some k → is_retired_location o k ≡ (is_retirement kind && on_this)
from_unretired o w l k kind by_own on_this h u e = elim (cases_Bool (is_retirement kind && on_this)) [
  | inl r ↦ retirement_turns o l k kind by_own on_this w h u r e ∙ sym r
  | inr n ↦ unretired_stays o l k kind by_own on_this h u n e ∙ sym n
]

pub letters : (o : Observer) → is_well_formed o ≡ true → LettersTurn o
letters o w = record {
  from_unretired = from_unretired o w;
  from_retired = λ l k kind by_own on_this h r e. retired_turns o l k kind by_own on_this h r e;
  bad_by_free = λ l kind by_own on_this h e. and_parts _ _ (bad_by_free o l kind by_own on_this h e);
}

-- ---- retired after an event

turned : Bool → Event → ℕ → Bool
turned true e a = not (is_free (kind_of e) && is_on a e)
turned false e a = is_retirement (kind_of e) && is_on a e

turned_is : (b : Bool) (e : Event) (a : ℕ) → turned b e a ≡ retired_by e a b
unfolding turned
turned_is true (Called u f b) a = kept (is_retire f && is_this b a)
  where
    kept : (x : Bool) → true ≡ (if x then true else true)
    kept true = refl
    kept false = refl
turned_is false (Called u f b) a = same (is_retire f && is_this b a)
  where
    same : (x : Bool) → x ≡ (if x then true else false)
    same true = refl
    same false = refl
turned_is true (Returned u f) a = refl
turned_is false (Returned u f) a = refl
turned_is true (Freed b) a = opposite (is_this (Some b) a)
  where
    opposite : (x : Bool) → not x ≡ (if x then false else true)
    opposite true = refl
    opposite false = refl
turned_is false (Freed b) a = none (is_this (Some b) a)
  where
    none : (x : Bool) → false ≡ (if x then false else false)
    none true = refl
    none false = refl

step_turns : (o : Observer) → is_well_formed o ≡ true → (t a : ℕ) (e : Event) (l k : ℕ) → l < count_of o → step_by o t a e l ≡ Some k → is_retired_location o k ≡ retired_by e a (is_retired_location o l)
unfolding turned
step_turns o w t a e l k h to =
    let at : step o l (kind_of e) (is_own t e) (is_on a e) ≡ Some k = sym (step_by_is o t a e l) ∙ to in
    elim (cases_Bool (is_retired_location o l)) [
      | inl r ↦ retired_turns o l k (kind_of e) (is_own t e) (is_on a e) h r at ∙ turned_is true e a ∙ ap (retired_by e a) (sym r)
      | inr u ↦ from_unretired o w l k (kind_of e) (is_own t e) (is_on a e) h u at ∙ turned_is false e a ∙ ap (retired_by e a) (sym u)
    ]

pub retired_longer : (o : Observer) → is_well_formed o ≡ true → (h : List Event) (e : Event) (t a : ℕ) → (location o (h ++ e ∷ []) t a ≡ None → ⊥) → is_retired_after o (h ++ e ∷ []) t a ≡ retired_by e a (is_retired_after o h t a)
retired_longer o w h e t a fine = ap (stands_retired o) (location_longer o h e t a) ∙ go (location o h t a) refl (λ bad. fine (location_longer o h e t a ∙ bad))
  where
    moved : (l : ℕ) (q : Option ℕ) → l < count_of o → step_by o t a e l ≡ q → (q ≡ None → ⊥) → stands_retired o q ≡ retired_by e a (is_retired_location o l)
    moved l None h is good = absurd (good refl)
    moved l (Some k) h is good = step_turns o w t a e l k h is

    go : (q : Option ℕ) → location o h t a ≡ q → (advance o t a e q ≡ None → ⊥) → stands_retired o (advance o t a e q) ≡ retired_by e a (stands_retired o q)
    go None is good = absurd (good refl)
    go (Some l) is good = moved l (step_by o t a e l) (location_live o h t a l is) refl good

-- ---- the same for every thread

abbrev pub retired_from : List Event → ℕ → Bool → Bool
retired_from [] a b = b
retired_from (e ∷ h) a b = retired_from h a (retired_by e a b)

fold_turns : (o : Observer) → is_well_formed o ≡ true → (t a l : ℕ) (h : List Event) → l < count_of o → (location_from o t a (Some l) h ≡ None → ⊥) → stands_retired o (location_from o t a (Some l) h) ≡ retired_from h a (is_retired_location o l)
fold_turns o w t a l [] live fine = refl
fold_turns o w t a l (e ∷ h) live fine = go (step_by o t a e l) refl (λ k small good. fold_turns o w t a k h small good) fine
  where
    go : (q : Option ℕ) → step_by o t a e l ≡ q → ((k : ℕ) → k < count_of o → (location_from o t a (Some k) h ≡ None → ⊥) → stands_retired o (location_from o t a (Some k) h) ≡ retired_from h a (is_retired_location o k)) → (location_from o t a q h ≡ None → ⊥) → stands_retired o (location_from o t a q h) ≡ retired_from h a (retired_by e a (is_retired_location o l))
    go None is later good = absurd (good (from_bad o t a h))
    go (Some k) is later good = later k (step_by_live o t a e l k live is) good ∙ ap (retired_from h a) (step_turns o w t a e l k live is)

retired_fold : (o : Observer) → is_well_formed o ≡ true → (t a : ℕ) (h : List Event) → (location o h t a ≡ None → ⊥) → is_retired_after o h t a ≡ retired_from h a (is_retired_location o 0)
unfolding location
retired_fold o w t a h fine = fold_turns o w t a 0 h (initial_live o) fine

pub retired_same : (o : Observer) → is_well_formed o ≡ true → (threads : ℕ) (h : List Event) (t u a : ℕ) → Allowed o threads h → t < threads → u < threads → 0 < a → is_retired_after o h t a ≡ is_retired_after o h u a
retired_same o w threads h t u a fine small also one =
    retired_fold o w t a h (allowed_last o threads h t a fine small one)
    ∙ sym (retired_fold o w u a h (allowed_last o threads h u a fine also one))

pub retired_for_all : (o : Observer) → is_well_formed o ≡ true → RetiredForAllThreads o
retired_for_all o w = record {
  longer = retired_longer o w;
  same = retired_same o w;
}

-- ---- no free without a retirement

pub initial_unretired : (o : Observer) → is_retired_location o 0 ≡ false
initial_unretired Plain = refl
initial_unretired (Hazard f) = refl
initial_unretired (Epoch e l) = refl

none_of : (x y : Bool) → (x || y) ≡ false → (x ≡ false) × (y ≡ false)
none_of false false h = (refl, refl)
none_of true y h = cc
none_of false true h = cc

no_retirement : (e : Event) (a : ℕ) → is_retire_call e ≡ false → (is_retirement (kind_of e) && is_on a e) ≡ false
no_retirement (Called u f b) a n = ap (λ x. x && is_this b a) n
no_retirement (Returned u f) a n = refl
no_retirement (Freed b) a n = refl

unretired_from : (o : Observer) (t a l k : ℕ) (h : List Event) → l < count_of o → is_retired_location o l ≡ false → list_any is_retire_call h ≡ false → location_from o t a (Some l) h ≡ Some k → is_retired_location o k ≡ false
unretired_from o t a l k [] live u none to = (let same : l ≡ k = cc in ap (is_retired_location o) (sym same) ∙ u)
unretired_from o t a l k (e ∷ h) live u none to = go (step_by o t a e l) refl (λ j small v. unretired_from o t a j k h small v (none_of (is_retire_call e) _ none).1) to
  where
    go : (q : Option ℕ) → step_by o t a e l ≡ q → ((j : ℕ) → j < count_of o → is_retired_location o j ≡ false → location_from o t a (Some j) h ≡ Some k → is_retired_location o k ≡ false) → location_from o t a q h ≡ Some k → is_retired_location o k ≡ false
    go None is later to = (let contrary : None ≡ Some k = sym (from_bad o t a h) ∙ to in cc)
    go (Some j) is later to = later j (step_by_live o t a e l j live is)
        (unretired_stays o l j (kind_of e) (is_own t e) (is_on a e) live u (no_retirement e a (none_of (is_retire_call e) _ none).0) (sym (step_by_is o t a e l) ∙ is)) to

unretired_after : (o : Observer) (t a k : ℕ) (h : List Event) → list_any is_retire_call h ≡ false → location o h t a ≡ Some k → is_retired_location o k ≡ false
unfolding location
unretired_after o t a k h none to = unretired_from o t a 0 k h (initial_live o) (initial_unretired o) none to

on_itself : (a : ℕ) → 0 < a → is_this (Some a) a ≡ true
on_itself a one = and_from _ _ (eq-eqb a a refl) (not_from_false _ (ne_eqb a 0 (λ e. omega arith)))

none_retired : (o : Observer) (threads : ℕ) (h : List Event) (a : ℕ) → 0 < threads → 0 < a → list_any is_retire_call h ≡ false → Allowed o threads (h ++ Freed a ∷ []) → ⊥
none_retired o threads h a some one none fine = go (location o h 0 a) refl
  where
    go : (q : Option ℕ) → location o h 0 a ≡ q → ⊥
    go None bad = allowed_last o threads h 0 a (allowed_shorter o threads h (Freed a ∷ []) fine) some one bad
    go (Some l) is = allowed_last o threads (h ++ Freed a ∷ []) 0 a fine some one
        (location_longer o h (Freed a) 0 a ∙ ap (advance o 0 a (Freed a)) is
        ∙ ap (step o l Free false) (on_itself a one) ∙ unretired_kept o l false (location_live o h 0 a l is) (unretired_after o 0 a l h none is))

none_is : (q : Option ℕ) → is_none q ≡ true → q ≡ None
none_is None e = refl
none_is (Some k) e = cc

pub unretired_is_kept : (o : Observer) (l : ℕ) → has (unretired o) l ≡ true → step o l Free false true ≡ None
unretired_is_kept o l h =
    let both = and_parts _ _ (sym (has-unretired o l) ∙ h) in
    unretired_kept o l false (ltb-true l (count_of o) both.0) (not-true _ both.1)

pub safe_is_kept : (o : Observer) (l : ℕ) → has (safe o) l ≡ true → step o l Free false true ≡ None
safe_is_kept o l h = none_is _ (and_parts _ _ (sym (has-safe o l) ∙ h)).1

pub frees_follow : (o : Observer) → FreesFollowRetirements o
frees_follow o = record {
  initial = λ by_own. unretired_kept o 0 by_own (initial_live o) (initial_unretired o);
  none_retired = none_retired o;
  unretired_kept = unretired_is_kept o;
  safe_kept = safe_is_kept o;
}
