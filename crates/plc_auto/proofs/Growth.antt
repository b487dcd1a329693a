-- Sets of locations, their steps and their closures as they grow.
use Rattle.std.proofs.Common.{◌≡◌, ℕ, Bool, true, false, is_none, sym, ap, ◌∙◌, inl, inr}
use Rattle.std.proofs.lemmas.Bool.{and_parts, and_from, or_cases, or_left, or_right, both_ways}
use Rattle.plc_base.specs.Mask.{has, single, within}
use Rattle.plc_base.proofs.MaskLemmas.{has-empty, has-union, has-within, within-has, within_antisym}
use Rattle.plc_auto.specs.declared.event.EvKind.{EvKind}
use Rattle.plc_auto.specs.declared.observer.Observer.{Observer}
use Rattle.plc_auto.specs.Sets.{all_locations, step_set, reach, closure}
use Rattle.plc_auto.specs.Laws.{SetsOfLocations, SetsGrow, ClosuresAreLeast}
use Rattle.plc_auto.proofs.SetLemmas.{has-unretired, has-safe, has-all, in_all, all_has, step_set_live, step_set_grows}
use Rattle.plc_auto.proofs.Closures.{in_closure, closure_has, closure_live, closure_holds, closure_closed, closure_least, closure_is}
use Rattle.plc_auto.proofs.Letters.{unretired_is_kept}

pub sets_of : (o : Observer) → SetsOfLocations o
sets_of o = record {
  all_are = all_has o;
  all_below = in_all o;
  unretired_within = has-within _ _ (λ l h. has-all o l ∙ (and_parts _ _ (sym (has-unretired o l) ∙ h)).0);
  unretired_safe = has-within _ _ (λ l h. has-safe o l
      ∙ and_from _ _ (and_parts _ _ (sym (has-unretired o l) ∙ h)).0 (ap is_none (unretired_is_kept o l h)));
  safe_within = has-within _ _ (λ l h. has-all o l ∙ (and_parts _ _ (sym (has-safe o l) ∙ h)).0);
}

-- ---- steps and closures grow

pub step_grows : (o : Observer) (m n : ℕ) (kind : EvKind) (by_own on_this : Bool) → within m n ≡ true → within (step_set o m kind by_own on_this) (step_set o n kind by_own on_this) ≡ true
step_grows o m n kind by_own on_this w = has-within _ _ (λ k h. step_set_grows o m n k kind by_own on_this (within-has m n w) h)

pub closure_grows : (o : Observer) (with_free : Bool) (m n : ℕ) → within m n ≡ true → within (closure o with_free m) (closure o with_free n) ≡ true
closure_grows o with_free m n w = has-within _ _ (λ k h.
    let c = in_closure o with_free m k h in
    closure_has o with_free n c.1.from k c.1.small c.0 (within-has m n w c.1.from c.1.member) c.1.row)

-- a row with frees holds the row without
row_with_frees : (o : Observer) (l k : ℕ) → has (reach o false l) k ≡ true → has (reach o true l) k ≡ true
unfolding reach
row_with_frees o l k h = has-union _ _ k ∙ elim (or_cases _ _ (sym (has-union _ _ k) ∙ h)) [
  | inl e ↦ or_left _ _ e
  | inr e ↦ or_right (has (single l) k) _ (has-union _ _ k ∙ elim (or_cases _ _ (sym (has-union _ _ k) ∙ e)) [
    | inl r ↦ or_left _ _ r
    | inr n ↦ absurd (both_ways _ (has-empty k) n)
  ])
]

pub closure_with_frees : (o : Observer) (m : ℕ) → within (closure o false m) (closure o true m) ≡ true
closure_with_frees o m = has-within _ _ (λ k h.
    let c = in_closure o false m k h in
    closure_has o true m c.1.from k c.1.small c.0 c.1.member (row_with_frees o c.1.from k c.1.row))

pub grow : (o : Observer) → SetsGrow o
grow o = record {
  step_within = step_set_live o;
  step_grows = step_grows o;
  closure_within = closure_live o;
  closure_grows = closure_grows o;
  closure_with_frees = closure_with_frees o;
}

-- ---- a closure is its own closure

pub closure_above : (o : Observer) (with_free : Bool) (m : ℕ) → within m (all_locations o) ≡ true → within m (closure o with_free m) ≡ true
closure_above o with_free m w = has-within _ _ (λ l h. closure_holds o with_free m l w h)

pub closure_again : (o : Observer) (with_free : Bool) (m : ℕ) → within m (all_locations o) ≡ true → closure o with_free (closure o with_free m) ≡ closure o with_free m
closure_again o with_free m w =
    let c = closure o with_free m in
    let live = closure_live o with_free m w in
    within_antisym _ _
    (has-within _ _ (closure_least o with_free c c live (λ l h. h) (λ l k kind on_this h may e. closure_closed o with_free m l k kind on_this w h may e)))
    (closure_above o with_free c live)

pub least : (o : Observer) (with_free : Bool) (m : ℕ) → within m (all_locations o) ≡ true → ClosuresAreLeast o with_free m
least o with_free m w = record {
  holds = closure_above o with_free m w;
  is_closure = closure_is o with_free m w;
  again = closure_again o with_free m w;
}
