-- The reclaimers that keep locations act as their rows: what they pick is the first that waits and that no thread keeps.
use Rattle.std.proofs.Common.{◌≡◌, ℕ, suc, Bool, true, false, not, ◌||◌, List, [], ◌∷◌, refl, sym, ap, ◌∙◌, arith}
use Rattle.std.specs.Prelude.{fold, find, Contains}
use Rattle.std.specs.List.{list_any, filter_map}
use Rattle.plc_auto.specs.declared.event.Event.{Event}
use Rattle.plc_auto.specs.declared.observer.Observer.{Observer}
use Rattle.plc_auto.specs.declared.scheme.Scheme.{Scheme}
use Rattle.plc_auto.specs.Locations.{Locations, fresh, locations_after, locations_after_all, is_kept, first_free}
use Rattle.plc_auto.proofs.Unheard.{observers_follow}
use Rattle.plc_reclaim.specs.Rows.{ActsAs, first_waiting, is_kept_by, is_kept_by_none, list_row, none_of}
use Rattle.plc_reclaim.specs.Numbers.{numbers_of, held_after, free_of, by_tables}
use Rattle.plc_reclaim.proofs.Allowing.{every_thread, kept_of_none}
use Rattle.plc_reclaim.proofs.Picks.{may_be_picked}
use Rattle.plc_reclaim.proofs.Numbers.{begun_with_is, held_after_is, free_of_is}

-- ---- which addresses are kept

-- two tests of which each fails where the other does
same_failures : (x y : Bool) → (x ≡ false → y ≡ false) → (y ≡ false → x ≡ false) → x ≡ y
same_failures true true f g = refl
same_failures true false f g = g refl
same_failures false y f g = sym (f refl)

none_passes : (p : Observer → Bool) (os : List Observer) → ((o : Observer) → Contains os o → p o ≡ false) → list_any p os ≡ false
none_passes p [] each = refl
none_passes p (o ∷ os) each =
    (λ i. each o (0, omega arith, refl) i || list_any p os) ∙ none_passes p os (λ q (k, small, is). each q (suc k, omega (arith, small), is))

-- what the locations keep is what a thread keeps that the events name
kept_is : (os : List Observer) (events : List Event) (a : ℕ) → is_kept (locations_after_all (fresh os) events) a ≡ list_any (is_kept_by events a) os
kept_is os events a =
    let kept = (observers_follow os events).kept a in
    same_failures _ _
    (λ free. none_passes (is_kept_by events a) os (λ o there. (every_thread o events a).1 (λ t. kept.0 free o t there)))
    (λ none. kept.1 (λ o t there. (every_thread o events a).0 (kept_of_none os o there (is_kept_by events a) none) t))

-- ---- the reclaimers

-- what is picked of what is kept at the end
end_free : (os : List Observer) (events : List Event) → first_free (locations_after_all (fresh os) events) ≡ first_waiting (is_kept_by_none os events) events
end_free os events =
    let follows = observers_follow os events in
    follows.first
    ∙ (λ i. find (λ a. not (kept_is os events a i)) (follows.retired i))
    ∙ may_be_picked (is_kept_by_none os events) events

held_at_end : (l : Locations) (events : List Event) → fold held_after (numbers_of l) events ≡ numbers_of (locations_after_all l events)
held_at_end l [] = refl
held_at_end l (e ∷ events) = ap (λ held. fold held_after held events) (held_after_is l e) ∙ held_at_end (locations_after e l) events

-- a reclaimer that serves the observers that it reads from the schemes acts as their row
pub acts_by_tables : (observers : List Scheme → List Observer) → ActsAs (λ schemes events. first_waiting (is_kept_by_none (observers schemes) events) events) (by_tables observers)
acts_by_tables observers = record {
  keeps = λ held. refl;
  picks = λ schemes events.
      ap (λ held. free_of (fold held_after held events)) (begun_with_is (observers schemes))
      ∙ ap free_of (held_at_end (fresh (observers schemes)) events)
      ∙ free_of_is (locations_after_all (fresh (observers schemes)) events)
      ∙ end_free (observers schemes) events;
}

-- one that serves none picks the first that waits
serves_none : (schemes : List Scheme) → filter_map none_of schemes ≡ []
serves_none [] = refl
serves_none (s ∷ schemes) = serves_none schemes

pub acts_by_list : ActsAs list_row (by_tables (filter_map none_of))
acts_by_list = record {
  keeps = λ held. refl;
  picks = λ schemes events. (acts_by_tables (filter_map none_of)).picks schemes events ∙ ap (λ os. first_waiting (is_kept_by_none os events) events) (serves_none schemes);
}
