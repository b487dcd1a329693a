-- What a reclaimer picks, by the schemes and all the events that it was handed: its row.
use Rattle.std.specs.Prelude.{◌≡◌, ℕ, Bool, true, false, ◌==◌, ◌&&◌, not}
use Rattle.std.specs.Prelude.{if◌then◌else◌, List, [], ◌∷◌, fold, Option, Some, None}
use Rattle.std.specs.List.{list_any, filter_map}
use Rattle.plc_base.specs.Functions.{is_retire}
use Rattle.plc_auto.specs.declared.event.Event.{Event}
use Rattle.plc_auto.specs.declared.event.Event.TheVariants.{Call as Called, Done as Returned, Free as Freed}
use Rattle.plc_auto.specs.declared.observer.Observer.{Observer}
use Rattle.plc_auto.specs.declared.observer.Observer.TheVariants as observers
use Rattle.plc_auto.specs.Location.{location}
use Rattle.plc_auto.specs.Waiting.{is_kept_at}
use Rattle.plc_auto.specs.declared.scheme.Scheme.{Scheme}
use Rattle.plc_auto.specs.declared.scheme.Scheme.TheVariants.{Hazard, Epoch}
use Rattle.plc_reclaim.specs.Meanings.{Meanings}

-- the event frees the address
abbrev pub is_free_of : ℕ → Event → Bool
is_free_of a (Called t f b) = false
is_free_of a (Returned t f) = false
is_free_of a (Freed b) = a == b

-- the address that a call of `retire` names; null is none
abbrev pub retirement_of : Event → Option ℕ
retirement_of (Called t f None) = None
retirement_of (Called t f (Some a)) = if is_retire f && not (a == 0) then Some a else None
retirement_of (Returned t f) = None
retirement_of (Freed b) = None

-- the address may be freed, and none of these events frees it
abbrev pub waits : (ℕ → Bool) → List Event → ℕ → Bool
waits may after a = may a && not (list_any (is_free_of a) after)

-- the address, if there is one and it waits after its retirement, or else another
abbrev pub waits_or : (ℕ → Bool) → List Event → Option ℕ → Option ℕ → Option ℕ
waits_or may after None other = other
waits_or may after (Some a) other = if waits may after a then Some a else other

-- the address of the first retirement after which it isn't freed, of those that may be freed
abbrev pub first_waiting : (ℕ → Bool) → List Event → Option ℕ
first_waiting may [] = None
first_waiting may (e ∷ events) = waits_or may events (retirement_of e) (first_waiting may events)

-- ---- those that ask no thread

-- `leak` frees nothing
abbrev pub leak_row : List Scheme → List Event → Option ℕ
leak_row schemes events = None

-- `list` frees in the order of retirement
abbrev pub list_row : List Scheme → List Event → Option ℕ
list_row schemes events = first_waiting (λ a. true) events

-- ---- what threads keep

-- the threads that call or return, one for each such event
abbrev pub threads_in : List Event → List ℕ
threads_in [] = []
threads_in (Called t f b ∷ events) = t ∷ threads_in events
threads_in (Returned t f ∷ events) = t ∷ threads_in events
threads_in (Freed a ∷ events) = threads_in events

-- some thread stands in `r.kept` for the address
abbrev pub is_kept_by : List Event → ℕ → Observer → Bool
is_kept_by events a o = list_any (λ t. is_kept_at (location o events t a)) (threads_in events)

-- no thread stands there for the address, by the table of any of these observers
abbrev pub is_kept_by_none : List Observer → List Event → ℕ → Bool
is_kept_by_none os events a = not (list_any (is_kept_by events a) os)

-- no scheme's
abbrev pub none_of : Scheme → Option Observer
none_of scheme = None

-- the observer of a Hazard scheme
abbrev pub hazard_of : Scheme → Option Observer
hazard_of (Hazard f) = Some (observers.Hazard f)
hazard_of (Epoch e l) = None

-- those of the Hazard schemes
abbrev pub hazards : List Scheme → List Observer
hazards schemes = filter_map hazard_of schemes

-- the observer of an Epoch scheme
abbrev pub epoch_of : Scheme → Option Observer
epoch_of (Hazard f) = None
epoch_of (Epoch e l) = Some (observers.Epoch e l)

-- those of the Epoch schemes
abbrev pub epochs : List Scheme → List Observer
epochs schemes = filter_map epoch_of schemes

-- `hazard` frees in the order of retirement what no thread keeps by a Hazard scheme
abbrev pub hazard_row : List Scheme → List Event → Option ℕ
hazard_row schemes events = first_waiting (is_kept_by_none (hazards schemes) events) events

-- `epoch` frees in the order of retirement what no thread keeps by an Epoch scheme
abbrev pub epoch_row : List Scheme → List Event → Option ℕ
epoch_row schemes events = first_waiting (is_kept_by_none (epochs schemes) events) events

-- ---- acting as a row

-- these meanings act as a row: a pick takes nothing out, and it is the row's address for all schemes and events
pub record ActsAs (row : List Scheme → List Event → Option ℕ) (m : Meanings) : Type 0 where
  pub keeps : (held : List ℕ) → m.picked held ≡ held
  pub picks : (schemes : List Scheme) (events : List Event)
      → m.pick_of (fold m.after (m.begun schemes) events) ≡ row schemes events
