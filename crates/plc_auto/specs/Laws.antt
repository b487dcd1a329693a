-- Laws of the observers, on which the layers above stand.
use Rattle.std.specs.Prelude.{◌≡◌, ◌<◌, ◌&&◌, ℕ, Bool, true, false, not}
use Rattle.std.specs.Prelude.{if◌then◌else◌, List, [], ◌∷◌, ◌++◌, take, Some, None}
use Rattle.std.specs.List.{list_any}
use Rattle.plc_base.specs.Mask.{has, within}
use Rattle.plc_auto.specs.declared.event.Event.{Event}
use Rattle.plc_auto.specs.declared.event.Event.TheVariants.{Call as Called, Done as Returned, Free as Freed}
use Rattle.plc_auto.specs.declared.event.EvKind.{EvKind}
use Rattle.plc_auto.specs.declared.event.EvKind.TheVariants.{Call, Done, Free}
use Rattle.plc_auto.specs.declared.observer.Observer.{Observer}
use Rattle.plc_auto.specs.Events.{thread_of, address_of}
use Rattle.plc_auto.specs.Table.{step, count_of}
use Rattle.plc_base.specs.Functions.{is_retire}
use Rattle.plc_auto.specs.Location.{location, advance, Allowed, is_this, is_retired_location, is_retired_after}
use Rattle.plc_auto.specs.Sets.{all_locations, unretired, safe, step_set, closure, IsClosureOf}

-- a free is a kind of its own
abbrev pub is_free : EvKind → Bool
is_free (Call f) = false
is_free (Done f) = false
is_free Free = true

-- a call of `retire`
abbrev pub is_retirement : EvKind → Bool
is_retirement (Call f) = is_retire f
is_retirement (Done f) = false
is_retirement Free = false

-- ---- histories

-- a history longer by one event; histories that aren't allowed stay so, and each location is live
pub record LocationsFollowHistories (o : Observer) : Type 0 where
  pub empty : (t a : ℕ) → location o [] t a ≡ Some 0
  pub longer : (h : List Event) (e : Event) (t a : ℕ)
      → location o (h ++ e ∷ []) t a ≡ advance o t a e (location o h t a)
  pub live : (h : List Event) (t a l : ℕ) → location o h t a ≡ Some l → l < count_of o
  pub bad_stays : (h more : List Event) (t a : ℕ) → location o h t a ≡ None → location o (h ++ more) t a ≡ None

-- an event neither by the thread nor on the address leaves the thread's location of the address
abbrev pub FarEventsMoveNothing : Observer → Type 0
FarEventsMoveNothing o = (h : List Event) (e : Event) (t a : ℕ) → (thread_of e ≡ Some t → ⊥)
    → is_this (Some (address_of e)) a ≡ false → location o (h ++ e ∷ []) t a ≡ location o h t a

-- only a free takes an address back
abbrev pub frees_one : Event → Bool
frees_one (Called t f b) = false
frees_one (Returned t f) = false
frees_one (Freed b) = true

-- prefixes of an allowed history are allowed; where no thread and address stands in `bad` at the end none did
-- before; and only a free can lead there, for its own address
pub record AllowedByTheLast (o : Observer) (threads : ℕ) : Type 0 where
  pub empty : Allowed o threads []
  pub prefix : (h : List Event) (n : ℕ) → Allowed o threads h → Allowed o threads (take n h)
  pub shorter : (h more : List Event) → Allowed o threads (h ++ more) → Allowed o threads h
  pub by_last : (h : List Event)
      → ((t a : ℕ) → t < threads → 0 < a → location o h t a ≡ None → ⊥) → Allowed o threads h
  pub last : (h : List Event) (t a : ℕ) → Allowed o threads h
      → t < threads → 0 < a → location o h t a ≡ None → ⊥
  pub call_or_return : (h : List Event) (e : Event) → frees_one e ≡ false
      → Allowed o threads h → Allowed o threads (h ++ e ∷ [])
  pub free : (h : List Event) (a : ℕ) → Allowed o threads h
      → ((t : ℕ) → t < threads → location o (h ++ Freed a ∷ []) t a ≡ None → ⊥)
      → Allowed o threads (h ++ Freed a ∷ [])

-- ---- the first letter of a location's name

-- a retirement of the address leads from `u` to `r`, a free of it from `r` to `u` or to `bad`, and nothing else
-- changes the letter
pub record LettersTurn (o : Observer) : Type 0 where
  pub from_unretired : (l k : ℕ) (kind : EvKind) (by_own on_this : Bool) → l < count_of o
      → is_retired_location o l ≡ false → step o l kind by_own on_this ≡ Some k
      → is_retired_location o k ≡ (is_retirement kind && on_this)
  pub from_retired : (l k : ℕ) (kind : EvKind) (by_own on_this : Bool) → l < count_of o
      → is_retired_location o l ≡ true → step o l kind by_own on_this ≡ Some k
      → is_retired_location o k ≡ not (is_free kind && on_this)
  pub bad_by_free : (l : ℕ) (kind : EvKind) (by_own on_this : Bool) → l < count_of o
      → step o l kind by_own on_this ≡ None → (is_free kind ≡ true) × (on_this ≡ true)

-- whether an address is retired after an event, where it was or wasn't before
abbrev pub retired_by : Event → ℕ → Bool → Bool
retired_by (Called t f b) a before = if is_retire f && is_this b a then true else before
retired_by (Returned t f) a before = before
retired_by (Freed b) a before = if is_this (Some b) a then false else before

-- so it makes no difference which thread is asked
pub record RetiredForAllThreads (o : Observer) : Type 0 where
  pub longer : (h : List Event) (e : Event) (t a : ℕ) → (location o (h ++ e ∷ []) t a ≡ None → ⊥)
      → is_retired_after o (h ++ e ∷ []) t a ≡ retired_by e a (is_retired_after o h t a)
  pub same : (threads : ℕ) (h : List Event) (t u a : ℕ) → Allowed o threads h
      → t < threads → u < threads → 0 < a → is_retired_after o h t a ≡ is_retired_after o h u a

-- ---- frees

-- the event of a call of `retire`, whatever it is called with
abbrev pub is_retire_call : Event → Bool
is_retire_call (Called t f b) = is_retire f
is_retire_call (Returned t f) = false
is_retire_call (Freed b) = false

-- no address is freed that was never retired
pub record FreesFollowRetirements (o : Observer) : Type 0 where
  pub initial : (by_own : Bool) → step o 0 Free by_own true ≡ None
  pub none_retired : (threads : ℕ) (h : List Event) (a : ℕ) → 0 < threads → 0 < a
      → list_any is_retire_call h ≡ false → Allowed o threads (h ++ Freed a ∷ []) → ⊥
  pub unretired_kept : (l : ℕ) → has (unretired o) l ≡ true → step o l Free false true ≡ None
  pub safe_kept : (l : ℕ) → has (safe o) l ≡ true → step o l Free false true ≡ None

-- ---- sets

-- the sets have live locations alone, and an address that isn't retired isn't freed
pub record SetsOfLocations (o : Observer) : Type 0 where
  pub all_are : (l : ℕ) → l < count_of o → has (all_locations o) l ≡ true
  pub all_below : (l : ℕ) → has (all_locations o) l ≡ true → l < count_of o
  pub unretired_within : within (unretired o) (all_locations o) ≡ true
  pub unretired_safe : within (unretired o) (safe o) ≡ true
  pub safe_within : within (safe o) (all_locations o) ≡ true

-- a step and a closure of locations are locations, and both grow with the set
pub record SetsGrow (o : Observer) : Type 0 where
  pub step_within : (m : ℕ) (kind : EvKind) (by_own on_this : Bool) → within m (all_locations o) ≡ true
      → within (step_set o m kind by_own on_this) (all_locations o) ≡ true
  pub step_grows : (m n : ℕ) (kind : EvKind) (by_own on_this : Bool) → within m n ≡ true
      → within (step_set o m kind by_own on_this) (step_set o n kind by_own on_this) ≡ true
  pub closure_within : (with_free : Bool) (m : ℕ) → within m (all_locations o) ≡ true
      → within (closure o with_free m) (all_locations o) ≡ true
  pub closure_grows : (with_free : Bool) (m n : ℕ) → within m n ≡ true
      → within (closure o with_free m) (closure o with_free n) ≡ true
  pub closure_with_frees : (m : ℕ) → within (closure o false m) (closure o true m) ≡ true

-- a closure is the least closed set above a set of locations, so that closing twice is closing once
pub record ClosuresAreLeast (o : Observer) (with_free : Bool) (m : ℕ) : Type 0 where
  pub holds : within m (closure o with_free m) ≡ true
  pub is_closure : IsClosureOf o with_free m (closure o with_free m)
  pub again : closure o with_free (closure o with_free m) ≡ closure o with_free m
