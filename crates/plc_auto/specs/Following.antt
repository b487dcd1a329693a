-- Laws of locations: whatever events were heard, each watcher stands where the observer says by the whole history, and
-- the rows have the addresses that wait, in the order of their retirements.
use Rattle.std.specs.Prelude.{◌≡◌, ◌<◌, ◌↔◌, ◌⊎◌, ℕ, true, false, not, List, fold, find, [], slice_get}
use Rattle.std.specs.Prelude.{Some, None, is_some}
use Rattle.std.specs.List.{Contains}
use Rattle.plc_auto.specs.declared.event.Event.{Event}
use Rattle.plc_auto.specs.declared.event.Event.TheVariants.{Free as Freed}
use Rattle.plc_auto.specs.declared.observer.Observer.{Observer}
use Rattle.plc_auto.specs.declared.watcher.Watcher.{Watcher}
use Rattle.plc_auto.specs.Location.{location, advance}
use Rattle.plc_auto.specs.Waiting.{is_kept_at, waiting_after}
use Rattle.plc_auto.specs.Locations.{Locations, of_threads, is_known, locations_after_all, stands, retired_addresses}
use Rattle.plc_auto.specs.Locations.{is_kept, may_free, first_free}

-- so many threads, each with one watcher, its number
pub record FollowsThreads (o : Observer) (threads : ℕ) : Type 0 where
  pub located : (h : List Event) (t a : ℕ) → t < threads
      → stands (locations_after_all (of_threads o threads) h) t a ≡ location o h t a
  pub frees : (h : List Event) (a : ℕ) → (may_free (locations_after_all (of_threads o threads) h) a ≡ true)
      ↔ ((t : ℕ) → t < threads → is_some (advance o t a (Freed a) (location o h t a)) ≡ true)

-- a watcher reads what thread t does: it is the thread's own, or the thread has none and it is one of all such
abbrev pub Watches : List Watcher → ℕ → Watcher → Type 0
Watches ws t w = (w.thread ≡ Some t) ⊎ ((w.thread ≡ None) × (is_known (Some t) ws ≡ false))

-- any number of threads, each with a watcher for each of these observers
pub record FollowsObservers (os : List Observer) (h : List Event) (l : Locations) : Type 0 where
  pub located : (i t a : ℕ) (w : Watcher) → slice_get l.watchers i ≡ Some w → Watches l.watchers t w
      → stands l i a ≡ location w.observer h t a
  pub each_watched : (o : Observer) (t : ℕ) → Contains os o
      → (i : ℕ) × (w : Watcher) × (slice_get l.watchers i ≡ Some w) × (w.observer ≡ o) × Watches l.watchers t w
  pub kept : (a : ℕ) → (is_kept l a ≡ false)
      ↔ ((o : Observer) (t : ℕ) → Contains os o → is_kept_at (location o h t a) ≡ false)
  pub retired : retired_addresses l ≡ fold waiting_after [] h
  pub first : first_free l ≡ find (λ a. not (is_kept l a)) (retired_addresses l)
