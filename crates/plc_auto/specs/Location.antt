-- Where a thread and an address stand after a history, which histories are allowed, and which addresses are retired.
use Rattle.std.specs.Prelude.{◌≡◌, ◌==◌, ◌&&◌, ◌<◌, ℕ, Bool, false, not, List}
use Rattle.std.specs.Prelude.{[], ◌∷◌, take, get_or, Option, Some, None}
use Rattle.plc_auto.specs.declared.event.Event.{Event}
use Rattle.plc_auto.specs.declared.event.Event.TheVariants.{Call as Called, Done as Returned, Free as Freed}
use Rattle.plc_auto.specs.declared.event.EvKind.TheVariants.{Call, Done, Free}
use Rattle.plc_auto.specs.declared.observer.Observer.{Observer}
use Rattle.plc_auto.specs.Table.{step, names_of}

-- null and an absent address are other
abbrev pub is_this : Option ℕ → ℕ → Bool
is_this None a = false
is_this (Some b) a = (b == a) && not (b == 0)

-- where an event leads from a location, for thread t and address a; `bad` is never left
abbrev pub step_by : Observer → ℕ → ℕ → Event → ℕ → Option ℕ
step_by o t a (Called u f b) l = step o l (Call f) (u == t) (is_this b a)
step_by o t a (Returned u f) l = step o l (Done f) (u == t) false
step_by o t a (Freed b) l = step o l Free false (is_this (Some b) a)

-- one event more; `bad` is never left
abbrev pub advance : Observer → ℕ → ℕ → Event → Option ℕ → Option ℕ
advance o t a e None = None
advance o t a e (Some l) = step_by o t a e l

-- the events of a history, one after the other
abbrev pub location_from : Observer → ℕ → ℕ → Option ℕ → List Event → Option ℕ
location_from o t a l [] = l
location_from o t a l (e ∷ h) = location_from o t a (advance o t a e l) h

-- the location of thread t and address a after a history, None for `bad`; the first location is initial
unfoldable pub location : Observer → List Event → ℕ → ℕ → Option ℕ
location o h t a = location_from o t a (Some 0) h

-- no thread and no address ever comes to `bad`
abbrev pub Allowed : Observer → ℕ → List Event → Type 0
Allowed o threads h = (n t a : ℕ) → t < threads → 0 < a → location o (take n h) t a ≡ None → ⊥

-- the name of a location begins with `r`
abbrev pub begins_with_r : List ℕ → Bool
begins_with_r [] = false
begins_with_r (b ∷ bs) = b == 114

-- in such a location the address is retired
abbrev pub is_retired_location : Observer → ℕ → Bool
is_retired_location o l = begins_with_r (get_or (names_of o) l [])

-- `bad` counts as none
abbrev pub stands_retired : Observer → Option ℕ → Bool
stands_retired o None = false
stands_retired o (Some l) = is_retired_location o l

-- an address is retired after a history: thread t stands for every thread
abbrev pub is_retired_after : Observer → List Event → ℕ → ℕ → Bool
is_retired_after o h t a = stands_retired o (location o h t a)
