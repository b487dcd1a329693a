-- What the reclaimers keep that free, as a list of numbers: a list of rows, each with its numbers raised by one and a 0
-- after them, of which some are again such lists.
use Rattle.std.specs.Prelude.{ℕ, ◌+◌, zero, suc, Bool, true, false, List, [], ◌∷◌, map, get_or, Option, Some, None}
use Rattle.plc_auto.specs.declared.event.Event.{Event}
use Rattle.plc_auto.specs.declared.observer.Observer.{Observer}
use Rattle.plc_auto.specs.declared.observer.Observer.TheVariants.{Plain, Hazard, Epoch}
use Rattle.plc_auto.specs.declared.watcher.Watcher.{Watcher}
use Rattle.plc_auto.specs.declared.scheme.Scheme.{Scheme}
use Rattle.plc_auto.specs.Locations.{Row, Locations, fresh, locations_after, first_free}
use Rattle.plc_reclaim.specs.Meanings.{Meanings}

-- ---- rows of numbers

-- the numbers of a row, raised by one, and a 0, before other numbers
abbrev pub row : List ℕ → List ℕ → List ℕ
row [] later = 0 ∷ later
row (n ∷ ns) later = (n + 1) ∷ row ns later

-- row after row
abbrev pub rows : List (List ℕ) → List ℕ
rows [] = []
rows (ns ∷ nss) = row ns (rows nss)

-- a number in front of the first row
abbrev pub into_first : ℕ → List (List ℕ) → List (List ℕ)
into_first n [] = (n ∷ []) ∷ []
into_first n (ns ∷ nss) = (n ∷ ns) ∷ nss

-- the rows of some numbers
abbrev pub rows_of : List ℕ → List (List ℕ)
rows_of [] = []
rows_of (zero ∷ ns) = [] ∷ rows_of ns
rows_of (suc n ∷ ns) = into_first n (rows_of ns)

-- ---- locations, threads and marks, of which none is 0

-- the number of a location or a thread
abbrev pub option_number : Option ℕ → ℕ
option_number None = 0
option_number (Some n) = n + 1

-- the location or thread of a number
abbrev pub option_at : ℕ → Option ℕ
option_at zero = None
option_at (suc n) = Some n

-- the number of a mark
abbrev pub mark_number : Bool → ℕ
mark_number false = 0
mark_number true = 1

-- the mark of a number
abbrev pub mark_at : ℕ → Bool
mark_at zero = false
mark_at (suc n) = true

-- ---- a watcher: its thread, then its observer's functions, of which each kind has another number

-- the functions of an observer
abbrev pub observer_numbers : Observer → List ℕ
observer_numbers Plain = []
observer_numbers (Hazard f) = f.0 ∷ []
observer_numbers (Epoch e l) = e.0 ∷ l.0 ∷ []

-- the observer of functions
abbrev pub observer_at : List ℕ → Observer
observer_at [] = Plain
observer_at (f ∷ []) = Hazard (record { 0 = f })
observer_at (e ∷ l ∷ ns) = Epoch (record { 0 = e }) (record { 0 = l })

-- the numbers of a watcher
abbrev pub watcher_numbers : Watcher → List ℕ
watcher_numbers w = option_number w.thread ∷ observer_numbers w.observer

-- the watcher of numbers
abbrev pub watcher_at : List ℕ → Watcher
watcher_at [] = record { observer = Plain; thread = None }
watcher_at (t ∷ ns) = record { observer = observer_at ns; thread = option_at t }

-- ---- a row of locations: its address, whether it is retired, then each location

-- the numbers of a row
abbrev pub row_numbers : Row → List ℕ
row_numbers r = r.address ∷ mark_number r.retired ∷ map option_number r.at

-- the row of numbers
abbrev pub row_at : List ℕ → Row
row_at [] = record { address = 0; retired = false; at = [] }
row_at (a ∷ []) = record { address = a; retired = false; at = [] }
row_at (a ∷ m ∷ ns) = record { address = a; retired = mark_at m; at = map option_at ns }

-- ---- the numbers of it all

-- how many watchers are of every thread, where the others stand, the watchers, and the rows
unfoldable pub numbers_of : Locations → List ℕ
numbers_of l = rows (
    (l.unheard ∷ []) ∷ map option_number l.others ∷ rows (map watcher_numbers l.watchers)
    ∷ rows (map row_numbers l.rows) ∷ []
    )

-- what rows say
abbrev pub locations_at : List (List ℕ) → Locations
locations_at nss = record {
  unheard = get_or (get_or nss 0 []) 0 0;
  watchers = map watcher_at (rows_of (get_or nss 2 []));
  others = map option_at (get_or nss 1 []);
  rows = map row_at (rows_of (get_or nss 3 []));
}

-- what numbers say
unfoldable pub locations_of : List ℕ → Locations
locations_of ns = locations_at (rows_of ns)

-- ---- the meanings of a reclaimer, by which observers it serves

-- what is kept before every event
unfoldable pub begun_with : List Observer → List ℕ
begun_with os = numbers_of (fresh os)

-- what is kept after an event
unfoldable pub held_after : List ℕ → Event → List ℕ
held_after held e = numbers_of (locations_after e (locations_of held))

-- what is picked
unfoldable pub free_of : List ℕ → Option ℕ
free_of held = first_free (locations_of held)

-- those of a reclaimer that serves the observers that it reads from the schemes; a pick takes nothing out
abbrev pub by_tables : (List Scheme → List Observer) → Meanings
by_tables observers = record {
  begun = λ schemes. begun_with (observers schemes);
  after = held_after;
  picked = λ held. held;
  pick_of = free_of;
}
