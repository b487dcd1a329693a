-- Where each of some watchers stands for each address, event by event. A watcher reads what one thread does by the
-- table of its observer; some read what every thread does that wasn't heard, until it is heard and has watchers of its
-- own. Addresses that stand where an address does that was never named have no row, unless they are retired.
use Rattle.std.specs.Prelude.{ℕ, zero, suc, ◌==◌, ◌&&◌, ◌||◌, Bool, true, false, not}
use Rattle.std.specs.Prelude.{if◌then◌else◌, List, [], ◌∷◌, ◌++◌, map, filter}
use Rattle.std.specs.Prelude.{take, length, get_or, replicate, fold, find, Option, Some, None, is_some}
use Rattle.std.specs.List.{list_any}
use Rattle.std.specs.Option.{option_map}
use Rattle.plc_auto.specs.declared.event.Event.{Event}
use Rattle.plc_auto.specs.declared.event.Event.TheVariants.{Free as Freed}
use Rattle.plc_auto.specs.declared.event.EvKind.{EvKind}
use Rattle.plc_auto.specs.declared.observer.Observer.{Observer}
use Rattle.plc_auto.specs.declared.watcher.Watcher.{Watcher}
use Rattle.plc_auto.specs.Events.{kind_of, thread_of, address_of}
use Rattle.plc_auto.specs.Table.{step}
use Rattle.plc_auto.specs.Location.{is_this}
use Rattle.plc_auto.specs.Waiting.{is_kept_at}
use Rattle.plc_auto.specs.Laws.{is_retirement, retired_by}

-- an address, whether it was retired and not freed since, and where each watcher stands for it; None is `bad`
pub record Row : Type 0 where
  pub address : ℕ
  pub retired : Bool
  pub at : List (Option ℕ)

-- the watchers, of which the first so many are of every thread that wasn't heard; where they stand for every address
-- without a row; and rows, those that are retired in the order of their retirements
pub record Locations : Type 0 where
  pub unheard : ℕ
  pub watchers : List Watcher
  pub others : List (Option ℕ)
  pub rows : List Row

-- ---- before every event

-- a watcher of every thread that wasn't heard
abbrev pub of_unheard : Observer → Watcher
of_unheard o = record { observer = o; thread = None }

-- a watcher of one thread
abbrev pub of_thread : ℕ → Observer → Watcher
of_thread t o = record { observer = o; thread = Some t }

-- those of so many threads
abbrev pub first_threads : Observer → ℕ → List Watcher
first_threads o zero = []
first_threads o (suc n) = first_threads o n ++ of_thread n o ∷ []

-- each of these watchers stands everywhere in its first location
abbrev pub begun : ℕ → List Watcher → Locations
begun unheard ws = record { unheard = unheard; watchers = ws; others = replicate (length ws) (Some 0); rows = [] }

-- no thread was heard
unfoldable pub fresh : List Observer → Locations
fresh os = begun (length os) (map of_unheard os)

-- the threads are known, and no other is watched
unfoldable pub of_threads : Observer → ℕ → Locations
of_threads o n = begun 0 (first_threads o n)

-- ---- a thread that wasn't heard

-- a thread is that of a call or a return, if there is one
abbrev pub is_by : Option ℕ → Option ℕ → Bool
is_by None t = false
is_by (Some u) None = false
is_by (Some u) (Some t) = u == t

-- the thread has watchers of its own, or there is none
abbrev pub is_known : Option ℕ → List Watcher → Bool
is_known None ws = true
is_known (Some t) ws = list_any (λ w. is_by (Some t) w.thread) ws

-- where watchers stand of which the first n are there once more
abbrev pub with_first : ℕ → List (Option ℕ) → List (Option ℕ)
with_first n at = at ++ take n at

-- a row of more watchers
abbrev pub wider : ℕ → Row → Row
wider n r = record { address = r.address; retired = r.retired; at = with_first n r.at }

-- the watcher that a thread has of its own for one of every thread
abbrev pub owned : ℕ → Watcher → Watcher
owned t w = of_thread t w.observer

-- a watcher more for each of every thread that wasn't heard; it stands where that one stands
abbrev pub with_own : ℕ → Locations → Locations
with_own t l = record {
  unheard = l.unheard;
  watchers = l.watchers ++ map (owned t) (take l.unheard l.watchers);
  others = with_first l.unheard l.others;
  rows = map (wider l.unheard) l.rows;
}

-- an event's thread is known from then on
abbrev pub with_thread : Option ℕ → Locations → Locations
with_thread None l = l
with_thread (Some t) l = if is_known (Some t) l.watchers then l else with_own t l

-- ---- the rows that an event needs

-- an address has a row, or is null, which needs none
abbrev pub has_row : ℕ → List Row → Bool
has_row a rows = (a == 0) || list_any (λ r. r.address == a) rows

-- a row more, if the address has none: where the others stand, and not retired
abbrev pub with_row : ℕ → List (Option ℕ) → List Row → List Row
with_row a others rows =
    if has_row a rows then rows else rows ++ record { address = a; retired = false; at = others } ∷ []

-- the row of an address goes to the end, unless it is retired already
abbrev pub to_end : ℕ → List Row → List Row
to_end a [] = []
to_end a (r ∷ rows) =
    if r.address == a then (if r.retired then r ∷ rows else rows ++ r ∷ []) else r ∷ to_end a rows

-- what begins to be retired is last
abbrev pub in_order : Event → List Row → List Row
in_order e rows = if is_retirement (kind_of e) then to_end (address_of e) rows else rows

-- ---- moves

-- the event names the address
abbrev pub is_named : Event → ℕ → Bool
is_named e a = is_this (Some (address_of e)) a

-- where a kind of event leads from a location; `bad` is never left
abbrev pub moved_by : Observer → EvKind → Bool → Bool → Option ℕ → Option ℕ
moved_by o kind by_own on_this None = None
moved_by o kind by_own on_this (Some l) = step o l kind by_own on_this

-- where an event leads a watcher
abbrev pub moved : Event → Bool → Watcher → Option ℕ → Option ℕ
moved e on_this w l = moved_by w.observer (kind_of e) (is_by (thread_of e) w.thread) on_this l

-- where it leads each of these watchers, for one address
abbrev pub all_moved : Event → Bool → List Watcher → List (Option ℕ) → List (Option ℕ)
all_moved e on_this [] at = at
all_moved e on_this (w ∷ ws) [] = []
all_moved e on_this (w ∷ ws) (l ∷ at) = moved e on_this w l ∷ all_moved e on_this ws at

-- a row after an event
abbrev pub row_after : Event → List Watcher → Row → Row
row_after e ws r = record {
  address = r.address;
  retired = retired_by e r.address r.retired;
  at = all_moved e (is_named e r.address) ws r.at;
}

-- two locations are the same
abbrev pub same_location : Option ℕ → Option ℕ → Bool
same_location None None = true
same_location None (Some k) = false
same_location (Some l) None = false
same_location (Some l) (Some k) = l == k

-- so are all of two rows
abbrev pub same_locations : List (Option ℕ) → List (Option ℕ) → Bool
same_locations [] [] = true
same_locations [] (k ∷ others) = false
same_locations (l ∷ at) [] = false
same_locations (l ∷ at) (k ∷ others) = same_location l k && same_locations at others

-- a row is needed that is retired, or stands elsewhere than the others
abbrev pub is_needed : List (Option ℕ) → Row → Bool
is_needed others r = r.retired || not (same_locations r.at others)

-- what an event makes of the rows that it needs, and of the others
abbrev pub rows_moved : Event → List Watcher → List (Option ℕ) → List Row → List Row
rows_moved e ws others rows = filter (is_needed (all_moved e false ws others)) (map (row_after e ws) rows)

-- after an event of a thread that is known
abbrev pub heard_by_known : Event → Locations → Locations
heard_by_known e l = record {
  unheard = l.unheard;
  watchers = l.watchers;
  others = all_moved e false l.watchers l.others;
  rows = rows_moved e l.watchers l.others (in_order e (with_row (address_of e) l.others l.rows));
}

-- after an event
unfoldable pub locations_after : Event → Locations → Locations
locations_after e l = heard_by_known e (with_thread (thread_of e) l)

-- after these events, one by one
abbrev pub locations_after_all : Locations → List Event → Locations
locations_after_all l events = fold (λ l e. locations_after e l) l events

-- ---- what is asked of them

-- the row of an address: its first, or that of the others
abbrev pub row_of : List Row → List (Option ℕ) → ℕ → List (Option ℕ)
row_of [] others a = others
row_of (r ∷ rows) others a = if r.address == a then r.at else row_of rows others a

-- where watcher number i stands for an address
unfoldable pub stands : Locations → ℕ → ℕ → Option ℕ
stands l i a = get_or (row_of l.rows l.others a) i None

-- the addresses that were retired and not freed since, in the order of the rows
unfoldable pub retired_addresses : Locations → List ℕ
retired_addresses l = map (λ r. r.address) (filter (λ r. r.retired) l.rows)

-- some watcher stands in `r.kept` for the address
unfoldable pub is_kept : Locations → ℕ → Bool
is_kept l a = list_any is_kept_at (row_of l.rows l.others a)

-- a free of the address leads none of these watchers to `bad` from where they stand
abbrev pub all_bear_free : ℕ → List Watcher → List (Option ℕ) → Bool
all_bear_free a [] at = true
all_bear_free a (w ∷ ws) [] = false
all_bear_free a (w ∷ ws) (l ∷ at) = is_some (moved (Freed a) (is_named (Freed a) a) w l) && all_bear_free a ws at

-- a free of the address leads no watcher to `bad`
unfoldable pub may_free : Locations → ℕ → Bool
may_free l a = all_bear_free a l.watchers (row_of l.rows l.others a)

-- a row is that of a retired address which no watcher keeps
abbrev pub is_free_row : Row → Bool
is_free_row r = r.retired && not (list_any is_kept_at r.at)

-- the address of the first such row
abbrev pub first_free_of : List Row → Option ℕ
first_free_of rows = option_map (λ r. r.address) (find is_free_row rows)

-- the first retired address that no watcher keeps
unfoldable pub first_free : Locations → Option ℕ
first_free l = first_free_of l.rows
