-- What each function of the code does to locations that hears an event: the row that the event names moves first, then
-- the watchers of the event's thread in every other row, each in all rows before the next.
use Rattle.std.specs.Prelude.{ℕ, Bool, true, false, if◌then◌else◌}
use Rattle.std.specs.Prelude.{List, ◌++◌, map, take, set, get_or, Option, Some, None}
use Rattle.plc_auto.specs.declared.event.Event.{Event}
use Rattle.plc_auto.specs.declared.event.EvKind.{EvKind}
use Rattle.plc_auto.specs.declared.observer.Observer.{Observer}
use Rattle.plc_auto.specs.declared.watcher.Watcher.{Watcher}
use Rattle.plc_auto.specs.Location.{is_this}
use Rattle.plc_auto.specs.Locations.{Row, Locations, owned, with_first, wider, is_named, moved_by, all_moved, row_after}

-- where a kind of event leads watcher number i, for one address
abbrev pub one_moved : Observer → EvKind → Bool → Bool → ℕ → List (Option ℕ) → List (Option ℕ)
one_moved o kind by_own on_this i at = set at i (moved_by o kind by_own on_this (get_or at i None))

-- a row in which one watcher has moved
abbrev pub with_one : Observer → EvKind → Bool → Bool → ℕ → Row → Row
with_one o kind by_own on_this i r =
    record { address = r.address; retired = r.retired; at = one_moved o kind by_own on_this i r.at }

-- a row in which these watchers have moved
abbrev pub with_all : Event → Bool → List Watcher → Row → Row
with_all e on_this ws r = record { address = r.address; retired = r.retired; at = all_moved e on_this ws r.at }

-- the row that the event names has moved
abbrev pub named_after : Event → List Watcher → Row → Row
named_after e ws r = if is_named e r.address then row_after e ws r else r

-- in every other row than that of an address one watcher has moved, by an event of its thread
abbrev pub one_elsewhere : Observer → EvKind → ℕ → ℕ → Row → Row
one_elsewhere o kind a i r = if is_this (Some a) r.address then r else with_one o kind true false i r

-- in every other row these watchers have moved
abbrev pub all_elsewhere : Event → List Watcher → Row → Row
all_elsewhere e ws r = if is_named e r.address then r else with_all e false ws r

-- the first n watchers once more, of a thread
abbrev pub widened : ℕ → ℕ → Locations → Locations
widened n t l = record {
  unheard = l.unheard;
  watchers = l.watchers ++ map (owned t) (take n l.watchers);
  others = with_first n l.others;
  rows = map (wider n) l.rows;
}
