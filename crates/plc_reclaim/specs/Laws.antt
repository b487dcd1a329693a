-- The laws of the rows, each for all that it speaks of.
use Rattle.std.specs.Prelude.{◌≡◌, ◌↔◌, ℕ, false, List}
use Rattle.plc_auto.specs.declared.event.Event.{Event}
use Rattle.plc_auto.specs.declared.observer.Observer.{Observer}
use Rattle.plc_auto.specs.declared.scheme.Scheme.{Scheme}
use Rattle.plc_auto.specs.Location.{location}
use Rattle.plc_auto.specs.Waiting.{is_kept_at}
use Rattle.plc_reclaim.specs.Meanings.{Meanings}
use Rattle.plc_reclaim.specs.Rows.{ActsAs, is_kept_by, hazards, epochs, hazard_row, epoch_row}
use Rattle.plc_reclaim.specs.Histories.{MakesAllowed}

-- a thread that no event names keeps no address, so that a row asks every thread there is
abbrev pub RowsAskEveryThread : Type 0
RowsAskEveryThread =
    (o : Observer) (events : List Event) (a : ℕ)
    → (is_kept_by events a o ≡ false) ↔ ((t : ℕ) → is_kept_at (location o events t a) ≡ false)

-- whatever acts as `hazard` makes histories that `plain` and the observers of the Hazard schemes allow
abbrev pub HazardMakesAllowedHistories : Type 0
HazardMakesAllowedHistories =
    (schemes : List Scheme) (m : Meanings) → ActsAs hazard_row m → MakesAllowed (hazards schemes) schemes m

-- whatever acts as `epoch` makes histories that `plain` and the observers of the Epoch schemes allow
abbrev pub EpochMakesAllowedHistories : Type 0
EpochMakesAllowedHistories =
    (schemes : List Scheme) (m : Meanings) → ActsAs epoch_row m → MakesAllowed (epochs schemes) schemes m
