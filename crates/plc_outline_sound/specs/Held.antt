-- What an outline that holds says of a configuration.
use Rattle.std.specs.Prelude.{◌≡◌, ℕ, List, Some, None, All}
use Rattle.plc_flow.specs.declared.flow.Step.{Step}
use Rattle.plc_flow.specs.declared.flow.Flow.{Flow}
use Rattle.plc_moves.specs.declared.words.Move.{Move}
use Rattle.plc_flow.specs.declared.points.Point.{Point}
use Rattle.plc_logic.specs.declared.clause.Outline.{Outline}
use Rattle.plc_vocabulary.specs.Points.{clauses_at}
use Rattle.plc_oblig.specs.Outlines.{OutlineHolds}
use Rattle.plc_gc.specs.Run.{GcConfiguration, GcRun, MayTake, point_of}
use Rattle.plc_gc.specs.Clauses.{Holds}
use Rattle.plc_gc.specs.Claims.{ClaimsHold, AllClaimsHold}

-- the invariants, the clauses of the point of each busy thread, and the claims that are reached by the steps that may
-- be taken next
pub record OutlineIsTrue (flow : Flow) (outline : Outline) (threads : ℕ) (c : GcConfiguration) : Type 0 where
  pub invariants : All (Holds c.state None) outline.invariants
  pub points : (t : ℕ) (p : Point) → point_of c t ≡ Some p → All (Holds c.state (Some t)) (clauses_at flow outline p.at)
  pub claims : (t nth : ℕ) (p : Point) (step : Step) → MayTake flow threads c t nth p step
      → ClaimsHold c.state t step.prims

-- a held outline is true in each configuration of each garbage-collected run
abbrev pub HeldOutlinesAreTrue : Flow → Outline → ℕ → Type 0
HeldOutlinesAreTrue flow outline threads =
    OutlineHolds flow outline → (moves : List Move) (c : GcConfiguration) → GcRun flow threads moves c
    → OutlineIsTrue flow outline threads c

-- so every claim of every garbage-collected run is true
abbrev pub HeldClaimsAreTrue : Flow → Outline → ℕ → Type 0
HeldClaimsAreTrue flow outline threads = OutlineHolds flow outline → AllClaimsHold flow threads
