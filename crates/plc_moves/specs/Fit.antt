-- What every configuration of a run of a flow has, whichever meaning memory has: each busy thread holds what fits its
-- operation, and stands at one of its points.
use Rattle.std.specs.Prelude.{◌≡◌, ℕ, List, length, get_or, slice_get, Option, Some, None}
use Rattle.plc_lang.specs.declared.syntax.Op.{Op}
use Rattle.plc_flow.specs.declared.flow.Gate.{Gate}
use Rattle.plc_flow.specs.declared.flow.Flow.{Flow}
use Rattle.plc_flow.specs.declared.points.Point.{Point}
use Rattle.plc_flow.specs.WellFormed.{IsPointOf}

-- a thread at this point holds what fits the point's operation
pub record HoldsAt {L : Type 0} (flow : Flow) (Fits : Op → L → Type 0) (table : List (Option L)) (t : ℕ) (p : Point)
    : Type 0 where
  pub operation : Op
  pub gate : Gate
  pub locals : L
  pub named : slice_get flow.file.ops p.op ≡ Some operation
  pub opens : slice_get flow.gates p.op ≡ Some gate
  pub within : IsPointOf gate p.at
  pub held : get_or table t None ≡ Some locals
  pub fits : Fits operation locals

-- an idle thread holds nothing
abbrev pub ThreadFits : {L : Type 0} → Flow → (Op → L → Type 0) → List (Option L) → ℕ → Option Point → Type 0
ThreadFits flow Fits table t None = get_or table t None ≡ None
ThreadFits flow Fits table t (Some p) = HoldsAt flow Fits table t p

-- so it is with every thread, of which there are so many
pub record ThreadsFit {L : Type 0} (flow : Flow) (Fits : Op → L → Type 0) (threads : ℕ) (table : List (Option L))
    (ps : List (Option Point)) : Type 0 where
  pub locals : length table ≡ threads
  pub points : length ps ≡ threads
  pub each : (t : ℕ) → ThreadFits flow Fits table t (get_or ps t None)
