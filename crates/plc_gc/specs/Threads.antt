-- What every configuration of a garbage-collected run of a flow has: each busy thread holds the locals of its
-- operation.
use Rattle.std.specs.Prelude.{◌≡◌, ℕ, ◌<◌, ◌+◌, List, length}
use Rattle.plc_lang.specs.declared.syntax.Op.{Op}
use Rattle.plc_lang.specs.Locals.{pointers_of, parameters_of, other_data_of}
use Rattle.plc_flow.specs.declared.flow.Flow.{Flow}
use Rattle.plc_flow.specs.WellFormed.{FlowFits}
use Rattle.plc_flow.specs.WellSorted.{FlowIsWellSorted}
use Rattle.plc_moves.specs.declared.words.Move.{Move}
use Rattle.plc_moves.specs.Fit.{ThreadsFit}
use Rattle.plc_gc.specs.State.{Locals}
use Rattle.plc_gc.specs.Run.{GcConfiguration, GcRun}

-- the locals are those of an operation
pub record LocalsFit (operation : Op) (l : Locals) : Type 0 where
  pub declared : l.declared ≡ operation.locals
  pub pointers : length l.pointers ≡ pointers_of operation
  pub values : length l.values ≡ parameters_of operation + other_data_of operation

-- each busy thread holds locals of its operation, and the state is that of the flow
pub record GcConfigurationFits (flow : Flow) (threads : ℕ) (c : GcConfiguration) : Type 0 where
  pub shared : length c.state.shared ≡ length flow.file.shared
  pub fields : c.state.fields ≡ flow.file.fields
  pub ghosts : c.state.ghosts ≡ length flow.file.ghosts
  pub standing : ThreadsFit flow LocalsFit threads c.state.locals c.points

-- so it is in every configuration of every run of a flow of a file that was read
abbrev pub CollectedThreadsHoldTheirLocals : Type 0
CollectedThreadsHoldTheirLocals =
    (flow : Flow) (threads : ℕ) (moves : List Move) (c : GcConfiguration) → FlowFits flow → FlowIsWellSorted flow
    → 0 < threads → GcRun flow threads moves c → GcConfigurationFits flow threads c
