-- What every configuration of a run of a flow has: each busy thread holds the locals of its operation.
use Rattle.std.specs.Prelude.{◌≡◌, ℕ, length}
use Rattle.plc_lang.specs.declared.syntax.Op.{Op}
use Rattle.plc_lang.specs.Shape.{shape_of}
use Rattle.plc_flow.specs.declared.flow.Flow.{Flow}
use Rattle.plc_moves.specs.Fit.{ThreadsFit}
use Rattle.plc_mem.specs.State.{State, Locals}
use Rattle.plc_mem.specs.Fit.{shape}
use Rattle.plc_run.specs.Run.{Configuration}

-- the locals have the shape of an operation's
abbrev pub LocalsFit : Flow → State → Op → Locals → Type 0
LocalsFit flow s operation l = shape s l ≡ shape_of flow.file operation

-- each busy thread holds locals of its operation, and the memory is that of the flow
pub record ConfigurationFits (flow : Flow) (threads : ℕ) (c : Configuration) : Type 0 where
  pub shared : length c.state.shared ≡ length flow.file.shared
  pub fields : length c.state.fields ≡ length flow.file.fields
  pub standing : ThreadsFit flow (LocalsFit flow c.state) threads c.state.locals c.points
