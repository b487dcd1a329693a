-- How runs begin where each thing stands where its kind may stand: `init` is no race, and nothing is heard of it.
use Rattle.std.specs.Prelude.{◌≡◌, ◌↔◌, ℕ, [], Some, None}
use Rattle.plc_flow.specs.declared.flow.Flow.{Flow}
use Rattle.plc_run.specs.Run.{Ending, Fine, Stuck, Raced, Configuration, initialised, first_configuration}

-- no race, and where it isn't blocked nothing was heard
abbrev pub IsQuiet : Ending → Type 0
IsQuiet (Fine s h) = h ≡ []
IsQuiet Stuck = Unit {0}
IsQuiet (Raced kind k) = ⊥

-- `init` is quiet, so that the history begins empty, and there is no run exactly where `init` is blocked
pub record InitIsQuiet (flow : Flow) (threads : ℕ) : Type 0 where
  pub quiet : IsQuiet (initialised flow threads)
  pub empty : (c : Configuration) → first_configuration flow threads ≡ Some c → c.history ≡ []
  pub blocked : (first_configuration flow threads ≡ None) ↔ (initialised flow threads ≡ Stuck)
