-- What types give one run whose claims are true in its own garbage-collected run.
use Rattle.std.specs.Prelude.{◌≡◌, ℕ, ◌<◌, true, List, Some}
use Rattle.plc_auto.specs.declared.observer.Observer.{Observer}
use Rattle.plc_auto.specs.Table.{is_well_formed}
use Rattle.plc_flow.specs.declared.flow.Flow.{Flow}
use Rattle.plc_flow.specs.declared.flow.Step.{Step}
use Rattle.plc_moves.specs.declared.words.Move.{Move}
use Rattle.plc_moves.specs.declared.words.Move.TheVariants.{Step as Take}
use Rattle.plc_flow.specs.declared.points.Point.{Point}
use Rattle.plc_flow.specs.Skeleton.{skeleton_of}
use Rattle.plc_flow.specs.WellFormed.{FlowFits}
use Rattle.plc_mem.specs.declared.cell.RaceKind.{RaceKind}
use Rattle.plc_run.specs.Run.{Configuration, Run, Races, MayTake, point_of}
use Rattle.plc_type.specs.declared.env.Env.{Env}
use Rattle.plc_xfer.specs.Typings.{IsTyping, env_at}
use Rattle.plc_sound.specs.Meaning.{EnvMet}
use Rattle.plc_gc.specs.Run.{GcConfiguration, GcRun}
use Rattle.plc_gc.specs.Claims.{ClaimsHold}
use Rattle.plc_erasure.specs.Trace.{moves_of}
use Rattle.plc_erasure.specs.Claims.{RunClaimsHold}

-- the claims that the step of a further move reaches are true in the garbage-collected run of the moves before it
abbrev pub NextClaimsHold :
    (flow : Flow) (o : Observer) (threads n : ℕ) (c : Configuration) → Run flow o threads n c → Move → Type 0
NextClaimsHold flow o threads n c run (Take t nth addr) =
    (p : Point) (step : Step) → MayTake flow threads c t nth addr p step
    → (g : GcConfiguration) → GcRun flow threads (moves_of flow o threads n c run) g → ClaimsHold g.state t step.prims
NextClaimsHold flow o threads n c run move = Unit {0}

-- each busy thread meets the environment of its point, and a further move is no race whose claims are true
pub record RunIsTyped
    (flow : Flow) (o : Observer) (threads : ℕ) (envs : List Env) (n : ℕ) (c : Configuration)
    (run : Run flow o threads n c) : Type 0 where
  pub met : (t : ℕ) (p : Point) → t < threads → point_of c t ≡ Some p
      → EnvMet o c.history t c.state (env_at envs p.at)
  pub no_race : (move : Move) (kind : RaceKind) (k : ℕ) → NextClaimsHold flow o threads n c run move
      → Races flow threads c move kind k → ⊥

-- so it is with each run whose claims were true
abbrev pub ClaimsOfOneRunSuffice : Type 0
ClaimsOfOneRunSuffice =
    (flow : Flow) (o : Observer) (threads : ℕ) (envs : List Env) → FlowFits flow → is_well_formed o ≡ true
    → 0 < threads → IsTyping o (skeleton_of flow) envs → (n : ℕ) (c : Configuration) (run : Run flow o threads n c)
    → RunClaimsHold flow o threads n c run → RunIsTyped flow o threads envs n c run
