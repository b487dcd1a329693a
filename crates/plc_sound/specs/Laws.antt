-- The law of types: what each busy thread of a run meets, that each move keeps it, and that no race comes of it. And
-- what it gives for whole runs.
use Rattle.std.specs.Prelude.{◌≡◌, ℕ, ◌<◌, true, List, Some, slice_get}
use Rattle.plc_base.specs.declared.ids.OpId.{OpId}
use Rattle.plc_lang.specs.Skeleton.{locals_at}
use Rattle.plc_auto.specs.declared.observer.Observer.{Observer}
use Rattle.plc_auto.specs.Table.{is_well_formed}
use Rattle.plc_auto.specs.Sets.{all_locations}
use Rattle.plc_flow.specs.declared.flow.Flow.{Flow}
use Rattle.plc_flow.specs.declared.flow.Gate.{Gate}
use Rattle.plc_moves.specs.declared.words.Move.{Move}
use Rattle.plc_moves.specs.declared.words.Move.TheVariants.{Start}
use Rattle.plc_flow.specs.declared.points.Point.{Point}
use Rattle.plc_flow.specs.Skeleton.{skeleton_of}
use Rattle.plc_flow.specs.WellFormed.{FlowFits}
use Rattle.plc_mem.specs.declared.cell.RaceKind.{RaceKind}
use Rattle.plc_run.specs.Run.{Configuration, Run, Moves, Races, NeverRaces, point_of, first_configuration}
use Rattle.plc_type.specs.declared.env.Env.{Env}
use Rattle.plc_type.specs.Environments.{env_below, entry}
use Rattle.plc_xfer.specs.Typings.{IsEnvironment, IsTyping, HasTyping, env_at}
use Rattle.plc_sound.specs.Meaning.{EnvMet}
use Rattle.plc_sound.specs.Calm.{IsCalm}
use Rattle.plc_sound.specs.Claims.{MoveClaims}

-- thread t meets an environment that stays met and is below that of the point p
pub record MeetsPoint (flow : Flow) (o : Observer) (envs : List Env) (c : Configuration) (t p : ℕ) : Type 0 where
  pub env : Env
  pub facts : IsEnvironment o (skeleton_of flow).shared (locals_at (skeleton_of flow) p) env
  pub calm : IsCalm o env
  pub met : EnvMet o c.history t c.state env
  pub below : env_below env (env_at envs p) ≡ true

-- so does every busy thread at its point
abbrev pub AllMeet : Flow → Observer → ℕ → List Env → Configuration → Type 0
AllMeet flow o threads envs c =
    (t : ℕ) (p : Point) → t < threads → point_of c t ≡ Some p → MeetsPoint flow o envs c t p.at

-- the entry environment of an operation
abbrev pub entry_of : Flow → Observer → Gate → Env
entry_of flow o gate =
    entry (skeleton_of flow).shared (locals_at (skeleton_of flow) gate.entry.0) (all_locations o)

-- where a run begins, what each move of it does, and what is met at each point
pub record TypesAreSound (flow : Flow) (o : Observer) (threads : ℕ) (envs : List Env) : Type 0 where
  -- all meet where a run begins, since nobody is busy
  pub begun : (c : Configuration) → first_configuration flow threads ≡ Some c → AllMeet flow o threads envs c
  -- a thread that starts meets the entry environment of its operation
  pub started : (n : ℕ) (c d : Configuration) (t : ℕ) (op : OpId) (args : List ℕ) (gate : Gate)
      → Run flow o threads n c → Moves flow o threads c (Start t op args) d → slice_get flow.gates op.0 ≡ Some gate
      → EnvMet o d.history t d.state (entry_of flow o gate)
  -- a move whose claims are true keeps it
  pub by_move : (n : ℕ) (c d : Configuration) (move : Move) → Run flow o threads n c → AllMeet flow o threads envs c
      → MoveClaims flow threads c move → Moves flow o threads c move d → AllMeet flow o threads envs d
  -- and is no race
  pub no_race : (n : ℕ) (c : Configuration) (move : Move) (kind : RaceKind) (k : ℕ) → Run flow o threads n c
      → AllMeet flow o threads envs c → MoveClaims flow threads c move → Races flow threads c move kind k → ⊥
  -- one that meets an environment below that of its point meets the environment of the point
  pub met : (n : ℕ) (c : Configuration) → Run flow o threads n c → AllMeet flow o threads envs c → (t : ℕ) (p : Point)
      → t < threads → point_of c t ≡ Some p → EnvMet o c.history t c.state (env_at envs p.at)

-- under each typing of a flow
abbrev pub SoundnessOfTypes : Type 0
SoundnessOfTypes =
    (flow : Flow) (o : Observer) (threads : ℕ) (envs : List Env) → FlowFits flow → is_well_formed o ≡ true
    → IsTyping o (skeleton_of flow) envs → TypesAreSound flow o threads envs

-- each claim is true that a run reaches
abbrev pub ClaimsHold : Flow → Observer → Type 0
ClaimsHold flow o =
    (threads n : ℕ) (c : Configuration) → 0 < threads → Run flow o threads n c
    → (move : Move) → MoveClaims flow threads c move

-- where a flow has a typing and each claim that a run reaches is true, no step of any run is a race
abbrev pub TrueClaimsSuffice : Type 0
TrueClaimsSuffice =
    (flow : Flow) (o : Observer) → FlowFits flow → is_well_formed o ≡ true
    → HasTyping o (skeleton_of flow) → ClaimsHold flow o → NeverRaces flow o
