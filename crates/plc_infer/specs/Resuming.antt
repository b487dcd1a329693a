-- Environments from which inference goes on, after some steps of a program were changed, and what it comes to.
use Rattle.std.specs.Prelude.{◌≡◌, ◌⊎◌, ℕ, ◌<◌, Bool, true, false, List, length, slice_get, Some, None, Contains, All}
use Rattle.plc_lang.specs.Skeleton.{Skeleton, Passage, locals_at}
use Rattle.plc_flow.specs.declared.steps_by_point.StepsByPoint.{StepsByPoint}
use Rattle.plc_flow.specs.StepsByPoint.{IsIndexOf}
use Rattle.plc_auto.specs.declared.observer.Observer.{Observer}
use Rattle.plc_auto.specs.Sets.{all_locations}
use Rattle.plc_type.specs.declared.env.Env.{Env}
use Rattle.plc_type.specs.Environments.{env_below, entry}
use Rattle.plc_xfer.specs.Typings.{IsEnvironment, IsPretyping, IsTyping, IsStrongest, HasTyping}
use Rattle.plc_xfer.specs.Typings.{env_at, led, fault_under}
use Rattle.plc_infer.specs.declared.program.Program.{Program}
use Rattle.plc_infer.specs.Programs.{IsProgram, first_points, program_of}

-- a step leads to no more than its last point has, and each of its conditions holds
pub record StepIsTyped (o : Observer) (s : Skeleton) (envs : List Env) (k : ℕ) : Type 0 where
  pub flows : (x : Passage) → slice_get s.passages k ≡ Some x
      → env_below (led o (env_at envs x.from) x.prims) (env_at envs x.to) ≡ true
  pub holding : (i : ℕ) → fault_under o s envs k i ≡ None

-- an environment for each point, which is below that of every pre-typing, and above the entry environment where an
-- operation begins; each step but these is typed
pub record IsBegun (o : Observer) (s : Skeleton) (envs : List Env) (changed : List ℕ) : Type 0 where
  pub count : length envs ≡ length s.locals
  pub environments : (p : ℕ) → p < length s.locals → IsEnvironment o s.shared (locals_at s p) (env_at envs p)
  pub entries : (i p : ℕ) → slice_get s.entries i ≡ Some p
      → env_below (entry s.shared (locals_at s p) (all_locations o)) (env_at envs p) ≡ true
  pub below_all : (others : List Env) → IsPretyping o s others
      → (p : ℕ) → p < length s.locals → env_below (env_at envs p) (env_at others p) ≡ true
  pub typed : (k : ℕ) → k < length s.passages → Contains changed k ⊎ StepIsTyped o s envs k

-- inference may go on with a program: from the index of its steps by the points that they leave, from environments
-- that are begun, and with the changed steps by their numbers
pub record CanResume (o : Observer) (p : Program) (steps : StepsByPoint) (changed : List ℕ) (envs : List Env)
    : Type 0 where
  pub program : IsProgram (program_of p)
  pub index : IsIndexOf (first_points p) steps
  pub known : All (λ (k : ℕ). k < length p.steps.now) changed
  pub begun : IsBegun o (program_of p) envs changed

-- the environments are the strongest pre-typing, and a typing
pub record IsReached (o : Observer) (s : Skeleton) (envs : List Env) : Type 0 where
  pub typing : IsTyping o s envs
  pub strongest : IsStrongest o s envs

-- what inference comes to: a typing was reached, or there is none, and the environments are as before
abbrev pub IsResumed : Observer → Skeleton → List Env → List Env → Bool → Type 0
IsResumed o s old new true = IsReached o s new
IsResumed o s old new false = (HasTyping o s → ⊥) × (new ≡ old)
