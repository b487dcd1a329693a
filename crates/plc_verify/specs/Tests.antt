-- What private functions test and hand on.
use Rattle.std.specs.Prelude.{◌≡◌, ◌&&◌, ◌==◌, ◌<◌, ◌≤◌, ℕ, [], Contains, slice_get}
use Rattle.std.specs.Prelude.{Bool, true, false, List, length, Option, None, Some, IfSome}
use Rattle.plc_base.specs.Mask.{within}
use Rattle.plc_lang.specs.declared.syntax.Primitive.{Primitive}
use Rattle.plc_lang.specs.Skeleton.{Skeleton}
use Rattle.plc_auto.specs.declared.observer.Observer.{Observer}
use Rattle.plc_auto.specs.Sets.{all_locations}
use Rattle.plc_type.specs.declared.env.Env.{Env}
use Rattle.plc_xfer.specs.Typings.{all_types, env_at, led, fault_at}
use Rattle.plc_flow.specs.declared.flow.Flow.{Flow}
use Rattle.plc_logic.specs.declared.clause.Outline.{Outline}
use Rattle.plc_ground.specs.declared.terms.Tree.{Tree}
use Rattle.plc_ground.specs.Trees.{Closes, IsVerdict}
use Rattle.plc_vocabulary.specs.declared.obligations.Obligation.{Obligation}
use Rattle.plc_oblig.specs.GroundSets.{ground_set}
use Rattle.plc_verify.specs.declared.fault.VerifyFault.{VerifyFault}
use Rattle.plc_verify.specs.declared.fault.VerifyFault.TheVariants.{Version, EnvCount, EnvAt, EntryAt, TypeAt, FlowAt}
use Rattle.plc_verify.specs.declared.fault.VerifyFault.TheVariants.{TreeCount, TreeAt, Memory}
use Rattle.plc_verify.specs.declared.steps.Outcome.{Outcome}
use Rattle.plc_verify.specs.declared.steps.Outcome.TheVariants.{LeadsTo, FailsAt}
use Rattle.plc_verify.specs.Environments.{IsTypingFault, LocalBelow}
use Rattle.plc_verify.specs.Trees.{IsTreeFault}

-- so many locals, and sets that are as they have to be
abbrev pub env_fits : Observer → ℕ → Env → Bool
env_fits o locals e =
    within e.w (all_locations o) && ((length e.locals == locals) && all_types o e.w e.locals)

-- the first of these points whose environment doesn't fit
pub record IsFirstUnfit (o : Observer) (locals : ℕ) (envs : List Env) (first after p : ℕ) : Type 0 where
  pub from : first ≤ p
  pub below : p < after
  pub before : (q : ℕ) → first ≤ q → q < p → env_fits o locals (env_at envs q) ≡ true
  pub fails : env_fits o locals (env_at envs p) ≡ false

-- all of them fit
abbrev pub AllFit : Observer → ℕ → List Env → ℕ → ℕ → Type 0
AllFit o locals envs first after = (p : ℕ) → first ≤ p → p < after → env_fits o locals (env_at envs p) ≡ true

-- where a step leads whose conditions hold; else the first primitive whose condition fails
abbrev pub IsRun : Observer → Env → List Primitive → Outcome → Type 0
IsRun o e prims (LeadsTo reached) = (reached ≡ led o e prims) × ((i : ℕ) → fault_at o e prims i ≡ None)
IsRun o e prims (FailsAt i) =
    ((j : ℕ) → j < i → fault_at o e prims j ≡ None) × (fault_at o e prims i ≡ None → ⊥)

-- no part of an environment is above that of another
abbrev pub NoneAbove : Env → Env → Type 0
NoneAbove a b = (within a.w b.w ≡ true) × ((v : ℕ) → LocalBelow a b v)

-- a fault of some kind, or memory that runs out
abbrev pub OrMemory : (VerifyFault → Type 0) → VerifyFault → Type 0
OrMemory IsFault (Version have want) = IsFault (Version have want)
OrMemory IsFault (EnvCount have want) = IsFault (EnvCount have want)
OrMemory IsFault (EnvAt point) = IsFault (EnvAt point)
OrMemory IsFault (EntryAt op var) = IsFault (EntryAt op var)
OrMemory IsFault (TypeAt step prim) = IsFault (TypeAt step prim)
OrMemory IsFault (FlowAt step var) = IsFault (FlowAt step var)
OrMemory IsFault (TreeCount have want) = IsFault (TreeCount have want)
OrMemory IsFault (TreeAt obligation node) = IsFault (TreeAt obligation node)
OrMemory IsFault Memory = Unit {0}

-- an item of the environments that fails, or memory that runs out
abbrev pub MayFail : Observer → Skeleton → List Env → VerifyFault → Type 0
MayFail o s envs = OrMemory (IsTypingFault o s envs)

-- an item of the trees that fails, or memory that runs out
abbrev pub MayNotClose : Flow → Outline → List Tree → VerifyFault → Type 0
MayNotClose flow outline trees = OrMemory (IsTreeFault flow outline trees)

-- each obligation that is noted has the tree with its number, which closes its ground set
abbrev pub NotedClose : Flow → Outline → List Tree → List (Obligation × ℕ) → Type 0
NotedClose flow outline trees noted = (x : Obligation × ℕ) → Contains noted x
    → (t : Tree) × (slice_get trees x.1 ≡ Some t) × Closes (ground_set flow outline x.0) t.nodes

-- what is found of the tree with this number, over the ground set of an obligation: its first bad node, if it has one
abbrev pub IsVerdictAt : Flow → Outline → List Tree → ℕ → Obligation → Option ℕ → Type 0
IsVerdictAt flow outline trees at o bad =
    IfSome (slice_get trees at) (λ t. IsVerdict (ground_set flow outline o) [] t.nodes bad)
