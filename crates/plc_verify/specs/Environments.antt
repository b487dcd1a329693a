-- The items of the environments in the order in which they are judged, and the first that fails. Each record says what
-- holds of the items before, and then what fails.
use Rattle.std.specs.Prelude.{◌≡◌, ◌≢◌, ◌<◌, ℕ, true, false, List}
use Rattle.std.specs.Prelude.{length, map, replicate, slice_get, Some, None}
use Rattle.plc_base.specs.Mask.{within}
use Rattle.plc_lang.specs.declared.syntax.Var.TheVariants as vars
use Rattle.plc_lang.specs.Skeleton.{Skeleton, Passage, locals_at}
use Rattle.plc_auto.specs.declared.observer.Observer.{Observer}
use Rattle.plc_auto.specs.Sets.{all_locations}
use Rattle.plc_type.specs.declared.env.Env.{Env}
use Rattle.plc_type.specs.Types.{bare, type_below}
use Rattle.plc_type.specs.Environments.{env_below}
use Rattle.plc_xfer.specs.Rules.{type_of}
use Rattle.plc_xfer.specs.Typings.{IsEnvironment, env_at, led, fault_under}
use Rattle.plc_flow.specs.declared.flow.Flow.{Flow}
use Rattle.plc_verify.specs.declared.fault.Slot.{Slot}
use Rattle.plc_verify.specs.declared.fault.Slot.TheVariants.{W, Local}
use Rattle.plc_verify.specs.declared.fault.VerifyFault.{VerifyFault}
use Rattle.plc_verify.specs.declared.fault.VerifyFault.TheVariants.{Version, EnvCount, EnvAt, EntryAt, TypeAt, FlowAt}
use Rattle.plc_verify.specs.declared.fault.VerifyFault.TheVariants.{TreeCount, TreeAt, Memory}

-- a certificate has no types of shared pointers: each of them guarantees nothing and stands where any address may
abbrev pub with_shared : ℕ → Env → Env
with_shared n e = record { shared = replicate n (bare e.w); locals = e.locals; w = e.w }

-- the environments of a certificate, with those types
abbrev pub completed : Flow → List Env → List Env
completed flow envs = map (with_shared (length flow.file.shared)) envs

-- there are so many, and there should be another number
pub record AreOther (have want is should : ℕ) : Type 0 where
  pub have_is : have ≡ is
  pub want_is : want ≡ should
  pub differ : have ≢ want

-- the point has an environment of its operation, whose sets are all as they have to be
abbrev pub PointHolds : Observer → Skeleton → List Env → ℕ → Type 0
PointHolds o s envs p = p < length s.locals → IsEnvironment o s.shared (locals_at s p) (env_at envs p)

-- where the operation begins any address may stand anywhere
abbrev pub EntryHolds : Observer → Skeleton → List Env → ℕ → Type 0
EntryHolds o s envs i =
    (p : ℕ) → slice_get s.entries i ≡ Some p → within (all_locations o) (env_at envs p).w ≡ true

-- each condition holds as the step runs
abbrev pub StepRuns : Observer → Skeleton → List Env → ℕ → Type 0
StepRuns o s envs k = (i : ℕ) → fault_under o s envs k i ≡ None

-- what the step leads to is below the environment of its last point
abbrev pub StepFlows : Observer → Skeleton → List Env → ℕ → Type 0
StepFlows o s envs k = (x : Passage) → slice_get s.passages k ≡ Some x
    → env_below (led o (env_at envs x.from) x.prims) (env_at envs x.to) ≡ true

-- the step runs, and what it leads to is no more than there may be
abbrev pub StepHolds : Observer → Skeleton → List Env → ℕ → Type 0
StepHolds o s envs k = StepRuns o s envs k × StepFlows o s envs k

-- an environment for each point
pub record PointsHold (o : Observer) (s : Skeleton) (envs : List Env) : Type 0 where
  pub one_each : length envs ≡ length s.locals
  pub points : (p : ℕ) → PointHolds o s envs p

-- and each operation begins as it should
pub record EntriesHold (o : Observer) (s : Skeleton) (envs : List Env) : Type 0 where
  pub points : PointsHold o s envs
  pub entries : (i : ℕ) → EntryHolds o s envs i

-- the first point without an environment
pub record FailsAtPoint (o : Observer) (s : Skeleton) (envs : List Env) (p : ℕ) : Type 0 where
  pub one_each : length envs ≡ length s.locals
  pub before : (q : ℕ) → q < p → PointHolds o s envs q
  pub fails : PointHolds o s envs p → ⊥

-- the first operation that begins otherwise
pub record IsFirstNarrow (o : Observer) (s : Skeleton) (envs : List Env) (i : ℕ) : Type 0 where
  pub before : (j : ℕ) → j < i → EntryHolds o s envs j
  pub fails : EntryHolds o s envs i → ⊥

-- each point has an environment, and this is the first operation that begins otherwise
pub record FailsAtEntry (o : Observer) (s : Skeleton) (envs : List Env) (i : ℕ) : Type 0 where
  pub points : PointsHold o s envs
  pub narrow : IsFirstNarrow o s envs i

-- the first step that doesn't hold, and in it the first condition that fails
pub record FailsInStep (o : Observer) (s : Skeleton) (envs : List Env) (k i : ℕ) : Type 0 where
  pub entries : EntriesHold o s envs
  pub before : (l : ℕ) → l < k → StepHolds o s envs l
  pub sooner : (j : ℕ) → j < i → fault_under o s envs k j ≡ None
  pub fails : fault_under o s envs k i ≢ None

-- the type that the first environment gives a local is below the type that the second gives it
abbrev pub LocalBelow : Env → Env → ℕ → Type 0
LocalBelow a b v = type_below (type_of a (vars.Local v)) (type_of b (vars.Local v)) ≡ true

-- the first part of an environment that isn't below that of another, W before the locals
abbrev pub IsFirstAbove : Env → Env → Slot → Type 0
IsFirstAbove a b W = within a.w b.w ≡ false
IsFirstAbove a b (Local v) =
    (within a.w b.w ≡ true) × ((u : ℕ) → u < v → LocalBelow a b u) × (LocalBelow a b v → ⊥)

-- the first step that doesn't hold; its conditions do, so that what it leads to is too much
pub record FailsAfterStep (o : Observer) (s : Skeleton) (envs : List Env) (k : ℕ) (var : Slot) : Type 0 where
  pub entries : EntriesHold o s envs
  pub before : (l : ℕ) → l < k → StepHolds o s envs l
  pub runs : StepRuns o s envs k
  pub passage : Passage
  pub passage_is : slice_get s.passages k ≡ Some passage
  pub fails : IsFirstAbove (led o (env_at envs passage.from) passage.prims) (env_at envs passage.to) var

-- the first item of the environments that fails
abbrev pub IsTypingFault : Observer → Skeleton → List Env → VerifyFault → Type 0
IsTypingFault o s envs (Version have want) = ⊥
IsTypingFault o s envs (EnvCount have want) = AreOther have want (length envs) (length s.locals)
IsTypingFault o s envs (EnvAt point) = FailsAtPoint o s envs point.0
IsTypingFault o s envs (EntryAt op var) = FailsAtEntry o s envs op.0 × (var ≡ W)
IsTypingFault o s envs (TypeAt step prim) = FailsInStep o s envs step.0 prim
IsTypingFault o s envs (FlowAt step var) = FailsAfterStep o s envs step.0 var
IsTypingFault o s envs (TreeCount have want) = ⊥
IsTypingFault o s envs (TreeAt obligation node) = ⊥
IsTypingFault o s envs Memory = ⊥
