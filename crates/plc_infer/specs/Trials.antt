-- Looks at steps condition by condition, with a note of each environment that another takes the place of.
use Rattle.std.specs.Prelude.{◌≡◌, ◌⊎◌, ◌<◌, ℕ, Bool, true, false, List, [], ◌∷◌, None, length, is_none, slice_set, All}
use Rattle.plc_lang.specs.declared.syntax.Primitive.{Primitive}
use Rattle.plc_auto.specs.declared.observer.Observer.{Observer}
use Rattle.plc_type.specs.declared.env.Env.{Env}
use Rattle.plc_type.specs.Environments.{env_below, env_join, SameShape}
use Rattle.plc_xfer.specs.Typings.{env_at, led, fault_at}
use Rattle.plc_infer.specs.declared.program.Program.{Program}
use Rattle.plc_infer.specs.declared.resuming.Replaced.{Replaced}
use Rattle.plc_infer.specs.declared.resuming.Work.{Work}
use Rattle.plc_infer.specs.Programs.{IsProgram, program_of}
use Rattle.plc_infer.specs.Iteration as graph
use Rattle.plc_infer.specs.Iteration.{Graph, IsTyping}
use Rattle.plc_infer.specs.Graphs.{graph_of, CanRun}
use Rattle.plc_infer.specs.Starts.{starts_of}
use Rattle.plc_infer.specs.WorkLists.{UnderWay, Looked, Gains, Puts}

-- ---- conditions

-- each condition of a step holds as it runs from an environment
abbrev pub MeetsAll : {E : Type 0} → Graph E → ℕ → E → Type 0
MeetsAll g k e = (i : ℕ) → i < g.conditions k → g.holds k i e ≡ true

-- a condition of a step fails as it runs from an environment
abbrev pub FailsOne : {E : Type 0} → Graph E → ℕ → E → Type 0
FailsOne g k e = (i : ℕ) × (i < g.conditions k) × (g.holds k i e ≡ false)

-- what primitives come to from an environment: each condition holds and they lead there, or one fails
abbrev pub RunsTo : Observer → Env → List Primitive → Env → Bool → Type 0
RunsTo o e prims reached true =
    (reached ≡ led o e prims) × ((i : ℕ) → i < length prims → fault_at o e prims i ≡ None)
RunsTo o e prims reached false = (i : ℕ) × (i < length prims) × (is_none (fault_at o e prims i) ≡ false)

-- no pre-typing meets each condition
abbrev pub HasNoTyping : {E : Type 0} → Graph E → List E → Type 0
HasNoTyping {E} g starts = (envs : List E) → IsTyping g starts envs → ⊥

-- ---- what was replaced

-- environments with those that were replaced put back, the one that was replaced last first
abbrev pub put_back : List Replaced → List Env → List Env
put_back [] envs = envs
put_back (r ∷ rs) envs = slice_set (put_back rs envs) r.point.0 r.env

-- each of those that were replaced stood at one of so many points
abbrev pub AreWithin : ℕ → List Replaced → Type 0
AreWithin points replaced = All (λ (r : Replaced). r.point.0 < points) replaced

-- what was replaced is noted
pub record IsNoted (old new : List Env) (before now : List Replaced) : Type 0 where
  pub back : put_back now new ≡ put_back before old
  pub within : AreWithin (length new) now
  pub count : length new ≡ length old

-- ---- looks

-- the environment of a point may be raised to hold what was reached
pub record CanRaise (point : ℕ) (envs : List Env) (work : Work) : Type 0 where
  pub known : point < length envs
  pub marks : point < length work.list.marks.items
  pub shape : SameShape (env_at envs point) work.reached
  pub points : AreWithin (length envs) work.replaced.items

-- it holds what was reached, and nothing changes, or it is raised to the join, and the point is put on the list
abbrev pub Raises : ℕ → Env → List Env → List Env → List ℕ → List ℕ → List Bool → List Bool → Type 0
Raises p reached old new queue queue' marks marks' =
    ((env_below reached (env_at old p) ≡ true) × (new ≡ old) × (queue' ≡ queue) × (marks' ≡ marks))
    ⊎ ((env_below reached (env_at old p) ≡ false) × (new ≡ slice_set old p (env_join (env_at old p) reached))
    × Puts p queue queue' marks marks')

-- the environment of a point is raised so in the lists of the code, and what was replaced is noted
pub record IsRaised (point : ℕ) (old new : List Env) (before after : Work) : Type 0 where
  pub raised : Raises point before.reached old new before.list.queue.items after.list.queue.items
      before.list.marks.items after.list.marks.items
  pub noted : IsNoted old new before.replaced.items after.replaced.items

-- step k of a program may be looked at
pub record CanLookAt (o : Observer) (p : Program) (k : ℕ) (envs : List Env) (work : Work) : Type 0 where
  pub run : CanRun o p k envs
  pub marks : length work.list.marks.items ≡ length p.locals.now
  pub points : AreWithin (length envs) work.replaced.items

-- what a look at one step comes to: its conditions hold and its last point has what it leads to, or one fails
abbrev pub LooksAt : {E : Type 0} → Graph E → ℕ → List E → List E → List ℕ → List ℕ → List Bool → List Bool → Bool
    → Type 0
LooksAt g k old new queue queue' marks marks' true =
    MeetsAll g k (graph.env_at g old (g.from k)) × Looked g k old new queue queue' marks marks'
LooksAt g k old new queue queue' marks marks' false = FailsOne g k (graph.env_at g old (g.from k))

-- a step is looked at so in the lists of the code, and what was replaced is noted
pub record IsLookedAt (o : Observer) (p : Program) (k : ℕ) (old new : List Env) (before after : Work) (held : Bool)
    : Type 0 where
  pub tried : LooksAt (graph_of o (program_of p)) k old new before.list.queue.items after.list.queue.items
      before.list.marks.items after.list.marks.items held
  pub noted : IsNoted old new before.replaced.items after.replaced.items

-- the way to the strongest pre-typing of a program, with these steps still to be looked at
pub record IsOnTheWay (o : Observer) (p : Program) (todo : List ℕ) (envs : List Env) (work : Work) : Type 0 where
  pub program : IsProgram (program_of p)
  pub under_way : UnderWay (graph_of o (program_of p)) (MeetsAll (graph_of o (program_of p)))
      (starts_of o (program_of p)) envs work.list.queue.items work.list.marks.items todo
  pub points : AreWithin (length envs) work.replaced.items

-- what looks at steps one after another come to: none is left, or there is no typing
abbrev pub LooksAtAll : {E : Type 0} → Graph E → List E → List E → List E → List ℕ → List ℕ → List Bool → Bool → Type 0
LooksAtAll g starts old new queue queue' marks' true =
    UnderWay g (MeetsAll g) starts new queue' marks' [] × Gains g old new queue queue'
LooksAtAll g starts old new queue queue' marks' false = HasNoTyping g starts

-- steps are looked at so in the lists of the code, and what was replaced is noted
pub record AreLookedAt (o : Observer) (p : Program) (old new : List Env) (before after : Work) (held : Bool)
    : Type 0 where
  pub tried : LooksAtAll (graph_of o (program_of p)) (starts_of o (program_of p)) old new before.list.queue.items
      after.list.queue.items after.list.marks.items held
  pub noted : IsNoted old new before.replaced.items after.replaced.items
