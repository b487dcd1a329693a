-- The claims that the steps of one run reach: in its garbage-collected run, and in memory.
use Rattle.std.specs.Prelude.{◌≡◌, ℕ, List, [], ◌∷◌, ◌++◌}
use Rattle.plc_lang.specs.declared.syntax.Var.{Var}
use Rattle.plc_lang.specs.declared.syntax.Primitive.{Primitive}
use Rattle.plc_lang.specs.declared.syntax.Primitive.TheVariants.{Active}
use Rattle.plc_auto.specs.declared.event.Event.{Event}
use Rattle.plc_auto.specs.declared.observer.Observer.{Observer}
use Rattle.plc_flow.specs.declared.flow.Flow.{Flow}
use Rattle.plc_moves.specs.declared.words.Move.{Move}
use Rattle.plc_moves.specs.declared.words.Move.TheVariants.{Start, Step as Take, Return, Free}
use Rattle.plc_mem.specs.State.{State}
use Rattle.plc_mem.specs.Outcomes.{address_or_null}
use Rattle.plc_run.specs.Run.{Configuration, Fine, Moves, Run, begin, more, execute}
use Rattle.plc_gc.specs.Run.{GcConfiguration, GcRun}
use Rattle.plc_gc.specs.Claims.{ClaimsHold}
use Rattle.plc_erasure.specs.Trace.{moves_of}
use Rattle.plc_erasure.specs.Erasure.{IsActive}

-- the primitives of the step that a move takes
abbrev pub taken_by : (flow : Flow) (o : Observer) (threads : ℕ) (c d : Configuration) (move : Move)
    → Moves flow o threads c move d → List Primitive
taken_by flow o threads c d (Start t op args) m = []
taken_by flow o threads c d (Take t nth addr) m = m.1.prims
taken_by flow o threads c d (Return t) m = []
taken_by flow o threads c d (Free a) m = []

-- the thread that takes it, and its address
abbrev pub actor_of : Move → ℕ
actor_of (Start t op args) = t
actor_of (Take t nth addr) = t
actor_of (Return t) = t
actor_of (Free a) = 0

abbrev pub address_named : Move → ℕ
address_named (Start t op args) = 0
address_named (Take t nth addr) = address_or_null addr
address_named (Return t) = 0
address_named (Free a) = 0

-- what primitives of a thread claim to be active is so in memory, where the claim is reached
abbrev pub AreActive : Configuration → ℕ → ℕ → List Primitive → Type 0
AreActive c t a prims = (ps qs : List Primitive) (v : Var) → prims ≡ ps ++ Active v ∷ qs → (s : State) (h : List Event)
    → execute c.state c.history t a 0 ps ≡ Fine s h → IsActive s t v

-- each claim that the run's steps reached is true in its garbage-collected run
abbrev pub RunClaimsHold : (flow : Flow) (o : Observer) (threads n : ℕ) (c : Configuration) → Run flow o threads n c
    → Type 0
RunClaimsHold flow o threads n c (begin e) = Unit {0}
RunClaimsHold flow o threads n d (more {n = m} {c = c} run move moved) =
    RunClaimsHold flow o threads m c run
    × ((g : GcConfiguration) → GcRun flow threads (moves_of flow o threads m c run) g
    → ClaimsHold g.state (actor_of move) (taken_by flow o threads c d move moved))

-- each variable that the run's steps claimed to be active was so in memory
abbrev pub RunClaimsAreActive : (flow : Flow) (o : Observer) (threads n : ℕ) (c : Configuration)
    → Run flow o threads n c → Type 0
RunClaimsAreActive flow o threads n c (begin e) = Unit {0}
RunClaimsAreActive flow o threads n d (more {n = m} {c = c} run move moved) =
    RunClaimsAreActive flow o threads m c run
    × AreActive c (actor_of move) (address_named move) (taken_by flow o threads c d move moved)

-- the one gives the other, run by run
abbrev pub RunClaimsAreKept : Flow → Observer → ℕ → Type 0
RunClaimsAreKept flow o threads = (n : ℕ) (c : Configuration) (run : Run flow o threads n c)
    → RunClaimsHold flow o threads n c run → RunClaimsAreActive flow o threads n c run
