-- What erasure, types and outlines give together.
use Rattle.std.specs.Prelude.{◌≡◌, ◌↔◌, ℕ, ◌<◌, true}
use Rattle.plc_lang.specs.declared.syntax.Var.{Var}
use Rattle.plc_auto.specs.declared.observer.Observer.{Observer}
use Rattle.plc_auto.specs.Table.{is_well_formed}
use Rattle.plc_flow.specs.declared.flow.Flow.{Flow}
use Rattle.plc_flow.specs.Skeleton.{skeleton_of}
use Rattle.plc_flow.specs.WellFormed.{FlowFits}
use Rattle.plc_logic.specs.declared.clause.Outline.{Outline}
use Rattle.plc_mem.specs.State.{State}
use Rattle.plc_mem.specs.Primitives.{cell_at}
use Rattle.plc_mem.specs.Coherence.{IsCoherent}
use Rattle.plc_run.specs.Run.{NeverRaces}
use Rattle.plc_xfer.specs.Typings.{HasTyping}
use Rattle.plc_sound.specs.Claims as types
use Rattle.plc_gc.specs.Claims.{AllClaimsHold}
use Rattle.plc_erasure.specs.Erasure as erasure
use Rattle.plc_vocabulary.specs.Fit.{Fits}
use Rattle.plc_oblig.specs.Outlines.{OutlineHolds}

-- the two words for an active pointer: erasure says that null is valid too, which coherence gives
abbrev pub ActiveWordsAgree : Type 0
ActiveWordsAgree =
    (s : State) (t : ℕ) (p : Var) → IsCoherent s → erasure.IsActive s t p ↔ types.IsActive s (cell_at s t p)

-- each claim of each garbage-collected run is true, with any number of threads
abbrev pub GcClaimsHold : Flow → Type 0
GcClaimsHold flow = (threads : ℕ) → 0 < threads → AllClaimsHold flow threads

-- where a flow has a typing and these claims are true, no step of any run is a race
abbrev pub TrueGcClaimsSuffice : Type 0
TrueGcClaimsSuffice =
    (flow : Flow) (o : Observer) → FlowFits flow → is_well_formed o ≡ true
    → HasTyping o (skeleton_of flow) → GcClaimsHold flow → NeverRaces flow o

-- where a flow has a typing and its outline holds, no step of any run is a race
abbrev pub TypedAndHeldProgramsAreSafe : Type 0
TypedAndHeldProgramsAreSafe =
    (flow : Flow) (o : Observer) (outline : Outline) → Fits flow outline → is_well_formed o ≡ true
    → HasTyping o (skeleton_of flow) → OutlineHolds flow outline → NeverRaces flow o
