-- The claims that primitives reach: `active p` is true where p is null or its node isn't retired.
use Rattle.std.specs.Prelude.{◌≡◌, ℕ, Bool, true, not, ◌||◌, ◌==◌, if◌then◌else◌, List, [], ◌∷◌, ◌++◌}
use Rattle.plc_lang.specs.declared.syntax.Primitive.{Primitive}
use Rattle.plc_lang.specs.declared.syntax.Primitive.TheVariants.{Active}
use Rattle.plc_lang.specs.WellSorted.{is_claim}
use Rattle.plc_flow.specs.declared.flow.Step.{Step}
use Rattle.plc_flow.specs.declared.flow.Flow.{Flow}
use Rattle.plc_moves.specs.declared.words.Move.{Move}
use Rattle.plc_flow.specs.declared.points.Point.{Point}
use Rattle.plc_gc.specs.State.{GcState, is_retired}
use Rattle.plc_gc.specs.Primitives.{node_at, goes, after}
use Rattle.plc_gc.specs.Run.{GcConfiguration, GcRun, MayTake}

-- the claim of a primitive is true; a primitive that is no claim claims nothing
abbrev pub claim_holds : GcState → ℕ → Primitive → Bool
claim_holds g t (Active p) = node_at g t p == 0 || not (is_retired g (node_at g t p))
claim_holds g t k = true

-- each claim that the primitives reach is true
abbrev pub ClaimsHold : GcState → ℕ → List Primitive → Type 0
ClaimsHold g t [] = Unit {0}
ClaimsHold g t (p ∷ ps) = (claim_holds g t p ≡ true) × (goes g t p ≡ true → ClaimsHold (after g t p) t ps)

-- the truth of each claim that the primitives reach before one is blocked
abbrev pub claims : GcState → ℕ → List Primitive → List Bool
claims g t [] = []
claims g t (p ∷ ps) =
    (if is_claim p then claim_holds g t p ∷ [] else []) ++ (if goes g t p then claims (after g t p) t ps else [])

-- each claim that a step reaches in any garbage-collected run is true
abbrev pub AllClaimsHold : Flow → ℕ → Type 0
AllClaimsHold flow threads =
    (moves : List Move) (c : GcConfiguration) → GcRun flow threads moves c
    → (t nth : ℕ) (p : Point) (step : Step) → MayTake flow threads c t nth p step → ClaimsHold c.state t step.prims
