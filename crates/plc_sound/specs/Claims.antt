-- The claims of a step that are reached, in memory as it is.
use Rattle.std.specs.Prelude.{◌≡◌, ℕ, true, false, List, [], ◌∷◌, None}
use Rattle.plc_lang.specs.declared.syntax.Primitive.{Primitive}
use Rattle.plc_lang.specs.declared.syntax.Primitive.TheVariants.{Active}
use Rattle.plc_flow.specs.declared.flow.Flow.{Flow}
use Rattle.plc_flow.specs.declared.flow.Step.{Step}
use Rattle.plc_moves.specs.declared.words.Move.{Move}
use Rattle.plc_moves.specs.declared.words.Move.TheVariants.{Step as Take}
use Rattle.plc_flow.specs.declared.points.Point.{Point}
use Rattle.plc_mem.specs.declared.cell.Cell.{Cell}
use Rattle.plc_mem.specs.State.{State, is_retired}
use Rattle.plc_mem.specs.Primitives.{cell_at, race_of, goes, after}
use Rattle.plc_mem.specs.Outcomes.{address_or_null}
use Rattle.plc_run.specs.Run.{Configuration, MayTake}

-- the pointer is null, or it is valid and its address isn't retired
abbrev pub IsActive : State → Cell → Type 0
IsActive s c = (c.number ≡ 0 → ⊥) → (c.valid ≡ true) × (is_retired s c.number ≡ false)

-- what the primitive claims is true; only `active` claims something
abbrev pub ClaimTrue : State → ℕ → Primitive → Type 0
ClaimTrue s t (Active p) = IsActive s (cell_at s t p)
ClaimTrue s t k = Unit {0}

-- each claim is true that the primitives reach: those before it are no race and not blocked; a is the
-- address that a `new` takes
abbrev pub ClaimsTrue : State → ℕ → ℕ → List Primitive → Type 0
ClaimsTrue s t a [] = Unit {0}
ClaimsTrue s t a (k ∷ ks) =
    ClaimTrue s t k × (race_of s t k ≡ None → goes s t a k ≡ true → ClaimsTrue (after s t a k) t a ks)

-- the claims are true that the step of a move reaches; other moves reach none
abbrev pub MoveClaims : Flow → ℕ → Configuration → Move → Type 0
MoveClaims flow threads c (Take t nth addr) =
    (p : Point) (step : Step) → MayTake flow threads c t nth addr p step
    → ClaimsTrue c.state t (address_or_null addr) step.prims
MoveClaims flow threads c move = Unit {0}
