-- What claims of locations say of every run.
use Rattle.std.specs.Prelude.{◌≡◌, ℕ, ◌<◌, true, false, List, slice_get, Some, All}
use Rattle.plc_base.specs.declared.ids.PointId.{PointId}
use Rattle.plc_lang.specs.declared.syntax.Var.TheVariants.{Local}
use Rattle.plc_auto.specs.declared.observer.Observer.{Observer}
use Rattle.plc_auto.specs.Table.{is_well_formed}
use Rattle.plc_auto.specs.Location.{location}
use Rattle.plc_flow.specs.declared.flow.Flow.{Flow}
use Rattle.plc_flow.specs.declared.points.Point.{Point}
use Rattle.plc_flow.specs.Skeleton.{skeleton_of}
use Rattle.plc_logic.specs.declared.clause.Outline.{Outline}
use Rattle.plc_mem.specs.State.{is_null}
use Rattle.plc_mem.specs.Primitives.{cell_at}
use Rattle.plc_run.specs.Run.{Configuration, Run, point_of}
use Rattle.plc_type.specs.declared.env.Env.{Env}
use Rattle.plc_xfer.specs.Typings.{IsTyping}
use Rattle.plc_sound.specs.Meaning.{stands}
use Rattle.plc_vocabulary.specs.Fit.{Fits}
use Rattle.plc_oblig.specs.Outlines.{OutlineHolds}
use Rattle.plc_at.specs.declared.claim.LocationClaim.{LocationClaim}
use Rattle.plc_at.specs.Claims.{ClaimFits}
use Rattle.plc_at.specs.Extended.{AreLocated, extended}

-- each thread at the label's point whose local isn't null: the address that the local holds stands, for the thread, in
-- one of the claim's locations
abbrev pub ClaimIsTrue : Flow → Observer → ℕ → Configuration → LocationClaim → Type 0
ClaimIsTrue flow o threads c claim =
    (t : ℕ) (p : Point) (q : PointId) → t < threads → point_of c t ≡ Some p
    → slice_get flow.labels claim.label ≡ Some q → p.at ≡ q.0
    → is_null (cell_at c.state t (Local claim.local)) ≡ false
    → stands claim.set (location o c.history t (cell_at c.state t (Local claim.local)).number) ≡ true

-- so it is in every state of every run, with any number of threads, any interleaving, any reuse of addresses and any
-- allowed free
abbrev pub ClaimsAreTrue : Flow → Observer → List LocationClaim → Type 0
ClaimsAreTrue flow o claims =
    (threads n : ℕ) (c : Configuration) → 0 < threads → Run flow o threads n c
    → All (ClaimIsTrue flow o threads c) claims

-- where a flow has a typing, each claim is located under it, and the extended outline holds
abbrev pub LocatedClaimsAreTrue : Type 0
LocatedClaimsAreTrue =
    (flow : Flow) (o : Observer) (outline : Outline) (typing : List Env) (claims : List LocationClaim)
    → Fits flow (extended flow o typing claims outline) → is_well_formed o ≡ true
    → IsTyping o (skeleton_of flow) typing → All (ClaimFits flow) claims → AreLocated flow o typing claims
    → OutlineHolds flow (extended flow o typing claims outline) → ClaimsAreTrue flow o claims
