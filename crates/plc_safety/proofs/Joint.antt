-- The laws of outlines, erasure and types joined, each by its statement alone.
use Rattle.std.proofs.Common.{◌≡◌, ℕ, ◌<◌, true}
use Rattle.plc_auto.specs.declared.observer.Observer.{Observer}
use Rattle.plc_auto.specs.Table.{is_well_formed}
use Rattle.plc_flow.specs.declared.flow.Flow.{Flow}
use Rattle.plc_logic.specs.declared.clause.Outline.{Outline}
use Rattle.plc_vocabulary.specs.Fit.{Fits}
use Rattle.plc_sound.specs.Laws.{TrueClaimsSuffice}
use Rattle.plc_erasure.specs.Laws.{TrueClaimsAreActive}
use Rattle.plc_outline_sound.specs.Held.{HeldClaimsAreTrue}
use Rattle.plc_safety.specs.Joint.{TrueGcClaimsSuffice, TypedAndHeldProgramsAreSafe}
use Rattle.plc_safety.proofs.Reached.{move_claims}

-- what contracts of the crates below say, whatever their proofs
abbrev pub ErasureOfClaims : Type 0
ErasureOfClaims = (flow : Flow) (o : Observer) (threads : ℕ) → is_well_formed o ≡ true → 0 < threads → TrueClaimsAreActive flow o threads

abbrev pub TruthOfClaims : Type 0
TruthOfClaims = (flow : Flow) (outline : Outline) (threads : ℕ) → Fits flow outline → HeldClaimsAreTrue flow outline threads

pub claims_suffice : TrueClaimsSuffice → ErasureOfClaims → TrueGcClaimsSuffice
claims_suffice types erasure flow o fits w typing hold =
    types flow o fits w typing (λ threads n c some run move. move_claims flow o threads n c (erasure flow o threads w some (hold threads some)) run move)

pub held_suffices : TrueGcClaimsSuffice → TruthOfClaims → TypedAndHeldProgramsAreSafe
held_suffices suffice outlines flow o outline fits w typing holds =
    suffice flow o fits.flow_fits w typing (λ threads some. outlines flow outline threads fits holds)
