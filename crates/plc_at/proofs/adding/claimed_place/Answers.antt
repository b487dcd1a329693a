use Rattle.std.proofs.Common.{◌≡◌, ap, ◌∙◌, Some, arith}
use Rattle.plc_lang.specs.Numbering.{pointer_place}
use Rattle.plc_at.specs.Claims.{locals_by_label}
use Rattle.plc_at.proofs.ExtendedPlaces.{place_is_short}
use Rattle.plc_at.proofs.adding.claimed_place.Goals as goal

pub overflow_cast-result : goal.overflow_cast-result
overflow_cast-result c =
    let flow = c.args.flow.now in
    let claim = c.args.claim.now in
    let e : Some c.in-Some.place ≡ pointer_place (locals_by_label flow claim.label) claim.local =
    c.in-Some.ensures ∙ ap (λ ls. pointer_place ls claim.local) c.locals_of_label.ensures in
    omega (arith, place_is_short flow claim.label claim.local c.in-Some.place c.requires.file e)
