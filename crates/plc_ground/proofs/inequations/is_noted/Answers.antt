use Rattle.std.proofs.Common.{◌∙◌, sym}
use Rattle.plc_ground.proofs.Noting.{lit_found, lit_is_found}
use Rattle.plc_ground.proofs.inequations.is_noted.Goals as goal

pub returns : goal.returns
returns c = (
  (λ t. lit_found c.args.unequal.now.keys c.args.l (sym c.contains.ensures ∙ t)),
  (λ h. c.contains.ensures ∙ lit_is_found c.args.unequal.now.keys c.args.l h),
)
