use Rattle.std.proofs.Common.{reverse}
use Rattle.plc_ground.proofs.Noting.{holds_unequal_along, unequal_is_held}
use Rattle.plc_ground.proofs.closing.holds_unequal.Goals as goal

pub returns : goal.returns
returns c = (
  (λ t. holds_unequal_along c.args.set.now (reverse c.args.path.now.turns.items) c.args.path.now.unequal.keys c.args.a
      c.args.b c.requires (c.are_noted.ensures.0 t)),
  (λ h. c.are_noted.ensures.1 (unequal_is_held c.args.set.now (reverse c.args.path.now.turns.items)
      c.args.path.now.unequal.keys c.args.a c.args.b c.requires h)),
)
