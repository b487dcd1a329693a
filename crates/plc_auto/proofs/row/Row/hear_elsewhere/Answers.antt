use Rattle.std.proofs.Common.{Some, ap, sym, ◌∙◌}
use Rattle.plc_auto.specs.Location.{is_this}
use Rattle.plc_auto.specs.Locations.{Row}
use Rattle.plc_auto.proofs.Moving.{elsewhere_moved, elsewhere_stays}
use Rattle.plc_auto.proofs.row.Row.hear_elsewhere.Goals as goal

pub returns-then-not-is_this : goal.returns-then-not-is_this
returns-then-not-is_this c =
    c.move_one.ensures ∙ elsewhere_moved c.args.observer.now c.args.kind c.args.named c.args.i c.args.self.now (ap (λ (r : Row). is_this (Some c.args.named) r.address) (sym c.self.view_is) ∙ sym c.is_this.ensures ∙ c.if-not-is_this.true)

pub returns-else-not-is_this : goal.returns-else-not-is_this
returns-else-not-is_this c =
    elsewhere_stays c.args.observer.now c.args.kind c.args.named c.args.i c.args.self.now (ap (λ (r : Row). is_this (Some c.args.named) r.address) (sym c.self.view_is) ∙ sym c.is_this.ensures ∙ c.if-not-is_this.false)
