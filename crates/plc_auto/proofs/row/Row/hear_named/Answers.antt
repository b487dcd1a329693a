use Rattle.std.proofs.Common.{map, Some, ap, sym, ◌∙◌}
use Rattle.plc_auto.specs.Table.{target_of}
use Rattle.plc_auto.specs.Location.{is_this}
use Rattle.plc_auto.specs.Locations.{Row}
use Rattle.plc_auto.proofs.Moving.{named_moved, named_stays}
use Rattle.plc_auto.proofs.row.Row.hear_named.Goals as goal

pub retired_by-self-inside-requires : goal.retired_by-self-inside-requires
retired_by-self-inside-requires c = ap (λ a. is_this (Some a) c.self.inside.address) (sym c.address.ensures) ∙ sym c.is_this.ensures ∙ c.if-is_this.true

pub returns-then-is_this : goal.returns-then-is_this
returns-then-is_this c =
    let r : Row = record { address = c.self.inside.address; retired = c.self.inside.retired; at = map target_of c.self.inside.at.items } in
    let named = ap (λ a. is_this (Some a) r.address) (sym c.address.ensures) ∙ sym c.is_this.ensures ∙ c.if-is_this.true in
    rw (← c.self.view_is) (c.move_all.ensures ∙ named_moved c.args.e.now c.args.watchers.now r _ named c.retired_by-self-inside.ensures)

pub returns-else-is_this : goal.returns-else-is_this
returns-else-is_this c =
    let r : Row = record { address = c.self.inside.address; retired = c.self.inside.retired; at = map target_of c.self.inside.at.items } in
    let other = ap (λ a. is_this (Some a) r.address) (sym c.address.ensures) ∙ sym c.is_this.ensures ∙ c.if-is_this.false in
    rw (← c.self.view_is) (named_stays c.args.e.now c.args.watchers.now r other)
