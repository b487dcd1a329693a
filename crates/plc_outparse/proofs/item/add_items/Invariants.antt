use Rattle.std.proofs.Common.{◌≡◌, map}
use Rattle.plc_tree.specs.FormViews.{item_tree}
use Rattle.plc_outparse.specs.Meaning.{in_turn, item_step}
use Rattle.plc_outparse.specs.Views.{parts_of}
use Rattle.plc_outparse.proofs.InTurn.{from_place}
use Rattle.plc_outparse.proofs.item.add_items.Given as goal

abbrev pub invariant-loop-item : goal.invariant-loop-item
invariant-loop-item l =
    from_place (item_step l.context.scope.now l.context.ops.now l.context.by_op.now) item_tree (parts_of l.parts) l.items
    l.item-index
    ≡ in_turn (item_step l.fn.context.scope.now l.fn.context.ops.now l.fn.context.by_op.now) (parts_of l.fn.parts)
    (map item_tree l.fn.items)
