use Rattle.std.proofs.Common.{◌≡◌, map}
use Rattle.plc_syntax.specs.Views.{name_tree}
use Rattle.plc_outparse.specs.Meaning.{in_turn, label_step}
use Rattle.plc_outparse.proofs.InTurn.{from_place}
use Rattle.plc_outparse.proofs.site.add_labels.Given as goal

abbrev pub invariant-loop-name : goal.invariant-loop-name
invariant-loop-name l =
    from_place (label_step l.context.scope.now l.context.by_op.now l.op) name_tree l.labels l.names l.name-index
    ≡ in_turn (label_step l.fn.context.scope.now l.fn.context.by_op.now l.fn.op) l.fn.labels (map name_tree l.fn.names)
