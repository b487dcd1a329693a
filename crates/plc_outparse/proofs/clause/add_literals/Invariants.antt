use Rattle.std.proofs.Common.{◌≡◌, map}
use Rattle.plc_syntax.specs.Views.{placed_as, literal_tree}
use Rattle.plc_outparse.specs.Meaning.{in_turn, literal_step}
use Rattle.plc_outparse.specs.Views.{reach_of}
use Rattle.plc_outparse.proofs.InTurn.{from_place}
use Rattle.plc_outparse.proofs.clause.add_literals.Given as goal

abbrev pub invariant-loop-form : goal.invariant-loop-form
invariant-loop-form l =
    from_place (literal_step (reach_of l.reach)) (placed_as literal_tree) l.literals l.others l.form-index
    ≡ in_turn (literal_step (reach_of l.fn.reach)) l.fn.literals (map (placed_as literal_tree) l.fn.others)
