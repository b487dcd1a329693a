use Rattle.std.proofs.Common.{◌≡◌, ◌*◌, drop, length}
use Rattle.plc_outparse.specs.Answers.{OpsFit}
use Rattle.plc_scope.proofs.Turns.{ahead}
use Rattle.plc_syntax.specs.Views.{placed_as}
use Rattle.plc_tree.specs.FileViews.{operation_tree}
use Rattle.plc_parse.specs.Growth.{GrowsByOps}
use Rattle.plc_parse.specs.Meaning.{placed_op_means}
use Rattle.plc_parse.specs.Units.{lines_of}
use Rattle.plc_parse.proofs.Loops.{one_declared, all_declared, listed_from, one_listed, listed_go}
use Rattle.plc_parse.proofs.operation.operations.Given as goal

abbrev pub invariant-loop-form : goal.invariant-loop-form
invariant-loop-form l = let means = placed_op_means (lines_of l.tokens) in record {
  fit : OpsFit l.ops;
  grows : GrowsByOps l.fn.scope l.scope (33 * length l.ops);
  read : ahead (listed_from means (placed_as operation_tree)) (one_listed means (placed_as operation_tree)) one_declared
      all_declared (listed_go means (placed_as operation_tree)) l.ops
      (listed_from means (placed_as operation_tree) (l.scope, length l.ops) (drop l.form-index l.forms))
      ≡ listed_from means (placed_as operation_tree) (l.fn.scope, 0) l.fn.forms;
}
