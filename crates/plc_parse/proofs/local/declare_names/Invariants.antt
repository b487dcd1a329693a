use Rattle.std.proofs.Common.{◌≡◌, drop}
use Rattle.plc_syntax.specs.Views.{name_tree}
use Rattle.plc_scope.specs.Answers.{GrowsByLocals}
use Rattle.plc_parse.proofs.Loops.{parameters_from}
use Rattle.plc_parse.proofs.local.declare_names.Given as goal

abbrev pub invariant-loop-name : goal.invariant-loop-name
invariant-loop-name l = record {
  names : GrowsByLocals l.fn.scope l.scope;
  labels : l.scope.labels ≡ l.fn.scope.labels;
  read : parameters_from name_tree l.scope (drop l.name-index l.names)
      ≡ parameters_from name_tree l.fn.scope l.fn.names;
}
