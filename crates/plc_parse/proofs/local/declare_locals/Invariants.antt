use Rattle.std.proofs.Common.{◌≡◌, drop}
use Rattle.plc_scope.specs.Answers.{GrowsByLocals}
use Rattle.plc_parse.proofs.Loops.{locals_from}
use Rattle.plc_parse.proofs.local.declare_locals.Given as goal

abbrev pub invariant-loop-local : goal.invariant-loop-local
invariant-loop-local l = record {
  names : GrowsByLocals l.fn.scope l.scope;
  labels : l.scope.labels ≡ l.fn.scope.labels;
  read : locals_from l.scope (drop l.local-index l.locals) ≡ locals_from l.fn.scope l.fn.locals;
}
