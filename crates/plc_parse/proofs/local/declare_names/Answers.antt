use Rattle.std.proofs.Common.{◌∙◌, refl}
use Rattle.std.proofs.lemmas.Result.{err_from_is_err_and}
use Rattle.plc_syntax.specs.Views.{name_tree}
use Rattle.plc_scope.proofs.Turns.{turn, stop, end}
use Rattle.plc_parse.proofs.Growth.{locals_then}
use Rattle.plc_parse.proofs.Loops.{parameters_from, one_parameter, parameters_go}
use Rattle.plc_parse.proofs.local.declare_names.Goals as goal

pub returns-in_err-declare_parameter : goal.returns-in_err-declare_parameter
returns-in_err-declare_parameter c =
    let l = c.loop-name in
    let p = err_from_is_err_and c.from_residual.result c.from_residual.ensures.1 in
    rw (p.1, p.2) (record {
      read = stop (parameters_from name_tree) (one_parameter name_tree) (parameters_go name_tree) l.scope c.args.names.now
          l.name-index _ _ _ _ refl c.loop-name-test.true c.in_err-declare_parameter.ensures.read l.invariant.read;
      declares = tt;
    })

pub loop-name-preserved : goal.loop-name-preserved
loop-name-preserved c =
    let l = c.loop-name in
    record {
      names = locals_then _ _ _ l.invariant.names c.in_ok-declare_parameter.ensures.names;
      labels = c.in_ok-declare_parameter.ensures.labels ∙ l.invariant.labels;
      read = turn (parameters_from name_tree) (one_parameter name_tree) (parameters_go name_tree) l.scope _ c.args.names.now
          l.name-index _ _ refl c.loop-name-test.true c.in_ok-declare_parameter.ensures.read ∙ l.invariant.read;
    }

pub returns : goal.returns
returns c =
    let l = c.loop-name in
    record {
      read = end (parameters_from name_tree) (one_parameter name_tree) (parameters_go name_tree) l.scope c.args.names.now
          l.name-index _ c.loop-name-test.false l.invariant.read;
      declares = record { names = l.invariant.names; labels = l.invariant.labels };
    }
