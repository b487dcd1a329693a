use Rattle.std.proofs.Common.{ap, ◌∙◌, arith}
use Rattle.plc_vocabulary.specs.Setting.{bound_of}
use Rattle.plc_oblig.proofs.Bounds.{few_bound}
use Rattle.plc_oblig.proofs.size.count_bound.Goals as goal

pub returns-clause-few : goal.returns-clause-few
returns-clause-few c =
    let few = few_bound c.args.flow.now c.args.outline.now c.args.o.now c.requires.outline_fits in omega (arith, few, c.bound_of.ensures ∙ ap bound_of c.conclusion.ensures)
