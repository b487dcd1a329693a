use Rattle.std.proofs.Common.{length, ap, arith}
use Rattle.std.proofs.lemmas.List.Sums.{count_by-le-length}
use Rattle.plc_oblig.specs.Size.{is_pointer_load}
use Rattle.plc_oblig.proofs.size.count_loads.Goals as goal
use Rattle.plc_vocabulary.proofs.Fitting.{executed_short}

pub returns-clause-few : goal.returns-clause-few
returns-clause-few c =
    let all = count_by-le-length is_pointer_load c.executed.result.now in
    let few = executed_short c.args.flow.now c.args.outline.now c.args.o.now c.requires in
    let same = ap length c.executed.ensures in omega (arith, c.count_pointer_loads.ensures, all, few, same)
