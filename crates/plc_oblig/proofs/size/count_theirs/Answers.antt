use Rattle.std.proofs.Common.{length, ap, arith}
use Rattle.std.proofs.lemmas.List.Sums.{count_by-le-length}
use Rattle.plc_lang.specs.Locals.{is_pointer}
use Rattle.plc_oblig.proofs.size.count_theirs.Goals as goal
use Rattle.plc_vocabulary.proofs.Fitting.{owner_few}

pub returns-clause-few : goal.returns-clause-few
returns-clause-few c =
    let all = count_by-le-length is_pointer c.owner_locals.result.now in
    let few = owner_few c.args.flow.now c.args.o.now c.requires in
    let same = ap length c.owner_locals.ensures in omega (arith, c.count_pointers.ensures, all, few, same)
