use Rattle.std.proofs.Common.{◌≡◌, Some, arith}
use Rattle.plc_lang.specs.Numbering.{value_at}
use Rattle.plc_vocabulary.proofs.Fitting.{field_there}
use Rattle.plc_vocabulary.proofs.sorts.value_sort.Goals as goal

pub overflow_cast-result : goal.overflow_cast-result
overflow_cast-result c =
    let found : value_at c.args.ghosts.now c.args.v ≡ Some (c.in-Some.g, c.in-Some.field-0-1) = cc in
    let h = field_there c.args.ghosts.now c.args.v c.in-Some.g c.in-Some.field-0-1 found in
    omega arith
