use Rattle.std.proofs.Common.{◌≡◌, subst, arith}
use Rattle.plc_lang.specs.Numbering.{value_number}
use Rattle.plc_lang.specs.WellSorted.{WriteIsWellSorted}
use Rattle.plc_vocabulary.proofs.Fitting.{values_few, number_small}
use Rattle.plc_vocabulary.proofs.acts.ghost_symbol.Goals as goal

pub value_number-requires-clause-few : goal.value_number-requires-clause-few
value_number-requires-clause-few c = rw c.as_slice.ensures (values_few c.args.file.now c.requires.fits)

pub overflow_cast-result : goal.overflow_cast-result
overflow_cast-result c =
    let s = subst (WriteIsWellSorted c.args.file.now c.args.g) c.in-Value.is c.requires.sorted in
    let h = number_small c.args.file.now c.requires.fits c.args.g c.in-Value.v s.0 s.1 s.2 in
    let e : c.value_number.result ≡ value_number c.args.file.now.ghosts c.args.g c.in-Value.v = rw (← c.as_slice.ensures) c.value_number.ensures in
    omega arith
