use Rattle.std.proofs.Common.{count_by, ap, arith}
use Rattle.std.proofs.lemmas.List.Sums.{count_by-le-length}
use Rattle.plc_lang.specs.Fields.{is_pointer_field}
use Rattle.plc_oblig.proofs.size.count_fields.Goals as goal

pub returns-clause-few : goal.returns-clause-few
returns-clause-few c =
    let all = count_by-le-length is_pointer_field c.args.file.now.fields in
    let few = c.requires.fields in omega (arith, c.count_pointer_fields.ensures, all, few, ap (λ xs. count_by is_pointer_field xs) c.as_slice.ensures)
