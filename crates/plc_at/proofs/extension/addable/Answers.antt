use Rattle.std.proofs.lemmas.Result.{err_from_is_err_and}
use Rattle.plc_at.proofs.extension.addable.Goals as goal

pub returns-in_err-all_located-clause-err : goal.returns-in_err-all_located-clause-err
returns-in_err-all_located-clause-err c =
    let p = err_from_is_err_and c.from_residual.result c.from_residual.ensures.1 in
    rw (p.1, p.2) (c.in_err-all_located.ensures.err c.args.before)
