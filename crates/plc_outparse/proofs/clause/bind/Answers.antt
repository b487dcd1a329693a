use Rattle.std.proofs.Common.{refl}
use Rattle.std.proofs.lemmas.Result.{err_from_is_err_and}
use Rattle.plc_outparse.specs.Meaning.{bound_with}
use Rattle.plc_outparse.proofs.clause.bind.Goals as goal

pub returns-in-Some-clause-read : goal.returns-in-Some-clause-read
unfolding bound_with
returns-in-Some-clause-read c = rw (← c.in-Some.ensures) refl

pub returns-in_ok-add_name-in-None-clause-read : goal.returns-in_ok-add_name-in-None-clause-read
unfolding bound_with
returns-in_ok-add_name-in-None-clause-read c = rw (← c.in-None.ensures) c.in_ok-add_name-in-None.ensures.read

pub returns-in_err-add_name-in-None-clause-read : goal.returns-in_err-add_name-in-None-clause-read
unfolding bound_with
returns-in_err-add_name-in-None-clause-read c =
    let p = err_from_is_err_and c.from_residual.result c.from_residual.ensures.1 in
    rw (← c.in-None.ensures, p.1, p.2) c.in_err-add_name-in-None.ensures.read
