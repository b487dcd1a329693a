use Rattle.std.proofs.Common.{refl}
use Rattle.std.proofs.lemmas.Result.{err_from_is_err_and}
use Rattle.plc_scope.proofs.Turns.{stop}
use Rattle.plc_parse.proofs.Loops.{locals_from, one_local, locals_go}
use Rattle.plc_parse.proofs.local.declare_locals.Goals as goal

pub returns-in_err-declare_local : goal.returns-in_err-declare_local
returns-in_err-declare_local c =
    let l = c.loop-local in
    let p = err_from_is_err_and c.from_residual.result c.from_residual.ensures.1 in
    rw (p.1, p.2) (record {
      read = stop locals_from one_local locals_go l.scope c.args.locals.now l.local-index _ _ _ _ refl
          c.loop-local-test.true c.in_err-declare_local.ensures.read l.invariant.read;
      declares = tt;
    })
