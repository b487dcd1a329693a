use Rattle.std.proofs.lemmas.Result.{err_from_is_err_and}
use Rattle.plc_lex.proofs.Steps.{reads_token, stops_here}
use Rattle.plc_lex.proofs.lexing.first_token.Goals as goal

pub returns-in_err-kind-clause-err : goal.returns-in_err-kind-clause-err
returns-in_err-kind-clause-err c =
    let p = err_from_is_err_and c.from_residual.result c.from_residual.ensures.1 in
    rw (p.1, p.2) (stops_here c.args.rest.at c.args.rest.bytes.now _ c.requires.some c.requires.at_token c.in_err-kind.ensures.err)

pub returns-clause-reads : goal.returns-clause-reads
returns-clause-reads c =
    let seen = c.rest_after-after.ensures in
    reads_token c.args.rest.at c.args.rest.line c.in_ok-kind.count c.args.rest.bytes.now c.in_ok-kind.kind c.rest_after-after.result c.requires.at_token c.in_ok-kind.ensures.ok seen.bytes seen.at seen.line
