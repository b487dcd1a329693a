use Rattle.std.proofs.Common.{rules, arith}
use Rattle.std.proofs.lemmas.Result.{err_from_is_err_and}
use Rattle.std.proofs.lemmas.List.{nil_from_length}
use Rattle.plc_lex.specs.Spelling.{AreTokensOf}
use Rattle.plc_lex.proofs.Steps.{reads_on, reads_to_end, stops_later}
use Rattle.plc_lex.proofs.EachToken.{each_token, token_count}
use Rattle.plc_lex.proofs.Unique.{same_tokens, not_both, memory_alone}
use Rattle.plc_lex.proofs.lexing.tokens.Goals as goal

pub returns-in_err-token-clause-accepts : goal.returns-in_err-token-clause-accepts
returns-in_err-token-clause-accepts c = λ ts s.
    let p = err_from_is_err_and c.from_residual.result c.from_residual.ensures.1 in
    rw (p.1, p.2) (memory_alone c.args.bytes.now ts _ s (stops_later 0 1 c.args.bytes.now c.loop-rest.tokens.items c.loop-rest.rest _ c.loop-rest.invariant.reads c.in_err-token.ensures.err))

pub loop-rest-preserved : goal.loop-rest-preserved
loop-rest-preserved c = record {
  reads = rw c.in_ok-push.ensures.items (reads_on c.loop-rest.invariant.reads (reads_on c.in_ok-token.ensures.reads c.skip_blank-rest-in-loop-rest.ensures.reads));
  at_token = c.skip_blank-rest-in-loop-rest.ensures.at_token;
}

spelled : (c : goal.After-loop-rest) → AreTokensOf c.args.bytes.now c.loop-rest.tokens.items
spelled c = reads_to_end 0 1 c.args.bytes.now c.loop-rest.tokens.items c.loop-rest.rest c.loop-rest.invariant.reads (nil_from_length _ (search rules))

pub returns-clause-spelled : goal.returns-clause-spelled
returns-clause-spelled c = spelled c

pub returns-clause-accepts : goal.returns-clause-accepts
returns-clause-accepts c = λ ts s. same_tokens 0 1 c.args.bytes.now c.loop-rest.tokens.items ts (spelled c) s

pub returns-clause-refuses : goal.returns-clause-refuses
returns-clause-refuses c = λ why place s. not_both 0 1 c.args.bytes.now c.loop-rest.tokens.items why place (spelled c) s

pub returns-clause-each : goal.returns-clause-each
returns-clause-each c = each_token _ 0 1 c.args.bytes.now c.loop-rest.tokens.items (spelled c) (omega arith) (omega arith)

pub returns-clause-count : goal.returns-clause-count
returns-clause-count c = omega (arith, token_count 0 1 c.args.bytes.now c.loop-rest.tokens.items (spelled c), c.loop-rest.tokens.ok)
