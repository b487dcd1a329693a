use Rattle.std.proofs.Common.{sym, ◌∙◌}
use Rattle.plc_lex.proofs.Steps.{reads_space, reads_comment}
use Rattle.plc_lex.proofs.lexing.skip_one_blank.Goals as goal

pub returns-in-len1-up-clause-reads : goal.returns-in-len1-up-clause-reads
returns-in-len1-up-clause-reads c =
    let seen = c.rest_after-after.ensures in
    reads_space c.args.rest.at c.args.rest.line c.args.rest.bytes.now _ c.in-len1-up.len_at_least (sym c.is_space.ensures ∙ c.if-is_space.true) seen.bytes seen.at c.next_line.ensures

pub returns-in_default-clause-reads : goal.returns-in_default-clause-reads
returns-in_default-clause-reads c =
    let seen = c.rest_after.ensures in
    reads_comment c.args.rest.at c.args.rest.line c.args.rest.bytes.now _ (sym c.opens_comment.ensures ∙ c.if-opens_comment.true) (rw (← c.line_length.ensures.value) seen.bytes) (rw (← c.line_length.ensures.value) seen.at) seen.line
