use Rattle.std.proofs.Common.{◌∙◌, sym, arith}
use Rattle.std.proofs.lemmas.Bool.{false≢true}
use Rattle.plc_syntax.specs.Nesting.{is_open_brace, is_close_brace}
use Rattle.plc_tree.proofs.Nested.{count_fits, counted_one_more, none_at_end, kinds_length}
use Rattle.plc_tree.proofs.nesting.first_too_deep.Goals as goal

pub loop-place-init : goal.loop-place-init
loop-place-init c = record { counted = c.none-braces.ensures; shallow = λ lesser l. absurd (omega arith) }

pub is_too_deep-requires-clause-counted : goal.is_too_deep-requires-clause-counted
is_too_deep-requires-clause-counted c = c.loop-place.invariant.counted

pub count-requires-clause-opened : goal.count-requires-clause-opened
count-requires-clause-opened c =
    let l = c.loop-place in
    count_fits is_open_brace c.args.tokens.now l.place _ l.braces.opened l.invariant.counted.opened
    c.loop-place-test.true c.requires

pub count-requires-clause-closed : goal.count-requires-clause-closed
count-requires-clause-closed c =
    let l = c.loop-place in
    count_fits is_close_brace c.args.tokens.now l.place _ l.braces.closed l.invariant.counted.closed
    c.loop-place-test.true c.requires

pub loop-place-preserved : goal.loop-place-preserved
loop-place-preserved c =
    let l = c.loop-place in
    counted_one_more c.args.tokens.now l.place c.index-tokens-place.result l.braces c.count.new.self
    c.index-tokens-place.is c.loop-place-test.true l.invariant
    (λ deep. false≢true (sym c.if-is_too_deep.false ∙ c.is_too_deep.ensures.1 deep)) c.count.ensures.opened
    c.count.ensures.closed

pub returns-then-is_too_deep : goal.returns-then-is_too_deep
returns-then-is_too_deep c = record {
  within = let within = c.loop-place-test.true in omega (arith, kinds_length c.args.tokens.now);
  deep = c.is_too_deep.ensures.0 c.if-is_too_deep.true;
  shallow = c.loop-place.invariant.shallow;
}

pub returns : goal.returns
returns c = none_at_end c.args.tokens.now c.loop-place.place c.loop-place.braces c.loop-place-test.false
    c.loop-place.invariant
