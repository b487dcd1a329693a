use Rattle.std.proofs.Common.{◌-◌, ◌+◌, ◌<◌, length, ap, sym, ◌∙◌, subst}
use Rattle.plc_ground.specs.Model.{literals}
use Rattle.plc_oblig.proofs.Ending.{EndsSoFar, one_more, ends, ends_at}
use Rattle.plc_oblig.proofs.refuted.is_refuted.Goals as goal

pub returns-then-not-is_opposite-clause-no : goal.returns-then-not-is_opposite-clause-no
returns-then-not-is_opposite-clause-no c = λ e refuted.
    let ls = c.clause-literals.result.now in
    c.is_opposite.ensures.no c.if-not-is_opposite.true
    (c.clause.ensures ∙ ap (λ n. literals c.args.set.now (n - length ls + c.loop-k.k)) c.len-2.ensures
    ∙ ends_at c.args.set.now c.args.c ls c.loop-k.k _ c.clause-literals.ensures c.loop-k-test.true refuted)

pub loop-k-preserved : goal.loop-k-preserved
loop-k-preserved c =
    one_more c.args.set.now _ c.clause-literals.result.now c.loop-k.k _ c.loop-k.invariant
    (sym c.clause.ensures ∙ c.is_opposite.ensures.yes c.if-not-is_opposite.false)

pub returns-clause-yes : goal.returns-clause-yes
returns-clause-yes c = λ t.
    let ls = c.clause-literals.result.now in
    ends c.args.set.now c.args.c ls c.loop-k.k c.clause-literals.ensures
    (subst (λ n. length ls < n - c.args.c) c.len.ensures c.if-literals-len.false) c.loop-k-test.false
    (subst (λ n. EndsSoFar c.args.set.now (n - length ls) ls c.loop-k.k) c.len-2.ensures c.loop-k.invariant)
