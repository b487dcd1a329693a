use Rattle.std.proofs.Common.{◌≡◌, true, false, length, List, ◌≤◌, sym, subst, ◌∙◌, below_more}
use Rattle.plc_type.specs.declared.env.PtrType.{PtrType}
use Rattle.plc_verify.specs.Environments.{LocalBelow}
use Rattle.plc_verify.proofs.Passages.{compared, none_above}
use Rattle.plc_verify.proofs.steps.first_above.Goals as goal

pub returns-then-not-below : goal.returns-then-not-below
returns-then-not-below c =
    let test = compared c.args.a.now c.args.b.now c.as_slice-types.result.now c.as_slice-others.result.now c.loop-v.v c.index-types-v.result c.index-others-v.result c.as_slice-types.ensures c.as_slice-others.ensures c.loop-v-test.true c.requires.same c.index-types-v.is c.index-others-v.is in (
      sym c.within.ensures ∙ c.if-not-within.false,
      c.loop-v.invariant,
      λ h. let both : false ≡ true = sym c.if-not-below.true ∙ c.below.ensures ∙ test ∙ h in absurd cc,
    )

pub loop-v-preserved : goal.loop-v-preserved
loop-v-preserved c =
    let test = compared c.args.a.now c.args.b.now c.as_slice-types.result.now c.as_slice-others.result.now c.loop-v.v c.index-types-v.result c.index-others-v.result c.as_slice-types.ensures c.as_slice-others.ensures c.loop-v-test.true c.requires.same c.index-types-v.is c.index-others-v.is in
    below_more (LocalBelow c.args.a.now c.args.b.now) c.loop-v.v c.loop-v.invariant (sym test ∙ sym c.below.ensures ∙ c.if-not-below.false)

pub returns : goal.returns
returns c =
    let past : length c.args.a.now.locals ≤ c.loop-v.v = subst (λ (ts : List PtrType). length ts ≤ c.loop-v.v) c.as_slice-types.ensures c.loop-v-test.false in
    none_above c.args.a.now c.args.b.now c.loop-v.v past c.requires.same (sym c.within.ensures ∙ c.if-not-within.false) c.loop-v.invariant
