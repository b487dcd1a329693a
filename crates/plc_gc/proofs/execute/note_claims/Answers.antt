use Rattle.std.proofs.Common.{subst, sym, get_or, ◌∙◌}
use Rattle.plc_lang.specs.declared.syntax.Primitive.{Primitive}
use Rattle.plc_lang.specs.declared.syntax.Primitive.TheVariants.{Null}
use Rattle.plc_lang.specs.declared.syntax.Var.TheVariants.{Shared}
use Rattle.plc_gc.specs.Fit.{Frame, frame, FrameHas}
use Rattle.plc_gc.proofs.Claims.{claims_went, claims_stopped}
use Rattle.plc_gc.proofs.Executing.{has_at}
use Rattle.plc_gc.proofs.execute.note_claims.Goals as goal

pub apply-requires-clause-there : goal.apply-requires-clause-there
apply-requires-clause-there c =
    let d : Primitive = Null (Shared 0) in
    subst (λ (f : Frame). FrameHas f (get_or c.args.prims.now c.loop-k.k d)) (sym c.loop-k.invariant.frame) (has_at (frame c.args.state.now c.args.t) c.args.prims.now c.loop-k.k d c.requires.there c.loop-k-test.true)

pub loop-k-preserved : goal.loop-k-preserved
loop-k-preserved c = record {
  same = claims_went c.loop-k.state c.apply.new.self c.args.t c.loop-k.truths.items c.note_claim.new.truths.items c.args.prims.now c.loop-k.k _ _ c.loop-k-test.true c.in_ok-note_claim.ensures c.in_ok-apply.ensures.next (sym c.in_ok-apply.ensures.goes ∙ c.if-not-branch.false) c.loop-k.invariant.same;
  held = c.in_ok-apply.ensures.held;
  frame = c.in_ok-apply.ensures.frame ∙ c.loop-k.invariant.frame;
  ranges = c.in_ok-apply.ensures.ranges;
}

pub returns-then-not-branch : goal.returns-then-not-branch
returns-then-not-branch c =
    claims_stopped c.loop-k.state c.args.t c.loop-k.truths.items c.note_claim.new.truths.items c.args.prims.now c.loop-k.k _ _ c.loop-k-test.true c.in_ok-note_claim.ensures (sym c.in_ok-apply.ensures.goes ∙ c.if-not-branch.true) c.loop-k.invariant.same
