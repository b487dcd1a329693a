use Rattle.std.proofs.Common.{subst, sym, get_or}
use Rattle.plc_lang.specs.declared.syntax.Primitive.{Primitive}
use Rattle.plc_lang.specs.declared.syntax.Primitive.TheVariants.{Null}
use Rattle.plc_lang.specs.declared.syntax.Var.TheVariants.{Shared}
use Rattle.plc_gc.specs.Fit.{Frame, frame, FrameHas}
use Rattle.plc_gc.proofs.Executing.{has_at}
use Rattle.plc_gc.proofs.execute.execute.Goals as goal

pub apply-requires-clause-there : goal.apply-requires-clause-there
apply-requires-clause-there c =
    let d : Primitive = Null (Shared 0) in
    subst (λ (f : Frame). FrameHas f (get_or c.args.prims.now c.loop-k.k d)) (sym c.loop-k.invariant.frame) (has_at (frame c.args.state.now c.args.t) c.args.prims.now c.loop-k.k d c.requires.there c.loop-k-test.true)
