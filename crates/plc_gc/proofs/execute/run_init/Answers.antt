use Rattle.std.proofs.Common.{Some, List, subst, subst₂, sym, ap, ◌∙◌}
use Rattle.plc_lang.specs.declared.syntax.Primitive.{Primitive}
use Rattle.plc_gc.specs.State.{GcState, Locals, with_locals}
use Rattle.plc_gc.specs.Ranges.{IsInRange}
use Rattle.plc_gc.specs.Fit.{IsHeld, frame, FrameHasAll}
use Rattle.plc_gc.proofs.execute.run_init.Goals as goal

pub execute-requires-clause-held : goal.execute-requires-clause-held
execute-requires-clause-held c =
    let e = c.give.ensures ∙ ap (λ (l : Locals). with_locals c.args.state.now 0 (Some l)) c.none.ensures in
    subst (λ (g : GcState). IsHeld g 0) (sym e) c.requires.ready.held

pub execute-requires-clause-there : goal.execute-requires-clause-there
execute-requires-clause-there c =
    let e = c.give.ensures ∙ ap (λ (l : Locals). with_locals c.args.state.now 0 (Some l)) c.none.ensures in
    subst₂ (λ (g : GcState) (ps : List Primitive). FrameHasAll (frame g 0) ps) (sym e) (sym c.as_slice.ensures) c.requires.ready.there

pub execute-requires-clause-ranges : goal.execute-requires-clause-ranges
execute-requires-clause-ranges c =
    let e = c.give.ensures ∙ ap (λ (l : Locals). with_locals c.args.state.now 0 (Some l)) c.none.ensures in
    subst IsInRange (sym e) c.requires.ready.ranges
