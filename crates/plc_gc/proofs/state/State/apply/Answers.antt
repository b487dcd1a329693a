use Rattle.std.proofs.Common.{sym, ◌∙◌}
use Rattle.plc_gc.proofs.Frames.{after_keeps, frame_kept}
use Rattle.plc_gc.proofs.Ranges.{ranged_primitive}
use Rattle.plc_gc.proofs.state.State.apply.Goals as goal

pub returns-clause-held : goal.returns-clause-held
returns-clause-held c =
    let k = after_keeps c.args.t c.args.self.now c.requires.held.0 c.args.prim.now c.requires.held.1 c.requires.there.0 in
    rw c.in_ok-change.ensures.after (k.0, k.1.held)

pub returns-clause-frame : goal.returns-clause-frame
returns-clause-frame c =
    let k = after_keeps c.args.t c.args.self.now c.requires.held.0 c.args.prim.now c.requires.held.1 c.requires.there.0 in
    rw c.in_ok-change.ensures.after (frame_kept c.requires.held.1 k)

pub returns-clause-ranges : goal.returns-clause-ranges
returns-clause-ranges c = rw c.in_ok-change.ensures.after (ranged_primitive c.args.self.now c.args.t c.args.prim.now (sym c.goes.ensures ∙ c.if-not-goes.false) c.requires.ranges)
