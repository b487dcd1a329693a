use Rattle.std.proofs.Common.{None, get_or, option_map, ap, ◌∙◌, sym}
use Rattle.plc_moves.specs.Standing.{step_of}
use Rattle.plc_moves.proofs.Moves.{taken_so}
use Rattle.plc_gc.specs.contracts.config.GcConfig.{the_view}
use Rattle.plc_gc.proofs.Stepping.{is_ready}
use Rattle.plc_gc.proofs.config.GcConfig.step_move.Goals as goal

pub take-requires-clause-ready : goal.take-requires-clause-ready
take-requires-clause-ready c =
    let v = the_view c.self.inside in
    let of_run = rw (← c.self.view_is) at c.requires.of_run in
    let takes = taken_so c.args.flow.now v.points c.args.t c.args.nth c.in-Some.point c.in-Some.step.now (sym (c.step_at.ensures ∙ ap (λ ps. step_of c.args.flow.now c.args.nth (get_or ps c.args.t None)) c.deref.ensures.value) ∙ ap (option_map (λ r. (r.0, r.1.now))) c.in-Some.is) in
    rw (← c.self.view_is) (is_ready c.args.flow.now c.requires.fits c.requires.sorted v c.args.t c.args.nth c.in-Some.point c.in-Some.step.now c.self.invariant of_run takes)
