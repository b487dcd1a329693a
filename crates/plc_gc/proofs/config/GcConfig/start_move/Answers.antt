use Rattle.std.proofs.Common.{option_map, ap, ◌∙◌, sym}
use Rattle.plc_moves.specs.Standing.{begun}
use Rattle.plc_moves.proofs.Moves.{begun_so}
use Rattle.plc_gc.specs.contracts.config.GcConfig.{the_view}
use Rattle.plc_gc.proofs.Stepping.{room}
use Rattle.plc_gc.proofs.config.GcConfig.start_move.Goals as goal

pub give-requires : goal.give-requires
give-requires c =
    let v = the_view c.self.inside in
    let of_run = rw (← c.self.view_is) at c.requires.of_run in
    let begins = begun_so c.args.flow.now v.points c.args.t c.args.op.0 c.args.args.now c.in-Some.operation.now c.in-Some.entry (sym (c.begun.ensures ∙ ap (λ ps. begun c.args.flow.now ps c.args.t c.args.op.0 c.args.args.now) c.deref.ensures.value) ∙ ap (option_map (λ r. (r.0.now, r.1))) c.in-Some.is) in
    room c.args.flow.now c.requires.fits c.requires.sorted v c.args.t c.self.invariant.0 of_run begins.1.known
