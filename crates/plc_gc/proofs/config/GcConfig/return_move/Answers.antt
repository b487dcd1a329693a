use Rattle.std.proofs.Common.{None, get_or, ap, ◌∙◌, sym}
use Rattle.plc_moves.specs.Standing.{at_exit}
use Rattle.plc_moves.proofs.Moves.{exit_so}
use Rattle.plc_gc.specs.contracts.config.GcConfig.{the_view}
use Rattle.plc_gc.proofs.Stepping.{room}
use Rattle.plc_gc.proofs.config.GcConfig.return_move.Goals as goal

pub give-requires : goal.give-requires
give-requires c =
    let v = the_view c.self.inside in
    let of_run = rw (← c.self.view_is) at c.requires.of_run in
    let ends = exit_so c.args.flow.now v.points c.args.t (sym (c.at_exit.ensures ∙ ap (λ xs. at_exit c.args.flow.now (get_or xs c.args.t None)) c.deref.ensures.value) ∙ c.if-not-at_exit.false) in
    room c.args.flow.now c.requires.fits c.requires.sorted v c.args.t c.self.invariant.0 of_run ends.2.known
