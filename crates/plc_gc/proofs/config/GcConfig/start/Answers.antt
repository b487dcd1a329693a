use Rattle.std.proofs.Common.{sym, ◌∙◌, ap}
use Rattle.plc_gc.specs.Run.{beginning}
use Rattle.plc_gc.proofs.Stepping.{begun_run, init_room}
use Rattle.plc_gc.proofs.config.GcConfig.start.Goals as goal

pub idle-requires-clause-room : goal.idle-requires-clause-room
idle-requires-clause-room c =
    init_room c.args.flow.now c.requires.fits c.requires.sorted c.args.threads c.requires.some c.in-Some.state (sym c.in_ok-state.ensures ∙ c.in-Some.is)

pub returns-clause-of_run : goal.returns-clause-of_run
returns-clause-of_run c =
    begun_run c.args.flow.now c.args.threads c.in_ok-idle.field-0 (ap (beginning c.args.threads) (sym c.in_ok-state.ensures ∙ c.in-Some.is) ∙ sym c.in_ok-idle.ensures)
