use Rattle.std.proofs.Common.{Some, subst, sym}
use Rattle.plc_gc.specs.State.{GcState, no_locals, with_locals}
use Rattle.plc_gc.specs.Fit.{IsReady}
use Rattle.plc_gc.proofs.Stepping.{init_ready}
use Rattle.plc_gc.proofs.execute.try_init.Goals as goal

pub run_init-requires-clause-ready : goal.run_init-requires-clause-ready
run_init-requires-clause-ready c =
    subst (λ (g : GcState). IsReady (with_locals g 0 (Some no_locals)) 0 c.args.flow.now.file.init) (sym c.in_ok-state.ensures) (init_ready c.args.flow.now c.requires.fits c.requires.sorted c.args.threads)
