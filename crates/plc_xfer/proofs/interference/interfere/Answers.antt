use Rattle.std.proofs.Common.{true}
use Rattle.plc_auto.specs.Sets.{closure}
use Rattle.plc_type.specs.Types.{bare}
use Rattle.plc_xfer.specs.Rules.{interfered}
use Rattle.plc_xfer.proofs.Facts.{map_same, interfered_fits, interfered_well_formed}
use Rattle.plc_xfer.proofs.interference.interfere.Goals as goal

pub returns-clause-interfered : goal.returns-clause-interfered
unfolding interfered
returns-clause-interfered c =
    let same = map_same (bare (closure c.args.observer.now true c.args.env.now.w)) c.args.env.now.shared in
    cc (c.closure-env.ensures.set, c.forget.ensures, c.interfere_locals.ensures)

pub returns-clause-fits : goal.returns-clause-fits
returns-clause-fits c = rw (returns-clause-interfered c) (interfered_fits c.args.observer.now c.args.env.now c.requires)

pub returns-clause-well_formed : goal.returns-clause-well_formed
returns-clause-well_formed c = λ h. rw (returns-clause-interfered c) (interfered_well_formed c.args.observer.now c.args.env.now h)
