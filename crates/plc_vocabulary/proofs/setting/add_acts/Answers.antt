use Rattle.plc_vocabulary.proofs.Fitting.{executed_sorted}
use Rattle.plc_vocabulary.proofs.setting.add_acts.Goals as goal

pub push_acts-requires-clause-sorted : goal.push_acts-requires-clause-sorted
push_acts-requires-clause-sorted c =
    rw c.executed.ensures (executed_sorted c.args.flow.now c.args.outline.now c.args.o.now c.requires.fits)
