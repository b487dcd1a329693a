use Rattle.std.proofs.Common.{refl, ap}
use Rattle.plc_vocabulary.proofs.Fitting.{acts_short}
use Rattle.plc_vocabulary.proofs.setting.list_all.Goals as goal

pub list_nodes-requires-clause-few : goal.list_nodes-requires-clause-few
list_nodes-requires-clause-few c =
    acts_short c.args.flow.now c.args.outline.now c.args.o.now _ _ _ _ c.requires.fits refl
    (ap (λ s. s.acts) c.in_ok-add_acts.ensures)

pub list_nodes-requires-clause-unlisted : goal.list_nodes-requires-clause-unlisted
list_nodes-requires-clause-unlisted c = rw c.in_ok-add_acts.ensures refl
