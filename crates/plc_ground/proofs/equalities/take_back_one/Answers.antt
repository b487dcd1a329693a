use Rattle.std.proofs.Common.{◌∙◌, List, ap, sym}
use Rattle.plc_ground.specs.declared.equalities.Change.{Change}
use Rattle.plc_ground.specs.Changes.{undone}
use Rattle.plc_ground.proofs.equalities.take_back_one.Goals as goal

pub returns-clause-class : goal.returns-clause-class
returns-clause-class c = c.restore.ensures.class ∙ sym (ap (λ (t : List Change). undone t c.args.equal.now.class) c.newest-change.ensures)
