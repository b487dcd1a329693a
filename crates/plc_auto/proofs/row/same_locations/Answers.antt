use Rattle.std.proofs.Common.{◌∙◌}
use Rattle.plc_auto.proofs.Moving.{same_by_place}
use Rattle.plc_auto.proofs.row.same_locations.Goals as goal

pub returns : goal.returns
returns c = c.eq.ensures ∙ same_by_place c.args.at.now c.args.others.now
