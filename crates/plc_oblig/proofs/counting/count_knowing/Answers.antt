use Rattle.std.proofs.Common.{◌∙◌}
use Rattle.plc_oblig.proofs.Joined.{each_length}
use Rattle.plc_oblig.proofs.counting.count_knowing.Goals as goal

pub returns-in-AtPoints-clause-count : goal.returns-in-AtPoints-clause-count
returns-in-AtPoints-clause-count c =
    c.requires.each ∙ each_length c.args.o.flow.now c.args.o.outline.now c.args.group c.in-AtPoints.field-0 c.in-AtPoints.is
