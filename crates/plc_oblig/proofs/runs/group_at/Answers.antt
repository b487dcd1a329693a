use Rattle.plc_oblig.proofs.Joined.{group_0, group_1, group_2, group_of_points, group_of_claims}
use Rattle.plc_oblig.proofs.runs.group_at.Goals as goal

pub returns-then-g-lt1 : goal.returns-then-g-lt1
returns-then-g-lt1 c = group_0 c.args.flow.now c.args.g c.if-g-lt1.true

pub returns-then-g-lt2 : goal.returns-then-g-lt2
returns-then-g-lt2 c = group_1 c.args.flow.now c.args.g c.if-g-lt1.false c.if-g-lt2.true

pub returns-then-g-lt3 : goal.returns-then-g-lt3
returns-then-g-lt3 c = group_2 c.args.flow.now c.args.g c.if-g-lt2.false c.if-g-lt3.true

pub returns-then-g-steps : goal.returns-then-g-steps
returns-then-g-steps c =
    group_of_points c.args.flow.now c.args.g c.len-steps.result c.len-steps.ensures c.if-g-lt3.false c.if-g-steps.true

pub returns : goal.returns
returns c =
    group_of_claims c.args.flow.now c.args.g c.len-steps.result c.len-steps.ensures c.if-g-lt3.false c.if-g-steps.false c.requires.there
