use Rattle.std.proofs.Common.{sym, ◌∙◌, subst}
use Rattle.plc_solve.specs.Search.{IsGroup}
use Rattle.plc_solve.proofs.survey.is_grouped.Goals as goal

pub is_in-requires-clause-group : goal.is_in-requires-clause-group
is_in-requires-clause-group c =
    subst (IsGroup c.args.set.now) (sym c.group-item.is ∙ sym c.as_slice.ensures)
    (c.requires.each c.loop-group.group-index c.group-item.result c.loop-group-test.true)
