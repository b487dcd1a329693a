use Rattle.std.proofs.Common.{sym, ◌∙◌}
use Rattle.plc_oblig.proofs.grounding.Grounding.direct.Goals as goal

pub returns-then-not-still-clause-still : goal.returns-then-not-still-clause-still
returns-then-not-still-clause-still c = sym c.if-not-still.true ∙ c.still.ensures

pub tree_of_still-requires-clause-still : goal.tree_of_still-requires-clause-still
tree_of_still-requires-clause-still c = sym c.still.ensures ∙ c.if-not-still.false

pub returns-clause-still : goal.returns-clause-still
returns-clause-still c = sym c.if-not-still.false ∙ c.still.ensures
