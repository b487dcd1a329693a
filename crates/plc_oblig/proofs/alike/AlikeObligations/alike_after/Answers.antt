use Rattle.std.proofs.Common.{sym, ◌∙◌}
use Rattle.plc_oblig.proofs.OneSet.{alike_sets}
use Rattle.plc_oblig.proofs.alike.AlikeObligations.alike_after.Goals as goal

pub returns-then-are_alike : goal.returns-then-are_alike
returns-then-are_alike c = (
  c.in_ok-noted.noted,
  c.in_ok-noted.ensures,
  alike_sets c.args.flow.now c.args.outline.now c.args.o.now c.in_ok-noted.noted (sym c.are_alike.ensures ∙ c.if-are_alike.true),
)
