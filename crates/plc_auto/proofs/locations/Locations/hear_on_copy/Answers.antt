use Rattle.std.proofs.Common.{ap, ◌∙◌}
use Rattle.plc_auto.specs.Locations.{locations_after_all}
use Rattle.plc_auto.proofs.Moving.{copied}
use Rattle.plc_auto.proofs.locations.Locations.hear_on_copy.Goals as goal

pub returns-clause-ok : goal.returns-clause-ok
returns-clause-ok c = c.in_ok-hear_each.ensures ∙ ap (λ l. locations_after_all l c.args.events.now) (c.in_ok-after.ensures ∙ copied 0 c.args.self.now)
