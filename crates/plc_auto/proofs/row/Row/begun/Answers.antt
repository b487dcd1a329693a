use Rattle.std.proofs.Common.{map, ap, ◌∙◌}
use Rattle.plc_auto.specs.Table.{target_of}
use Rattle.plc_auto.specs.Locations.{Row}
use Rattle.plc_auto.proofs.Moving.{all_first}
use Rattle.plc_auto.proofs.row.Row.begun.Goals as goal

pub returns : goal.returns
returns c = ap (λ (r : Row). r.at) c.with_locations.ensures ∙ ap (map target_of) c.in_ok-at.ensures ∙ all_first c.args.watchers
