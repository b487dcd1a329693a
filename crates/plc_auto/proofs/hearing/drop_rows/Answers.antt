use Rattle.std.proofs.Common.{rules}
use Rattle.std.proofs.lemmas.Fn.{filter_same}
use Rattle.plc_auto.specs.Locations.{is_needed}
use Rattle.plc_auto.proofs.hearing.drop_rows.Goals as goal

pub returns : goal.returns
returns c = filter_same _ (is_needed c.args.others.now.at) _ (λ r x f' k. search rules) _ _ c.retain.ensures.filtered
