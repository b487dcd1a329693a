use Rattle.std.proofs.Common.{refl}
use Rattle.plc_html.proofs.Fetching.{badges_fetch_nothing, tags_fetch_nothing}
use Rattle.plc_html.proofs.frame.pages_fetch_nothing.Goals as goal

pub returns : goal.returns
unfolding Rattle.plc_html.specs.Tags.tags Rattle.plc_html.specs.Frame.beginning Rattle.plc_html.specs.Frame.ending
returns c = record {
  frame = refl;
  badge = badges_fetch_nothing;
  style = refl;
  listed = refl;
  numbered = tags_fetch_nothing;
}
