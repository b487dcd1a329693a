use Rattle.std.proofs.Common.{List, subst}
use Rattle.plc_at.specs.declared.claim.LocationClaim.{LocationClaim}
use Rattle.plc_cli.specs.Locations.{IsAnsweredWith, IsLocationAnswered}
use Rattle.plc_cli.specs.Views.{IsExtension}
use Rattle.plc_cli.proofs.Answering.{if_ok_from}
use Rattle.plc_cli.proofs.locating.ForLocationsPairQuestion.answer.Goals as goal

pub returns-in-Ok-Extended : goal.returns-in-Ok-Extended
returns-in-Ok-Extended c =
    let outline = c.in-Ok-Extended.outline in
    let extension =
    subst (IsExtension (IsLocationAnswered c.args.judged c.args.second.now) c.extension_of.new.judged)
    c.in-Ok-Extended.field-0-is c.in-Ok-Extended.ensures in
    if_ok_from c.answer_with.result _ _
    (λ answer h. extension.1 answer.status answer.text.items
    (subst (λ (claims : List LocationClaim). IsAnsweredWith c.extension_of.new.judged outline claims answer.status answer.text.items)
    c.as_slice.ensures h))
    c.answer_with.ensures
