use Rattle.std.proofs.Common.{sym, ◌∙◌}
use Rattle.plc_oblig.proofs.Sharing.{serves}
use Rattle.plc_oblig.proofs.grounding.begun_from.Goals as goal

pub returns-then-begin_alike-clause-prefix : goal.returns-then-begin_alike-clause-prefix
returns-then-begin_alike-clause-prefix c =
    let w = c.args.w.now in
    serves w.flow.now w.outline.now w.setting.now w.obligation.now c.args.kept c.requires.ready.setting c.requires.kept
    c.if-kept-w.true (sym c.begin_alike.ensures ∙ c.if-begin_alike.true)
