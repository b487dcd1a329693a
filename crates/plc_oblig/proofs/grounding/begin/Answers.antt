use Rattle.plc_oblig.proofs.Sharing.{keeps}
use Rattle.plc_oblig.proofs.grounding.begin.Goals as goal

pub returns-clause-prefix : goal.returns-clause-prefix
returns-clause-prefix c = record {
  draft = c.in_ok-executed.ensures.draft;
  executed = c.in_ok-executed.ensures.after;
  few = c.in_ok-executed.ensures.few;
}

pub returns-clause-kept : goal.returns-clause-kept
returns-clause-kept c =
    let w = c.args.w.now in
    keeps w.flow.now w.outline.now w.setting.now w.obligation.now _ c.requires.ready.setting
    (record { draft = c.in_ok-executed.ensures.draft; executed = c.in_ok-executed.ensures.after; few = c.in_ok-executed.ensures.few })
