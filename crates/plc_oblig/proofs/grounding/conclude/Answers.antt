use Rattle.std.proofs.Common.{map, ap, ◌∙◌}
use Rattle.plc_vocabulary.specs.Sorts.{sort_of}
use Rattle.plc_oblig.specs.GroundSets.{drafted}
use Rattle.plc_oblig.proofs.Assembled.{assembled}
use Rattle.plc_oblig.proofs.Sharing.{written_after, concluded}
use Rattle.plc_oblig.proofs.WellFormed.{made_well_formed}
use Rattle.plc_oblig.proofs.grounding.conclude.Goals as goal

pub cut-requires : goal.cut-requires
cut-requires c =
    let w = c.args.w.now in (
      c.args.draft.now,
      written_after w.flow.now w.outline.now w.setting.now w.obligation.now c.args.executed.now c.args.draft.now _ _ _
          c.requires.begun (c.in_ok-set.ensures.kept ∙ c.in_ok-push_conclusion.ensures) c.len-terms.ensures c.clauses-clauses.ensures,
    )

pub returns : goal.returns
returns c =
    let w = c.args.w.now in
    let flow = w.flow.now in
    let outline = w.outline.now in
    let o = w.obligation.now in
    let s = w.setting.now in
    let d = c.push_conclusion.new.out in
    let setting = c.requires.ready.setting in
    let written = concluded flow outline s o c.args.executed.now c.args.draft.now d c.requires.begun c.requires.executed c.in_ok-push_conclusion.ensures in
    let set = assembled flow outline o s c.in_ok-sorts.sorts d c.in_ok-set.set setting written
    (c.in_ok-sorts.ensures ∙ ap (λ acts. map (sort_of flow o acts) d.terms) c.as_slice-acts.ensures)
    c.in_ok-set.ensures.set in
    record {
      kept = c.cut.ensures c.args.draft.now (written_after flow outline s o c.args.executed.now c.args.draft.now _ _ _
          c.requires.begun (c.in_ok-set.ensures.kept ∙ c.in_ok-push_conclusion.ensures) c.len-terms.ensures c.clauses-clauses.ensures);
      well = made_well_formed flow outline o d c.in_ok-set.set c.requires.ready.fits (written ∙ ap (λ r. drafted flow outline r o) setting) set
          c.in_ok-set.ensures.few_terms c.in_ok-set.ensures.few_clauses;
      set = set;
    }
