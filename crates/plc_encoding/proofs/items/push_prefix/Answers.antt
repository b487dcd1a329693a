use Rattle.std.proofs.Common.{◌≡◌, ◌<◌, ◌≤◌, ◌∙◌, List, length, sym, ap, subst, arith}
use Rattle.std.specs.List.{sum_by}
use Rattle.plc_lang.specs.declared.syntax.Ghost.{Ghost}
use Rattle.plc_lang.specs.Numbering.{values_in}
use Rattle.plc_symbolic.specs.Numbering.{written_all}
use Rattle.plc_vocabulary.specs.declared.acts.Act.{Act}
use Rattle.plc_vocabulary.proofs.Fitting.{values_few}
use Rattle.plc_encoding.specs.Execution.{start, after_all, executed_clauses}
use Rattle.plc_encoding.specs.Items.{values_from, mark_values, beginning, freshness, premises, prefix_of}
use Rattle.plc_encoding.proofs.Fitting.{few_acts, few_locals}
use Rattle.plc_encoding.proofs.Written.{written-then}
use Rattle.plc_encoding.proofs.items.push_prefix.Goals as goal

pub push_values-requires : goal.push_values-requires
push_values-requires c =
    let file = c.args.w.now.flow.now.file in
    let few : length file.ghosts ≤ 4 = c.requires.fits.file.ghosts in
    let L : List Ghost → Type 0 = λ gs. length gs < 65536 in
    let P : List Ghost → Type 0 = λ gs. sum_by values_in gs < 65536 in
    record {
      fields = subst L (sym c.as_slice.ensures) (omega arith);
      values = subst P (sym c.as_slice.ensures) (values_few file c.requires.fits.file);
    }

pub push_beginning-requires : goal.push_beginning-requires
push_beginning-requires c =
    let w = c.args.w.now in
    let few : length w.flow.now.file.shared ≤ 16 = c.requires.fits.file.shared in
    record { shared = omega arith; locals = few_locals w.flow.now w.obligation.now c.requires.fits.file }

pub push_freshness-requires : goal.push_freshness-requires
push_freshness-requires c =
    let file = c.args.w.now.flow.now.file in
    let few : length file.fields ≤ 8 = c.requires.fits.file.fields in
    let few_ghosts : length file.ghosts ≤ 4 = c.requires.fits.file.ghosts in
    record { fields = omega arith; ghosts = omega arith; values = values_few file c.requires.fits.file }

pub push_executed-requires : goal.push_executed-requires
push_executed-requires c =
    let w = c.args.w.now in
    let P : List Act → Type 0 = λ acts. length acts < 65536 in
    subst P (sym c.as_slice-3.ensures)
    (few_acts w.flow.now w.outline.now w.setting.now w.obligation.now c.requires.fits c.requires.setting)

pub returns-clause-few : goal.returns-clause-few
returns-clause-few c =
    let w = c.args.w.now in
    let few : length w.setting.now.acts < 65536 =
    few_acts w.flow.now w.outline.now w.setting.now w.obligation.now c.requires.fits c.requires.setting in
    let P : List Act → Type 0 = λ acts. length acts < 65536 in
    let same : length c.as_slice-3.result.now < 65536 = subst P (sym c.as_slice-3.ensures) few in
    omega (arith, c.in_ok-x.ensures.few)

pub returns-clause-after : goal.returns-clause-after
returns-clause-after c = c.in_ok-x.ensures.after ∙ ap (after_all start) c.as_slice-3.ensures

pub returns-clause-clauses : goal.returns-clause-clauses
unfolding prefix_of
returns-clause-clauses c =
    let flow = c.args.w.now.flow.now in
    let outline = c.args.w.now.outline.now in
    let s = c.args.w.now.setting.now in
    let o = c.args.w.now.obligation.now in
    let valued : c.push_values.new.out ≡ written_all c.args.out.now (values_from 0 0 flow.file.ghosts s.nodes) =
    c.in_ok-push_values.ensures
    ∙ (λ i. written_all c.args.out.now (values_from 0 0 (c.as_slice.ensures i) (c.as_slice-2.ensures i))) in
    c.in_ok-x.ensures.clauses
    ∙ (λ i. written_all c.push_premises.new.out (executed_clauses (c.as_slice-4.ensures i) start (c.as_slice-3.ensures i)))
    ∙ written-then _ c.push_premises.new.out (premises flow outline s o) _ c.in_ok-push_premises.ensures
    ∙ written-then _ c.push_freshness.new.out (freshness flow.file s) _ c.in_ok-push_freshness.ensures
    ∙ written-then _ c.push_beginning.new.out (beginning flow s o) _ c.in_ok-push_beginning.ensures
    ∙ written-then _ c.push_mark_values.new.out (mark_values s) _ c.in_ok-push_mark_values.ensures
    ∙ written-then c.args.out.now c.push_values.new.out (values_from 0 0 flow.file.ghosts s.nodes) _ valued
