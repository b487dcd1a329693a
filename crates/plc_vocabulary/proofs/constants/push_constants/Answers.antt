use Rattle.std.proofs.Common.{◌≡◌, List, [], ◌∷◌, ◌++◌, map, refl, ap, ◌∙◌, append_assoc, subst, OnOk}
use Rattle.std.specs.List.{sum_by}
use Rattle.plc_lang.specs.Numbering.{values_in}
use Rattle.plc_ground.specs.declared.terms.Symbol.{Symbol}
use Rattle.plc_ground.specs.declared.terms.Symbol.TheVariants as symbols
use Rattle.plc_vocabulary.specs.Setting.{below, loads_from, only_if}
use Rattle.plc_vocabulary.proofs.Fitting.{values_few}
use Rattle.plc_vocabulary.proofs.Runs.{follows, nine_runs}
use Rattle.plc_vocabulary.proofs.constants.push_constants.Goals as goal

pub count_values-requires : goal.count_values-requires
count_values-requires c = rw c.as_slice-2.ensures (values_few c.args.flow.now.file c.requires.fits.file)

pub returns : goal.returns
returns c =
    let values = c.count_values.ensures ∙ ap (sum_by values_in) c.as_slice-2.ensures in
    let s = c.args.s.now in
    let start : List Symbol = c.args.list.now in
    let null : c.push.new.self ≡ start ++ symbols.Null ∷ [] = c.in_ok-push.ensures.ok in
    let shared =
    follows _ _ _ _ _ c.in_ok-push_shared.ensures (ap (λ n. map symbols.Shared (below n)) c.len.ensures) null in
    let variables = follows _ _ _ _ _ c.in_ok-push_variables.ensures refl shared in
    let made = follows _ _ _ _ _ c.in_ok-push_if.ensures refl variables in
    let bound = follows _ _ _ _ _ c.in_ok-push_bound.ensures refl made in
    let loads = follows _ _ _ _ _ c.in_ok-push_loads.ensures (ap (loads_from 0) c.as_slice.ensures) bound in
    let threads = follows _ _ _ _ _ c.in_ok-push_truths_and_threads.ensures refl loads in
    let enumerated =
    follows _ _ _ _ _ c.in_ok-push_values.ensures (ap (λ n. map symbols.Value (below n)) values) threads in
    let numbers = follows _ _ _ _ _ c.in_ok-push_all_numbers.ensures refl enumerated in
    let all =
    follows _ (c.push_all_numbers.new.list ++ c.as_slice-3.result.now) _ _ _ refl c.as_slice-3.ensures numbers in
    let truths = symbols.Yes ∷ only_if s.marked (symbols.No ∷ []) in
    let people = symbols.Nobody ∷ symbols.Me ∷ only_if s.owned (symbols.You ∷ []) in
    subst (λ (xs : List Symbol). OnOk c.push_all.result (c.push_all.new.list ≡ xs))
    (all ∙ nine_runs (start ++ symbols.Null ∷ []) _ s.mine.pointers s.mine.values s.theirs.pointers
    s.theirs.values (only_if s.makes (symbols.New ∷ [])) _ _ truths people _ _ _
    ∙ append_assoc start (symbols.Null ∷ []) _)
    c.push_all.ensures
