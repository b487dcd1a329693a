use Rattle.std.proofs.Common.{◌≡◌, ℕ, List, Option, Result, ap, refl, sym, subst}
use Rattle.std.specs.List.{filter_map}
use Rattle.std.specs.Prelude.{IfOk}
use denote.Param.Object.{read_made}
use Rattle.plc_auto.specs.declared.event.Event.{Event}
use Rattle.plc_auto.specs.declared.scheme.Scheme.{Scheme}
use Rattle.plc_reclaim.specs.Meanings.{Meanings}
use Rattle.plc_reclaim.specs.Numbers.{by_tables}
use Rattle.plc_reclaim.specs.Rows.{ActsAs, leak_row, list_row, hazard_row, epoch_row, none_of, hazard_of, epoch_of}
use Rattle.plc_cli.proofs.Answering.{if_ok_from}
use Rattle.plc_hunting.specs.declared.hunting.Hunted.{Hunted}
use Rattle.plc_hunting.specs.Program.{IsHunt}
use Rattle.plc_hunting.specs.Racing.{IsHuntUnder}
use Rattle.plc_hunting.specs.Requests.{Freeing, By}
use Rattle.plc_hunting.specs.Views.{freeing_view}
use Rattle.plc_hunting.proofs.asking.hunt_bytes.OwnLists.{own-1, at-1-1, at-1-2, at-1-3, at-1-4}
use Rattle.plc_hunting.proofs.asking.hunt_bytes.Goals as goal

-- what is promised of a reclaimer is promised of its box
boxed : (row : List Scheme → List Event → Option ℕ) (m n : Meanings) → n ≡ m → ActsAs row m → ActsAs row n
boxed row m n same acts = subst (ActsAs row) (sym same) acts

-- what is answered under a reclaimer that acts as the row of the word is due for the word
by_row : {E : Type 0} (row : List Scheme → List Event → Option ℕ) (m : Meanings) (asked : Freeing) (bytes : List ℕ)
    (r : Result Hunted E) → asked ≡ By row → ActsAs row m → IfOk r (λ h. IsHuntUnder m bytes h.status h.text.items)
    → IfOk r (λ h. IsHunt asked bytes h.status h.text.items)
by_row row m asked bytes r is acts answer =
    if_ok_from r _ _
    (λ h due. subst (λ (f : Freeing). IsHunt f bytes h.status h.text.items) (sym is)
    (record { reclaimer = m; acts = acts; answer = due }))
    answer

pub returns-in_ok-judging-in-Leak : goal.returns-in_ok-judging-in-Leak
returns-in_ok-judging-in-Leak c =
    by_row leak_row _ (freeing_view c.args.freeing) c.args.bytes.now c.hunt_with.result (ap freeing_view c.in-Leak.is)
    (boxed leak_row _ _ (read_made own-1 (own-1.entry at-1-1) at-1-1 refl Meanings (λ j w. j.1.meanings w) _ _ _ c.into_dyn_box-in-Leak.ensures.1) c.new-in-Leak-2.ensures.acts)
    c.hunt_with.ensures

pub returns-in_ok-judging-in-List : goal.returns-in_ok-judging-in-List
returns-in_ok-judging-in-List c =
    by_row list_row _ (freeing_view c.args.freeing) c.args.bytes.now c.hunt_with-in-List.result (ap freeing_view c.in-List.is)
    (boxed list_row (by_tables (filter_map none_of)) _ (read_made own-1 (own-1.entry at-1-2) at-1-2 refl Meanings (λ j w. j.1.meanings w) _ _ _ c.into_dyn_box-in-List-2.ensures.1) c.new-in-List-3.ensures.acts)
    c.hunt_with-in-List.ensures

pub returns-in_ok-judging-in-Hazard : goal.returns-in_ok-judging-in-Hazard
returns-in_ok-judging-in-Hazard c =
    by_row hazard_row _ (freeing_view c.args.freeing) c.args.bytes.now c.hunt_with-in-Hazard.result (ap freeing_view c.in-Hazard.is)
    (boxed hazard_row (by_tables (filter_map hazard_of)) _ (read_made own-1 (own-1.entry at-1-3) at-1-3 refl Meanings (λ j w. j.1.meanings w) _ _ _ c.into_dyn_box-in-Hazard-2.ensures.1) c.new-in-Hazard-3.ensures.acts)
    c.hunt_with-in-Hazard.ensures

pub returns-in_ok-judging-in-Epoch : goal.returns-in_ok-judging-in-Epoch
returns-in_ok-judging-in-Epoch c =
    by_row epoch_row _ (freeing_view c.args.freeing) c.args.bytes.now c.hunt_with-in-Epoch.result (ap freeing_view c.in-Epoch.is)
    (boxed epoch_row (by_tables (filter_map epoch_of)) _ (read_made own-1 (own-1.entry at-1-4) at-1-4 refl Meanings (λ j w. j.1.meanings w) _ _ _ c.into_dyn_box-in-Epoch-2.ensures.1) c.new-in-Epoch-3.ensures.acts)
    c.hunt_with-in-Epoch.ensures
