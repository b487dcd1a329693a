use Rattle.std.proofs.Common.{◌≡◌, ℕ, List, Option, refl, sym, subst}
use Rattle.std.specs.List.{filter_map}
use denote.Param.Object.{read_made}
use Rattle.plc_auto.specs.declared.event.Event.{Event}
use Rattle.plc_auto.specs.declared.scheme.Scheme.{Scheme}
use Rattle.plc_reclaim.specs.Meanings.{Meanings}
use Rattle.plc_reclaim.specs.Numbers.{by_tables}
use Rattle.plc_reclaim.specs.Rows.{ActsAs, none_of, hazard_of, epoch_of}
use Rattle.plc_cli.proofs.own.allocate_reclaimers.OwnLists.{own-1, at-1-2, at-1-3, at-1-4}
use Rattle.plc_cli.proofs.own.allocate_reclaimers.Goals as goal

-- what is promised of a reclaimer is promised of its box
boxed : (row : List Scheme → List Event → Option ℕ) (m n : Meanings) → n ≡ m → ActsAs row m → ActsAs row n
boxed row m n same acts = subst (ActsAs row) (sym same) acts

pub run_with-requires-clause-list : goal.run_with-requires-clause-list
run_with-requires-clause-list g c =
    boxed _ (by_tables (filter_map none_of)) _ (read_made own-1 (own-1.entry at-1-2) at-1-2 refl Meanings (λ j w. j.1.meanings w) _ _ _ c.into_dyn_box-2.ensures.1) c.new-3.ensures.acts

pub run_with-requires-clause-hazard : goal.run_with-requires-clause-hazard
run_with-requires-clause-hazard g c =
    boxed _ (by_tables (filter_map hazard_of)) _ (read_made own-1 (own-1.entry at-1-3) at-1-3 refl Meanings (λ j w. j.1.meanings w) _ _ _ c.into_dyn_box-3.ensures.1) c.new-5.ensures.acts

pub run_with-requires-clause-epoch : goal.run_with-requires-clause-epoch
run_with-requires-clause-epoch g c =
    boxed _ (by_tables (filter_map epoch_of)) _ (read_made own-1 (own-1.entry at-1-4) at-1-4 refl Meanings (λ j w. j.1.meanings w) _ _ _ c.into_dyn_box-4.ensures.1) c.new-7.ensures.acts
