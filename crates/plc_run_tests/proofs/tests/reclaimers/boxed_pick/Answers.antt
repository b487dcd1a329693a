use Rattle.std.proofs.Common.{sym, subst}
use Rattle.plc_reclaim.specs.Rows.{ActsAs, list_row}
use Rattle.plc_run_tests.proofs.tests.reclaimers.boxed_pick.OwnLists.{own-1}
use Rattle.plc_run_tests.proofs.tests.reclaimers.boxed_pick.Goals as goal

pub picks_by_list-requires : goal.picks_by_list-requires
picks_by_list-requires c = subst (λ v. (x : _) → ActsAs list_row (((own-1).entry v).1.meanings x)) (sym c.into_dyn_box.ensures.0) (λ x. c.new.ensures.acts) c.into_dyn_box.result.value
