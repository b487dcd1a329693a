-- Whether the ground set of any obligation has more clauses than it may.
use Rattle.std.proofs.Common.{◌≡◌, ◌<◌, ◌≤◌, Bool, true, false, length, get_or, refl, sym}
use Rattle.std.specs.List.{list_any}
use Rattle.std.specs.Prelude.{MatchBool}
use Rattle.std.proofs.lemmas.Bool.{ltb-true, ltb-false, both_ways}
use Rattle.std.proofs.lemmas.List.Folds.{list_any_at, Any-from_list_any}
use Rattle.plc_base.specs.Limits.{most}
use Rattle.plc_base.specs.declared.limits.What1.TheVariants as limits
use Rattle.plc_flow.specs.declared.flow.Flow.{Flow}
use Rattle.plc_logic.specs.declared.clause.Outline.{Outline}
use Rattle.plc_vocabulary.specs.declared.obligations.Obligation.{Obligation}
use Rattle.plc_oblig.specs.Obligations.{obligations}
use Rattle.plc_oblig.specs.GroundSets.{ground_set}
use Rattle.plc_oblig.specs.Outlines.{is_large, HasLargeSet, HasSmallSets}

large_is : (flow : Flow) (outline : Outline) (o : Obligation) → is_large flow outline o ≡ true → most limits.Clauses < length (ground_set flow outline o).clauses
large_is flow outline o e = ltb-true (most limits.Clauses) (length (ground_set flow outline o).clauses) e

each_small : (flow : Flow) (outline : Outline) → false ≡ list_any (is_large flow outline) (obligations flow outline) → HasSmallSets flow outline
each_small flow outline e k d lt = go (is_large flow outline (get_or (obligations flow outline) k d)) refl
  where
    go : (b : Bool) → is_large flow outline (get_or (obligations flow outline) k d) ≡ b
        → length (ground_set flow outline (get_or (obligations flow outline) k d)).clauses ≤ most limits.Clauses
    go false small = ltb-false (most limits.Clauses) (length (ground_set flow outline (get_or (obligations flow outline) k d)).clauses) small
    go true large = absurd (both_ways (list_any (is_large flow outline) (obligations flow outline)) (sym e)
        (list_any_at (is_large flow outline) (obligations flow outline) k d lt large))

pub decided : (flow : Flow) (outline : Outline) (r : Bool) → r ≡ list_any (is_large flow outline) (obligations flow outline) → MatchBool r (HasLargeSet flow outline) (HasSmallSets flow outline)
decided flow outline true e =
    let a = Any-from_list_any (is_large flow outline) (obligations flow outline) (sym e) in
    (a.0, a.1, a.2, a.3, large_is flow outline a.1 a.4)
decided flow outline false e = each_small flow outline e
