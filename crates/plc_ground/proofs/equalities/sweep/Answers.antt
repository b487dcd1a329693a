use Rattle.std.proofs.Common.{arith, ◌≡◌, ◌<◌, ◌∙◌, List, ℕ, Ok, length, get_or, [], ap, refl, sym, subst}
use Rattle.std.specs.Prelude.{slice_index_or}
use Rattle.std.proofs.lemmas.List.{get_or_default}
use Rattle.std.proofs.lemmas.List.Elements.{All-get_or}
use Rattle.plc_ground.specs.Classes.{IsOfOneMap}
use Rattle.plc_ground.specs.Changes.{AgreeAt}
use Rattle.plc_ground.proofs.Changing.{settles_first, none_where_alone, sweeps_first, sweeps_joined, sweeps_agreed, none_from_lists}
use Rattle.plc_ground.proofs.equalities.sweep.Goals as goal
use Rattle.plc_ground.proofs.equalities.sweep.Goals.{then-branch, else-branch}

pub is_alone_in-requires : goal.is_alone_in-requires
is_alone_in-requires c =
    rw (c.as_slice.ensures, c.as_slice-2.ensures, c.requires.one_each) c.requires.table.arguments.each

pub returns-then-is_alone_in-clause-settles : goal.returns-then-is_alone_in-clause-settles
returns-then-is_alone_in-clause-settles c = settles_first c.args.set.now.terms c.args.equal.now c.requires.left

pub returns-then-is_alone_in-clause-none : goal.returns-then-is_alone_in-clause-none
returns-then-is_alone_in-clause-none c = λ _. (
  refl,
  none_where_alone c.args.set.now.terms c.args.equal.now.class c.args.table.now.arguments c.args.x c.requires.well.distinct c.requires.table.arguments
      (rw (c.as_slice.ensures, c.as_slice-2.ensures) at (c.is_alone_in.ensures c.if-is_alone_in.true)),
)

pub loop-list-init : goal.loop-list-init
loop-list-init c = sweeps_first c.args.set.now.terms c.args.table.now.lists c.args.x c.args.equal.now c.requires.left

pub join_in-requires-clause-one_each : goal.join_in-requires-clause-one_each
join_in-requires-clause-one_each c = c.loop-list.invariant.settles.one_each ∙ c.requires.one_each

pub join_in-requires-clause-list : goal.join_in-requires-clause-list
join_in-requires-clause-list c =
    let at : c.as_slice-in-loop-list.result.now ≡ get_or c.args.table.now.lists c.loop-list.list-index c.list-item.result =
    c.as_slice-in-loop-list.ensures ∙ c.list-item.is ∙ ap (λ (ls : List (List ℕ)). get_or ls c.loop-list.list-index c.list-item.result) c.as_slice-list-items.ensures in
    subst (λ (xs : List ℕ). IsOfOneMap c.args.set.now.terms xs) (sym at)
    (All-get_or (IsOfOneMap c.args.set.now.terms) c.args.table.now.lists c.loop-list.list-index c.list-item.result (let e = ap length c.as_slice-list-items.ensures in omega arith) c.requires.table.lists.each)

pub join_in-requires-clause-left : goal.join_in-requires-clause-left
join_in-requires-clause-left c = c.loop-list.invariant.settles.left

pub loop-list-preserved : goal.loop-list-preserved
loop-list-preserved c =
    let lt : c.loop-list.list-index < length c.args.table.now.lists = let e = ap length c.as_slice-list-items.ensures in omega arith in
    let at : c.as_slice-in-loop-list.result.now ≡ slice_index_or c.args.table.now.lists c.loop-list.list-index [] =
    c.as_slice-in-loop-list.ensures ∙ c.list-item.is ∙ ap (λ (ls : List (List ℕ)). get_or ls c.loop-list.list-index c.list-item.result) c.as_slice-list-items.ensures
    ∙ get_or_default c.args.table.now.lists c.loop-list.list-index c.list-item.result [] lt in
    elim c.if-branch.branch [
      | then-branch w ↦ rw w.found-is (
          sweeps_joined c.args.set.now.terms c.args.table.now.lists c.args.x c.loop-list.list-index c.args.equal.now c.loop-list.equal c.join_in.new.equal c.loop-list.found c.loop-list.invariant
          c.in_ok-join_in.ensures.settles (c.in_ok-join_in.ensures.some (ap Ok w.if-branch.true)))
      | else-branch w ↦ rw w.found-is (
          let none = c.in_ok-join_in.ensures.none (ap Ok w.if-branch.false) in
          sweeps_agreed c.args.set.now.terms c.args.table.now.lists c.args.x c.loop-list.list-index c.args.equal.now c.loop-list.equal c.join_in.new.equal c.loop-list.found c.loop-list.invariant
          (none.0) (subst (λ (xs : List ℕ). AgreeAt c.args.set.now.terms c.loop-list.equal.class c.args.x xs) at (none.1)))
    ]

pub returns-clause-settles : goal.returns-clause-settles
returns-clause-settles c = c.loop-list.invariant.settles

pub returns-clause-some : goal.returns-clause-some
returns-clause-some c = λ e. c.loop-list.invariant.some (let f = e in cc)

pub returns-clause-none : goal.returns-clause-none
returns-clause-none c = λ e.
    let none = c.loop-list.invariant.none (let f = e in cc) in (
      none.0,
      none_from_lists c.args.set.now.terms c.args.equal.now.class c.args.table.now.lists c.args.x c.requires.table.lists
          (λ g gl. none.1 g (let e = ap length c.as_slice-list-items.ensures in omega arith)),
    )
