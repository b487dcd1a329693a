use Rattle.std.proofs.Common.{arith, below_more, ◌≡◌, ◌∙◌, [], List, ℕ, sym, subst}
use Rattle.std.specs.Prelude.{Contains, slice_index_or}
use Rattle.std.proofs.lemmas.List.{get_or_default}
use Rattle.std.proofs.lemmas.List.Elements.{All-get_or}
use Rattle.plc_ground.specs.Classes.{AreApart}
use Rattle.plc_solve.specs.Search.{IsGroup}
use Rattle.plc_solve.proofs.Grouping.{apart_from_groups}
use Rattle.plc_solve.proofs.apart.conflict.Goals as goal

pub conflict_in-requires-clause-group : goal.conflict_in-requires-clause-group
conflict_in-requires-clause-group c =
    subst (λ (xs : List ℕ). IsGroup c.args.set.now xs) (sym (c.as_slice.ensures ∙ c.group-item.is))
    (All-get_or (IsGroup c.args.set.now) c.args.groups.now c.loop-group.group-index _ c.loop-group-test.true c.requires.groups.each)

pub loop-group-preserved : goal.loop-group-preserved
loop-group-preserved c =
    let at : c.as_slice.result.now ≡ slice_index_or c.args.groups.now c.loop-group.group-index [] =
    c.as_slice.ensures ∙ c.group-item.is ∙ get_or_default c.args.groups.now c.loop-group.group-index _ [] c.loop-group-test.true in
    record {
      apart = below_more (λ n. (i j : ℕ) → Contains (slice_index_or c.args.groups.now n []) i → Contains (slice_index_or c.args.groups.now n []) j → AreApart c.args.set.now c.args.class.now i j)
          c.loop-group.group-index c.loop-group.invariant.apart
          (λ i j hi hj. c.in_default.ensures.none i j (subst (λ (xs : List ℕ). Contains xs i) (sym at) hi) (subst (λ (xs : List ℕ). Contains xs j) (sym at) hj));
      last = omega (arith, c.conflict_in.auto.last, c.loop-group.invariant.last);
    }

pub returns-clause-none : goal.returns-clause-none
returns-clause-none c = apart_from_groups c.args.set.now c.requires.classed.well c.args.class.now c.args.groups.now c.requires.groups (λ n nl. c.loop-group.invariant.apart n (omega arith))
