use Rattle.std.proofs.Common.{arith, below_more, ◌≡◌, Some, ℕ, subst, slice_index}
use Rattle.plc_ground.specs.Changes.{HasArgumentIn}
use Rattle.plc_ground.proofs.equalities.place_in.Goals as goal

pub loop-k-preserved : goal.loop-k-preserved
loop-k-preserved c =
    let OnlyOwn : ℕ → Type 0 = λ i. HasArgumentIn c.args.set.now.terms c.args.class.now c.args.x i
    → c.args.own ≡ Some (slice_index c.args.class.now i) in
    below_more (λ n. OnlyOwn (slice_index c.args.list.now n)) c.loop-k.k c.loop-k.invariant
    (subst OnlyOwn c.application_at-i.ensures.which (c.is_other_in.ensures.no c.if-is_other_in.false))

pub returns-clause-none : goal.returns-clause-none
returns-clause-none c = λ k kl. c.loop-k.invariant k (omega arith)
