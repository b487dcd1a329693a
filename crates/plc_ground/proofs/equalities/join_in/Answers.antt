use Rattle.std.proofs.Common.{List, ℕ, refl, subst}
use Rattle.plc_ground.specs.Classes.{IsClash}
use Rattle.plc_ground.specs.Changes.{AgreeAt}
use Rattle.plc_ground.proofs.Joining.{arguments_in_range}
use Rattle.plc_ground.proofs.Changing.{settles_first, settles_joined}
use Rattle.plc_ground.proofs.equalities.join_in.Goals as goal

pub returns-in_default-clause-settles : goal.returns-in_default-clause-settles
returns-in_default-clause-settles c = settles_first c.args.set.now.terms c.args.equal.now c.requires.left

pub returns-in_default-clause-none : goal.returns-in_default-clause-none
returns-in_default-clause-none c = λ _. (refl, subst (λ (k : List ℕ). AgreeAt c.args.set.now.terms k c.args.x c.args.list.now) c.as_slice.ensures c.in_default.ensures.none)

pub returns-clause-settles : goal.returns-clause-settles
returns-clause-settles c =
    let k : IsClash c.args.set.now.terms c.args.equal.now.class c.in-Some.i c.in-Some.j =
    subst (λ (k : List ℕ). IsClash c.args.set.now.terms k c.in-Some.i c.in-Some.j) c.as_slice.ensures c.in-Some.ensures.some in
    (settles_joined c.args.set.now.terms c.args.equal.now c.join.new.equal c.in-Some.i c.in-Some.j (arguments_in_range c.args.set.now c.requires.well) c.requires.one_each k c.requires.left c.in_ok-join.ensures.joined).0

pub returns-clause-some : goal.returns-clause-some
returns-clause-some c = λ _.
    let k : IsClash c.args.set.now.terms c.args.equal.now.class c.in-Some.i c.in-Some.j =
    subst (λ (k : List ℕ). IsClash c.args.set.now.terms k c.in-Some.i c.in-Some.j) c.as_slice.ensures c.in-Some.ensures.some in
    (settles_joined c.args.set.now.terms c.args.equal.now c.join.new.equal c.in-Some.i c.in-Some.j (arguments_in_range c.args.set.now c.requires.well) c.requires.one_each k c.requires.left c.in_ok-join.ensures.joined).1
