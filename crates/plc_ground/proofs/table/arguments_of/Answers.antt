use Rattle.std.proofs.Common.{arith, below_more, ◌≡◌, Some}
use Rattle.std.specs.Prelude.{Contains, slice_get}
use Rattle.std.proofs.lemmas.Option.{slice_get_within}
use Rattle.plc_ground.specs.declared.terms.GroundTerm.TheVariants.{App}
use Rattle.plc_ground.proofs.table.arguments_of.Goals as goal

pub loop-i-preserved : goal.loop-i-preserved
loop-i-preserved c = record {
  each = c.in_ok-list_argument.ensures.each;
  whole = λ m v a. below_more (λ j. slice_get c.args.set.now.terms j ≡ Some (App m v a) → Contains c.list_argument.new.list a) c.loop-i.i
      (λ j jl is. c.in_ok-list_argument.ensures.kept a (c.loop-i.invariant.whole m v a j jl is)) (c.in_ok-list_argument.ensures.listed m v a);
}

pub returns : goal.returns
returns c = record { each = c.loop-i.invariant.each; whole = λ m v a i is. c.loop-i.invariant.whole m v a i (let lt = slice_get_within c.args.set.now.terms i _ is in omega arith) is }
