use Rattle.std.proofs.Common.{arith, ap, sym, List, ℕ, slice_index}
use Rattle.std.proofs.lemmas.Grind.{common_steps}
use Rattle.std.proofs.lemmas.Result.{on_ok_weaker}
use Rattle.plc_ground.proofs.Changing.{joined_answer, joined_other_way}
use Rattle.plc_ground.proofs.equalities.join.Goals as goal

pub returns-then-a-b : goal.returns-then-a-b
returns-then-a-b c = record {
  joined = joined_answer c.merge.result c.args.equal.now c.merge.new.equal c.args.x c.args.y _ _ c.merge.ensures.joins c.merge.ensures.one_each c.merge.ensures.less
      c.merge.ensures.extends c.merge.ensures.joined c.if-a-b.true (ap (λ (k : List ℕ). slice_index k c.args.x) (sym c.as_slice.ensures)) (ap (λ (k : List ℕ). slice_index k c.args.y) (sym c.as_slice-2.ensures))
      c.requires.first c.requires.second;
}

pub returns : goal.returns
returns c = record {
  joined = on_ok_weaker c.merge-2.result (joined_other_way c.args.equal.now c.merge-2.new.equal c.args.x c.args.y)
      (joined_answer c.merge-2.result c.args.equal.now c.merge-2.new.equal c.args.y c.args.x _ _ c.merge-2.ensures.joins c.merge-2.ensures.one_each c.merge-2.ensures.less
      c.merge-2.ensures.extends c.merge-2.ensures.joined
      (let s = c.as_slice.ensures in let t = c.as_slice-2.ensures in let n = c.requires.apart in let f = c.if-a-b.false in grind (arith, common_steps))
      (ap (λ (k : List ℕ). slice_index k c.args.y) (sym c.as_slice-2.ensures)) (ap (λ (k : List ℕ). slice_index k c.args.x) (sym c.as_slice.ensures))
      c.requires.second c.requires.first);
}
