use Rattle.std.proofs.Common.{arith, ◌≡◌, ◌≢◌, ◌∙◌, refl, slice_index}
use Rattle.std.proofs.lemmas.Grind.{common_steps}
use Rattle.plc_ground.proofs.Changing.{extends_same, extends_more, merged_first, merged_shifted, merged_other, merged_all}
use Rattle.plc_ground.proofs.equalities.merge.Goals as goal
use Rattle.plc_ground.proofs.equalities.merge.Goals.{then-as_slice-k+in_ok-shift, else-as_slice-k}

pub loop-k-init : goal.loop-k-init
loop-k-init c = record { merged = merged_first _ _ _; extends = extends_same _ _ refl refl; joined = refl }

pub loop-k-preserved : goal.loop-k-preserved
loop-k-preserved c = elim c.if-as_slice-k.branch [
  | then-as_slice-k+in_ok-shift w ↦
      let e : slice_index c.loop-k.equal.class c.loop-k.k ≡ c.args.high = let t = w.if-as_slice-k.true in let s = c.as_slice.ensures in grind (arith, common_steps) in
      rw w.equal-is (record {
        merged = merged_shifted _ _ _ _ _ _ c.requires.lower c.loop-k.invariant.merged (omega (arith, c.loop-k.invariant.merged.one_each)) e w.in_ok-shift.ensures.class;
        extends = extends_more _ _ _ c.loop-k.invariant.extends w.in_ok-shift.ensures.extends;
        joined = w.in_ok-shift.ensures.joined ∙ c.loop-k.invariant.joined;
      })
  | else-as_slice-k w ↦
      let ne : slice_index c.loop-k.equal.class c.loop-k.k ≢ c.args.high = λ e. let t = w.if-as_slice-k.false in let s = c.as_slice.ensures in grind (arith, common_steps) in
      rw w.equal-is (record {
        merged = merged_other _ _ _ _ _ c.loop-k.invariant.merged ne;
        extends = c.loop-k.invariant.extends;
        joined = c.loop-k.invariant.joined;
      })
]

pub returns-clause-joins : goal.returns-clause-joins
returns-clause-joins c = merged_all _ _ _ _ _ c.loop-k.invariant.merged (omega arith)
