use Rattle.std.proofs.Common.{arith, below_more}
use Rattle.std.proofs.lemmas.Option.{slice_get_within}
use Rattle.plc_solve.specs.Search.{IsDistinguishedAt, IsGrouped}
use Rattle.plc_solve.proofs.survey.groups.Goals as goal

pub loop-i-preserved : goal.loop-i-preserved
loop-i-preserved c = record {
  each = c.in_ok-list_group.ensures.each;
  whole = below_more (λ j. IsDistinguishedAt c.args.set.now j → IsGrouped c.list_group.new.groups j) c.loop-i.i
      (λ j jl h. c.in_ok-list_group.ensures.kept j (c.loop-i.invariant.whole j jl h)) c.in_ok-list_group.ensures.grouped;
}

pub returns : goal.returns
returns c = record { each = c.loop-i.invariant.each; whole = λ i h. c.loop-i.invariant.whole i (let lt = slice_get_within c.args.set.now.terms i _ (h.1) in omega arith) h }
