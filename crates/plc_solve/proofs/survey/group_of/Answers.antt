use Rattle.std.proofs.Common.{arith, below_more, ◌∷◌, ◌++◌, []}
use Rattle.std.specs.Prelude.{Contains}
use Rattle.std.proofs.lemmas.List.Elements.{All-push, Contains-append_left, Contains-push}
use Rattle.plc_solve.specs.Search.{IsOfGroup}
use Rattle.plc_solve.proofs.Grouping.{group_within}
use Rattle.plc_solve.proofs.survey.group_of.Goals as goal
use Rattle.plc_solve.proofs.survey.group_of.Goals.{then-is_of_group+in_ok-push, else-is_of_group}

pub loop-i-preserved : goal.loop-i-preserved
loop-i-preserved c = elim c.if-is_of_group.branch [
  | then-is_of_group+in_ok-push w ↦ rw (w.group-is, w.in_ok-push.ensures.ok) (record {
    each = All-push (IsOfGroup c.args.set.now c.args.first) c.loop-i.group c.loop-i.i c.loop-i.invariant.each (c.is_of_group.ensures.yes w.if-is_of_group.true);
    whole = below_more (λ j. IsOfGroup c.args.set.now c.args.first j → Contains (c.loop-i.group ++ c.loop-i.i ∷ []) j) c.loop-i.i
        (λ j jl app. Contains-append_left c.loop-i.group (c.loop-i.i ∷ []) j (c.loop-i.invariant.whole j jl app)) (λ app. Contains-push c.loop-i.group c.loop-i.i);
  })
  | else-is_of_group w ↦ rw w.group-is (record {
    each = c.loop-i.invariant.each;
    whole = below_more (λ j. IsOfGroup c.args.set.now c.args.first j → Contains c.loop-i.group j) c.loop-i.i c.loop-i.invariant.whole
        (λ app. let t = c.is_of_group.ensures.no app in let f = w.if-is_of_group.false in absurd (grind arith));
  })
]

pub returns : goal.returns
returns c = record { each = c.loop-i.invariant.each; whole = λ i h. c.loop-i.invariant.whole i (let lt = group_within c.args.set.now c.args.first i c.requires.first h in omega arith) h }
