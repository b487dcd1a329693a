use Rattle.std.proofs.Common.{◌≡◌, ◌++◌, List, ℕ, true, false, ◌∙◌, ◌+◌, map, drop, ap}
use Rattle.plc_base.specs.Mask.{has}
use Rattle.plc_auto.specs.Table.{names_of}
use Rattle.plc_answers.specs.Typings.{member_names}
use Rattle.plc_answers.proofs.Lines.{with_member, without_member, named_more}
use Rattle.plc_answers.proofs.typings.member_names.Goals as goal
use Rattle.plc_answers.proofs.typings.member_names.Goals.{then-has+in_ok-push, else-has}

pub loop-l-preserved : goal.loop-l-preserved
loop-l-preserved c = elim c.if-has.branch [
  | then-has+in_ok-push w ↦
      let yes_member : has c.args.set c.loop-l.l ≡ true = cc in
      rw (w.names-is, w.in_ok-push.ensures.items) (named_more c.loop-l.names.items c.name-name.result (member_names c.args.set (c.loop-l.l + 1) (drop (c.loop-l.l + 1) (names_of c.args.observer.now)))
      ∙ with_member c.args.set c.loop-l.l (names_of c.args.observer.now) c.name-name.result.now c.name-name.ensures (map (λ n. n.now) c.loop-l.names.items) yes_member ∙ c.loop-l.invariant)
  | else-has w ↦
      let no_member : has c.args.set c.loop-l.l ≡ false = cc in
      rw (w.names-is) (ap (λ (ns : List (List ℕ)). map (λ n. n.now) c.loop-l.names.items ++ ns) (without_member c.args.set c.loop-l.l (names_of c.args.observer.now) c.name-name.result.now c.name-name.ensures no_member) ∙ c.loop-l.invariant)
]
