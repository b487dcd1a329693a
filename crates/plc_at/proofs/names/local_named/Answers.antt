use Rattle.std.proofs.Common.{take, refl, sym, ◌∙◌, arith}
use Rattle.std.specs.Cmp.Lexicographic.{same_text, other_text}
use Rattle.std.proofs.lemmas.List.Sums.{count_by-le-length}
use Rattle.std.proofs.lemmas.List.{length-take}
use Rattle.plc_lang.specs.Locals.{is_pointer}
use Rattle.plc_at.proofs.ReadingNames.{named_here, counted_more, counted_same, none_left}
use Rattle.plc_at.proofs.names.local_named.Goals as goal
use Rattle.plc_at.proofs.names.local_named.Goals.{then-local+else-eq, else-local}

pub loop-local-init : goal.loop-local-init
loop-local-init c = (refl, λ v h n. absurd (omega arith))

pub returns-then-eq-clause-some : goal.returns-then-eq-clause-some
returns-then-eq-clause-some c =
    named_here c.args.file.now c.args.locals.now c.args.name.now c.loop-local.local-index c.loop-local.number _
    c.loop-local-test.true c.loop-local.invariant.0 c.if-local.true
    (sym c.name_at.ensures ∙ same_text c.name_at.result.now c.args.name.now (sym c.if-eq.true ∙ c.eq.ensures))

pub overflow_add-number : goal.overflow_add-number
overflow_add-number c =
    let few = count_by-le-length is_pointer (take c.loop-local.local-index c.args.locals.now) in
    let some = length-take c.loop-local.local-index c.args.locals.now in
    let n = c.loop-local.invariant.0 in
    omega arith

pub loop-local-preserved : goal.loop-local-preserved
loop-local-preserved c = elim c.if-local.branch [
  | then-local+else-eq w ↦
      counted_more c.args.file.now c.args.locals.now c.args.name.now c.loop-local.local-index c.loop-local.number
      c.if-local.number _ c.loop-local-test.true c.loop-local.invariant.0 w.if-local.true (omega (arith, w.number-is))
      (λ e. other_text w.name_at.result.now c.args.name.now (sym w.if-eq.false ∙ w.eq.ensures) (w.name_at.ensures ∙ e))
      c.loop-local.invariant.1
  | else-local w ↦
      counted_same c.args.file.now c.args.locals.now c.args.name.now c.loop-local.local-index c.loop-local.number
      c.if-local.number _ c.loop-local-test.true c.loop-local.invariant.0 w.if-local.false (omega (arith, w.number-is))
      c.loop-local.invariant.1
]

pub returns-clause-none : goal.returns-clause-none
returns-clause-none c =
    none_left c.args.file.now c.args.locals.now c.args.name.now c.loop-local.local-index c.loop-local.number
    c.loop-local-test.false c.loop-local.invariant.0 c.loop-local.invariant.1
