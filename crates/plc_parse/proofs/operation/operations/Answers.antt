use Rattle.std.proofs.Common.{◌≡◌, ◌∙◌, ◌+◌, ◌<◌, ◌∷◌, [], ℕ, drop, length, Ok, ap, arith}
use Rattle.std.proofs.lemmas.List.{length-append}
use Rattle.plc_scope.specs.Scope.{◌>>=◌}
use Rattle.plc_scope.proofs.Turns.{ahead, makes}
use Rattle.plc_syntax.specs.Views.{placed_as}
use Rattle.plc_tree.specs.FileViews.{operation_tree}
use Rattle.plc_parse.specs.Meaning.{placed_op_means}
use Rattle.plc_parse.specs.Units.{lines_of}
use Rattle.plc_parse.proofs.Growth.{ops_then, ops_fit_more}
use Rattle.plc_parse.proofs.Loops.{one_declared, all_declared, listed_from, one_listed, listed_go, one_more}
use Rattle.plc_parse.proofs.operation.operations.Goals as goal

pub loop-form-preserved : goal.loop-form-preserved
loop-form-preserved c =
    let l = c.loop-form in
    let means = placed_op_means (lines_of c.args.tokens.now) in
    let op = c.in_ok-op.op in
    let new = c.push.new.self in
    let pushed = c.in_ok-push.ensures.ok in
    let count : length new ≡ length l.ops + 1 = ap length pushed ∙ length-append l.ops (op ∷ []) in
    let less : length l.ops < 32 = omega (arith, c.in_ok-op.ensures.limit, c.len.ensures) in
    record {
      fit = ops_fit_more l.ops new op pushed l.invariant.fit less c.in_ok-op.ensures.locals;
      grows = ops_then _ _ _ _ _ (omega (arith, count)) l.invariant.grows c.in_ok-op.ensures.grows;
      read = ap (λ (n : ℕ). ahead (listed_from means (placed_as operation_tree)) (one_listed means (placed_as operation_tree))
          one_declared all_declared (listed_go means (placed_as operation_tree)) new
          (listed_from means (placed_as operation_tree) (c.operation.new.scope, n)
          (drop (l.form-index + 1) c.args.forms.now))) count
          ∙ makes (listed_from means (placed_as operation_tree)) (one_listed means (placed_as operation_tree)) one_declared
          all_declared (listed_go means (placed_as operation_tree)) (l.scope, length l.ops) _ c.args.forms.now l.form-index
          c.form-item.result _ l.ops new op c.form-item.is c.loop-form-test.true (λ o. one_more l.ops new op pushed o)
          (ap (λ r. r >>= λ f. Ok (f.0, (f.1, length l.ops + 1)))
          (rw (c.len.ensures, c.line_at-line.ensures) at c.in_ok-op.ensures.read))
          ∙ l.invariant.read;
    }
