use Rattle.std.proofs.Common.{◌≡◌, ◌∙◌, ◌+◌, ◌-◌, ℕ, suc, ◌∷◌, [], ◌++◌, Ok, refl, sym, ap, arith}
use Rattle.std.proofs.lemmas.Result.{err_from_is_err_and}
use Rattle.plc_syntax.specs.Syntax.{kinds}
use Rattle.plc_syntax.specs.Trees.{BlockTree}
use Rattle.plc_tree.specs.Forms.{ors_of, statements_of}
use Rattle.plc_tree.specs.Views.{block_tree, ors_tree}
use Rattle.plc_tree.proofs.Loops.{blocks_before, ors_turn, ors_end, ors_stop, ors_out, statements_before}
use Rattle.plc_tree.proofs.Loops.{statements_turn, statements_end, statements_stop, statements_out}
use Rattle.plc_tree.proofs.block.+block.Goals as goal

pub statements_at-returns-then-not-begins_statement : goal.statements_at-returns-then-not-begins_statement
statements_at-returns-then-not-begins_statement t c =
    let l = c.loop-i in
    let more : c.args.most - l.i ≡ suc (c.args.most - 1 - l.i) = omega (arith, c.loop-i-test.true) in
    statements_end (c.args.most - l.i) (c.args.most - 1 - l.i) l.rest.at (kinds l.rest.tokens.now) l.stmts.items _ more
    (sym c.begins_statement.ensures ∙ c.if-not-begins_statement.true) l.invariant
    ∙ ap (λ (b : BlockTree). Ok (b, l.rest.at, kinds l.rest.tokens.now))
    (ap block_tree (sym c.shrink_to_fit.ensures.items) ∙ sym c.new.ensures)

pub statements_at-returns-in_err-value : goal.statements_at-returns-in_err-value
statements_at-returns-in_err-value t c =
    let l = c.loop-i in
    let p = err_from_is_err_and c.from_residual.result c.from_residual.ensures.1 in
    let more : c.args.most - l.i ≡ suc (c.args.most - 1 - l.i) = omega (arith, c.loop-i-test.true) in
    rw (p.1, p.2) (statements_stop _ (c.args.most - l.i) (c.args.most - 1 - l.i) l.rest.at (kinds l.rest.tokens.now)
    l.stmts.items _ more (sym c.begins_statement.ensures ∙ c.if-not-begins_statement.false) c.in_err-value.ensures
    l.invariant)

pub statements_at-loop-i-preserved : goal.statements_at-loop-i-preserved
statements_at-loop-i-preserved t c =
    let l = c.loop-i in
    let more : c.args.most - l.i ≡ suc (c.args.most - 1 - l.i) = omega (arith, c.loop-i-test.true) in
    let fuel : c.args.most - (l.i + 1) ≡ c.args.most - 1 - l.i = omega arith in
    let at = c.in_ok-value.after.at in
    let after = kinds c.in_ok-value.after.tokens.now in
    ap (λ ss. statements_before ss (statements_of (c.args.most - (l.i + 1)) at after)) c.in_ok-push.ensures.items
    ∙ ap (λ (m : ℕ). statements_before (l.stmts.items ++ record { at = l.rest.at; value = c.in_ok-value.value } ∷ [])
    (statements_of m at after)) fuel
    ∙ sym (statements_turn (c.args.most - l.i) (c.args.most - 1 - l.i) l.rest.at at (kinds l.rest.tokens.now) after
    l.stmts.items (record { at = l.rest.at; value = c.in_ok-value.value }) more
    (sym c.begins_statement.ensures ∙ c.if-not-begins_statement.false) refl c.in_ok-value.ensures)
    ∙ l.invariant

pub statements_at-returns : goal.statements_at-returns
statements_at-returns t c =
    let l = c.loop-i in
    let none : c.args.most - l.i ≡ 0 = omega (arith, c.loop-i-test.false) in
    rw c.syntax_fault.ensures
    (statements_out (c.args.most - l.i) l.rest.at (kinds l.rest.tokens.now) l.stmts.items _ none l.invariant)

pub ors_at-returns-then-not-begins_or : goal.ors_at-returns-then-not-begins_or
ors_at-returns-then-not-begins_or t c =
    let l = c.loop-i in
    let more : c.args.most - l.i ≡ suc (c.args.most - 1 - l.i) = omega (arith, c.loop-i-test.true) in
    ors_end (c.args.most - l.i) (c.args.most - 1 - l.i) l.rest.at (kinds l.rest.tokens.now) l.others.items _ more
    (sym c.begins_or.ensures ∙ c.if-not-begins_or.true) l.invariant
    ∙ ap (λ bs. Ok (ors_tree bs, l.rest.at, kinds l.rest.tokens.now)) (sym c.shrink_to_fit.ensures.items)

pub ors_at-returns-in_err-block : goal.ors_at-returns-in_err-block
ors_at-returns-in_err-block t c =
    let l = c.loop-i in
    let p = err_from_is_err_and c.from_residual.result c.from_residual.ensures.1 in
    let more : c.args.most - l.i ≡ suc (c.args.most - 1 - l.i) = omega (arith, c.loop-i-test.true) in
    rw (p.1, p.2) (ors_stop _ (c.args.most - l.i) (c.args.most - 1 - l.i) l.rest.at (kinds l.rest.tokens.now)
    l.others.items _ more (sym c.begins_or.ensures ∙ c.if-not-begins_or.false) c.in_err-block.ensures l.invariant)

pub ors_at-loop-i-preserved : goal.ors_at-loop-i-preserved
ors_at-loop-i-preserved t c =
    let l = c.loop-i in
    let more : c.args.most - l.i ≡ suc (c.args.most - 1 - l.i) = omega (arith, c.loop-i-test.true) in
    let fuel : c.args.most - (l.i + 1) ≡ c.args.most - 1 - l.i = omega arith in
    let at = c.in_ok-block.after.at in
    let after = kinds c.in_ok-block.after.tokens.now in
    ap (λ bs. blocks_before bs (ors_of (c.args.most - (l.i + 1)) at after)) c.in_ok-push.ensures.items
    ∙ ap (λ (m : ℕ). blocks_before (l.others.items ++ c.in_ok-block.block ∷ []) (ors_of m at after)) fuel
    ∙ sym (ors_turn (c.args.most - l.i) (c.args.most - 1 - l.i) l.rest.at at (kinds l.rest.tokens.now) after
    l.others.items c.in_ok-block.block more (sym c.begins_or.ensures ∙ c.if-not-begins_or.false)
    c.in_ok-block.ensures)
    ∙ l.invariant

pub ors_at-returns : goal.ors_at-returns
ors_at-returns t c =
    let l = c.loop-i in
    let none : c.args.most - l.i ≡ 0 = omega (arith, c.loop-i-test.false) in
    rw c.syntax_fault.ensures
    (ors_out (c.args.most - l.i) l.rest.at (kinds l.rest.tokens.now) l.others.items _ none l.invariant)
