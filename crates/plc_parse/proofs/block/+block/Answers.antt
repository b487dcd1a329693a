use Rattle.std.proofs.Common.{◌∙◌, ℕ, List, Ok, sym, ap, arith}
use Rattle.std.proofs.lemmas.Result.{err_from_is_err_and}
use Rattle.plc_lang.specs.declared.syntax.Line.{Line}
use Rattle.plc_lang.specs.Statements.{Statements, Blocks, Then, Choose}
use Rattle.plc_parse.specs.Meaning.{line_at, statements_mean}
use Rattle.plc_lang.specs.Views.{statement_of}
use Rattle.plc_syntax.specs.Trees.{BlockTree}
use Rattle.plc_syntax.specs.declared.form.Placed.{Placed}
use Rattle.plc_tree.specs.declared.tree.Stmt.{Stmt}
use Rattle.plc_tree.specs.Postorder.{block_size, ors_size}
use Rattle.plc_tree.specs.Views.{block_tree, ors_tree}
use Rattle.plc_scope.specs.Scope.{◌>>=◌}
use Rattle.plc_scope.proofs.Sequence.{bind_stops, fails_along}
use Rattle.plc_scope.proofs.Turns.{left_at, makes, makes_none, made}
use Rattle.plc_parse.specs.Units.{lines_of}
use Rattle.plc_parse.proofs.Growth.{labels_then, can_still_label}
use Rattle.plc_parse.proofs.Loops.{lines_before, one_line_more, all_lines, line_made, lines_made, statements_from}
use Rattle.plc_parse.proofs.Loops.{one_statement, statements_go, blocks_before, one_block_more, all_blocks, block_made}
use Rattle.plc_parse.proofs.Loops.{blocks_made, ors_from, one_block, ors_go, choice_of}
use Rattle.plc_parse.proofs.block.+block.Goals as goal

pub statements-loop-form-preserved : goal.statements-loop-form-preserved
statements-loop-form-preserved t c =
    let l = c.loop-form in
    let lines = lines_of c.args.context.tokens.now in
    let in_loop = c.args.context.in_loop in
    let line : Line = record { line = c.line_at-line.result; stmt = c.in_ok-stmt.stmt } in
    let left = ap (λ (ss : List (Placed Stmt)). block_size (block_tree ss)) (left_at c.stmts-form-items.result.now
    l.form-index c.form-item.result _ c.form-item.is c.loop-form-test.true) in
    record {
      room = can_still_label _ _ l.invariant.room c.in_ok-stmt.ensures.labels;
      grows = labels_then _ _ _ l.invariant.grows c.in_ok-stmt.ensures.labels;
      left = omega (arith, left, l.invariant.left);
      read = makes (statements_from lines in_loop) (one_statement lines in_loop) line_made lines_made
          (statements_go lines in_loop) l.scope _ c.stmts-form-items.result.now l.form-index c.form-item.result _
          l.lines.items _ _ c.form-item.is c.loop-form-test.true
          (λ o. ap (λ (b : Statements). (b, o.1)) (ap (λ (ls : List Line). lines_before ls o.0) c.in_ok-push.ensures.items
          ∙ one_line_more l.lines.items line o.0
          ∙ ap (λ (n : ℕ). lines_before l.lines.items (Then n (statement_of c.in_ok-stmt.stmt) o.0)) c.line_at-line.ensures))
          (ap (λ r. r >>= λ f. Ok ((line_at lines c.form-item.result.at, f.0), f.1)) c.in_ok-stmt.ensures.read)
          ∙ l.invariant.read;
    }

pub statements-returns : goal.statements-returns
statements-returns t c =
    let l = c.loop-form in
    let lines = lines_of c.args.context.tokens.now in
    let in_loop = c.args.context.in_loop in
    record {
      read = ap (λ (b : BlockTree). statements_mean lines c.args.scope.now in_loop b) (sym c.stmts-form-items.ensures)
          ∙ made (statements_from lines in_loop) (one_statement lines in_loop) line_made lines_made (statements_go lines in_loop)
          l.scope c.stmts-form-items.result.now l.form-index l.lines.items _ c.loop-form-test.false l.invariant.read
          ∙ ap (λ (b : Statements). Ok (b, l.scope)) (all_lines l.lines.items ∙ sym c.new.ensures);
      labels = l.invariant.grows;
    }

pub choose_statement-returns-in_err-block : goal.choose_statement-returns-in_err-block
choose_statement-returns-in_err-block t c =
    let l = c.loop-block in
    let lines = lines_of c.args.context.tokens.now in
    let in_loop = c.args.context.in_loop in
    let p = err_from_is_err_and c.from_residual-in_err-block.result c.from_residual-in_err-block.ensures.1 in
    rw (p.1, p.2) (record {
      labels = tt;
      read = fails_along _ _ _ (sym (choice_of lines in_loop c.args.scope.now c.args.at c.args.first.now c.args.second.now
          c.args.others.now)) (bind_stops _ _ _
          (makes_none (ors_from lines in_loop) (one_block lines in_loop) block_made blocks_made (ors_go lines in_loop)
          l.scope c.args.others.now l.block-index c.block-item.result _ l.choices.items _ _ c.block-item.is
          c.loop-block-test.true c.in_err-block.ensures.read l.invariant.read));
    })

pub choose_statement-loop-block-preserved : goal.choose_statement-loop-block-preserved
choose_statement-loop-block-preserved t c =
    let l = c.loop-block in
    let lines = lines_of c.args.context.tokens.now in
    let in_loop = c.args.context.in_loop in
    let left = ap (λ (bs : List BlockTree). ors_size (ors_tree bs)) (left_at c.args.others.now l.block-index
    c.block-item.result _ c.block-item.is c.loop-block-test.true) in
    record {
      room = can_still_label _ _ l.invariant.room c.in_ok-block.ensures.labels;
      grows = labels_then _ _ _ l.invariant.grows c.in_ok-block.ensures.labels;
      left = omega (arith, left, l.invariant.left);
      read = makes (ors_from lines in_loop) (one_block lines in_loop) block_made blocks_made (ors_go lines in_loop) l.scope _
          c.args.others.now l.block-index c.block-item.result _ l.choices.items _ _ c.block-item.is c.loop-block-test.true
          (λ o. ap (λ (b : Blocks). (b, o.1)) (ap (λ (bs : List Statements). blocks_before bs o.0) c.in_ok-push-3.ensures.items
          ∙ one_block_more l.choices.items c.in_ok-block.block o.0))
          c.in_ok-block.ensures.read
          ∙ l.invariant.read;
    }

pub choose_statement-returns : goal.choose_statement-returns
choose_statement-returns t c =
    let l = c.loop-block in
    let lines = lines_of c.args.context.tokens.now in
    let in_loop = c.args.context.in_loop in
    record {
      read = choice_of lines in_loop c.args.scope.now c.args.at c.args.first.now c.args.second.now c.args.others.now
          ∙ ap (λ r. r >>= λ b. Ok (Choose b.0, b.1))
          (made (ors_from lines in_loop) (one_block lines in_loop) block_made blocks_made (ors_go lines in_loop) l.scope
          c.args.others.now l.block-index l.choices.items _ c.loop-block-test.false l.invariant.read
          ∙ ap (λ (b : Blocks). Ok (b, l.scope)) (all_blocks l.choices.items));
      labels = l.invariant.grows;
    }

pub statement-returns-in-Primitive : goal.statement-returns-in-Primitive
statement-returns-in-Primitive t c = rw c.in-Primitive.is
    (c.primitive_statement.ensures (lines_of c.args.context.tokens.now) c.args.context.in_loop c.args.at)

pub statement-returns-in-Atomic : goal.statement-returns-in-Atomic
statement-returns-in-Atomic t c = rw (c.in-Atomic.is, ← c.as_slice.ensures)
    (c.atomic.ensures (lines_of c.args.context.tokens.now) c.args.context.in_loop c.args.at)

pub statement-returns-in-Call : goal.statement-returns-in-Call
statement-returns-in-Call t c = rw c.in-Call.is
    (c.call_statement.ensures (lines_of c.args.context.tokens.now) c.args.context.in_loop c.args.at)

pub statements-statement-requires : goal.statements-statement-requires
statements-statement-requires t c =
    let l = c.loop-form in
    let left = ap (λ (ss : List (Placed Stmt)). block_size (block_tree ss)) (left_at c.stmts-form-items.result.now
    l.form-index c.form-item.result _ c.form-item.is c.loop-form-test.true) in
    let whole = ap block_size c.stmts-form-items.ensures in
    (omega (arith, left, whole, l.invariant.left, c.decreases), l.invariant.room)

pub statements-returns-in_err-stmt : goal.statements-returns-in_err-stmt
statements-returns-in_err-stmt t c =
    let l = c.loop-form in
    let lines = lines_of c.args.context.tokens.now in
    let in_loop = c.args.context.in_loop in
    let p = err_from_is_err_and c.from_residual.result c.from_residual.ensures.1 in
    rw (p.1, p.2) (record {
      labels = tt;
      read = fails_along _ _ _ (ap (λ (b : BlockTree). statements_mean lines c.args.scope.now in_loop b)
          c.stmts-form-items.ensures)
          (makes_none (statements_from lines in_loop) (one_statement lines in_loop) line_made lines_made
          (statements_go lines in_loop) l.scope c.stmts-form-items.result.now l.form-index c.form-item.result _
          l.lines.items _ _ c.form-item.is c.loop-form-test.true
          (bind_stops _ _ (λ f. Ok ((line_at lines c.form-item.result.at, f.0), f.1)) c.in_err-stmt.ensures.read)
          l.invariant.read);
    })

pub choose_statement-statements-requires-in-loop-block : goal.choose_statement-statements-requires-in-loop-block
choose_statement-statements-requires-in-loop-block t c =
    let l = c.loop-block in
    let left = ap (λ (bs : List BlockTree). ors_size (ors_tree bs)) (left_at c.args.others.now l.block-index
    c.block-item.result _ c.block-item.is c.loop-block-test.true) in
    (omega (arith, left, l.invariant.left, c.decreases), l.invariant.room)
