use Rattle.std.proofs.Common.{◌≡◌, ◌+◌, ◌*◌, ◌++◌, ◌∷◌, [], List, OnOk, ◌-◌, length, take, drop, refl, ap, sym, subst, arith}
use Rattle.std.proofs.lemmas.Result.{on_ok_weaker}
use Rattle.plc_lang.specs.declared.syntax.Line.{Line}
use Rattle.plc_lang.specs.Statements.{Statements, statement_size, block_size, blocks_size}
use Rattle.plc_lang.specs.Views.{statement_of, block_of, blocks_of}
use Rattle.plc_lex.specs.declared.token.TokenKind.TheVariants.{Word}
use Rattle.plc_lex.specs.declared.token.Keyword.TheVariants.{If, Choose, Or}
use Rattle.plc_lex.specs.declared.token.Symbol.TheVariants.{OpenBrace, CloseBrace, OpenParen, CloseParen}
use Rattle.plc_syntax.specs.Trees.{word, symbol, kinds_of, from_place, condition_then, statement_then, statements_then, else_then, or_then}
use Rattle.plc_print.specs.Canonical.{condition_tree, else_block, choice_tree, statement_tree, block_tree, blocks_tree}
use Rattle.plc_print.specs.Text.{text_of}
use Rattle.plc_print.proofs.Items.{one_item, two_items}
use Rattle.plc_print.proofs.Parts.{at_leads, printed_at, then_prints, item_printed, condition_leads, statement_leads, statements_leads, braces_then, braces_leads}
use Rattle.plc_lang.proofs.Sizes.{line_is_smaller, block_is_no_larger}
use Rattle.plc_print.proofs.statements.+statement.Goals as goal

pub braced-returns : goal.braced-returns
braced-returns t c =
    let tree = block_tree c.args.reach.file.now c.args.reach.locals.now c.args.block.now in
    on_ok_weaker c.token-2.result (λ e. then_prints (λ ts. symbol OpenBrace ∷ ts) (λ ts. refl) (statements_then tree (symbol CloseBrace ∷ [])) c.args.out.now.text.items c.in_ok-token.ensures
    (then_prints (statements_then tree) (statements_leads tree) (symbol CloseBrace ∷ []) c.token.new.self.text.items c.in_ok-statements.ensures e)) c.token-2.ensures

pub branch-returns : goal.branch-returns
branch-returns t c =
    let tree = condition_tree c.args.reach.file.now c.args.reach.locals.now c.args.cond in
    let yes = block_tree c.args.reach.file.now c.args.reach.locals.now c.args.yes.now in
    let no = else_then (else_block c.args.no.now (block_tree c.args.reach.file.now c.args.reach.locals.now c.args.no.now)) [] in
    on_ok_weaker c.otherwise.result (λ e. then_prints (λ ts. word If ∷ symbol OpenParen ∷ ts) (λ ts. refl) (condition_then tree (symbol CloseParen ∷ braces_then yes no)) c.args.out.now.text.items c.in_ok-tokens.ensures
    (then_prints (condition_then tree) (condition_leads tree) (symbol CloseParen ∷ braces_then yes no) c.tokens.new.self.text.items c.in_ok-condition.ensures
    (then_prints (λ ts. symbol CloseParen ∷ ts) (λ ts. refl) (braces_then yes no) c.condition.new.out.text.items c.in_ok-token.ensures
    (then_prints (braces_then yes) (braces_leads yes) no c.token.new.self.text.items c.in_ok-braced.ensures e)))) c.otherwise.ensures

pub choose-returns-in_ok-braced-in-len1 : goal.choose-returns-in_ok-braced-in-len1
choose-returns-in_ok-braced-in-len1 t c =
    let tree = block_tree c.args.reach.file.now c.args.reach.locals.now c.block-item.result in
    let after = word Or ∷ symbol OpenBrace ∷ symbol CloseBrace ∷ [] in
    let blocks = one_item c.args.blocks.now c.block-item.result c.in-len1.len_at_least c.in-len1.len_below c.block-item.is in
    subst (λ (bs : List Statements). OnOk c.tokens-in-len1.result (c.tokens-in-len1.new.self.text.items ≡ c.args.out.now.text.items ++ text_of (kinds_of (statement_then (choice_tree (blocks_tree c.args.reach.file.now c.args.reach.locals.now (blocks_of bs))) [])))) (sym blocks)
    (on_ok_weaker c.tokens-in-len1.result (λ e. then_prints (λ ts. word Choose ∷ ts) (λ ts. refl) (braces_then tree after) c.args.out.now.text.items c.in_ok-token-in-len1.ensures
    (then_prints (braces_then tree) (braces_leads tree) after c.token.new.self.text.items c.in_ok-braced-in-len1.ensures e)) c.tokens-in-len1.ensures)

pub choose-returns-in_ok-or_block-in-len2-up : goal.choose-returns-in_ok-or_block-in-len2-up
choose-returns-in_ok-or_block-in-len2-up t c =
    let first = block_tree c.args.reach.file.now c.args.reach.locals.now c.first-item.result in
    let second = block_tree c.args.reach.file.now c.args.reach.locals.now c.second-item.result in
    let others = or_then (blocks_tree c.args.reach.file.now c.args.reach.locals.now (blocks_of (take (length c.args.blocks.now - 2) (drop 2 c.args.blocks.now)))) [] in
    let blocks = two_items c.args.blocks.now c.first-item.result c.second-item.result c.in-len2-up.len_at_least c.first-item.is c.second-item.is in
    subst (λ (bs : List Statements). OnOk c.or_blocks.result (c.or_blocks.new.out.text.items ≡ c.args.out.now.text.items ++ text_of (kinds_of (statement_then (choice_tree (blocks_tree c.args.reach.file.now c.args.reach.locals.now (blocks_of bs))) [])))) (sym blocks)
    (on_ok_weaker c.or_blocks.result (λ e. then_prints (λ ts. word Choose ∷ ts) (λ ts. refl) (braces_then first (word Or ∷ braces_then second others)) c.args.out.now.text.items c.in_ok-token-in-len2-up.ensures
    (then_prints (braces_then first) (braces_leads first) (word Or ∷ braces_then second others) c.token-in-len2-up.new.self.text.items c.in_ok-braced-in-len2-up.ensures
    (then_prints (λ ts. word Or ∷ braces_then second ts) (λ ts. ap (λ us. Word Or ∷ us) (braces_leads second ts)) others c.braced-in-len2-up.new.out.text.items c.in_ok-or_block-in-len2-up.ensures e))) c.or_blocks.ensures)

pub or_blocks-or_block-requires : goal.or_blocks-or_block-requires
or_blocks-or_block-requires t c =
    let smaller = block_is_no_larger c.args.blocks.now c.loop-block.block-index c.block-item.result c.loop-block-test.true in
    let item = ap block_size c.block-item.is in
    let size : 6 * blocks_size (blocks_of c.args.blocks.now) + 4 ≡ t = c.decreases in
    omega arith

pub or_blocks-loop-block-preserved : goal.or_blocks-loop-block-preserved
or_blocks-loop-block-preserved t c =
    let tokens = λ (bs : List Statements). or_then (blocks_tree c.args.reach.file.now c.args.reach.locals.now (blocks_of bs)) [] in
    let tree = block_tree c.args.reach.file.now c.args.reach.locals.now in
    item_printed (λ (b : Statements) ts. word Or ∷ braces_then (tree b) ts) (λ b ts. ap (λ us. Word Or ∷ us) (braces_leads (tree b) ts)) tokens (λ b others. refl) c.args.blocks.now c.loop-block.block-index c.block-item.result c.loop-block-test.true c.block-item.is
    c.loop-block.out.text.items c.loop-block.invariant c.in_ok-or_block.ensures

pub statements-statement-requires : goal.statements-statement-requires
statements-statement-requires t c =
    let smaller = line_is_smaller c.lines-line-items.result.now c.loop-line.line-index c.line-item.result c.loop-line-test.true in
    let item = ap (λ (l : Line). statement_size (statement_of l.stmt)) c.line-item.is in
    let whole = ap block_size c.lines-line-items.ensures in
    let size : 6 * block_size c.args.block.now + 1 ≡ t = c.decreases in
    omega arith

pub statements-loop-line-preserved : goal.statements-loop-line-preserved
statements-loop-line-preserved t c =
    let tokens = λ (ls : List Line). statements_then (block_tree c.args.reach.file.now c.args.reach.locals.now (block_of ls)) [] in
    let tree = λ (l : Line). statement_tree c.args.reach.file.now c.args.reach.locals.now (statement_of l.stmt) in
    item_printed (λ (l : Line) ts. from_place 0 (statement_then (tree l) ts)) (λ l. at_leads 0 (statement_then (tree l)) (statement_leads (tree l))) tokens (λ l others. refl) c.lines-line-items.result.now c.loop-line.line-index c.line-item.result c.loop-line-test.true c.line-item.is
    c.loop-line.out.text.items c.loop-line.invariant (printed_at 0 (statement_then (tree c.line-item.result)) c.loop-line.out.text.items c.in_ok-statement.ensures)
