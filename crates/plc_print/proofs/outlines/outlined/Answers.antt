use Rattle.std.proofs.Common.{◌≡◌, ◌++◌, ◌∷◌, [], List, ℕ, map, refl, ap, sym, subst, ◌∙◌}
use Rattle.std.proofs.lemmas.Result.{on_ok_weaker}
use Rattle.plc_lex.specs.declared.token.Keyword.TheVariants.{Outline}
use Rattle.plc_lex.specs.declared.token.Symbol.TheVariants.{OpenBrace, CloseBrace}
use Rattle.plc_logic.specs.declared.clause.Clause.{Clause}
use Rattle.plc_logic.specs.declared.clause.Item.{Item}
use Rattle.plc_lang.specs.Labels.{labels_by_op}
use Rattle.plc_logic.specs.Sites.{op_of_site}
use Rattle.plc_syntax.specs.Trees.{word, symbol, kinds_of, Pieces, each_then, maybe_then, item_then, depth_then}
use Rattle.plc_print.specs.Outlines.{clause_tree, invariant_tree, site_tree, locals_in_reach, item_tree, depth_tree}
use Rattle.plc_print.specs.Text.{text_of}
use Rattle.plc_print.proofs.Parts.{then_prints, each_then_both, items_leads, depth_leads}
use Rattle.plc_print.proofs.outlines.outlined.Goals as goal

pub returns : goal.returns
returns c =
    let file = c.args.file.now in
    let depth = depth_tree c.args.outline.now.depth in
    let invariants = map (invariant_tree file) c.args.outline.now.invariants in
    let tree = λ (by_op : List (List ℕ)) (i : Item). site_tree file i.site (clause_tree file (locals_in_reach file (op_of_site by_op i.site)) i.clause) in
    let items = map (item_tree file) c.args.outline.now.items in
    let end = symbol CloseBrace ∷ [] in
    let invariants_printed = subst (λ (cs : List Clause). c.invariants.new.out.text.items ≡ c.depth.new.out.text.items ++ text_of (kinds_of (each_then item_then (map (invariant_tree file) cs) []))) c.as_slice-2.ensures c.in_ok-invariants.ensures in
    let items_by_op = subst (λ (is : List Item). c.items.new.out.text.items ≡ c.invariants.new.out.text.items ++ text_of (kinds_of (each_then item_then (map (tree c.as_slice-3.result.now) is) []))) c.as_slice-4.ensures c.in_ok-items.ensures in
    let items_printed = subst (λ (by_op : List (List ℕ)). c.items.new.out.text.items ≡ c.invariants.new.out.text.items ++ text_of (kinds_of (each_then item_then (map (tree by_op) c.args.outline.now.items) []))) (c.as_slice-3.ensures ∙ c.in_ok-by_op.ensures ∙ ap labels_by_op c.as_slice.ensures) items_by_op in
    on_ok_weaker c.token.result (λ e. subst (λ (ts : Pieces). c.token.new.self.text.items ≡ c.args.out.now.text.items ++ text_of (kinds_of (word Outline ∷ symbol OpenBrace ∷ maybe_then depth_then depth ts))) (sym (each_then_both item_then invariants items end))
    (then_prints (λ ts. word Outline ∷ symbol OpenBrace ∷ ts) (λ ts. refl) (maybe_then depth_then depth (each_then item_then invariants (each_then item_then items end))) c.args.out.now.text.items c.in_ok-tokens.ensures
    (then_prints (maybe_then depth_then depth) (depth_leads depth) (each_then item_then invariants (each_then item_then items end)) c.tokens.new.self.text.items c.in_ok-depth.ensures
    (then_prints (each_then item_then invariants) (items_leads invariants) (each_then item_then items end) c.depth.new.out.text.items invariants_printed
    (then_prints (each_then item_then items) (items_leads items) end c.invariants.new.out.text.items items_printed e))))) c.token.ensures
