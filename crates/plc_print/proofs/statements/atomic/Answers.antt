use Rattle.std.proofs.Common.{◌∷◌, [], map, refl}
use Rattle.std.proofs.lemmas.Result.{on_ok_weaker}
use Rattle.plc_lex.specs.declared.token.Keyword.TheVariants.{Atomic}
use Rattle.plc_lex.specs.declared.token.Symbol.TheVariants.{OpenBrace, CloseBrace}
use Rattle.plc_syntax.specs.Trees.{word, symbol, placed_then, each_then, primitive_line_then}
use Rattle.plc_print.specs.Canonical.{primitive_tree}
use Rattle.plc_print.proofs.Parts.{then_prints, lines_leads}
use Rattle.plc_print.proofs.statements.atomic.Goals as goal
use Rattle.plc_print.specs.Outlines.{bare}

pub returns : goal.returns
returns c =
    let trees = map (λ k. bare (primitive_tree c.args.reach.file.now c.args.reach.locals.now k)) c.args.prims.now in
    on_ok_weaker c.token.result (λ e. then_prints (λ ts. word Atomic ∷ symbol OpenBrace ∷ ts) (λ ts. refl) (each_then (placed_then primitive_line_then) trees (symbol CloseBrace ∷ [])) c.args.out.now.text.items c.in_ok-tokens.ensures
    (then_prints (each_then (placed_then primitive_line_then) trees) (lines_leads trees) (symbol CloseBrace ∷ []) c.tokens.new.self.text.items c.in_ok-primitive_lines.ensures e)) c.token.ensures
