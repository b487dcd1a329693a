use Rattle.std.proofs.Common.{[], ◌∷◌, refl}
use Rattle.std.proofs.lemmas.Result.{on_ok_weaker}
use Rattle.plc_lex.specs.declared.token.Keyword.TheVariants.{Or}
use Rattle.plc_syntax.specs.Trees.{word, placed_then, literal_then}
use Rattle.plc_print.specs.Outlines.{bare, literal_tree}
use Rattle.plc_print.proofs.Parts.{then_prints, printed_at}
use Rattle.plc_print.proofs.clauses.or_literal.Goals as goal

pub returns : goal.returns
returns c =
    let tree = literal_tree c.args.reach.file.now c.args.reach.locals.now c.args.reach.bound.now.names c.args.further in
    on_ok_weaker c.literal.result (λ e. then_prints (λ ts. word Or ∷ ts) (λ ts. refl) (placed_then literal_then (bare tree) []) c.args.out.now.text.items c.in_ok-token.ensures
    (printed_at 0 (literal_then tree) c.token.new.self.text.items e)) c.literal.ensures
