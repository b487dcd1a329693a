use Rattle.std.proofs.Common.{◌∷◌, []}
use Rattle.std.proofs.lemmas.Result.{on_ok_weaker}
use Rattle.plc_lex.specs.declared.token.Symbol.TheVariants.{Semicolon}
use Rattle.plc_syntax.specs.Trees.{symbol, primitive_then}
use Rattle.plc_print.specs.Canonical.{primitive_tree}
use Rattle.plc_print.proofs.Parts.{then_prints, primitive_leads}
use Rattle.plc_print.proofs.primitives.primitive_line.Goals as goal

pub returns : goal.returns
returns c =
    let tree = primitive_tree c.args.reach.file.now c.args.reach.locals.now c.args.prim in
    on_ok_weaker c.token.result (λ e. then_prints (primitive_then tree) (primitive_leads tree) (symbol Semicolon ∷ []) c.args.out.now.text.items c.in_ok-primitive.ensures e) c.token.ensures
