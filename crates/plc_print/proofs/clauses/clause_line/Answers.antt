use Rattle.std.proofs.Common.{◌∷◌, []}
use Rattle.std.proofs.lemmas.Result.{on_ok_weaker}
use Rattle.plc_lex.specs.declared.token.Symbol.TheVariants.{Semicolon}
use Rattle.plc_syntax.specs.Trees.{symbol, clause_then}
use Rattle.plc_print.specs.Outlines.{clause_tree}
use Rattle.plc_print.proofs.Parts.{then_prints, clause_leads}
use Rattle.plc_print.proofs.clauses.clause_line.Goals as goal

pub returns : goal.returns
returns c =
    let tree = clause_tree c.args.reach.file.now c.args.reach.locals.now c.args.claim.now in
    on_ok_weaker c.token.result (λ e. then_prints (clause_then tree) (clause_leads tree) (symbol Semicolon ∷ []) c.args.out.now.text.items c.in_ok-clause.ensures e) c.token.ensures
