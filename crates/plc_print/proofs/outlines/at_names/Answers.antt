use Rattle.std.proofs.Common.{◌∷◌, [], map, refl}
use Rattle.std.proofs.lemmas.Result.{on_ok_weaker}
use Rattle.plc_lex.specs.declared.token.TokenKind.TheVariants.{Name}
use Rattle.plc_lex.specs.declared.token.Keyword.TheVariants.{At}
use Rattle.plc_lex.specs.declared.token.Symbol.TheVariants.{Colon, Semicolon}
use Rattle.plc_syntax.specs.Trees.{word, symbol, plain, each_then, comma_name_then, clause_then}
use Rattle.plc_lang.specs.Names.{label_name}
use Rattle.plc_print.specs.Outlines.{bare, clause_tree}
use Rattle.plc_print.proofs.Parts.{then_prints, comma_names_leads}
use Rattle.plc_print.proofs.outlines.at_names.Goals as goal

pub returns : goal.returns
returns c =
    let names = map bare (map (label_name c.args.reach.file.now) c.args.others.now) in
    let line = clause_then (clause_tree c.args.reach.file.now c.args.reach.locals.now c.args.clause.now) (symbol Semicolon ∷ []) in
    on_ok_weaker c.clause_line.result (λ e. then_prints (λ ts. word At ∷ plain (Name c.args.first.now) ∷ ts) (λ ts. refl) (each_then comma_name_then names (symbol Colon ∷ line)) c.args.out.now.text.items c.in_ok-tokens.ensures
    (then_prints (each_then comma_name_then names) (comma_names_leads names) (symbol Colon ∷ line) c.tokens.new.self.text.items c.in_ok-comma_labels.ensures
    (then_prints (λ ts. symbol Colon ∷ ts) (λ ts. refl) line c.comma_labels.new.out.text.items c.in_ok-token.ensures e))) c.clause_line.ensures
