use Rattle.std.proofs.Common.{◌≡◌, ◌++◌, ◌∷◌, [], option_map, refl, subst}
use Rattle.std.proofs.lemmas.Result.{on_ok_weaker}
use Rattle.plc_lex.specs.declared.token.TokenKind.TheVariants.{Name}
use Rattle.plc_lex.specs.declared.token.Symbol.TheVariants.{OpenParen, CloseParen, Semicolon}
use Rattle.plc_syntax.specs.Trees.{symbol, plain, kinds_of, Text, maybe_then, argument_then, during_then}
use Rattle.plc_print.specs.Canonical.{argument_tree}
use Rattle.plc_lang.specs.Names.{function_name, label_name}
use Rattle.plc_print.specs.Text.{text_of}
use Rattle.plc_print.proofs.Parts.{then_prints, argument_leads, during_leads}
use Rattle.plc_print.proofs.statements.call.Goals as goal
use Rattle.plc_print.specs.Outlines.{bare}

pub returns : goal.returns
returns c =
    let name = function_name c.args.reach.file.now c.args.func in
    let tree = argument_tree c.args.reach.file.now c.args.reach.locals.now c.args.arg c.args.active in
    let during = option_map (λ l. bare (label_name c.args.reach.file.now l)) c.args.label in
    let after = maybe_then during_then during (symbol Semicolon ∷ []) in
    let head = subst (λ (n : Text). c.tokens.new.self.text.items ≡ c.args.out.now.text.items ++ text_of (kinds_of (plain (Name n) ∷ symbol OpenParen ∷ []))) c.function_name.ensures c.in_ok-tokens.ensures in
    on_ok_weaker c.token-2.result (λ e. then_prints (λ ts. plain (Name name) ∷ symbol OpenParen ∷ ts) (λ ts. refl) (argument_then tree (symbol CloseParen ∷ after)) c.args.out.now.text.items head
    (then_prints (argument_then tree) (argument_leads tree) (symbol CloseParen ∷ after) c.tokens.new.self.text.items c.in_ok-argument.ensures
    (then_prints (λ ts. symbol CloseParen ∷ ts) (λ ts. refl) after c.argument.new.out.text.items c.in_ok-token.ensures
    (then_prints (maybe_then during_then during) (during_leads during) (symbol Semicolon ∷ []) c.token.new.self.text.items c.in_ok-during.ensures e)))) c.token-2.ensures
