use Rattle.std.proofs.Common.{◌≡◌, ◌++◌, ◌∷◌, [], List, filter, map, refl, subst}
use Rattle.std.proofs.lemmas.Result.{on_ok_weaker}
use Rattle.plc_lang.specs.declared.syntax.Local.{Local}
use Rattle.plc_lang.specs.Locals.{is_parameter}
use Rattle.plc_lex.specs.declared.token.TokenKind.TheVariants.{Name}
use Rattle.plc_lex.specs.declared.token.Keyword.TheVariants.{Op}
use Rattle.plc_lex.specs.declared.token.Symbol.TheVariants.{OpenBrace, CloseBrace, OpenParen, CloseParen}
use Rattle.plc_syntax.specs.Trees.{word, symbol, plain, kinds_of, Text, each_then, field_then, statements_then, parameters_then}
use Rattle.plc_print.specs.Canonical.{declaration_tree, is_declared, block_tree}
use Rattle.plc_lang.specs.Names.{name_at}
use Rattle.plc_print.specs.Text.{text_of}
use Rattle.plc_print.proofs.Parts.{then_prints, parameters_leads, fields_leads, statements_leads}
use Rattle.plc_print.proofs.declarations.operation.Goals as goal
use Rattle.plc_print.specs.Outlines.{bare}

pub returns : goal.returns
returns c =
    let name = name_at c.args.file.now c.args.op.now.name in
    let names = λ (ls : List Local). map (λ (l : Local). bare (name_at c.args.file.now l.name)) (filter is_parameter ls) in
    let trees = λ (ls : List Local). map (λ (l : Local). declaration_tree (name_at c.args.file.now l.name) l.pointer) (filter is_declared ls) in
    let block = λ (ls : List Local). block_tree c.args.file.now ls c.args.op.now.body in
    let ls = c.args.op.now.locals in
    let head = subst (λ (n : Text). c.tokens.new.self.text.items ≡ c.args.out.now.text.items ++ text_of (kinds_of (word Op ∷ plain (Name n) ∷ symbol OpenParen ∷ []))) c.name_at.ensures c.in_ok-tokens.ensures in
    let parameters = subst (λ (x : List Local). c.parameters.new.out.text.items ≡ c.tokens.new.self.text.items ++ text_of (kinds_of (parameters_then (names x) []))) c.as_slice-locals.ensures c.in_ok-parameters.ensures in
    let locals = subst (λ (x : List Local). c.declared_locals.new.out.text.items ≡ c.tokens-2.new.self.text.items ++ text_of (kinds_of (each_then field_then (trees x) []))) c.as_slice-locals.ensures c.in_ok-declared_locals.ensures in
    let body = subst (λ (x : List Local). c.statements.new.out.text.items ≡ c.declared_locals.new.out.text.items ++ text_of (kinds_of (statements_then (block x) []))) c.as_slice-locals.ensures c.in_ok-statements.ensures in
    let after_locals = statements_then (block ls) (symbol CloseBrace ∷ []) in
    let after_names = each_then field_then (trees ls) after_locals in
    on_ok_weaker c.token.result (λ e. then_prints (λ ts. word Op ∷ plain (Name name) ∷ symbol OpenParen ∷ ts) (λ ts. refl) (parameters_then (names ls) (symbol CloseParen ∷ symbol OpenBrace ∷ after_names)) c.args.out.now.text.items head
    (then_prints (parameters_then (names ls)) (parameters_leads (names ls)) (symbol CloseParen ∷ symbol OpenBrace ∷ after_names) c.tokens.new.self.text.items parameters
    (then_prints (λ ts. symbol CloseParen ∷ symbol OpenBrace ∷ ts) (λ ts. refl) after_names c.parameters.new.out.text.items c.in_ok-tokens-2.ensures
    (then_prints (each_then field_then (trees ls)) (fields_leads (trees ls)) after_locals c.tokens-2.new.self.text.items locals
    (then_prints (statements_then (block ls)) (statements_leads (block ls)) (symbol CloseBrace ∷ []) c.declared_locals.new.out.text.items body e))))) c.token.ensures
