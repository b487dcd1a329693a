use Rattle.std.proofs.Common.{◌≡◌, ◌++◌, ◌∷◌, [], List, map, refl, subst}
use Rattle.std.proofs.lemmas.Result.{on_ok_weaker}
use Rattle.plc_lang.specs.declared.syntax.Field.{Field}
use Rattle.plc_lex.specs.declared.token.TokenKind.TheVariants.{Name}
use Rattle.plc_lex.specs.declared.token.Keyword.TheVariants.{Struct}
use Rattle.plc_lex.specs.declared.token.Symbol.TheVariants.{OpenBrace, CloseBrace}
use Rattle.plc_syntax.specs.Trees.{word, symbol, plain, kinds_of, Text, each_then, field_then}
use Rattle.plc_print.specs.Canonical.{declaration_tree}
use Rattle.plc_lang.specs.Names.{name_at}
use Rattle.plc_print.specs.Text.{text_of}
use Rattle.plc_print.proofs.Parts.{then_prints, fields_leads}
use Rattle.plc_print.proofs.declarations.structure.Goals as goal

pub returns : goal.returns
returns c =
    let name = name_at c.args.file.now 1 in
    let tree = λ (f : Field). declaration_tree (name_at c.args.file.now f.name) f.pointer in
    let trees = map tree c.args.file.now.fields in
    let head = subst (λ (n : Text). c.tokens.new.self.text.items ≡ c.args.out.now.text.items ++ text_of (kinds_of (word Struct ∷ plain (Name n) ∷ symbol OpenBrace ∷ []))) c.name_at.ensures c.in_ok-tokens.ensures in
    let body = subst (λ (fs : List Field). c.fields.new.out.text.items ≡ c.tokens.new.self.text.items ++ text_of (kinds_of (each_then field_then (map tree fs) []))) c.as_slice.ensures c.in_ok-fields.ensures in
    on_ok_weaker c.token.result (λ e. then_prints (λ ts. word Struct ∷ plain (Name name) ∷ symbol OpenBrace ∷ ts) (λ ts. refl) (each_then field_then trees (symbol CloseBrace ∷ [])) c.args.out.now.text.items head
    (then_prints (each_then field_then trees) (fields_leads trees) (symbol CloseBrace ∷ []) c.tokens.new.self.text.items body e)) c.token.ensures
