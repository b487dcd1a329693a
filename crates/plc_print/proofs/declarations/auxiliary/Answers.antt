use Rattle.std.proofs.Common.{◌≡◌, ◌++◌, ◌∷◌, [], List, ℕ, refl, subst}
use Rattle.std.proofs.lemmas.Result.{on_ok_weaker}
use Rattle.plc_lex.specs.declared.token.TokenKind.TheVariants.{Name}
use Rattle.plc_lex.specs.declared.token.Keyword.TheVariants.{Ghost}
use Rattle.plc_lex.specs.declared.token.Symbol.TheVariants.{Semicolon}
use Rattle.plc_syntax.specs.Trees.{word, symbol, plain, kinds_of, Text, ghost_kind_then}
use Rattle.plc_print.specs.Canonical.{ghost_kind}
use Rattle.plc_lang.specs.Names.{name_at}
use Rattle.plc_print.specs.Text.{text_of}
use Rattle.plc_print.proofs.Parts.{then_prints, kind_leads}
use Rattle.plc_print.proofs.declarations.auxiliary.Goals as goal

pub returns : goal.returns
returns c =
    let name = name_at c.args.file.now c.args.field.now.name in
    let tree = ghost_kind c.args.file.now c.args.field.now.values in
    let head = subst (λ (n : Text). c.tokens.new.self.text.items ≡ c.args.out.now.text.items ++ text_of (kinds_of (word Ghost ∷ plain (Name n) ∷ []))) c.name_at.ensures c.in_ok-tokens.ensures in
    let body = subst (λ (vs : List ℕ). c.kind.new.out.text.items ≡ c.tokens.new.self.text.items ++ text_of (kinds_of (ghost_kind_then (ghost_kind c.args.file.now vs) []))) c.as_slice.ensures c.in_ok-kind.ensures in
    on_ok_weaker c.token.result (λ e. then_prints (λ ts. word Ghost ∷ plain (Name name) ∷ ts) (λ ts. refl) (ghost_kind_then tree (symbol Semicolon ∷ [])) c.args.out.now.text.items head
    (then_prints (ghost_kind_then tree) (kind_leads tree) (symbol Semicolon ∷ []) c.tokens.new.self.text.items body e)) c.token.ensures
