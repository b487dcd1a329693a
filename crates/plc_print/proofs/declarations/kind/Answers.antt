use Rattle.std.proofs.Common.{◌≡◌, ◌-◌, ◌++◌, ◌∷◌, [], List, ℕ, OnOk, length, get_or, take, drop, map, refl, sym, subst}
use Rattle.std.proofs.lemmas.Result.{on_ok_weaker}
use Rattle.plc_lex.specs.declared.token.TokenKind.TheVariants.{Name}
use Rattle.plc_lex.specs.declared.token.Symbol.TheVariants.{OpenBrace, CloseBrace}
use Rattle.plc_syntax.specs.Trees.{symbol, plain, kinds_of, Text, each_then, comma_name_then, ghost_kind_then}
use Rattle.plc_print.specs.Canonical.{ghost_kind}
use Rattle.plc_lang.specs.Names.{name_at}
use Rattle.plc_print.specs.Text.{text_of}
use Rattle.plc_print.proofs.Items.{first_item}
use Rattle.plc_print.proofs.Parts.{then_prints, comma_names_leads}
use Rattle.plc_print.proofs.declarations.kind.Goals as goal
use Rattle.plc_print.specs.Outlines.{bare}

pub returns-in_ok-comma_names-in-len1-up : goal.returns-in_ok-comma_names-in-len1-up
returns-in_ok-comma_names-in-len1-up c =
    let name = name_at c.args.file.now (get_or c.args.values.now 0 0) in
    let names = map (λ n. bare (name_at c.args.file.now n)) (take (length c.args.values.now - 1) (drop 1 c.args.values.now)) in
    let head = subst (λ (n : Text). c.tokens.new.self.text.items ≡ c.args.out.now.text.items ++ text_of (kinds_of (symbol OpenBrace ∷ plain (Name n) ∷ []))) c.name_at.ensures c.in_ok-tokens-in-len1-up.ensures in
    subst (λ (vs : List ℕ). OnOk c.token-in-len1-up.result (c.token-in-len1-up.new.self.text.items ≡ c.args.out.now.text.items ++ text_of (kinds_of (ghost_kind_then (ghost_kind c.args.file.now vs) [])))) (sym (first_item c.args.values.now 0 c.in-len1-up.len_at_least))
    (on_ok_weaker c.token-in-len1-up.result (λ e. then_prints (λ ts. symbol OpenBrace ∷ plain (Name name) ∷ ts) (λ ts. refl) (each_then comma_name_then names (symbol CloseBrace ∷ [])) c.args.out.now.text.items head
    (then_prints (each_then comma_name_then names) (comma_names_leads names) (symbol CloseBrace ∷ []) c.tokens.new.self.text.items c.in_ok-comma_names-in-len1-up.ensures e)) c.token-in-len1-up.ensures)
