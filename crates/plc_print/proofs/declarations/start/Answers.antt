use Rattle.std.proofs.Common.{◌≡◌, ◌≤◌, ◌++◌, ◌∷◌, [], List, Option, Some, OnOk, length, map, refl, sym, subst, arith}
use Rattle.std.proofs.lemmas.Result.{on_ok_weaker}
use Rattle.plc_lang.specs.declared.syntax.File.{File}
use Rattle.plc_lang.specs.declared.syntax.Primitive.{Primitive}
use Rattle.plc_lex.specs.declared.token.Keyword.TheVariants.{Init}
use Rattle.plc_lex.specs.declared.token.Symbol.TheVariants.{OpenBrace, CloseBrace}
use Rattle.plc_syntax.specs.Trees.{word, symbol, kinds_of, placed_then, Placed, InitialTree, maybe_then, each_then, initial_then, init_then}
use Rattle.plc_print.specs.Canonical.{initial_tree, init_tree}
use Rattle.plc_print.specs.Text.{text_of}
use Rattle.plc_print.proofs.Parts.{then_prints, initials_leads}
use Rattle.plc_print.proofs.declarations.start.Goals as goal
use Rattle.plc_print.specs.Outlines.{bare}

not_empty : (file : File) (ks : List Primitive) → 1 ≤ length ks → init_tree file ks ≡ Some (map (λ k. bare (initial_tree file k)) ks)
not_empty file [] some = absurd (omega arith)
not_empty file (k ∷ ks) some = refl

pub returns-in_ok-initials-in-len1-up : goal.returns-in_ok-initials-in-len1-up
returns-in_ok-initials-in-len1-up c =
    let trees = map (λ k. bare (initial_tree c.args.file.now k)) c.args.file.now.init in
    let some = subst (λ (ks : List Primitive). 1 ≤ length ks) c.as_slice.ensures c.in-len1-up.len_at_least in
    let body = subst (λ (ks : List Primitive). c.initials.new.out.text.items ≡ c.tokens.new.self.text.items ++ text_of (kinds_of (each_then (placed_then initial_then) (map (λ k. bare (initial_tree c.args.file.now k)) ks) []))) c.as_slice-in-len1-up.ensures c.in_ok-initials-in-len1-up.ensures in
    subst (λ (ts : Option (List (Placed InitialTree))). OnOk c.token.result (c.token.new.self.text.items ≡ c.args.out.now.text.items ++ text_of (kinds_of (maybe_then init_then ts [])))) (sym (not_empty c.args.file.now c.args.file.now.init some))
    (on_ok_weaker c.token.result (λ e. then_prints (λ ts. word Init ∷ symbol OpenBrace ∷ ts) (λ ts. refl) (each_then (placed_then initial_then) trees (symbol CloseBrace ∷ [])) c.args.out.now.text.items c.in_ok-tokens-in-len1-up.ensures
    (then_prints (each_then (placed_then initial_then) trees) (initials_leads trees) (symbol CloseBrace ∷ []) c.tokens.new.self.text.items body e)) c.token.ensures)
