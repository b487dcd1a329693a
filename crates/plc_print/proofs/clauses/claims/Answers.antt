use Rattle.std.proofs.Common.{◌≡◌, ◌≤◌, ◌-◌, List, [], ◌∷◌, ◌++◌, length, take, drop, get_or, map, false, ap, ◌∙◌, arith}
use Rattle.std.proofs.lemmas.List.{take_all}
use Rattle.std.proofs.lemmas.Result.{on_ok_weaker}
use Rattle.plc_syntax.specs.Trees.{kinds_of, LiteralTree, NoBound, each_then, literal_then, or_literal_then, clause_then}
use Rattle.plc_logic.specs.declared.clause.Term.TheVariants as terms
use Rattle.plc_logic.specs.declared.clause.Literal.{Literal}
use Rattle.plc_logic.specs.declared.clause.Literal.TheVariants as literals
use Rattle.plc_print.specs.Text.{text_of}
use Rattle.plc_print.specs.Outlines.{bare, literal_tree, claims_tree}
use Rattle.plc_print.proofs.Parts.{then_prints, literal_leads}
use Rattle.plc_print.proofs.clauses.claims.Goals as goal

-- the first literal and then the others are the literals of the clause
in_order : (tree : Literal → LiteralTree) (d : Literal) (ls : List Literal) → 1 ≤ length ls
    → literal_then (tree (get_or ls 0 d)) (each_then or_literal_then (map bare (map tree (take (length ls - 1) (drop 1 ls)))) [])
    ≡ clause_then (claims_tree NoBound (map tree ls)) []
in_order tree d (l ∷ ls) some =
    ap (λ others. literal_then (tree l) (each_then or_literal_then (map bare (map tree others)) []))
    (take_all (length (l ∷ ls) - 1) ls (omega arith))
in_order tree d [] some = absurd (omega (arith, some))

pub returns-in_ok-literal-in-len1-up : goal.returns-in_ok-literal-in-len1-up
returns-in_ok-literal-in-len1-up c =
    let tree = literal_tree c.args.reach.file.now c.args.reach.locals.now c.args.reach.bound.now.names in
    let d = literals.Same (terms.Shared 0) (terms.Shared 0) false in
    let ls = c.args.literals.now in
    let first = tree (get_or ls 0 d) in
    let others = each_then or_literal_then (map bare (map tree (take (length ls - 1) (drop 1 ls)))) [] in
    let old = c.args.out.now.text.items in
    on_ok_weaker c.or_literals.result (λ e.
    then_prints (literal_then first) (literal_leads first) others old c.in_ok-literal-in-len1-up.ensures e
    ∙ ap (λ ts. old ++ text_of (kinds_of ts)) (in_order tree d ls c.in-len1-up.len_at_least)) c.or_literals.ensures
