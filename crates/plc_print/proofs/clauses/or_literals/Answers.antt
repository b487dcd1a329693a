use Rattle.std.proofs.Common.{[], false, List, map, refl}
use Rattle.plc_logic.specs.declared.clause.Term.TheVariants as terms
use Rattle.plc_logic.specs.declared.clause.Literal.{Literal}
use Rattle.plc_logic.specs.declared.clause.Literal.TheVariants as literals
use Rattle.plc_syntax.specs.Trees.{each_then, or_literal_then}
use Rattle.plc_print.specs.Outlines.{bare, literal_tree}
use Rattle.plc_print.proofs.Parts.{copy_printed, or_literal_leads}
use Rattle.plc_print.proofs.clauses.or_literals.Goals as goal

pub loop-further-preserved : goal.loop-further-preserved
loop-further-preserved c =
    let tree = literal_tree c.args.reach.file.now c.args.reach.locals.now c.args.reach.bound.now.names in
    let tokens = λ (ls : List Literal). each_then or_literal_then (map bare (map tree ls)) [] in
    copy_printed (λ (l : Literal). or_literal_then (bare (tree l))) (λ l. or_literal_leads (bare (tree l))) tokens (λ l others. refl) c.args.literals.now c.loop-further.further-index (literals.Same (terms.Shared 0) (terms.Shared 0) false) c.loop-further-test.true
    c.loop-further.out.text.items c.loop-further.invariant c.in_ok-or_literal.ensures
