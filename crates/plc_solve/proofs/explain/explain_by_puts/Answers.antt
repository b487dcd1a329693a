use Rattle.std.proofs.Common.{◌∙◌, ◌++◌, List, ap}
use Rattle.plc_ground.specs.declared.terms.Lit.{Lit}
use Rattle.plc_solve.proofs.Needing.{explained_by_all}
use Rattle.plc_solve.proofs.explain.explain_by_puts.Goals as goal

pub returns : goal.returns
returns c =
    explained_by_all c.args.set.now c.args.branch.now _ c.args.pair.a c.args.pair.b c.requires.same
    (c.in_ok-extend_from_slice.ensures.items ∙ ap (λ (ls : List Lit). ls ++ c.args.branch.now)
    c.truncate-2.ensures.items)
