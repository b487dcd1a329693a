use Rattle.plc_print.specs.Outlines.{invariant_tree}
use Rattle.plc_syntax.specs.Trees.{item_then}
use Rattle.plc_print.proofs.Parts.{each_printed, item_leads}
use Rattle.plc_print.proofs.outlines.invariants.Goals as goal

pub loop-clause-preserved : goal.loop-clause-preserved
loop-clause-preserved c =
    each_printed item_then item_leads (invariant_tree c.args.file.now) c.args.clauses.now c.loop-clause.clause-index c.clause-item.result c.loop-clause-test.true c.clause-item.is
    c.loop-clause.out.text.items c.loop-clause.invariant c.in_ok-invariant.ensures
