use Rattle.std.proofs.Common.{◌+◌, ◌∙◌, sym, ap, drop, flat_map}
use Rattle.plc_symbolic.specs.declared.symbolic.NodeTerm.{NodeTerm}
use Rattle.plc_symbolic.specs.Numbering.{written_all}
use Rattle.plc_symbolic.specs.Terms.{Clauses}
use Rattle.plc_encoding.specs.Execution.{update_at}
use Rattle.plc_encoding.proofs.Written.{written-flat_map, written-flat_map_end}
use Rattle.plc_encoding.proofs.execution.push_updates.Goals as goal

pub loop-node-preserved : goal.loop-node-preserved
loop-node-preserved c =
    let f : NodeTerm → Clauses = update_at c.args.map c.args.version c.args.at c.args.value in
    c.loop-node.invariant
    ∙ written-flat_map f c.loop-node.out c.args.nodes.now c.loop-node.node-index _ c.loop-node-test.true
    ∙ ap (λ d. written_all d (flat_map f (drop (c.loop-node.node-index + 1) c.args.nodes.now))) (sym (c.in_ok-push_update_at.ensures))

pub returns : goal.returns
returns c =
    let f : NodeTerm → Clauses = update_at c.args.map c.args.version c.args.at c.args.value in
    sym (c.loop-node.invariant
    ∙ written-flat_map_end f c.loop-node.out c.args.nodes.now c.loop-node.node-index c.loop-node-test.false)
