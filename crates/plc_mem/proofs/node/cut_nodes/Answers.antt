use Rattle.std.proofs.Common.{◌∙◌, ap, set, map}
use Rattle.plc_mem.specs.State.{cut, cut_node}
use Rattle.plc_base.proofs.Lists.{mapped_more, items_mapped}
use Rattle.plc_mem.proofs.node.cut_nodes.Goals as goal

pub loop-node-preserved : goal.loop-node-preserved
loop-node-preserved c =
    let e = items_mapped c.node.inside.cells c.cut_cells.new.cells (cut c.args.a) (c.cut_cells.ensures ∙ ap (map (cut c.args.a)) c.deref_mut.ensures.value) in
    mapped_more (cut_node c.args.a) c.args.nodes.now c.loop-node.nodes _ c.loop-node.node-index c.node-item.result c.loop-node-test.true c.loop-node.invariant
    (ap (set c.loop-node.nodes c.loop-node.node-index)
    (ap (λ xs. record { address = c.node.inside.address; cells = xs; values = c.node.inside.values.items }) e ∙ ap (cut_node c.args.a) c.node.view_is))
