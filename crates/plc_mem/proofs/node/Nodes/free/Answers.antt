use Rattle.std.proofs.Common.{map, ap, sym, ◌∙◌}
use Rattle.plc_mem.specs.State.{cut_node}
use Rattle.plc_mem.specs.Access.{addresses_of}
use Rattle.plc_base.proofs.Lists.{items_mapped}
use Rattle.plc_mem.proofs.Index.{index_without}
use Rattle.plc_mem.proofs.node.Nodes.free.Goals as goal

pub invariant_of-self : goal.invariant_of-self
invariant_of-self c =
    c.drop_address.ensures ∙ index_without c.self.inside.addresses.keys c.self.inside.nodes.items c.args.a c.self.invariant
    ∙ sym (ap addresses_of (items_mapped c.drop_node.new.nodes c.cut_nodes.new.nodes (cut_node c.args.a) (c.cut_nodes.ensures ∙ ap (map (cut_node c.args.a)) c.deref_mut.ensures.value) ∙ ap (map (cut_node c.args.a)) c.drop_node.ensures))
