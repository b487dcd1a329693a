use Rattle.std.proofs.Common.{◌==◌, ap, ◌∙◌, List}
use Rattle.std.specs.List.{position}
use Rattle.plc_mem.specs.State.{Node}
use Rattle.plc_mem.proofs.Index.{place_of_node}
use Rattle.plc_mem.proofs.node.Nodes.find.Goals as goal

pub returns : goal.returns
returns c = c.get_index_of.ensures.index ∙ place_of_node c.self.inside.addresses.keys c.self.inside.nodes.items c.args.a c.self.invariant
    ∙ ap (λ (ns : List Node). position (λ n. n.address == c.args.a) ns) c.self.view_is
