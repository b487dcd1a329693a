use Rattle.std.proofs.Common.{◌==◌, ap, ◌∙◌, List}
use Rattle.std.specs.List.{list_any}
use Rattle.plc_mem.specs.State.{Node}
use Rattle.plc_mem.proofs.Index.{is_indexed}
use Rattle.plc_mem.proofs.node.Nodes.holds.Goals as goal

pub returns : goal.returns
returns c = c.contains.ensures ∙ is_indexed c.self.inside.addresses.keys c.self.inside.nodes.items c.args.a c.self.invariant
    ∙ ap (λ (ns : List Node). list_any (λ n. n.address == c.args.a) ns) c.self.view_is
