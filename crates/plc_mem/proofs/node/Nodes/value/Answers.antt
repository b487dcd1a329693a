use Rattle.std.proofs.Common.{◌≡◌, ◌==◌, List, Some, sym, ap, ◌∙◌, get_or}
use Rattle.std.specs.List.{position}
use Rattle.plc_mem.specs.State.{Node, node_of}
use Rattle.plc_mem.proofs.Places.{node_at, no_node}
use Rattle.plc_mem.proofs.node.Nodes.value.Goals as goal

pub returns-in-Some : goal.returns-in-Some
returns-in-Some c =
    let found : position (λ (n : Node). n.address == c.args.a) c.self.inside.nodes.items ≡ Some c.in-Some.i = ap (position (λ (n : Node). n.address == c.args.a)) c.self.view_is ∙ sym c.find.ensures ∙ c.in-Some.is in
    let r = node_at c.self.inside.nodes.items c.args.a c.in-Some.i c.index-node.result.now found in
    c.entry_or.ensures ∙ ap (λ xs. get_or xs c.args.f 0) c.deref.ensures.value
    ∙ ap (λ (n : Node). get_or n.values c.args.f 0) (c.node.view_is ∙ c.index-node.ensures ∙ r.1 ∙ ap (λ (ns : List Node). node_of ns c.args.a) c.self.view_is)

pub returns-in-None : goal.returns-in-None
returns-in-None c = sym (ap (λ (n : Node). get_or n.values c.args.f 0) (no_node c.args.self.now c.args.a (sym c.find.ensures ∙ c.in-None.is)))
