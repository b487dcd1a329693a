use Rattle.std.proofs.Common.{take, ap, sym, ◌∙◌}
use Rattle.plc_mem.specs.Access.{addresses_of}
use Rattle.std.proofs.lemmas.List.{take-map}
use Rattle.plc_mem.specs.State.{Node}
use Rattle.plc_mem.proofs.node.Nodes.remove_last.Goals as goal

pub invariant_of-self : goal.invariant_of-self
invariant_of-self c =
    c.truncate.ensures.keys ∙ ap (take c.saturating_sub-left.result) c.self.invariant ∙ take-map (λ (n : Node). n.address) c.saturating_sub-left.result c.self.inside.nodes.items ∙ sym (ap addresses_of c.truncate-2.ensures.items)
