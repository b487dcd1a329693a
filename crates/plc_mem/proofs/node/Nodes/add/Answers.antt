use Rattle.std.proofs.Common.{◌≡◌, ◌==◌, List, false, refl, sym, subst, ap, ◌∙◌}
use Rattle.std.specs.List.{list_any}
use Rattle.plc_mem.specs.State.{Node, fresh_node}
use Rattle.plc_mem.specs.Access.{addresses_of}
use Rattle.plc_mem.proofs.Index.{index_with}
use Rattle.plc_mem.proofs.node.Nodes.add.Goals as goal

pub invariant_of-self-2 : goal.invariant_of-self-2
invariant_of-self-2 c =
    let ns = c.self.inside.nodes.items in
    let absent : list_any (λ (n : Node). n.address == c.args.a) ns ≡ false = subst (λ (ns : List Node). list_any (λ n. n.address == c.args.a) ns ≡ false) (sym c.self.view_is) c.requires in
    index_with c.self.inside.addresses.keys c.insert.new.self.keys ns c.args.a (fresh_node c.args.fields c.args.a) c.self.invariant absent refl c.in_ok-insert.ensures.keys
    ∙ ap addresses_of (sym (rw (c.in_ok-push.ensures.items, c.reserve.ensures.items, c.in_ok-node.ensures) refl))
