use Rattle.std.proofs.Common.{List, sym, ap, ◌∙◌}
use Rattle.plc_mem.specs.State.{Node, node_of, put_node, empty_node}
use Rattle.plc_mem.specs.Fit.{node_with}
use Rattle.plc_mem.proofs.Places.{found_node, node_written, same_address, put_no_node}
use Rattle.plc_mem.proofs.Index.{index_kept}
use Rattle.plc_mem.proofs.node.Nodes.set.Goals as goal

pub put_entry-requires-clause-field : goal.put_entry-requires-clause-field
put_entry-requires-clause-field c = λ n.
    let r = found_node c.requires.0 c.args.a c.in-Some.i c.args.f c.self.inside.nodes.items c.args.self.now n c.self.view_is (sym c.find.ensures ∙ c.in-Some.is) c.requires.2 c.requires.1 in
    (r.1, r.2)

pub invariant_of-self : goal.invariant_of-self
invariant_of-self c =
    let none = empty_node c.args.a in
    index_kept c.self.inside.addresses.keys c.self.inside.nodes.items c.put_entry.new.nodes.items c.in-Some.i _ none c.self.invariant (c.put_entry.ensures none) (same_address _ c.args.f c.args.entry)

pub returns-in-Some : goal.returns-in-Some
returns-in-Some c =
    let none = empty_node c.args.a in
    let r = found_node c.requires.0 c.args.a c.in-Some.i c.args.f c.self.inside.nodes.items c.args.self.now none c.self.view_is (sym c.find.ensures ∙ c.in-Some.is) c.requires.2 c.requires.1 in
    c.put_entry.ensures none ∙ node_written c.self.inside.nodes.items c.args.a c.in-Some.i c.args.f c.args.entry none r.0
    ∙ ap (λ (ns : List Node). put_node ns c.args.a (node_with (node_of ns c.args.a) c.args.f c.args.entry)) c.self.view_is

pub returns-in_default : goal.returns-in_default
returns-in_default c = sym (put_no_node c.args.self.now c.args.a _ (sym c.find.ensures ∙ c.in_default.is))
