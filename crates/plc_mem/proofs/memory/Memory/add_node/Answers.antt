use Rattle.std.proofs.Common.{◌≡◌, ◌==◌, ◌∙◌, ◌++◌, ◌∷◌, [], false, List, if◌then◌else◌, is_ok, subst, sym, ap, length}
use Rattle.std.specs.List.{list_any}
use Rattle.plc_mem.specs.State.{State, Node, fresh_node, with_node, is_used}
use Rattle.plc_mem.specs.Fit.{NodesFit}
use Rattle.plc_mem.specs.contracts.memory.Memory.{the_view}
use Rattle.plc_mem.proofs.Places.{nodes_fit_add, node_added}
use Rattle.plc_mem.proofs.memory.Memory.add_node.Goals as goal

pub add-requires : goal.add-requires
unfolding is_used
add-requires c = subst (λ (s : State). list_any (λ n. n.address == c.args.a) s.nodes ≡ false) (sym c.self.view_is) c.requires

pub invariant_of-self : goal.invariant_of-self
invariant_of-self c =
    let k = length c.self.inside.fields.items in
    let same = c.add.ensures ∙ ap (λ n. if is_ok c.add.result then c.self.inside.nodes ++ fresh_node n c.args.a ∷ [] else c.self.inside.nodes) (c.len.ensures ∙ c.self.inside.fields.ok.0) in
    subst (NodesFit k) (sym same) (nodes_fit_add k c.self.inside.nodes c.args.a (is_ok c.add.result) c.self.invariant)

pub returns : goal.returns
returns c =
    let v = the_view c.self.inside in
    ap (λ (ns : List Node). record v { nodes = ns }) (c.add.ensures ∙ ap (λ n. if is_ok c.add.result then c.self.inside.nodes ++ fresh_node n c.args.a ∷ [] else c.self.inside.nodes) (c.len.ensures ∙ c.self.inside.fields.ok.0))
    ∙ node_added v c.args.a (is_ok c.add.result) ∙ ap (λ (s : State). if is_ok c.add.result then with_node s c.args.a else s) c.self.view_is
