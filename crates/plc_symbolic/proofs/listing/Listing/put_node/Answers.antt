use Rattle.std.proofs.Common.{◌∙◌}
use Rattle.plc_symbolic.proofs.Noting.{target_argument, at_argument}
use Rattle.plc_symbolic.proofs.listing.Listing.put_node.Goals as goal
use Rattle.plc_symbolic.proofs.listing.Listing.put_node.Goals.{in-Target+in_ok-put, in_default}

pub put-requires-2 : goal.put-requires-2
put-requires-2 c = elim c.match-node.branch [
  | in-Target+in_ok-put w ↦ target_argument c.args.self.now c.match-node.self c.match-node.node w.in-Target.f w.in-Target.of c.term_of.result
      w.node-is c.term_of.ensures (w.self-is ∙ w.in_ok-put.ensures.listed)
  | in_default w ↦ at_argument c.match-node.self c.match-node.node w.in_default.field-0 c.term_of.result (w.node-is ∙ w.in_default.is) c.term_of.ensures
]
