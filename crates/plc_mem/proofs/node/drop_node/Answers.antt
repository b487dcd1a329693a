use Rattle.std.proofs.Common.{rules, ◌==◌, not}
use Rattle.std.proofs.lemmas.Fn.{filter_same}
use Rattle.plc_mem.specs.State.{Node}
use Rattle.plc_mem.proofs.node.drop_node.Goals as goal

pub returns : goal.returns
returns c = filter_same _ (λ (n : Node). not (n.address == c.args.a)) _ (λ x b f' k. search rules) _ _ c.retain.ensures.filtered
