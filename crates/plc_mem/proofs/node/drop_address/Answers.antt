use Rattle.std.proofs.Common.{rules, ◌==◌, not}
use Rattle.std.proofs.lemmas.Fn.{filter_same}
use Rattle.plc_mem.proofs.node.drop_address.Goals as goal

pub returns : goal.returns
returns c = filter_same _ (λ x. not (x == c.args.a)) _ (λ x b f' k. search rules) _ _ c.retain.ensures.filtered
