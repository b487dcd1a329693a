use Rattle.plc_base.proofs.Places.{kept_none}
use Rattle.plc_base.proofs.names.Names.new.Goals as goal

pub invariant_of-result : goal.invariant_of-result
invariant_of-result c = rw c.new.ensures.items (kept_none c.new-2.result c.args.limit c.new-2.ensures.empty)
