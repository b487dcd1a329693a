use Rattle.plc_xfer.proofs.Order.{kept}
use Rattle.plc_xfer.proofs.laws.rules_keep_order.Goals as goal

pub returns : goal.returns
returns c = kept
