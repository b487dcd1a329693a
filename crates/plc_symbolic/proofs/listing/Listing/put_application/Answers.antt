use Rattle.plc_symbolic.proofs.Noting.{applied_argument}
use Rattle.plc_symbolic.proofs.listing.Listing.put_application.Goals as goal

pub put-requires : goal.put-requires
put-requires c = applied_argument c.args.self.now c.put_node.new.self c.args.node c.args.term c.requires c.in_ok-put_node.ensures.listed
