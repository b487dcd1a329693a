use Rattle.plc_xfer.proofs.Facts.{variable_within}
use Rattle.plc_xfer.proofs.calls.call_with.Goals as goal

pub argument_type-argument-requires : goal.argument_type-argument-requires
argument_type-argument-requires c = rw c.type_of.ensures (variable_within c.args.observer.now c.args.env.now c.requires c.args.p)
