use Rattle.std.proofs.Common.{arith}
use Rattle.plc_vocabulary.proofs.Fitting.{sorted_at}
use Rattle.plc_vocabulary.proofs.acts.push_acts.Goals as goal

pub act_of-requires-clause-sorted : goal.act_of-requires-clause-sorted
act_of-requires-clause-sorted c =
    sorted_at c.args.file.now c.args.prims.now c.loop-prim.prim-index _ c.requires.sorted (omega arith)

pub push_marked-requires-clause-sorted : goal.push_marked-requires-clause-sorted
push_marked-requires-clause-sorted c =
    sorted_at c.args.file.now c.args.prims.now c.loop-prim.prim-index _ c.requires.sorted (omega arith)
