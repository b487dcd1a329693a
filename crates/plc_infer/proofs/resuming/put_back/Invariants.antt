use Rattle.std.proofs.Common.{◌≡◌, length}
use Rattle.plc_infer.specs.Trials.{AreWithin, put_back}
use Rattle.plc_infer.proofs.resuming.put_back.Given as goal

abbrev pub invariant-loop-last : goal.invariant-loop-last
invariant-loop-last l = record {
  left : put_back l.replaced.items l.envs.items ≡ put_back l.fn.replaced.items l.fn.envs.items;
  within : AreWithin (length l.envs.items) l.replaced.items;
}

abbrev pub decreases-loop-last : goal.decreases-loop-last
decreases-loop-last l = length l.replaced.items
