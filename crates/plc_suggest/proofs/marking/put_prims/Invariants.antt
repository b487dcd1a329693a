use Rattle.plc_suggest.proofs.Claiming.{HasPrims}
use Rattle.plc_suggest.proofs.marking.put_prims.Given as goal

abbrev pub invariant-loop-k : goal.invariant-loop-k
invariant-loop-k l = HasPrims l.flow l.fn.lists.items l.lists.items l.k
