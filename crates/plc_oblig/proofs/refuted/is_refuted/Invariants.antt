use Rattle.plc_oblig.proofs.Ending.{EndsSoFar}
use Rattle.plc_oblig.proofs.refuted.is_refuted.Given as goal

abbrev pub invariant-loop-k : goal.invariant-loop-k
invariant-loop-k l = EndsSoFar l.set l.first l.literals l.k
