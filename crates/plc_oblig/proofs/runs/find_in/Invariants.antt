use Rattle.plc_oblig.proofs.Joined.{IsPassed}
use Rattle.plc_oblig.proofs.runs.find_in.Given as goal

abbrev pub invariant-loop-k : goal.invariant-loop-k
invariant-loop-k l = IsPassed l.fn.o.flow.now l.fn.o.outline.now l.group l.part l.number l.k l.left
