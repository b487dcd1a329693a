use Rattle.std.specs.Prelude.{take}
use Rattle.plc_solve.specs.Search.{TakesCore}
use Rattle.plc_solve.proofs.cores.add_core.Given as goal

abbrev pub invariant-loop-l : goal.invariant-loop-l
invariant-loop-l l = TakesCore l.fn.core.items l.core.items l.own (take l.l-index l.more)
