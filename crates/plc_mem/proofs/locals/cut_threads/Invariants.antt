use Rattle.std.proofs.Common.{◌≡◌, ◌++◌, map, take, drop}
use Rattle.plc_mem.specs.State.{cut_locals}
use Rattle.plc_mem.proofs.locals.cut_threads.Given as goal

abbrev pub invariant-loop-held : goal.invariant-loop-held
invariant-loop-held l = l.locals ≡ map (cut_locals l.a) (take l.held-index l.fn.locals) ++ drop l.held-index l.fn.locals
