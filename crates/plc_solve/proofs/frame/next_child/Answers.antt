use Rattle.std.proofs.Common.{refl}
use Rattle.plc_solve.proofs.frame.next_child.Goals as goal

pub returns-then-top-clause : goal.returns-then-top-clause
returns-then-top-clause c = refl
