use Rattle.std.proofs.Common.{◌≡◌, ◌++◌, map, take}
use Rattle.plc_encoding.specs.Items.{read_literal}
use Rattle.plc_encoding.proofs.instances.push_read.Given as goal

abbrev pub invariant-loop-literal : goal.invariant-loop-literal
invariant-loop-literal l =
    l.lits ≡ l.initial.lits
    ++ map (read_literal l.r.ghosts.now l.r.execution.now l.r.owner l.r.names.now) (take l.literal-index l.literals)
