use Rattle.std.proofs.Common.{◌≡◌, ◌++◌, drop}
use Rattle.plc_vocabulary.specs.Acts.{acts_of}
use Rattle.plc_vocabulary.proofs.acts.push_acts.Given as goal

abbrev pub invariant-loop-prim : goal.invariant-loop-prim
invariant-loop-prim l =
    l.acts ++ acts_of l.marked l.file.ghosts l.variables (drop l.prim-index l.prims)
    ≡ l.initial.acts ++ acts_of l.marked l.file.ghosts l.variables l.prims
