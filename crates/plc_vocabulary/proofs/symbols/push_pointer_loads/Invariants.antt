use Rattle.std.proofs.Common.{◌≡◌, ◌≤◌, ◌++◌, drop}
use Rattle.plc_vocabulary.specs.Setting.{pointer_loads_from}
use Rattle.plc_vocabulary.proofs.symbols.push_pointer_loads.Given as goal

abbrev pub invariant-loop-act : goal.invariant-loop-act
invariant-loop-act l = (l.list ++ pointer_loads_from l.reads (drop l.act-index l.acts) ≡ l.initial.list ++ pointer_loads_from 0 l.acts) × (l.reads ≤ l.act-index)
