use Rattle.std.proofs.Common.{◌≡◌, ◌≤◌, ◌++◌, drop}
use Rattle.plc_vocabulary.specs.Setting.{loads_from}
use Rattle.plc_vocabulary.proofs.symbols.push_loads.Given as goal

abbrev pub invariant-loop-act : goal.invariant-loop-act
invariant-loop-act l = (l.list ++ loads_from l.loads (drop l.act-index l.acts) ≡ l.initial.list ++ loads_from 0 l.acts) × (l.loads ≤ l.act-index)
