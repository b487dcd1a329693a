use Rattle.std.proofs.Common.{◌≡◌, ◌++◌, take}
use Rattle.plc_vocabulary.specs.Setting.{targets_of}
use Rattle.plc_vocabulary.proofs.nodes.push_fields.Given as goal

abbrev pub invariant-loop-of : goal.invariant-loop-of
invariant-loop-of l = l.list ≡ l.initial.list ++ targets_of l.fields (take l.of-index l.symbols)
