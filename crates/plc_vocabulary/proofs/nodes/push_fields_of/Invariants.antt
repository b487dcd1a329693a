use Rattle.std.proofs.Common.{◌≡◌, ◌++◌, take}
use Rattle.plc_vocabulary.specs.Setting.{fields_of}
use Rattle.plc_vocabulary.proofs.nodes.push_fields_of.Given as goal

abbrev pub invariant-loop-f : goal.invariant-loop-f
invariant-loop-f l = l.list ≡ l.initial.list ++ fields_of (take l.f-index l.fields) l.of
