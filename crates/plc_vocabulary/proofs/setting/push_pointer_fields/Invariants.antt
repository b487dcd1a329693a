use Rattle.std.proofs.Common.{◌≡◌, ◌++◌, drop}
use Rattle.plc_vocabulary.specs.Setting.{pointer_fields_from}
use Rattle.plc_vocabulary.proofs.setting.push_pointer_fields.Given as goal

abbrev pub invariant-loop-k : goal.invariant-loop-k
invariant-loop-k l =
    l.ids ++ pointer_fields_from l.k (drop l.k l.fields) ≡ l.initial.ids ++ pointer_fields_from 0 l.fields
