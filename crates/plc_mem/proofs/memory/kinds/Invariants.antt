use Rattle.std.proofs.Common.{◌≡◌, map, take}
use Rattle.plc_lang.specs.Fields.{is_pointer_field}
use Rattle.plc_mem.proofs.memory.kinds.Given as goal

abbrev pub invariant-loop-f : goal.invariant-loop-f
invariant-loop-f l = l.kinds.items ≡ map is_pointer_field (take l.f-index l.fields)
