-- Which reclaimer function is `retire`.
use Rattle.std.specs.Prelude.{Bool, ◌==◌}
use Rattle.plc_base.specs.declared.ids.FuncId.{FuncId}

-- `retire` is the function 0
abbrev pub retire : FuncId
retire = record { 0 = 0 }

-- a function is `retire`
abbrev pub is_retire : FuncId → Bool
is_retire f = f.0 == retire.0
