-- The name of a local as the code asks for it: the number of a name that is there, or none for a new name, which is
-- added only after the limit on locals was asked.
use Rattle.std.specs.Prelude.{ℕ, if◌then◌else◌, slice_get, Option, Some, None, Result, Ok, Err}
use Rattle.plc_scope.specs.declared.fault.ParseFault.{ParseFault}
use Rattle.plc_scope.specs.declared.fault.ParseFault.TheVariants as faults
use Rattle.plc_scope.specs.declared.scope.Scope.{Scope}
use Rattle.plc_scope.specs.Scope.{may_name_local, has_local}

-- the number of a name that may name a local, or none where the name is new
abbrev pub reused : Option ℕ → Scope → ℕ → Result (Option ℕ) ParseFault
reused None s at = Ok None
reused (Some i) s at =
    if may_name_local (slice_get s.bindings i) (has_local s.locals i) then Ok (Some i) else Err (faults.Duplicate at)
