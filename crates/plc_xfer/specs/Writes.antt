-- Environments as they are written in place.
use Rattle.std.specs.Prelude.{ℕ, map, slice_set}
use Rattle.plc_lang.specs.declared.syntax.Var.{Var}
use Rattle.plc_lang.specs.declared.syntax.Var.TheVariants.{Shared, Local}
use Rattle.plc_type.specs.declared.env.PtrType.{PtrType}
use Rattle.plc_type.specs.declared.env.Env.{Env}

-- another type for one variable, a shared pointer in one list, a local in the other; past the end of a list
-- nothing is written
unfoldable pub with_type : Env → Var → PtrType → Env
with_type e (Shared i) t = record e { shared = slice_set e.shared i t }
with_type e (Local i) t = record e { locals = slice_set e.locals i t }

-- each type is changed, and where any address may stand
unfoldable pub with_each : (PtrType → PtrType) → ℕ → Env → Env
with_each f w e = record { shared = map f e.shared; locals = map f e.locals; w = w }
