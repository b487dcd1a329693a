-- Which primitives allocate.
use Rattle.std.specs.Prelude.{Bool, true, false}
use Rattle.plc_lang.specs.declared.syntax.Primitive.{Primitive}
use Rattle.plc_lang.specs.declared.syntax.Primitive.TheVariants.{New}

-- the primitive allocates
abbrev pub is_new : Primitive → Bool
is_new (New p) = true
is_new k = false
