-- Which fields hold nodes.
use Rattle.std.specs.Prelude.{Bool}
use Rattle.plc_lang.specs.declared.syntax.Field.{Field}

-- a field that holds nodes
abbrev pub is_pointer_field : Field → Bool
is_pointer_field f = f.pointer
