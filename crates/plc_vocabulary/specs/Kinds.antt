-- Words of private functions: the locals of one kind.
use Rattle.std.specs.Prelude.{Bool, true, false}
use Rattle.plc_lang.specs.declared.syntax.Local.{Local}
use Rattle.plc_lang.specs.Locals.{is_pointer, is_data}

-- the pointer locals, or the data locals
abbrev pub is_kind : Bool → Local → Bool
is_kind true l = is_pointer l
is_kind false l = is_data l
