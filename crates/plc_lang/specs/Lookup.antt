-- Words of private functions: the local that a place names, where there is one.
use Rattle.std.specs.Prelude.{ℕ, List, Option, Some, None}
use Rattle.std.specs.List.{slice_get}
use Rattle.plc_lang.specs.declared.syntax.Local.{Local}

-- the local at a place, if there is such a place
abbrev pub local_at : List Local → Option ℕ → Option Local
local_at locals None = None
local_at locals (Some place) = slice_get locals place
