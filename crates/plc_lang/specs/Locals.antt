-- The locals of operations, and their kinds.
use Rattle.std.specs.Prelude.{ℕ, Bool, not, ◌&&◌, ◌++◌, List, []}
use Rattle.std.specs.Prelude.{Option, Some, None, slice_get, count_by, replicate}
use Rattle.plc_lang.specs.declared.syntax.Local.{Local}
use Rattle.plc_lang.specs.declared.syntax.Op.{Op}

-- a pointer local
abbrev pub is_pointer : Local → Bool
is_pointer l = l.pointer

-- a data local
abbrev pub is_data : Local → Bool
is_data l = not l.pointer

-- a parameter, which is data
abbrev pub is_parameter : Local → Bool
is_parameter l = l.param

-- a data local that is no parameter
abbrev pub is_other_data : Local → Bool
is_other_data l = not l.pointer && not l.param

-- none where there is no operation
abbrev pub locals_or_none : Option Op → List Local
locals_or_none None = []
locals_or_none (Some o) = o.locals

-- the locals of the operation with a number
abbrev pub locals_of : List Op → ℕ → List Local
locals_of ops o = locals_or_none (slice_get ops o)

-- how many pointer locals an operation has
abbrev pub pointers_of : Op → ℕ
pointers_of o = count_by is_pointer o.locals

-- how many parameters
abbrev pub parameters_of : Op → ℕ
parameters_of o = count_by is_parameter o.locals

-- how many data locals that are no parameters
abbrev pub other_data_of : Op → ℕ
other_data_of o = count_by is_other_data o.locals

-- the pointer locals with which a thread starts an operation: all are null
abbrev pub starting_pointers : {A : Type 0} → A → Op → List A
starting_pointers null o = replicate (pointers_of o) null

-- the data locals with which it starts: the parameters as given, the others 0
abbrev pub starting_values : Op → List ℕ → List ℕ
starting_values o args = args ++ replicate (other_data_of o) 0
