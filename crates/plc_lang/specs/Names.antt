-- The names of a file by the numbers of what they name. A number that nothing has shows as the empty name.
use Rattle.std.specs.Prelude.{ℕ, Option, Some, None, List, [], filter, get_or, slice_get, option_map}
use Rattle.plc_base.specs.declared.ids.FieldId.{FieldId}
use Rattle.plc_base.specs.declared.ids.FuncId.{FuncId}
use Rattle.plc_base.specs.declared.ids.OpId.{OpId}
use Rattle.plc_lang.specs.Locals.{is_pointer, is_data}
use Rattle.plc_lang.specs.declared.syntax.Var.{Var}
use Rattle.plc_lang.specs.declared.syntax.Var.TheVariants as vars
use Rattle.plc_lang.specs.declared.syntax.Local.{Local}
use Rattle.plc_lang.specs.declared.syntax.Field.{Field}
use Rattle.plc_lang.specs.declared.syntax.Func.{Func}
use Rattle.plc_lang.specs.declared.syntax.Ghost.{Ghost}
use Rattle.plc_lang.specs.declared.syntax.Op.{Op}
use Rattle.plc_lang.specs.declared.syntax.File.{File}

-- the name with a number among the names of the file
abbrev pub name_at : File → ℕ → List ℕ
name_at file k = get_or file.names.names k []

-- the name whose number a declaration has, if there is such a declaration
abbrev pub name_of : File → Option ℕ → List ℕ
name_of file None = []
name_of file (Some k) = name_at file k

-- a field of the struct
abbrev pub field_name : File → FieldId → List ℕ
field_name file f = name_of file (option_map (λ (x : Field). x.name) (slice_get file.fields f.0))

-- a reclaimer function
abbrev pub function_name : File → FuncId → List ℕ
function_name file f = name_of file (option_map (λ (x : Func). x.name) (slice_get file.funcs f.0))

-- an operation
abbrev pub operation_name : File → OpId → List ℕ
operation_name file o = name_of file (option_map (λ (x : Op). x.name) (slice_get file.ops o.0))

-- an auxiliary field
abbrev pub auxiliary_name : File → ℕ → List ℕ
auxiliary_name file g = name_of file (option_map (λ (x : Ghost). x.name) (slice_get file.ghosts g))

-- the numbers of the names of an auxiliary field's values
abbrev pub values_of : Option Ghost → List ℕ
values_of None = []
values_of (Some g) = g.values

-- a value of an auxiliary field
abbrev pub value_name : File → ℕ → ℕ → List ℕ
value_name file g v = name_of file (slice_get (values_of (slice_get file.ghosts g)) v)

-- a label
abbrev pub label_name : File → ℕ → List ℕ
label_name file l = name_of file (slice_get file.labels l)

-- a shared pointer
abbrev pub shared_name : File → ℕ → List ℕ
shared_name file i = name_of file (slice_get file.shared i)

-- a pointer local and a data local of an operation, which are counted apart
abbrev pub pointer_name : File → List Local → ℕ → List ℕ
pointer_name file locals v = name_of file (option_map (λ (x : Local). x.name) (slice_get (filter is_pointer locals) v))

abbrev pub data_name : File → List Local → ℕ → List ℕ
data_name file locals x = name_of file (option_map (λ (l : Local). l.name) (slice_get (filter is_data locals) x))

-- a local of an operation, where all of them have one numbering
abbrev pub local_name : File → List Local → ℕ → List ℕ
local_name file locals v = name_of file (option_map (λ (l : Local). l.name) (slice_get locals v))

-- a pointer variable
abbrev pub variable_name : File → List Local → Var → List ℕ
variable_name file locals (vars.Shared i) = shared_name file i
variable_name file locals (vars.Local v) = pointer_name file locals v
