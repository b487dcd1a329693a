-- The sort of each term of a ground set.
use Rattle.std.specs.Prelude.{ℕ, Bool, true, List, [], ◌∷◌, Option, Some, None, slice_get}
use Rattle.plc_lang.specs.declared.syntax.Field.{Field}
use Rattle.plc_lang.specs.declared.syntax.Ghost.{Ghost}
use Rattle.plc_lang.specs.declared.syntax.File.{File}
use Rattle.plc_lang.specs.declared.syntax.Local.{Local}
use Rattle.plc_lang.specs.Numbering.{value_at}
use Rattle.plc_flow.specs.declared.flow.Flow.{Flow}
use Rattle.plc_logic.specs.declared.clause.Sort.{Sort}
use Rattle.plc_logic.specs.declared.clause.Sort.TheVariants as sorts
use Rattle.plc_logic.specs.Fit.{pointer_sort, ghost_sort}
use Rattle.plc_ground.specs.declared.terms.Symbol.{Symbol}
use Rattle.plc_ground.specs.declared.terms.Symbol.TheVariants as symbols
use Rattle.plc_ground.specs.declared.terms.Map.{Map}
use Rattle.plc_ground.specs.declared.terms.Map.TheVariants as maps
use Rattle.plc_vocabulary.specs.declared.acts.Act.{Act}
use Rattle.plc_vocabulary.specs.declared.acts.Act.TheVariants.{Assign, Make, Fetch, FetchMarked, Update}
use Rattle.plc_vocabulary.specs.declared.acts.Act.TheVariants.{Test, Differ, Skip}
use Rattle.plc_vocabulary.specs.declared.obligations.Obligation.{Obligation}
use Rattle.plc_symbolic.specs.declared.symbolic.SymbolicTerm.{SymbolicTerm}
use Rattle.plc_symbolic.specs.declared.symbolic.SymbolicTerm.TheVariants.{Constant, Application}
use Rattle.plc_vocabulary.specs.Parts.{acting_locals, owner_locals}

-- where there is no such thing, which a set never asks, the sort is that of nodes, threads or the first field's values
abbrev pub field_sort : Option Field → Sort
field_sort None = sorts.Node
field_sort (Some f) = pointer_sort f.pointer

abbrev pub auxiliary_sort : ℕ → Option Ghost → Sort
auxiliary_sort g None = sorts.Thread
auxiliary_sort g (Some h) = ghost_sort g h.values

abbrev pub local_sort : Option Local → Sort
local_sort None = sorts.Node
local_sort (Some l) = pointer_sort l.pointer

abbrev pub value_sort : Option (ℕ × ℕ) → Sort
value_sort None = sorts.Value 0
value_sort (Some v) = sorts.Value v.0

-- the sort of each map
abbrev pub map_sort : File → Map → Sort
map_sort file (maps.Field f) = field_sort (slice_get file.fields f.0)
map_sort file (maps.Ghost g) = auxiliary_sort g (slice_get file.ghosts g)
map_sort file maps.Retired = sorts.Truth
map_sort file (maps.FieldMark f) = sorts.Truth

-- whether what is read goes into a pointer, read by read
abbrev pub loads_of : List Act → List Bool
loads_of [] = []
loads_of (Fetch p q f pointer ∷ more) = pointer ∷ loads_of more
loads_of (FetchMarked p q f ∷ more) = true ∷ loads_of more
loads_of (Assign p e ∷ more) = loads_of more
loads_of (Make p ∷ more) = loads_of more
loads_of (Update checked m p e ∷ more) = loads_of more
loads_of (Test a b equal ∷ more) = loads_of more
loads_of (Differ a b ∷ more) = loads_of more
loads_of (Skip ∷ more) = loads_of more

abbrev pub load_sort : Option Bool → Sort
load_sort None = sorts.Node
load_sort (Some pointer) = pointer_sort pointer

-- the sort of each constant
abbrev pub symbol_sort : Flow → Obligation → List Act → Symbol → Sort
symbol_sort flow o acts symbols.Null = sorts.Node
symbol_sort flow o acts (symbols.Shared i) = sorts.Node
symbol_sort flow o acts (symbols.Mine k) = local_sort (slice_get (acting_locals flow o) k)
symbol_sort flow o acts (symbols.Theirs k) = local_sort (slice_get (owner_locals flow o) k)
symbol_sort flow o acts symbols.New = sorts.Node
symbol_sort flow o acts (symbols.Bound i) = sorts.Node
symbol_sort flow o acts (symbols.Loaded k) = load_sort (slice_get (loads_of acts) k)
symbol_sort flow o acts symbols.Yes = sorts.Truth
symbol_sort flow o acts symbols.No = sorts.Truth
symbol_sort flow o acts symbols.Nobody = sorts.Thread
symbol_sort flow o acts symbols.Me = sorts.Thread
symbol_sort flow o acts symbols.You = sorts.Thread
symbol_sort flow o acts (symbols.Value v) = value_sort (value_at flow.file.ghosts v)
symbol_sort flow o acts (symbols.Number n) = sorts.Number
symbol_sort flow o acts (symbols.MarkShared i) = sorts.Truth
symbol_sort flow o acts (symbols.MarkMine i) = sorts.Truth
symbol_sort flow o acts (symbols.MarkTheirs i) = sorts.Truth
symbol_sort flow o acts (symbols.MarkLoaded i) = sorts.Truth

abbrev pub sort_of : Flow → Obligation → List Act → SymbolicTerm → Sort
sort_of flow o acts (Constant s) = symbol_sort flow o acts s
sort_of flow o acts (Application m v n) = map_sort flow.file m
