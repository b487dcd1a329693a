-- What takes primitives back, and the states that it leads to.
use Rattle.std.specs.Prelude.{◌≡◌, ℕ, ◌-◌, ◌<◌, Bool, true, false, List, [], ◌∷◌, length, take, Some}
use Rattle.plc_base.specs.declared.ids.FieldId.{FieldId}
use Rattle.plc_base.specs.Functions.{is_retire}
use Rattle.plc_lang.specs.declared.syntax.Var.{Var}
use Rattle.plc_lang.specs.declared.syntax.Var.TheVariants.{Local}
use Rattle.plc_lang.specs.declared.syntax.Arg.{Arg}
use Rattle.plc_lang.specs.declared.syntax.Arg.TheVariants as args
use Rattle.plc_lang.specs.declared.syntax.Primitive.{Primitive}
use Rattle.plc_lang.specs.declared.syntax.Primitive.TheVariants.{Null, Copy, New, Load, Store, StoreNull, DataSet}
use Rattle.plc_lang.specs.declared.syntax.Primitive.TheVariants.{DataLoad, DataStore, Eq, Ne, IsNull, NotNull, DataTest}
use Rattle.plc_lang.specs.declared.syntax.Primitive.TheVariants.{Refresh, RefreshLoad, RefreshStore, Call, Done, Active}
use Rattle.plc_lang.specs.declared.syntax.Primitive.TheVariants.{Mark, Unmark, MarkTest, Ghost}
use Rattle.plc_lang.specs.Shape.{Shape, VarIn}
use Rattle.plc_mem.specs.declared.undo.Undo.{Undo}
use Rattle.plc_mem.specs.declared.undo.Undo.TheVariants.{Nothing, Pointer, Field, Value, FieldValue, Made, Retired}
use Rattle.plc_mem.specs.State.{State, Locals, at_field, at, put, value_at, put_value, field_value, put_field_value}
use Rattle.plc_mem.specs.State.{place, with_locals}
use Rattle.plc_mem.specs.Primitives.{cell_at}
use Rattle.plc_mem.specs.Fit.{shape, Kept}

-- ---- what takes one primitive back, by the state in which it was taken

-- the cell that a variable holds
abbrev pub undo_of_write : State → ℕ → Var → Undo
undo_of_write s t p = Pointer p (cell_at s t p)

-- the cell that a field holds of the node that a variable leads to
abbrev pub undo_of_store : State → ℕ → Var → FieldId → Undo
undo_of_store s t p f = Field (cell_at s t p).number f (at s (at_field (cell_at s t p).number f.0))

-- the number that a data local has
abbrev pub undo_of_set : State → ℕ → ℕ → Undo
undo_of_set s t x = Value x (value_at s t x)

-- the number that a data field has of the node that a variable leads to
abbrev pub undo_of_data_store : State → ℕ → Var → FieldId → Undo
undo_of_data_store s t p f = FieldValue (cell_at s t p).number f (field_value s (cell_at s t p).number f.0)

-- of the calls that of `retire` alone changes the state
abbrev pub undo_of_call : Bool → Arg → Undo
undo_of_call true (args.Var p) = Retired
undo_of_call true args.Null = Nothing
undo_of_call true args.None = Nothing
undo_of_call false r = Nothing

-- what takes a primitive of thread t back
abbrev pub undo_of : State → ℕ → Primitive → Undo
undo_of s t (Null p) = undo_of_write s t p
undo_of s t (Copy p q) = undo_of_write s t p
undo_of s t (New p) = Made p (cell_at s t p)
undo_of s t (Load p q f) = undo_of_write s t p
undo_of s t (Store p f q) = undo_of_store s t p f
undo_of s t (StoreNull p f) = undo_of_store s t p f
undo_of s t (DataSet x e) = undo_of_set s t x
undo_of s t (DataLoad x q f) = undo_of_set s t x
undo_of s t (DataStore p f e) = undo_of_data_store s t p f
undo_of s t (Eq p q) = Nothing
undo_of s t (Ne p q) = Nothing
undo_of s t (IsNull p) = Nothing
undo_of s t (NotNull p) = Nothing
undo_of s t (DataTest r x e) = Nothing
undo_of s t (Refresh p q) = undo_of_write s t (Local p)
undo_of s t (RefreshLoad p q f) = undo_of_write s t (Local p)
undo_of s t (RefreshStore p f q) = undo_of_store s t p f
undo_of s t (Mark p q) = undo_of_write s t p
undo_of s t (Unmark p q) = undo_of_write s t p
undo_of s t (MarkTest p m) = Nothing
undo_of s t (Call f r) = undo_of_call (is_retire f) r
undo_of s t (Done f) = Nothing
undo_of s t (Active p) = Nothing
undo_of s t (Ghost p g v) = Nothing

-- ---- where it leads

-- the state without the node that was added last
unfoldable pub without_last_node : State → State
without_last_node s = record s { nodes = take (length s.nodes - 1) s.nodes }

-- the state without the address that was retired last
unfoldable pub without_last_retired : State → State
without_last_retired s = record s { retired = take (length s.retired - 1) s.retired }

-- the state with one primitive of thread t taken back
abbrev pub undone : State → ℕ → Undo → State
undone s t Nothing = s
undone s t (Pointer p was) = put s (place t p) was
undone s t (Field a f was) = put s (at_field a f.0) was
undone s t (Value x was) = put_value s t x was
undone s t (FieldValue a f was) = put_field_value s a f.0 was
undone s t (Made p was) = without_last_node (put s (place t p) was)
undone s t Retired = without_last_retired s

-- the state with several taken back, the last first
abbrev pub all_undone : State → ℕ → List Undo → State
all_undone s t [] = s
all_undone s t (u ∷ us) = undone (all_undone s t us) t u

-- ---- what the code asks and promises

-- the place that is written is there
abbrev pub UndoFits : Shape → Undo → Type 0
UndoFits h Nothing = Unit {0}
UndoFits h (Pointer p was) = VarIn h p
UndoFits h (Field a f was) = f.0 < h.fields
UndoFits h (Value x was) = x < h.values
UndoFits h (FieldValue a f was) = f.0 < h.fields
UndoFits h (Made p was) = VarIn h p
UndoFits h Retired = Unit {0}

-- each place that is written is there
abbrev pub UndosFit : Shape → List Undo → Type 0
UndosFit h [] = Unit {0}
UndosFit h (u ∷ us) = UndoFits h u × UndosFit h us

-- from the state `new` and the locals m of thread t, this leads back to the state s and its locals l
pub record TakesBack (t : ℕ) (s : State) (l : Locals) (undos : List Undo) (new : State) (m : Locals) : Type 0 where
  pub back : all_undone (with_locals new t (Some m)) t undos ≡ with_locals s t (Some l)
  pub fit : UndosFit (shape new m) undos
  pub kept : Kept s l new m
