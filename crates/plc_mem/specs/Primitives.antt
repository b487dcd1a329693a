-- The table of the primitives, a function for each column: where it is a race, where it isn't blocked, the state after
-- it, its event.
use Rattle.std.specs.Prelude.{ℕ, Bool, true, false, not, ◌&&◌, ◌==◌, if◌then◌else◌, Option, Some, None}
use Rattle.plc_lang.specs.declared.syntax.Var.{Var}
use Rattle.plc_lang.specs.declared.syntax.Arg.{Arg}
use Rattle.plc_lang.specs.declared.syntax.Arg.TheVariants as args
use Rattle.plc_lang.specs.declared.syntax.Primitive.{Primitive}
use Rattle.plc_lang.specs.declared.syntax.Primitive.TheVariants.{Null, Copy, New, Load, Store, StoreNull, DataSet}
use Rattle.plc_lang.specs.declared.syntax.Primitive.TheVariants.{DataLoad, DataStore, Eq, Ne, IsNull, NotNull, DataTest}
use Rattle.plc_lang.specs.declared.syntax.Primitive.TheVariants.{Refresh, RefreshLoad, RefreshStore, Call, Done, Active}
use Rattle.plc_lang.specs.declared.syntax.Primitive.TheVariants.{Mark, Unmark, MarkTest, Ghost}
use Rattle.plc_auto.specs.declared.event.Event.{Event}
use Rattle.plc_auto.specs.declared.event.Event.TheVariants.{Call as Called, Done as Returned}
use Rattle.plc_base.specs.Functions.{is_retire}
use Rattle.plc_lang.specs.Comparison.{compares}
use Rattle.plc_mem.specs.declared.cell.Cell.{Cell}
use Rattle.plc_mem.specs.declared.cell.RaceKind.{RaceKind}
use Rattle.plc_mem.specs.declared.cell.RaceKind.TheVariants.{Deref, Compare, Pass, Double}
use Rattle.plc_base.specs.Booleans.{same_bool}
use Rattle.plc_mem.specs.State.{State, at_local, at_field, null_cell, fresh_cell, marked_cell, is_null, same_pointer}
use Rattle.plc_mem.specs.State.{at, put, value_at, put_value, field_value, put_field_value, place, number_of, with_node}
use Rattle.plc_mem.specs.State.{with_retired, is_used, is_retired}

-- what the variable of thread t holds
abbrev pub cell_at : State → ℕ → Var → Cell
cell_at s t v = at s (place t v)

-- what the field of the node holds to which the variable of thread t points
abbrev pub field_at : State → ℕ → Var → ℕ → Cell
field_at s t v f = at s (at_field (cell_at s t v).number f)

-- an access through an invalid pointer is a race
abbrev pub access : Cell → Option RaceKind
access c = if c.valid then None else Some Deref

-- a comparison with an invalid pointer is a race
abbrev pub comparison : Cell → Cell → Option RaceKind
comparison c d = if c.valid && d.valid then None else Some Compare

-- an invalid pointer handed to `retire` is a race, and so is an address that is retired already
abbrev pub retirement : State → Cell → Option RaceKind
retirement s c = if c.valid then (if is_retired s c.number then Some Double else None) else Some Pass

-- of the calls that of `retire` alone can be a race; it is always called with a variable
abbrev pub race_of_call : State → ℕ → Bool → Arg → Option RaceKind
race_of_call s t true (args.Var p) = retirement s (cell_at s t p)
race_of_call s t true args.Null = None
race_of_call s t true args.None = None
race_of_call s t false r = None

-- the first column: a race where
abbrev pub race_of : State → ℕ → Primitive → Option RaceKind
race_of s t (Null p) = None
race_of s t (Copy p q) = None
race_of s t (New p) = None
race_of s t (Load p q f) = access (cell_at s t q)
race_of s t (Store p f q) = access (cell_at s t p)
race_of s t (StoreNull p f) = access (cell_at s t p)
race_of s t (DataSet x e) = None
race_of s t (DataLoad x q f) = access (cell_at s t q)
race_of s t (DataStore p f e) = access (cell_at s t p)
race_of s t (Eq p q) = comparison (cell_at s t p) (cell_at s t q)
race_of s t (Ne p q) = comparison (cell_at s t p) (cell_at s t q)
race_of s t (IsNull p) = None
race_of s t (NotNull p) = None
race_of s t (DataTest r x e) = None
race_of s t (Refresh p q) = None
race_of s t (RefreshLoad p q f) = access (cell_at s t q)
race_of s t (RefreshStore p f q) = access (cell_at s t p)
race_of s t (Mark p q) = None
race_of s t (Unmark p q) = None
race_of s t (MarkTest p m) = None
race_of s t (Call f r) = race_of_call s t (is_retire f) r
race_of s t (Done f) = None
race_of s t (Active p) = None
race_of s t (Ghost p g v) = None

-- of the calls that of `retire` alone is blocked, with null
abbrev pub goes_call : State → ℕ → Bool → Arg → Bool
goes_call s t true (args.Var p) = not (is_null (cell_at s t p))
goes_call s t true args.Null = true
goes_call s t true args.None = true
goes_call s t false r = true

-- the second column: whether it isn't blocked; a is the address that a `new` takes
abbrev pub goes : State → ℕ → ℕ → Primitive → Bool
goes s t a (Null p) = true
goes s t a (Copy p q) = true
goes s t a (New p) = not (a == 0) && not (is_used s a)
goes s t a (Load p q f) = not (is_null (cell_at s t q))
goes s t a (Store p f q) = not (is_null (cell_at s t p))
goes s t a (StoreNull p f) = not (is_null (cell_at s t p))
goes s t a (DataSet x e) = true
goes s t a (DataLoad x q f) = not (is_null (cell_at s t q))
goes s t a (DataStore p f e) = not (is_null (cell_at s t p))
goes s t a (Eq p q) = same_pointer (cell_at s t p) (cell_at s t q)
goes s t a (Ne p q) = not (same_pointer (cell_at s t p) (cell_at s t q))
goes s t a (IsNull p) = is_null (cell_at s t p)
goes s t a (NotNull p) = not (is_null (cell_at s t p))
goes s t a (DataTest r x e) = compares r (value_at s t x) (number_of s t e)
goes s t a (Refresh p q) = same_pointer (at s (at_local t p)) (cell_at s t q)
goes s t a (RefreshLoad p q f) =
    not (is_null (cell_at s t q)) && same_pointer (at s (at_local t p)) (field_at s t q f.0)
goes s t a (RefreshStore p f q) = not (is_null (cell_at s t p)) && same_pointer (field_at s t p f.0) (cell_at s t q)
goes s t a (Mark p q) = true
goes s t a (Unmark p q) = true
goes s t a (MarkTest p m) = same_bool (cell_at s t p).mark m
goes s t a (Call f r) = goes_call s t (is_retire f) r
goes s t a (Done f) = true
goes s t a (Active p) = true
goes s t a (Ghost p g v) = true

-- of the calls that of `retire` alone changes the state
abbrev pub after_call : State → ℕ → Bool → Arg → State
after_call s t true (args.Var p) = with_retired s (cell_at s t p).number
after_call s t true args.Null = s
after_call s t true args.None = s
after_call s t false r = s

-- the third column: the state after it
abbrev pub after : State → ℕ → ℕ → Primitive → State
after s t a (Null p) = put s (place t p) null_cell
after s t a (Copy p q) = put s (place t p) (cell_at s t q)
after s t a (New p) = put (with_node s a) (place t p) (fresh_cell a)
after s t a (Load p q f) = put s (place t p) (field_at s t q f.0)
after s t a (Store p f q) = put s (at_field (cell_at s t p).number f.0) (cell_at s t q)
after s t a (StoreNull p f) = put s (at_field (cell_at s t p).number f.0) null_cell
after s t a (DataSet x e) = put_value s t x (number_of s t e)
after s t a (DataLoad x q f) = put_value s t x (field_value s (cell_at s t q).number f.0)
after s t a (DataStore p f e) = put_field_value s (cell_at s t p).number f.0 (number_of s t e)
after s t a (Eq p q) = s
after s t a (Ne p q) = s
after s t a (IsNull p) = s
after s t a (NotNull p) = s
after s t a (DataTest r x e) = s
after s t a (Refresh p q) = put s (at_local t p) (cell_at s t q)
after s t a (RefreshLoad p q f) = put s (at_local t p) (field_at s t q f.0)
after s t a (RefreshStore p f q) = put s (at_field (cell_at s t p).number f.0) (cell_at s t q)
after s t a (Mark p q) = put s (place t p) (marked_cell true (cell_at s t q))
after s t a (Unmark p q) = put s (place t p) (marked_cell false (cell_at s t q))
after s t a (MarkTest p m) = s
after s t a (Call f r) = after_call s t (is_retire f) r
after s t a (Done f) = s
after s t a (Active p) = s
after s t a (Ghost p g v) = s

-- the address that a call hands over: that of the variable, 0 for null, none without an argument
abbrev pub address_of : State → ℕ → Arg → Option ℕ
address_of s t args.None = None
address_of s t args.Null = Some 0
address_of s t (args.Var p) = Some (cell_at s t p).number

-- the fourth column: its event
abbrev pub event_of : State → ℕ → Primitive → Option Event
event_of s t (Call f r) = Some (Called t f (address_of s t r))
event_of s t (Done f) = Some (Returned t f)
event_of s t k = None
