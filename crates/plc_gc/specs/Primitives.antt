-- The table of the primitives in the garbage-collected meaning, a function for each column: where it isn't blocked, and
-- the state after it. No primitive is a race, and a refresh is the plain assignment of node and mark. All that is put
-- is read in the state before.
use Rattle.std.specs.Prelude.{ℕ, suc, Bool, true, false, not, ◌&&◌, ◌==◌, if◌then◌else◌}
use Rattle.plc_lang.specs.declared.syntax.Var.{Var}
use Rattle.plc_lang.specs.declared.syntax.Var.TheVariants.{Local as local_variable}
use Rattle.plc_lang.specs.declared.syntax.Arg.{Arg}
use Rattle.plc_lang.specs.declared.syntax.Arg.TheVariants as args
use Rattle.plc_lang.specs.declared.syntax.GhostVal.{GhostVal}
use Rattle.plc_lang.specs.declared.syntax.GhostVal.TheVariants as ghosts
use Rattle.plc_lang.specs.declared.syntax.Primitive.{Primitive}
use Rattle.plc_lang.specs.declared.syntax.Primitive.TheVariants.{Null, Copy, New, Load, Store, StoreNull, DataSet}
use Rattle.plc_lang.specs.declared.syntax.Primitive.TheVariants.{DataLoad, DataStore, Eq, Ne, IsNull, NotNull, DataTest}
use Rattle.plc_lang.specs.declared.syntax.Primitive.TheVariants.{Refresh, RefreshLoad, RefreshStore, Call, Done, Active}
use Rattle.plc_lang.specs.declared.syntax.Primitive.TheVariants.{Mark, Unmark, MarkTest, Ghost}
use Rattle.plc_base.specs.Functions.{is_retire}
use Rattle.plc_lang.specs.Comparison.{compares}
use Rattle.plc_gc.specs.declared.slot.Slot.TheVariants.{Data as in_data}
use Rattle.plc_gc.specs.declared.slot.Map.TheVariants.{Pointer as pointer_field, Mark as mark_field}
use Rattle.plc_gc.specs.declared.slot.Map.TheVariants.{Number as data_field, Auxiliary as auxiliary_field}
use Rattle.plc_gc.specs.declared.slot.Map.TheVariants.{Retirement as retirement}
use Rattle.plc_gc.specs.State.{GcState, value, entry, count, put, put_pointer, update, update_pointer, made}
use Rattle.plc_gc.specs.State.{slot, mark_slot, number_of}

-- the node that the variable of thread t holds
abbrev pub node_at : GcState → ℕ → Var → ℕ
node_at g t v = value g (slot t v)

-- the node that the field holds of the node to which the variable points
abbrev pub field_at : GcState → ℕ → Var → ℕ → ℕ
field_at g t v f = entry g (pointer_field f) (node_at g t v)

-- the mark of the variable of thread t
abbrev pub mark_at : GcState → ℕ → Var → ℕ
mark_at g t v = value g (mark_slot t v)

-- the mark of the field of the node to which the variable points
abbrev pub field_mark_at : GcState → ℕ → Var → ℕ → ℕ
field_mark_at g t v f = entry g (mark_field f) (node_at g t v)

-- two variables have one node and one mark
abbrev pub same_pointer : GcState → ℕ → Var → Var → Bool
same_pointer g t p q = (node_at g t p == node_at g t q) && (mark_at g t p == mark_at g t q)

-- the variable is marked
abbrev pub is_marked : GcState → ℕ → Var → Bool
is_marked g t v = mark_at g t v == 1

-- the variable isn't null
abbrev pub some_node : GcState → ℕ → Var → Bool
some_node g t v = not (node_at g t v == 0)

-- what a `ghost` write puts into an auxiliary field
abbrev pub ghost_number : ℕ → GhostVal → ℕ
ghost_number t (ghosts.Value k) = k
ghost_number t ghosts.Me = suc t
ghost_number t ghosts.None = 0

-- of the calls that of `retire` alone is blocked, with null
abbrev pub goes_call : GcState → ℕ → Bool → Arg → Bool
goes_call g t true (args.Var p) = some_node g t p
goes_call g t true args.Null = true
goes_call g t true args.None = true
goes_call g t false r = true

-- the first column: whether it isn't blocked
abbrev pub goes : GcState → ℕ → Primitive → Bool
goes g t (Null p) = true
goes g t (Copy p q) = true
goes g t (New p) = true
goes g t (Load p q f) = some_node g t q
goes g t (Store p f q) = some_node g t p
goes g t (StoreNull p f) = some_node g t p
goes g t (DataSet x e) = true
goes g t (DataLoad x q f) = some_node g t q
goes g t (DataStore p f e) = some_node g t p
goes g t (Eq p q) = same_pointer g t p q
goes g t (Ne p q) = not (same_pointer g t p q)
goes g t (IsNull p) = node_at g t p == 0
goes g t (NotNull p) = some_node g t p
goes g t (DataTest r x e) = compares r (value g (in_data t x)) (number_of g t e)
goes g t (Refresh p q) = true
goes g t (RefreshLoad p q f) = some_node g t q
goes g t (RefreshStore p f q) = some_node g t p
goes g t (Mark p q) = true
goes g t (Unmark p q) = true
goes g t (MarkTest p m) = if m then is_marked g t p else not (is_marked g t p)
goes g t (Call f r) = goes_call g t (is_retire f) r
goes g t (Done f) = true
goes g t (Active p) = true
goes g t (Ghost p h v) = true

-- of the calls that of `retire` alone changes the state
abbrev pub after_call : GcState → ℕ → Bool → Arg → GcState
after_call g t true (args.Var p) = update g retirement (node_at g t p) 1
after_call g t true args.Null = g
after_call g t true args.None = g
after_call g t false r = g

-- the second column: the state after it
abbrev pub after : GcState → ℕ → Primitive → GcState
after g t (Null p) = put_pointer g t p 0 0
after g t (Copy p q) = put_pointer g t p (node_at g t q) (mark_at g t q)
after g t (New p) = put_pointer (made g) t p (count g) 0
after g t (Load p q f) = put_pointer g t p (field_at g t q f.0) (field_mark_at g t q f.0)
after g t (Store p f q) = update_pointer g f.0 (node_at g t p) (node_at g t q) (mark_at g t q)
after g t (StoreNull p f) = update_pointer g f.0 (node_at g t p) 0 0
after g t (DataSet x e) = put g (in_data t x) (number_of g t e)
after g t (DataLoad x q f) = put g (in_data t x) (entry g (data_field f.0) (node_at g t q))
after g t (DataStore p f e) = update g (data_field f.0) (node_at g t p) (number_of g t e)
after g t (Eq p q) = g
after g t (Ne p q) = g
after g t (IsNull p) = g
after g t (NotNull p) = g
after g t (DataTest r x e) = g
after g t (Refresh p q) = put_pointer g t (local_variable p) (node_at g t q) (mark_at g t q)
after g t (RefreshLoad p q f) =
    put_pointer g t (local_variable p) (field_at g t q f.0) (field_mark_at g t q f.0)
after g t (RefreshStore p f q) = update_pointer g f.0 (node_at g t p) (node_at g t q) (mark_at g t q)
after g t (Mark p q) = put_pointer g t p (node_at g t q) 1
after g t (Unmark p q) = put_pointer g t p (node_at g t q) 0
after g t (MarkTest p m) = g
after g t (Call f r) = after_call g t (is_retire f) r
after g t (Done f) = g
after g t (Active p) = g
after g t (Ghost p h v) = update g (auxiliary_field h) (node_at g t p) (ghost_number t v)
