-- A state of the garbage-collected meaning: nodes are numbered from 1 in order of allocation, and no node is taken
-- back.
use Rattle.std.specs.Prelude.{ℕ, Bool, false, ◌&&◌, nat_lt, if◌then◌else◌, ◌==◌, List, [], ◌∷◌, ◌++◌, length, get_or}
use Rattle.std.specs.Prelude.{slice_get, replicate, Option, Some, None}
use Rattle.std.specs.Option.{unwrap_or}
use Rattle.plc_base.specs.Tables.{put_at}
use Rattle.plc_lang.specs.declared.syntax.Var.{Var}
use Rattle.plc_lang.specs.declared.syntax.Var.TheVariants.{Shared, Local}
use Rattle.plc_lang.specs.declared.syntax.Num.{Num}
use Rattle.plc_lang.specs.declared.syntax.Num.TheVariants.{Lit, Local as DataLocal}
use Rattle.plc_lang.specs.declared.syntax.Field.{Field}
use Rattle.plc_lang.specs.declared.syntax.Local.{Local as ALocal}
use Rattle.plc_lang.specs.declared.syntax.Op.{Op}
use Rattle.plc_lang.specs.Locals.{starting_pointers, starting_values}
use Rattle.plc_gc.specs.declared.slot.Slot.{Slot}
use Rattle.plc_gc.specs.declared.slot.Slot.TheVariants.{Shared as in_shared, Local as in_local, Data as in_data}
use Rattle.plc_gc.specs.declared.slot.Slot.TheVariants.{SharedMark as shared_mark, LocalMark as local_mark}
use Rattle.plc_gc.specs.declared.slot.Pointer.{Pointer}
use Rattle.plc_gc.specs.declared.slot.Map.{Map}
use Rattle.plc_gc.specs.declared.slot.Map.TheVariants.{Pointer as pointer_field, Mark as mark_field}
use Rattle.plc_gc.specs.declared.slot.Map.TheVariants.{Number as data_field, Auxiliary as auxiliary_field}
use Rattle.plc_gc.specs.declared.slot.Map.TheVariants.{Retirement as retirement}
use Rattle.plc_flow.specs.declared.flow.Flow.{Flow}
use Rattle.plc_moves.specs.declared.words.Place.{Place}
use Rattle.plc_moves.specs.declared.words.Place.TheVariants as places

-- Every value is a number, and every default is 0: null, unmarked, the data 0, the first value of an auxiliary
-- field, no thread (thread t is t + 1), not retired. So a node that isn't made reads as a fresh one. A pointer place
-- keeps two numbers together, its node and its mark, and each of them has a slot or a map of its own.

-- null, unmarked
abbrev pub null_pointer : Pointer
null_pointer = record { node = 0; mark = 0 }

-- the pointer with another node, or with another mark
abbrev pub with_node : Pointer → ℕ → Pointer
with_node p n = record p { node = n }

abbrev pub with_mark : Pointer → ℕ → Pointer
with_mark p n = record p { mark = n }

-- a table of pointers with another node at one place, or with another mark
abbrev pub node_put : List Pointer → ℕ → ℕ → List Pointer
node_put ps i n = put_at null_pointer ps i (with_node (get_or ps i null_pointer) n)

abbrev pub mark_put : List Pointer → ℕ → ℕ → List Pointer
mark_put ps i n = put_at null_pointer ps i (with_mark (get_or ps i null_pointer) n)

-- a node, of which a pointer field has the pointer and a data field the number; retired is 1 where it was retired
pub record Row : Type 0 where
  pub pointers : List Pointer
  pub values : List ℕ
  pub auxiliary : List ℕ
  pub retired : ℕ

-- the locals of a thread that is in an operation, with their declarations, since clauses count pointers and data
-- together
pub record Locals : Type 0 where
  pub declared : List ALocal
  pub pointers : List Pointer
  pub values : List ℕ

-- the fields as they are declared, how many auxiliary fields there are, what shared pointers and threads hold,
-- and a row for each node; the first row is that of null
pub record GcState : Type 0 where
  pub fields : List Field
  pub ghosts : ℕ
  pub shared : List Pointer
  pub locals : List (Option Locals)
  pub rows : List Row

-- ---- rows

-- a node without fields
abbrev pub no_row : Row
no_row = record { pointers = []; values = []; auxiliary = []; retired = 0 }

-- a node that was just allocated, and null
abbrev pub fresh_row : ℕ → ℕ → Row
fresh_row fields ghosts =
    record {
      pointers = replicate fields null_pointer;
      values = replicate fields 0;
      auxiliary = replicate ghosts 0;
      retired = 0;
    }

-- what a map has at a row
abbrev pub row_entry : Row → Map → ℕ
row_entry r (pointer_field f) = (get_or r.pointers f null_pointer).node
row_entry r (mark_field f) = (get_or r.pointers f null_pointer).mark
row_entry r (data_field f) = get_or r.values f 0
row_entry r (auxiliary_field g) = get_or r.auxiliary g 0
row_entry r retirement = r.retired

-- the row with a number put into a map
abbrev pub row_with : Row → Map → ℕ → Row
row_with r (pointer_field f) n = record r { pointers = node_put r.pointers f n }
row_with r (mark_field f) n = record r { pointers = mark_put r.pointers f n }
row_with r (data_field f) n = record r { values = put_at 0 r.values f n }
row_with r (auxiliary_field g) n = record r { auxiliary = put_at 0 r.auxiliary g n }
row_with r retirement n = record r { retired = n }

-- ---- locals

-- what an idle thread has
abbrev pub no_locals : Locals
no_locals = record { declared = []; pointers = []; values = [] }

-- the locals of thread t, none for an idle one
unfoldable pub locals_of : GcState → ℕ → Locals
locals_of g t = unwrap_or (get_or g.locals t None) no_locals

-- the state with the locals of thread t put in
unfoldable pub with_locals : GcState → ℕ → Option Locals → GcState
with_locals g t l = record g { locals = put_at None g.locals t l }

-- ---- the words by which a state is read and written

-- the value of a place
unfoldable pub value : GcState → Slot → ℕ
unfolding locals_of
value g (in_shared i) = (get_or g.shared i null_pointer).node
value g (in_local t v) = (get_or (locals_of g t).pointers v null_pointer).node
value g (shared_mark i) = (get_or g.shared i null_pointer).mark
value g (local_mark t v) = (get_or (locals_of g t).pointers v null_pointer).mark
value g (in_data t x) = get_or (locals_of g t).values x 0

-- the entry of a map at a node
unfoldable pub entry : GcState → Map → ℕ → ℕ
entry g m k = row_entry (get_or g.rows k no_row) m

-- the node was retired
abbrev pub is_retired : GcState → ℕ → Bool
is_retired g k = entry g retirement k == 1

-- the number of the next node: null and the nodes that were made
unfoldable pub count : GcState → ℕ
count g = length g.rows

-- the state with a value put into a place
unfoldable pub put : GcState → Slot → ℕ → GcState
unfolding locals_of with_locals
put g (in_shared i) n = record g { shared = node_put g.shared i n }
put g (in_local t v) n =
    with_locals g t (Some (record (locals_of g t) { pointers = node_put (locals_of g t).pointers v n }))
put g (shared_mark i) n = record g { shared = mark_put g.shared i n }
put g (local_mark t v) n =
    with_locals g t (Some (record (locals_of g t) { pointers = mark_put (locals_of g t).pointers v n }))
put g (in_data t x) n = with_locals g t (Some (record (locals_of g t) { values = put_at 0 (locals_of g t).values x n }))

-- the state with a map changed at a node
unfoldable pub update : GcState → Map → ℕ → ℕ → GcState
update g m k n = record g { rows = put_at no_row g.rows k (row_with (get_or g.rows k no_row) m n) }

-- the state with one node more
unfoldable pub made : GcState → GcState
made g = record g { rows = g.rows ++ fresh_row (length g.fields) g.ghosts ∷ [] }

-- the state with a node and a mark put into pointer field f of node k: the mark is written first
abbrev pub update_pointer : GcState → ℕ → ℕ → ℕ → ℕ → GcState
update_pointer g f k n m = update (update g (mark_field f) k m) (pointer_field f) k n

-- ---- variables

-- the place of a pointer variable for thread t
abbrev pub slot : ℕ → Var → Slot
slot t (Shared i) = in_shared i
slot t (Local v) = in_local t v

-- the place of its mark
abbrev pub mark_slot : ℕ → Var → Slot
mark_slot t (Shared i) = shared_mark i
mark_slot t (Local v) = local_mark t v

-- the state with a node and a mark put into a variable of thread t: the mark is written first
abbrev pub put_pointer : GcState → ℕ → Var → ℕ → ℕ → GcState
put_pointer g t v n m = put (put g (mark_slot t v) m) (slot t v) n

-- the number that is put into data
abbrev pub number_of : GcState → ℕ → Num → ℕ
number_of g t (Lit n) = n
number_of g t (DataLocal x) = value g (in_data t x)

-- ---- where runs and operations begin

-- null alone, shared pointers null, every thread idle
abbrev pub fresh_state : List Field → ℕ → ℕ → ℕ → GcState
fresh_state fields ghosts shared threads =
    record {
      fields = fields;
      ghosts = ghosts;
      shared = replicate shared null_pointer;
      locals = replicate threads None;
      rows = fresh_row (length fields) ghosts ∷ [];
    }

-- the state of a flow before its `init`
abbrev pub first_state : Flow → ℕ → GcState
first_state flow threads = fresh_state flow.file.fields (length flow.file.ghosts) (length flow.file.shared) threads

-- the locals with which a thread starts this operation
abbrev pub starting : Op → List ℕ → Locals
starting o args =
    record { declared = o.locals; pointers = starting_pointers null_pointer o; values = starting_values o args }

-- ---- places that the program names

-- a node that was made and isn't null
unfoldable pub is_made : GcState → ℕ → Bool
unfolding count
is_made g k = nat_lt 0 k && nat_lt k (count g)

-- there is such a field, and it is a pointer field
abbrev pub is_pointer_field : Option Field → Bool
is_pointer_field None = false
is_pointer_field (Some f) = f.pointer

-- a pointer place that there is: a shared pointer, a pointer local of a busy thread, a pointer field of a node that was
-- made; a cell is named by its node
unfoldable pub has_place : GcState → Place → Bool
unfolding locals_of
has_place g (places.Shared i) = nat_lt i (length g.shared)
has_place g (places.Cell k f) = is_made g k && is_pointer_field (slice_get g.fields f.0)
has_place g (places.Local t v) = nat_lt v (length (locals_of g t).pointers)

-- the node that it holds
abbrev pub pointer_in : GcState → Place → ℕ
pointer_in g (places.Shared i) = value g (in_shared i)
pointer_in g (places.Cell k f) = entry g (pointer_field f.0) k
pointer_in g (places.Local t v) = value g (in_local t v)

-- the node that a place holds, if there is such a place
abbrev pub node_of : GcState → Place → Option ℕ
node_of g p = if has_place g p then Some (pointer_in g p) else None
