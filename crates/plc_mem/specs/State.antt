-- A state of memory: what shared pointers, locals and fields hold, and which addresses are used and retired.
use Rattle.std.specs.Prelude.{ℕ, Bool, true, false, not, ◌&&◌, ◌==◌, nat_lt, if◌then◌else◌, List, [], ◌∷◌, ◌++◌, length}
use Rattle.std.specs.Prelude.{get_or, map, filter, replicate, Option, Some, None}
use Rattle.std.specs.List.{list_any}
use Rattle.std.specs.Option.{unwrap_or}
use Rattle.plc_base.specs.Tables.{put_at}
use Rattle.plc_lang.specs.declared.syntax.Var.{Var}
use Rattle.plc_lang.specs.declared.syntax.Var.TheVariants.{Shared, Local}
use Rattle.plc_lang.specs.declared.syntax.Num.{Num}
use Rattle.plc_lang.specs.declared.syntax.Num.TheVariants.{Lit, Local as DataLocal}
use Rattle.plc_lang.specs.declared.syntax.Op.{Op}
use Rattle.plc_lang.specs.Fields.{is_pointer_field}
use Rattle.plc_lang.specs.Locals.{starting_pointers, starting_values}
use Rattle.plc_flow.specs.declared.flow.Flow.{Flow}
use Rattle.plc_base.specs.Booleans.{same_bool}
use Rattle.plc_moves.specs.declared.words.Place.{Place as NamedPlace}
use Rattle.plc_moves.specs.declared.words.Place.TheVariants as named
use Rattle.plc_mem.specs.declared.cell.Cell.{Cell}

-- the node at a used address: a cell and a number for each field, of which a pointer field has the cell and a data
-- field the number
pub record Node : Type 0 where
  pub address : ℕ
  pub cells : List Cell
  pub values : List ℕ

-- the locals of a thread that is in an operation
pub record Locals : Type 0 where
  pub pointers : List Cell
  pub values : List ℕ

-- nodes are listed for the used addresses; locals for the threads, None for an idle one; of each field it is known
-- whether it is a pointer field
pub record State : Type 0 where
  pub fields : List Bool
  pub shared : List Cell
  pub locals : List (Option Locals)
  pub nodes : List Node
  pub retired : List ℕ

-- where a pointer stands
pub data Place : Type 0 where
  at_shared : ℕ → Place
  at_local : ℕ → ℕ → Place
  at_field : ℕ → ℕ → Place

-- null as a primitive gives it: valid, as null always is, and unmarked
abbrev pub null_cell : Cell
null_cell = record { number = 0; mark = false; valid = true }

-- a pointer to an address that was just allocated, unmarked
abbrev pub fresh_cell : ℕ → Cell
fresh_cell a = record { number = a; mark = false; valid = true }

-- the same pointer with this mark
abbrev pub marked_cell : Bool → Cell → Cell
marked_cell m c = record c { mark = m }

-- the cell holds null
abbrev pub is_null : Cell → Bool
is_null c = c.number == 0

-- two cells hold the same number and the same mark
abbrev pub same_pointer : Cell → Cell → Bool
same_pointer c d = (c.number == d.number) && same_bool c.mark d.mark

-- what an idle thread has
abbrev pub no_locals : Locals
no_locals = record { pointers = []; values = [] }

-- the locals of thread t, none for an idle one
unfoldable pub locals_of : State → ℕ → Locals
locals_of s t = unwrap_or (get_or s.locals t None) no_locals

-- the state with the locals of thread t put in
unfoldable pub with_locals : State → ℕ → Option Locals → State
with_locals s t l = record s { locals = put_at None s.locals t l }

-- a node without fields
abbrev pub empty_node : ℕ → Node
empty_node a = record { address = a; cells = []; values = [] }

-- the node of an address
abbrev pub node_of : List Node → ℕ → Node
node_of [] a = empty_node a
node_of (n ∷ ns) a = if n.address == a then n else node_of ns a

-- the nodes with one of them put in
abbrev pub put_node : List Node → ℕ → Node → List Node
put_node [] a m = []
put_node (n ∷ ns) a m = if n.address == a then m ∷ ns else n ∷ put_node ns a m

-- the used and the retired addresses
unfoldable pub is_used : State → ℕ → Bool
is_used s a = list_any (λ n. n.address == a) s.nodes

-- the address was handed to the reclaimer
unfoldable pub is_retired : State → ℕ → Bool
is_retired s a = list_any (λ x. x == a) s.retired

-- what a place holds; a field of an unused address is a valid null, which no run comes to see
unfoldable pub at : State → Place → Cell
unfolding locals_of
at s (at_shared i) = get_or s.shared i null_cell
at s (at_local t v) = get_or (locals_of s t).pointers v null_cell
at s (at_field a f) = get_or (node_of s.nodes a).cells f null_cell

-- the state with a cell put into a place
unfoldable pub put : State → Place → Cell → State
unfolding locals_of with_locals
put s (at_shared i) c = record s { shared = put_at null_cell s.shared i c }
put s (at_local t v) c =
    with_locals s t (Some (record (locals_of s t) { pointers = put_at null_cell (locals_of s t).pointers v c }))
put s (at_field a f) c = record s {
  nodes = put_node s.nodes a (record (node_of s.nodes a) { cells = put_at null_cell (node_of s.nodes a).cells f c });
}

-- data: a local of thread t, a field of a node
unfoldable pub value_at : State → ℕ → ℕ → ℕ
unfolding locals_of
value_at s t x = get_or (locals_of s t).values x 0

-- the state with a number put into a data local
unfoldable pub put_value : State → ℕ → ℕ → ℕ → State
unfolding locals_of with_locals
put_value s t x n = with_locals s t (Some (record (locals_of s t) { values = put_at 0 (locals_of s t).values x n }))

-- what a data field holds
unfoldable pub field_value : State → ℕ → ℕ → ℕ
field_value s a f = get_or (node_of s.nodes a).values f 0

-- the state with a number put into a data field
unfoldable pub put_field_value : State → ℕ → ℕ → ℕ → State
put_field_value s a f n = record s {
  nodes = put_node s.nodes a (record (node_of s.nodes a) { values = put_at 0 (node_of s.nodes a).values f n });
}

-- the place of a variable for thread t
abbrev pub place : ℕ → Var → Place
place t (Shared i) = at_shared i
place t (Local v) = at_local t v

-- the number that is put into data
abbrev pub number_of : State → ℕ → Num → ℕ
number_of s t (Lit n) = n
number_of s t (DataLocal x) = value_at s t x

-- a node that was just allocated: pointer fields null, data fields 0
abbrev pub fresh_node : ℕ → ℕ → Node
fresh_node fields a = record { address = a; cells = replicate fields null_cell; values = replicate fields 0 }

-- the state with a fresh node
unfoldable pub with_node : State → ℕ → State
with_node s a = record s { nodes = s.nodes ++ fresh_node (length s.fields) a ∷ [] }

-- the state in which the address was handed to the reclaimer too
unfoldable pub with_retired : State → ℕ → State
with_retired s a = record s { retired = s.retired ++ a ∷ [] }

-- a free of a: the address is neither used nor retired any more, and every place that holds it is invalid
abbrev pub cut : ℕ → Cell → Cell
cut a c = record c { valid = c.valid && not (c.number == a) }

-- a node whose cells of the address became invalid
abbrev pub cut_node : ℕ → Node → Node
cut_node a n = record n { cells = map (cut a) n.cells }

-- locals whose cells of the address became invalid
abbrev pub cut_locals : ℕ → Option Locals → Option Locals
cut_locals a None = None
cut_locals a (Some l) = Some (record l { pointers = map (cut a) l.pointers })

-- the state after a free
unfoldable pub freed : State → ℕ → State
freed s a = record s {
  shared = map (cut a) s.shared;
  locals = map (cut_locals a) s.locals;
  nodes = map (cut_node a) (filter (λ n. not (n.address == a)) s.nodes);
  retired = filter (λ x. not (x == a)) s.retired;
}

-- nothing used, shared pointers null, every thread idle
abbrev pub fresh_state : List Bool → ℕ → ℕ → State
fresh_state fields shared threads = record {
  fields = fields;
  shared = replicate shared null_cell;
  locals = replicate threads None;
  nodes = [];
  retired = [];
}

-- the memory of a flow before its `init`
abbrev pub first_state : Flow → ℕ → State
first_state flow threads = fresh_state (map is_pointer_field flow.file.fields) (length flow.file.shared) threads

-- the locals with which a thread starts this operation
abbrev pub starting : Op → List ℕ → Locals
starting o args = record { pointers = starting_pointers null_cell o; values = starting_values o args }

-- a pointer place that there is: a shared pointer, a pointer local of a busy thread, a pointer field of a used address
unfoldable pub has_place : State → Place → Bool
unfolding locals_of is_used
has_place s (at_shared i) = nat_lt i (length s.shared)
has_place s (at_local t v) = nat_lt v (length (locals_of s t).pointers)
has_place s (at_field a f) = is_used s a && get_or s.fields f false

-- what a pointer place holds, if there is such a place
abbrev pub cell_of : State → Place → Option Cell
cell_of s p = if has_place s p then Some (at s p) else None

-- the number of a pointer place, if there is such a place
abbrev pub number_at : State → Place → Option ℕ
number_at s p = if has_place s p then Some (at s p).number else None

-- there is such a place, and it is valid
abbrev pub valid_at : State → Place → Bool
valid_at s p = has_place s p && (at s p).valid

-- the place that the program names
abbrev pub place_of : NamedPlace → Place
place_of (named.Shared i) = at_shared i
place_of (named.Cell a f) = at_field a f.0
place_of (named.Local t v) = at_local t v
