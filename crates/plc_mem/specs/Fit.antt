-- Which states the code keeps, and which locals and primitives fit them.
use Rattle.std.specs.Prelude.{◌≡◌, ℕ, ◌<◌, List, [], ◌∷◌, length}
use Rattle.plc_base.specs.Tables.{put_at}
use Rattle.plc_lang.specs.Shape.{Shape}
use Rattle.plc_mem.specs.declared.node.Entry.{Entry}
use Rattle.plc_mem.specs.declared.node.Entry.TheVariants.{Pointer, Number}
use Rattle.plc_mem.specs.State.{State, Node, Locals, null_cell, node_of, put_node}

-- each node has a cell and a number for each field
abbrev pub NodesFit : ℕ → List Node → Type 0
NodesFit fields [] = Unit {0}
NodesFit fields (n ∷ ns) = (length n.cells ≡ fields) × (length n.values ≡ fields) × NodesFit fields ns

-- a node has a cell and a number for this field
abbrev pub FieldIn : Node → ℕ → Type 0
FieldIn n f = (f < length n.cells) × (f < length n.values)

-- the node with an entry put into a field
abbrev pub node_with : Node → ℕ → Entry → Node
node_with n f (Pointer c) = record n { cells = put_at null_cell n.cells f c }
node_with n f (Number v) = record n { values = put_at 0 n.values f v }

-- the state with an entry put into a field of the node at an address
abbrev pub with_entry : State → ℕ → ℕ → Entry → State
with_entry s a f e = record s { nodes = put_node s.nodes a (node_with (node_of s.nodes a) f e) }

-- what a thread with these locals may name
abbrev pub shape : State → Locals → Shape
shape s l = record {
  shared = length s.shared;
  pointers = length l.pointers;
  values = length l.values;
  fields = length s.fields;
}

-- what no primitive changes: the locals of the other threads, the kinds of the fields, and what may be named
pub record Kept (s : State) (l : Locals) (new : State) (m : Locals) : Type 0 where
  pub locals : new.locals ≡ s.locals
  pub fields : new.fields ≡ s.fields
  pub shape : shape new m ≡ shape s l
