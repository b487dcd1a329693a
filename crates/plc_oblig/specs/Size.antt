-- How many clauses each part of a ground set has.
use Rattle.std.specs.Prelude.{◌≡◌, ◌≤◌, ◌==◌, ℕ, ◌+◌, ◌*◌, ◌^◌}
use Rattle.std.specs.Prelude.{Bool, true, false, not, List, length, count_by}
use Rattle.plc_base.specs.Limits.{most, most_bound}
use Rattle.plc_base.specs.declared.limits.What1.TheVariants as limits
use Rattle.plc_base.specs.Functions.{is_retire}
use Rattle.plc_lang.specs.declared.syntax.Arg.{Arg}
use Rattle.plc_lang.specs.declared.syntax.Arg.TheVariants as args
use Rattle.plc_lang.specs.declared.syntax.Ghost.{Ghost as AuxiliaryField}
use Rattle.plc_lang.specs.declared.syntax.Local.{Local}
use Rattle.plc_lang.specs.declared.syntax.Rel.{Rel}
use Rattle.plc_lang.specs.declared.syntax.Rel.TheVariants as rels
use Rattle.plc_lang.specs.declared.syntax.Primitive.{Primitive}
use Rattle.plc_lang.specs.declared.syntax.Primitive.TheVariants.{Null, Copy, New, Load, Store, StoreNull, DataSet}
use Rattle.plc_lang.specs.declared.syntax.Primitive.TheVariants.{DataLoad, DataStore, Eq, Ne, IsNull, NotNull, DataTest}
use Rattle.plc_lang.specs.declared.syntax.Primitive.TheVariants.{Refresh, RefreshLoad, RefreshStore, Mark, Unmark}
use Rattle.plc_lang.specs.declared.syntax.Primitive.TheVariants.{MarkTest, Call, Done, Active, Ghost}
use Rattle.plc_lang.specs.Locals.{is_pointer}
use Rattle.plc_flow.specs.WellFormed.{most_step_primitives}
use Rattle.plc_logic.specs.declared.clause.Clause.{Clause}
use Rattle.plc_vocabulary.specs.declared.setting.Setting.{Setting}
use Rattle.plc_oblig.specs.declared.size.Sizes.{Sizes}

-- an auxiliary field that has values; the others hold threads
abbrev pub has_values : AuxiliaryField → Bool
has_values g = not (length g.values == 0)

-- how many locals are pointers
abbrev pub pointer_count : List Local → ℕ
pointer_count locals = count_by is_pointer locals

-- a primitive that reads a node from a field; a row of a load that is missing is refused, since the pointers that a
-- setting says are read are as many as these primitives
abbrev pub is_pointer_load : Primitive → Bool
is_pointer_load (Load p q f) = true
is_pointer_load (RefreshLoad p q f) = true
is_pointer_load k = false

-- ---- what a set rests on

-- these are the sizes of what a set rests on
pub record AreSizesOf (s : Setting) (z : Sizes) : Type 0 where
  pub mine : z.mine ≡ length s.mine.pointers
  pub pointers : z.pointers ≡ length s.pointers
  pub fields : z.fields ≡ length s.fields
  pub bound : z.bound ≡ s.bound
  pub made : z.made ≡ s.makes
  pub nodes : z.nodes ≡ length s.nodes
  pub instances : z.instances ≡ length s.instances
  pub marked : z.marked ≡ s.marked
  pub marks : z.marks ≡ length s.marks

-- the pointer variables of two threads
abbrev pub most_pointers : ℕ
most_pointers = most limits.Shared + 2 * most limits.Locals

-- the constants that are nodes: these variables, the names of a clause, what is read, null and the new node
abbrev pub most_constants : ℕ
most_constants = most_pointers + most_bound + most_step_primitives + 2

-- the nodes that only deep premises have: the pointer fields of these constants
abbrev pub most_deep_nodes : ℕ
most_deep_nodes = most_constants * most limits.Fields

-- both together
abbrev pub most_nodes : ℕ
most_nodes = most_constants + most_deep_nodes

-- the limits allow no more
pub record AreFew (z : Sizes) : Type 0 where
  pub mine : z.mine ≤ most limits.Locals
  pub pointers : z.pointers ≤ most_pointers
  pub fields : z.fields ≤ most limits.Fields
  pub bound : z.bound ≤ most_bound
  pub nodes : z.nodes ≤ most_nodes
  pub instances : z.instances ≤ most_nodes
  pub marks : z.marks ≤ most_constants

-- ---- items

-- of a test of numbers: only equations and inequations are written
abbrev pub test_size : Rel → ℕ
test_size rels.Eq = 1
test_size rels.Ne = 1
test_size rels.Lt = 0
test_size rels.Ge = 0

-- of a call, where there are so many nodes: whether it is one of `retire`, and what it hands over
abbrev pub call_size : ℕ → Bool → Arg → ℕ
call_size nodes true (args.Var p) = 1 + 2 * nodes
call_size nodes true args.Null = 0
call_size nodes true args.None = 0
call_size nodes false a = 0

-- of what is said of marks beside the rest: nothing where no marks are used
abbrev pub if_marked : Bool → ℕ → ℕ
if_marked true n = n
if_marked false n = 0

-- of a store of a pointer, where there are so many nodes: of the field, and of the marks in it
abbrev pub store_size : Bool → ℕ → ℕ
store_size marked nodes = 1 + 2 * nodes + if_marked marked (2 * nodes)

-- of a primitive, where it is known whether marks are used and how many nodes there are
abbrev pub prim_size : Bool → ℕ → Primitive → ℕ
prim_size marked nodes (Null p) = 0
prim_size marked nodes (Copy p q) = 0
prim_size marked nodes (New p) = 0
prim_size marked nodes (Load p q f) = 2 + if_marked marked 1
prim_size marked nodes (Store p f q) = store_size marked nodes
prim_size marked nodes (StoreNull p f) = store_size marked nodes
prim_size marked nodes (DataSet x e) = 0
prim_size marked nodes (DataLoad x q f) = 2
prim_size marked nodes (DataStore p f e) = 1 + 2 * nodes
prim_size marked nodes (Eq p q) = 1 + if_marked marked 1
prim_size marked nodes (Ne p q) = 1
prim_size marked nodes (IsNull p) = 1
prim_size marked nodes (NotNull p) = 1
prim_size marked nodes (DataTest r x e) = test_size r
prim_size marked nodes (Refresh p q) = 0
prim_size marked nodes (RefreshLoad p q f) = 2 + if_marked marked 1
prim_size marked nodes (RefreshStore p f q) = store_size marked nodes
prim_size marked nodes (Mark p q) = 0
prim_size marked nodes (Unmark p q) = 0
prim_size marked nodes (MarkTest p m) = if_marked marked 1
prim_size marked nodes (Call f a) = call_size nodes (is_retire f) a
prim_size marked nodes (Done f) = 0
prim_size marked nodes (Active p) = 0
prim_size marked nodes (Ghost p g e) = 2 * nodes

-- no primitive gives more
abbrev pub most_of_primitive : ℕ
most_of_primitive = 1 + 4 * most_nodes

-- of the instances of a clause, where its names stand for so many nodes
abbrev pub clause_size : ℕ → Clause → ℕ
clause_size instances c = instances ^ length c.bound.names

-- no clause gives more
abbrev pub most_instances : ℕ
most_instances = most_nodes * most_nodes
