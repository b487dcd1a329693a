-- What names are in the clauses of an outline. Locals of an operation have one numbering here; all names of the file
-- keep what they stand for.
use Rattle.std.specs.Prelude.{ℕ, Bool, true, false, List, Option, Some, None, option_and_then, Result}
use Rattle.plc_base.specs.Names.{NameList, place_of}
use Rattle.plc_lang.specs.declared.syntax.Local.{Local}
use Rattle.plc_syntax.specs.Trees.{Text, Placed}
use Rattle.plc_scope.specs.declared.fault.ParseFault.{ParseFault}
use Rattle.plc_scope.specs.declared.scope.Scope.{Scope}
use Rattle.plc_scope.specs.declared.binding.Binding.{Binding}
use Rattle.plc_scope.specs.declared.binding.Binding.TheVariants as bindings
use Rattle.plc_scope.specs.declared.binding.Found.{Found}
use Rattle.plc_scope.specs.declared.binding.Found.TheVariants.{Local as LocalAt, OfFile}
use Rattle.plc_scope.specs.Scope.{known, needed, found}
use Rattle.plc_logic.specs.declared.clause.Base.{Base}
use Rattle.plc_logic.specs.declared.clause.Base.TheVariants as bases
use Rattle.plc_logic.specs.declared.clause.Term.{Term}
use Rattle.plc_logic.specs.declared.clause.Term.TheVariants as terms
use Rattle.plc_logic.specs.declared.clause.Sort.{Sort}
use Rattle.plc_logic.specs.declared.clause.Sort.TheVariants as sorts
use Rattle.plc_outparse.specs.declared.kind.Kind.{Kind}
use Rattle.plc_outparse.specs.declared.kind.Kind.TheVariants as kinds

-- the names of the file, the locals in reach, whether a thread is in an operation, and the quantified names
pub record Reach : Type 0 where
  pub scope : Scope
  pub locals : List Local
  pub in_operation : Bool
  pub bound : NameList

-- the sort of what an auxiliary field holds, by whether it holds threads
abbrev pub auxiliary_sort : ℕ → Bool → Sort
auxiliary_sort g true = sorts.Thread
auxiliary_sort g false = sorts.Value g

-- what a name of the file is; functions, operations, labels and the struct have no value
abbrev pub binding_kind : Binding → Option Kind
binding_kind bindings.Taken = Some kinds.NoValue
binding_kind (bindings.Shared k) = Some (kinds.Node (bases.Shared k))
binding_kind (bindings.PointerField f) = Some (kinds.Field f sorts.Node)
binding_kind (bindings.DataField f) = Some (kinds.Field f sorts.Number)
binding_kind (bindings.Function f p) = Some kinds.NoValue
binding_kind (bindings.Auxiliary g t) = Some (kinds.Auxiliary g (auxiliary_sort g t))
binding_kind (bindings.Value g v) = Some (kinds.Value g v)
binding_kind bindings.LocalOnly = None

-- what a local is, by its number
abbrev pub local_kind : ℕ → Bool → Kind
local_kind i true = kinds.Node (bases.Local i)
local_kind i false = kinds.Data i

-- what is found, to a clause
abbrev pub kind_found : Found → Option Kind
kind_found (LocalAt i is_pointer) = Some (local_kind i is_pointer)
kind_found (OfFile binding) = binding_kind binding

-- what a name is that isn't quantified; None where it has no declaration in reach, as a local of another operation
unfoldable pub declared_kind : Scope → List Local → Text → Option Kind
declared_kind s ls name = option_and_then kind_found (found s ls name)

-- a quantified name is a node
abbrev pub kind_or_bound : Option ℕ → Option Kind → Option Kind
kind_or_bound (Some i) k = Some (kinds.Node (bases.Bound i))
kind_or_bound None k = k

-- what a name is in a clause
unfoldable pub kind_of : Reach → Text → Option Kind
kind_of r name = kind_or_bound (place_of name r.bound.names) (declared_kind r.scope r.locals name)

-- what a field may be asked of: a shared pointer, a pointer local, a quantified name
abbrev pub as_base : Kind → Option Base
as_base (kinds.Node b) = Some b
as_base _ = None

-- what a name is in a clause, told at the name
abbrev pub kind_at : Reach → Placed Text → Result Kind ParseFault
kind_at r n = known n.at (kind_of r n.value)

-- the base that a name is
unfoldable pub base_at : Reach → Placed Text → Result Base ParseFault
base_at r n = needed as_base n.at (kind_of r n.value)

-- a base alone is a term
abbrev pub base_term : Base → Term
base_term (bases.Shared i) = terms.Shared i
base_term (bases.Local i) = terms.Local i
base_term (bases.Bound i) = terms.Bound i

-- the term that a name alone is, with its sort
abbrev pub as_term : Kind → Option (Term × Sort)
as_term (kinds.Node b) = Some (base_term b, sorts.Node)
as_term (kinds.Data i) = Some (terms.Local i, sorts.Number)
as_term (kinds.Value g v) = Some (terms.Value g v, sorts.Value g)
as_term _ = None

-- the place of a pointer that a base alone is; a quantified name is a node, and no place of one
abbrev pub base_pointer : Base → Option Term
base_pointer (bases.Shared i) = Some (terms.Shared i)
base_pointer (bases.Local i) = Some (terms.Local i)
base_pointer (bases.Bound i) = None

-- the place of a pointer that a name alone is
abbrev pub as_pointer : Kind → Option Term
as_pointer k = option_and_then base_pointer (as_base k)

-- the term that a name is after a base and a dot, with its sort
abbrev pub as_field : Base → Kind → Option (Term × Sort)
as_field b (kinds.Field f s) = Some (terms.FieldOf b f, s)
as_field b (kinds.Auxiliary g s) = Some (terms.GhostOf b g, s)
as_field b _ = None

-- the place of a pointer that a name is after a base and a dot
abbrev pub as_pointer_field : Base → Kind → Option Term
as_pointer_field b (kinds.Field f sorts.Node) = Some (terms.FieldOf b f)
as_pointer_field b _ = None
