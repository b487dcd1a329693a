-- The truth of clauses in a garbage-collected state, for the thread whose locals they name, or for none.
use Rattle.std.specs.Prelude.{◌≡◌, ℕ, suc, ◌<◌, Bool, true, not, ◌==◌, if◌then◌else◌, List, length, get_or, slice_get}
use Rattle.std.specs.Prelude.{Option, Some, None}
use Rattle.std.specs.List.{list_any}
use Rattle.plc_lang.specs.declared.syntax.Field.{Field}
use Rattle.plc_lang.specs.declared.syntax.Local.{Local}
use Rattle.plc_lang.specs.Numbering.{pointer_number, data_number}
use Rattle.plc_logic.specs.declared.clause.Base.{Base}
use Rattle.plc_logic.specs.declared.clause.Base.TheVariants as bases
use Rattle.plc_logic.specs.declared.clause.Term.{Term}
use Rattle.plc_logic.specs.declared.clause.Term.TheVariants as terms
use Rattle.plc_logic.specs.declared.clause.Literal.{Literal}
use Rattle.plc_logic.specs.declared.clause.Clause.{Clause}
use Rattle.plc_logic.specs.Negation.{Atom, AreEqual, IsRetired, IsMarked, atom_of, affirms}
use Rattle.plc_gc.specs.declared.slot.Slot.TheVariants.{Shared as in_shared, Local as in_local, Data as in_data}
use Rattle.plc_gc.specs.declared.slot.Slot.TheVariants.{SharedMark as shared_mark, LocalMark as local_mark}
use Rattle.plc_gc.specs.declared.slot.Map.{Map}
use Rattle.plc_gc.specs.declared.slot.Map.TheVariants.{Pointer as pointer_field, Number as data_field}
use Rattle.plc_gc.specs.declared.slot.Map.TheVariants.{Auxiliary as auxiliary_field, Mark as mark_field}
use Rattle.plc_gc.specs.State.{GcState, is_retired, value, entry, count, locals_of}

-- the value of a local of thread t by its number i among all locals that are declared; 0 where there is none
abbrev pub declared_value : GcState → ℕ → List Local → ℕ → Option Local → ℕ
declared_value g t ls i None = 0
declared_value g t ls i (Some l) =
    if l.pointer then value g (in_local t (pointer_number ls i)) else value g (in_data t (data_number ls i))

-- the value of a local of the thread for which a clause is asked, 0 where there is no thread
abbrev pub local_value : GcState → Option ℕ → ℕ → ℕ
local_value g None i = 0
local_value g (Some t) i = declared_value g t (locals_of g t).declared i (slice_get (locals_of g t).declared i)

-- the number by which auxiliary fields name a thread, 0 for none
abbrev pub thread_number : Option ℕ → ℕ
thread_number None = 0
thread_number (Some t) = suc t

-- the map of a field as it is declared
abbrev pub declared_map : ℕ → Option Field → Map
declared_map f None = data_field f
declared_map f (Some d) = if d.pointer then pointer_field f else data_field f

-- the map of a field by its number
abbrev pub field_map : GcState → ℕ → Map
field_map g f = declared_map f (slice_get g.fields f)

-- the node that a name stands for; b binds the quantified names
abbrev pub base_node : GcState → Option ℕ → (ℕ → ℕ) → Base → ℕ
base_node g t b (bases.Shared i) = value g (in_shared i)
base_node g t b (bases.Local i) = local_value g t i
base_node g t b (bases.Bound i) = b i

-- the value of a term
abbrev pub term_value : GcState → Option ℕ → (ℕ → ℕ) → Term → ℕ
term_value g t b (terms.Shared i) = value g (in_shared i)
term_value g t b (terms.Local i) = local_value g t i
term_value g t b (terms.Bound i) = b i
term_value g t b (terms.FieldOf x f) = entry g (field_map g f.0) (base_node g t b x)
term_value g t b (terms.GhostOf x h) = entry g (auxiliary_field h) (base_node g t b x)
term_value g t b terms.Null = 0
term_value g t b (terms.Number n) = n
term_value g t b (terms.Value h v) = v
term_value g t b terms.Me = thread_number t
term_value g t b terms.Nobody = 0

-- the mark of a pointer local of thread t by its number i among all locals; 0 where there is none
abbrev pub declared_mark : GcState → ℕ → List Local → ℕ → Option Local → ℕ
declared_mark g t ls i None = 0
declared_mark g t ls i (Some l) = if l.pointer then value g (local_mark t (pointer_number ls i)) else 0

-- that of a local of the thread for which a clause is asked, 0 where there is no thread
abbrev pub local_mark_value : GcState → Option ℕ → ℕ → ℕ
local_mark_value g None i = 0
local_mark_value g (Some t) i = declared_mark g t (locals_of g t).declared i (slice_get (locals_of g t).declared i)

-- the mark of a place of a pointer; no other term has one
abbrev pub term_mark : GcState → Option ℕ → (ℕ → ℕ) → Term → ℕ
term_mark g t b (terms.Shared i) = value g (shared_mark i)
term_mark g t b (terms.Local i) = local_mark_value g t i
term_mark g t b (terms.Bound i) = 0
term_mark g t b (terms.FieldOf x f) = entry g (mark_field f.0) (base_node g t b x)
term_mark g t b (terms.GhostOf x h) = 0
term_mark g t b terms.Null = 0
term_mark g t b (terms.Number n) = 0
term_mark g t b (terms.Value h v) = 0
term_mark g t b terms.Me = 0
term_mark g t b terms.Nobody = 0

-- what a literal is about is so
abbrev pub atom_holds : GcState → Option ℕ → (ℕ → ℕ) → Atom → Bool
atom_holds g t b (AreEqual x y) = term_value g t b x == term_value g t b y
atom_holds g t b (IsRetired x) = is_retired g (base_node g t b x)
atom_holds g t b (IsMarked x) = term_mark g t b x == 1

-- a literal is true where it affirms what is so, or denies what isn't
abbrev pub literal_holds : GcState → Option ℕ → (ℕ → ℕ) → Literal → Bool
literal_holds g t b l = if affirms l then atom_holds g t b (atom_of l) else not (atom_holds g t b (atom_of l))

-- a clause at one binding: some literal is true
abbrev pub holds_at : GcState → Option ℕ → (ℕ → ℕ) → Clause → Bool
holds_at g t b c = list_any (literal_holds g t b) c.literals

-- the nodes of a list as a binding
abbrev pub bound_to : List ℕ → ℕ → ℕ
bound_to nodes i = get_or nodes i 0

-- each of the first n names is bound to a node that isn't null
abbrev pub AreNodes : GcState → ℕ → (ℕ → ℕ) → Type 0
AreNodes g n b = (i : ℕ) → i < n → (0 < b i) × (b i < count g)

-- a clause is true: at each binding of its quantified names to nodes that were made
abbrev pub Holds : GcState → Option ℕ → Clause → Type 0
Holds g t c = (b : ℕ → ℕ) → AreNodes g (length c.bound.names) b → holds_at g t b c ≡ true
