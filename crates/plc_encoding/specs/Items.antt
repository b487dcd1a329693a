-- The clauses of a ground set over symbolic terms, item by item.
use Rattle.std.specs.Prelude.{ℕ, zero, suc, ◌+◌, ◌==◌, Bool, true, false, if◌then◌else◌, Option, Some, None}
use Rattle.std.specs.Prelude.{List, [], ◌∷◌, ◌++◌, length, map, flat_map, slice_index_or}
use Rattle.std.specs.List.{range_with_len}
use Rattle.plc_base.specs.declared.ids.FieldId.{FieldId}
use Rattle.plc_lang.specs.declared.syntax.Field.{Field}
use Rattle.plc_lang.specs.declared.syntax.Ghost.{Ghost}
use Rattle.plc_lang.specs.declared.syntax.Local.{Local}
use Rattle.plc_lang.specs.declared.syntax.Primitive.{Primitive}
use Rattle.plc_lang.specs.declared.syntax.Primitive.TheVariants as prims
use Rattle.plc_lang.specs.declared.syntax.File.{File}
use Rattle.plc_lang.specs.Locals.{is_other_data}
use Rattle.plc_lang.specs.Numbering.{places_from, value_number}
use Rattle.plc_flow.specs.declared.flow.Flow.{Flow}
use Rattle.plc_logic.specs.declared.clause.Base.{Base}
use Rattle.plc_logic.specs.declared.clause.Base.TheVariants as bases
use Rattle.plc_logic.specs.declared.clause.Clause.{Clause}
use Rattle.plc_logic.specs.declared.clause.Literal.{Literal}
use Rattle.plc_logic.specs.declared.clause.Literal.TheVariants as literals
use Rattle.plc_logic.specs.declared.clause.Term.{Term}
use Rattle.plc_logic.specs.declared.clause.Term.TheVariants as terms
use Rattle.plc_logic.specs.declared.clause.Outline.{Outline}
use Rattle.plc_logic.specs.Negation.{negation}
use Rattle.plc_ground.specs.declared.terms.Symbol.{Symbol}
use Rattle.plc_ground.specs.declared.terms.Symbol.TheVariants as symbols
use Rattle.plc_ground.specs.declared.terms.Map.{Map}
use Rattle.plc_ground.specs.declared.terms.Map.TheVariants as maps
use Rattle.plc_encoding.specs.declared.execution.Execution.{Execution}
use Rattle.plc_vocabulary.specs.declared.obligations.Obligation.{Obligation}
use Rattle.plc_vocabulary.specs.declared.obligations.Obligation.TheVariants.{Start, Enter, Own, Other, Claim}
use Rattle.plc_vocabulary.specs.declared.setting.Setting.{Setting}
use Rattle.plc_symbolic.specs.declared.symbolic.NodeTerm.{NodeTerm}
use Rattle.plc_symbolic.specs.declared.symbolic.NodeTerm.TheVariants.{At}
use Rattle.plc_symbolic.specs.declared.symbolic.SymbolicTerm.{SymbolicTerm}
use Rattle.plc_symbolic.specs.declared.symbolic.SymbolicTerm.TheVariants.{Constant, Application}
use Rattle.plc_symbolic.specs.declared.symbolic.SymbolicLit.{SymbolicLit}
use Rattle.plc_vocabulary.specs.Acts.{pointer_symbol, mark_of}
use Rattle.plc_encoding.specs.Execution.{start, current, held, map_now, after_all, not_null, executed_clauses}
use Rattle.plc_vocabulary.specs.Setting.{below, only_if, local_symbol}
use Rattle.plc_vocabulary.specs.Parts.{acting_locals, acting_premises, owner_premises, conclusion, claim_made}
use Rattle.plc_symbolic.specs.Terms.{Clauses, term_of, is, is_not, null, new_node}

-- ---- values: each node has one of the values of each enumerated auxiliary field

-- the node has one of n values of field g, which are numbered over the file from first on
abbrev pub one_of_values : ℕ → ℕ → ℕ → NodeTerm → List SymbolicLit
one_of_values g first n t =
    map (λ v. is (Application (maps.Ghost g) 0 t) (Constant (symbols.Value v))) (range_with_len first n)

abbrev pub field_values : ℕ → ℕ → ℕ → List NodeTerm → Clauses
field_values g first n ts = if n == 0 then [] else map (one_of_values g first n) ts

-- the fields from number g on, whose values are numbered from first on
abbrev pub values_from : ℕ → ℕ → List Ghost → List NodeTerm → Clauses
values_from g first [] ts = []
values_from g first (h ∷ hs) ts =
    field_values g first (length h.values) ts ++ values_from (g + 1) (first + length h.values) hs ts

-- ---- marks: each is set or isn't

abbrev pub set_or_not : SymbolicTerm → List SymbolicLit
set_or_not m = is m (Constant symbols.Yes) ∷ is m (Constant symbols.No) ∷ []

abbrev pub field_marks : List NodeTerm → FieldId → Clauses
field_marks ts f = map (λ t. set_or_not (Application (maps.FieldMark f) 0 t)) ts

-- the marks of pointers, then that in each pointer field of each node
abbrev pub mark_values : Setting → Clauses
mark_values s =
    only_if s.marked (map (λ m. set_or_not (Constant m)) s.marks ++ flat_map (field_marks s.nodes) s.fields)

-- ---- the beginning of the file and of operations

abbrev pub equals : Symbol → Symbol → List SymbolicLit
equals a b = is (Constant a) (Constant b) ∷ []

abbrev pub unmarked : Symbol → List SymbolicLit
unmarked p = equals (mark_of p) symbols.No

-- the only node of which a conclusion may speak is the new one, if there is one
abbrev pub only_new : Bool → Symbol → List SymbolicLit
only_new true c = equals c symbols.New
only_new false c = []

abbrev pub start_clauses : ℕ → Setting → Clauses
start_clauses shared s =
    map (λ i. equals (symbols.Shared i) symbols.Null) (below shared)
    ++ (map (λ i. only_new s.makes (symbols.Bound i)) (below s.bound)
    ++ only_if s.marked (map (λ i. unmarked (symbols.Shared i)) (below shared)))

-- pointer locals are null, data locals that are no parameters are 0, and no pointer local is marked
abbrev pub enter_clauses : List Local → Setting → Clauses
enter_clauses ls s =
    map (λ p. equals p symbols.Null) s.mine.pointers
    ++ (map (λ k. equals (symbols.Mine k) (symbols.Number 0)) (places_from is_other_data 0 ls)
    ++ only_if s.marked (map unmarked s.mine.pointers))

abbrev pub beginning : Flow → Setting → Obligation → Clauses
beginning flow s (Start i) = start_clauses (length flow.file.shared) s
beginning flow s (Enter o c) = enter_clauses (acting_locals flow (Enter o c)) s
beginning flow s (Own k c) = []
beginning flow s (Other k p c) = []
beginning flow s (Claim k j) = []

-- ---- the new node: nothing leads to it before, and it holds defaults

abbrev pub is_other : SymbolicTerm → List SymbolicLit
is_other t = is_not new_node t ∷ []

abbrev pub default_is : Map → Symbol → List SymbolicLit
default_is m s = is (Application m 0 (At symbols.New)) (Constant s) ∷ []

abbrev pub field_default : Bool → Symbol
field_default true = symbols.Null
field_default false = symbols.Number 0

-- the fields from number k on
abbrev pub field_defaults_from : ℕ → List Field → Clauses
field_defaults_from k [] = []
field_defaults_from k (f ∷ fs) =
    default_is (maps.Field (record { 0 = k })) (field_default f.pointer) ∷ field_defaults_from (k + 1) fs

-- the first of n values, which are numbered from first on; none where the field holds threads
abbrev pub ghost_default : ℕ → ℕ → Symbol
ghost_default first n = if n == 0 then symbols.Nobody else symbols.Value first

-- the auxiliary fields from number g on, whose values are numbered from first on
abbrev pub ghost_defaults_from : ℕ → ℕ → List Ghost → Clauses
ghost_defaults_from g first [] = []
ghost_defaults_from g first (h ∷ hs) =
    default_is (maps.Ghost g) (ghost_default first (length h.values))
    ∷ ghost_defaults_from (g + 1) (first + length h.values) hs

abbrev pub no_field_leads : List FieldId → NodeTerm → Clauses
no_field_leads fs t = map (λ f. is_other (Application (maps.Field f) 0 t)) fs

abbrev pub unretired : Clauses
unretired = (is_not (Application maps.Retired 0 (At symbols.New)) (Constant symbols.Yes) ∷ []) ∷ []

abbrev pub unmarked_field : FieldId → List SymbolicLit
unmarked_field f = default_is (maps.FieldMark f) symbols.No

abbrev pub freshness : File → Setting → Clauses
freshness file s = only_if s.makes
    (is_other null ∷ (map (λ p. is_other (Constant p)) s.pointers
    ++ (flat_map (no_field_leads s.fields) s.nodes
    ++ (field_defaults_from 0 file.fields
    ++ (ghost_defaults_from 0 0 file.ghosts
    ++ (unretired
    ++ only_if s.marked (map unmarked_field s.fields)))))))

-- ---- clauses of the outline, read for the acting thread or for the owner, with these nodes for the quantified names

-- the node that a name stands for
abbrev pub base_node : Execution → Bool → List NodeTerm → Base → NodeTerm
base_node x owner names (bases.Shared i) = At (current x (symbols.Shared i))
base_node x owner names (bases.Local k) = At (current x (local_symbol owner k))
base_node x owner names (bases.Bound i) = slice_index_or names i (At symbols.Null)

-- `me` of the owner is the other thread
abbrev pub me : Bool → Symbol
me false = symbols.Me
me true = symbols.You

abbrev pub read_term : List Ghost → Execution → Bool → List NodeTerm → Term → SymbolicTerm
read_term ghosts x owner names (terms.Shared i) = term_of (base_node x owner names (bases.Shared i))
read_term ghosts x owner names (terms.Local k) = term_of (base_node x owner names (bases.Local k))
read_term ghosts x owner names (terms.Bound i) = term_of (base_node x owner names (bases.Bound i))
read_term ghosts x owner names (terms.FieldOf b f) = map_now x (maps.Field f) (base_node x owner names b)
read_term ghosts x owner names (terms.GhostOf b g) = map_now x (maps.Ghost g) (base_node x owner names b)
read_term ghosts x owner names terms.Null = null
read_term ghosts x owner names (terms.Number n) = Constant (symbols.Number n)
read_term ghosts x owner names (terms.Value g v) = Constant (symbols.Value (value_number ghosts g v))
read_term ghosts x owner names terms.Me = Constant (me owner)
read_term ghosts x owner names terms.Nobody = Constant symbols.Nobody

-- the mark of a place of a pointer; no other term has one
abbrev pub read_mark : Execution → Bool → List NodeTerm → Term → SymbolicTerm
read_mark x owner names (terms.Shared i) = held x (mark_of (symbols.Shared i))
read_mark x owner names (terms.Local k) = held x (mark_of (local_symbol owner k))
read_mark x owner names (terms.Bound i) = Constant symbols.No
read_mark x owner names (terms.FieldOf b f) = map_now x (maps.FieldMark f) (base_node x owner names b)
read_mark x owner names (terms.GhostOf b g) = Constant symbols.No
read_mark x owner names terms.Null = Constant symbols.No
read_mark x owner names (terms.Number n) = Constant symbols.No
read_mark x owner names (terms.Value g v) = Constant symbols.No
read_mark x owner names terms.Me = Constant symbols.No
read_mark x owner names terms.Nobody = Constant symbols.No

abbrev pub read_literal : List Ghost → Execution → Bool → List NodeTerm → Literal → SymbolicLit
read_literal ghosts x owner names (literals.Same a b equal) =
    record { left = read_term ghosts x owner names a; right = read_term ghosts x owner names b; equal = equal }
read_literal ghosts x owner names (literals.Retired b is_so) =
    record { left = map_now x maps.Retired (base_node x owner names b); right = Constant symbols.Yes; equal = is_so }
read_literal ghosts x owner names (literals.Marked t is_so) =
    record { left = read_mark x owner names t; right = Constant symbols.Yes; equal = is_so }

-- ---- premises: each at all nodes that its names may stand for, the first name slowest

-- the cases in which an instance says nothing: a node is null, or isn't made yet
abbrev pub escapes : Bool → NodeTerm → List SymbolicLit
escapes true t = is (term_of t) null ∷ is (term_of t) new_node ∷ []
escapes false t = is (term_of t) null ∷ []

-- the clause with these nodes for its names, in the state before
abbrev pub instance_at : List Ghost → Bool → Bool → List Literal → List NodeTerm → List SymbolicLit
instance_at ghosts makes owner ls names =
    flat_map (escapes makes) names ++ map (read_literal ghosts start owner names) ls

-- all lists of so many of these nodes
abbrev pub tuples : ℕ → List NodeTerm → List (List NodeTerm)
tuples zero ts = [] ∷ []
tuples (suc n) ts = flat_map (λ t. map (λ rest. t ∷ rest) (tuples n ts)) ts

abbrev pub instances : List Ghost → Setting → Bool → Clause → Clauses
instances ghosts s owner c =
    map (instance_at ghosts s.makes owner c.literals) (tuples (length c.bound.names) s.instances)

abbrev pub premises : Flow → Outline → Setting → Obligation → Clauses
premises flow outline s o =
    flat_map (instances flow.file.ghosts s false) (acting_premises flow outline o)
    ++ flat_map (instances flow.file.ghosts s true) (owner_premises flow outline o)

-- ---- the negated conclusion: its nodes aren't null, and each of its literals is false after

abbrev pub bound_nodes : ℕ → List NodeTerm
bound_nodes n = map (λ i. At (symbols.Bound i)) (below n)

abbrev pub denied_clause : List Ghost → Setting → Execution → Option Clause → Clauses
denied_clause ghosts s x None = []
denied_clause ghosts s x (Some c) =
    map (λ i. is_not (Constant (symbols.Bound i)) null ∷ []) (below (length c.bound.names))
    ++ map (λ l. read_literal ghosts x s.owned (bound_nodes (length c.bound.names)) (negation l) ∷ []) c.literals

-- the claim on p is false: p is a node, and retired
abbrev pub denied_claim : Setting → Execution → Option Primitive → Clauses
denied_claim s x (Some (prims.Active p)) =
    not_null x (pointer_symbol s.mine p)
    ∷ (is (map_now x maps.Retired (At (current x (pointer_symbol s.mine p)))) (Constant symbols.Yes) ∷ [])
    ∷ []
denied_claim s x o = []

abbrev pub denied : Flow → Outline → Setting → Execution → Obligation → Clauses
denied flow outline s x o =
    denied_clause flow.file.ghosts s x (conclusion flow outline o) ++ denied_claim s x (claim_made flow o)

-- ---- the whole

unfoldable pub clauses_of : Flow → Outline → Setting → Obligation → Clauses
clauses_of flow outline s o =
    values_from 0 0 flow.file.ghosts s.nodes
    ++ (mark_values s
    ++ (beginning flow s o
    ++ (freshness flow.file s
    ++ (premises flow outline s o
    ++ (executed_clauses s.nodes start s.acts
    ++ denied flow outline s (after_all start s.acts) o)))))

-- all of it before the negated conclusion
unfoldable pub prefix_of : Flow → Outline → Setting → Obligation → Clauses
prefix_of flow outline s o =
    values_from 0 0 flow.file.ghosts s.nodes
    ++ (mark_values s
    ++ (beginning flow s o
    ++ (freshness flow.file s
    ++ (premises flow outline s o
    ++ executed_clauses s.nodes start s.acts))))
