-- What every item of a ground set rests on: the constants and the nodes.
use Rattle.std.specs.Prelude.{ℕ, ◌+◌, ◌==◌, Bool, true, false, if◌then◌else◌, Option, Some, None}
use Rattle.std.specs.Prelude.{List, [], ◌∷◌, ◌++◌, length, map, fold, flat_map}
use Rattle.std.specs.List.{list_any, range_with_len, sum_by}
use Rattle.std.specs.Ordering.{nat_cmp}
use Rattle.std.specs.BTreeSet.{insert_key}
use Rattle.plc_base.specs.declared.ids.FieldId.{FieldId}
use Rattle.plc_lang.specs.declared.syntax.Field.{Field}
use Rattle.plc_lang.specs.declared.syntax.Local.{Local}
use Rattle.plc_lang.specs.declared.syntax.Num.{Num}
use Rattle.plc_lang.specs.declared.syntax.Num.TheVariants as nums
use Rattle.plc_lang.specs.declared.syntax.Primitive.{Primitive}
use Rattle.plc_lang.specs.declared.syntax.Primitive.TheVariants as prims
use Rattle.plc_lang.specs.Allocation.{is_new}
use Rattle.plc_lang.specs.Locals.{is_pointer, is_data}
use Rattle.plc_lang.specs.Numbering.{places_from, values_in}
use Rattle.plc_flow.specs.declared.flow.Step.{Step}
use Rattle.plc_flow.specs.declared.flow.Flow.{Flow}
use Rattle.plc_logic.specs.declared.clause.Clause.{Clause}
use Rattle.plc_logic.specs.declared.clause.Item.{Item}
use Rattle.plc_logic.specs.declared.clause.Literal.{Literal}
use Rattle.plc_logic.specs.declared.clause.Literal.TheVariants as literals
use Rattle.plc_logic.specs.declared.clause.Term.{Term}
use Rattle.plc_logic.specs.declared.clause.Term.TheVariants as terms
use Rattle.plc_logic.specs.declared.clause.Outline.{Outline}
use Rattle.plc_ground.specs.declared.terms.Symbol.{Symbol}
use Rattle.plc_ground.specs.declared.terms.Symbol.TheVariants as symbols
use Rattle.plc_vocabulary.specs.declared.acts.Act.{Act}
use Rattle.plc_vocabulary.specs.declared.obligations.Obligation.{Obligation}
use Rattle.plc_vocabulary.specs.declared.setting.Setting.{Setting}
use Rattle.plc_vocabulary.specs.declared.setting.Variables.{Variables}
use Rattle.plc_symbolic.specs.declared.symbolic.NodeTerm.{NodeTerm}
use Rattle.plc_symbolic.specs.declared.symbolic.NodeTerm.TheVariants.{At, Target}
use Rattle.plc_vocabulary.specs.Acts.{acts_of, mark_of}
use Rattle.plc_vocabulary.specs.Marks.{program_uses_marks}
use Rattle.plc_vocabulary.specs.Parts.{executed, acting_locals, owner_locals, has_owner, conclusion}
use Rattle.plc_vocabulary.specs.Sorts.{loads_of}

-- the numbers below n
abbrev pub below : ℕ → List ℕ
below n = range_with_len 0 n

-- these where a condition holds, else none: that marks are used, a node is made, there is an owner, the depth is 1
abbrev pub only_if : {A : Type 0} → Bool → List A → List A
only_if true xs = xs
only_if false xs = []

-- ---- variables

-- the constant of a local, by its number among all locals of its operation
abbrev pub local_symbol : Bool → ℕ → Symbol
local_symbol false k = symbols.Mine k
local_symbol true k = symbols.Theirs k

-- the constants of the pointer locals and of the data locals of a thread
abbrev pub variables_of : Bool → List Local → Variables
variables_of owner ls = record {
  pointers = map (local_symbol owner) (places_from is_pointer 0 ls);
  values = map (local_symbol owner) (places_from is_data 0 ls);
}

-- ---- what is executed

-- the constants of what is read, where k reads stand before
abbrev pub loads_from : ℕ → List Act → List Symbol
loads_from k acts = map symbols.Loaded (range_with_len k (length (loads_of acts)))

-- those that go into pointers, each by its number among all that is read
abbrev pub nodes_read : ℕ → List Bool → List Symbol
nodes_read k [] = []
nodes_read k (true ∷ more) = symbols.Loaded k ∷ nodes_read (k + 1) more
nodes_read k (false ∷ more) = nodes_read (k + 1) more

-- the constants of the nodes that are read, where k reads stand before
abbrev pub pointer_loads_from : ℕ → List Act → List Symbol
pointer_loads_from k acts = nodes_read k (loads_of acts)

-- ---- nodes

-- the constants that are nodes, in order, between null and the rest the pointer variables
abbrev pub node_constants : List Symbol → Bool → ℕ → List Symbol → List Symbol
node_constants pointers makes bound loads =
    symbols.Null ∷ (pointers ++ (only_if makes (symbols.New ∷ []) ++ (map symbols.Bound (below bound) ++ loads)))

-- the constants that are nodes, without null and `new`
abbrev pub plain_constants : List Symbol → ℕ → List Symbol → List Symbol
plain_constants pointers bound loads = pointers ++ (map symbols.Bound (below bound) ++ loads)

-- the pointer fields of the struct, where k fields stand before
abbrev pub pointer_fields_from : ℕ → List Field → List FieldId
pointer_fields_from k [] = []
pointer_fields_from k (f ∷ fs) =
    if f.pointer then record { 0 = k } ∷ pointer_fields_from (k + 1) fs
    else pointer_fields_from (k + 1) fs

-- the pointer fields of a node, and of nodes, node by node
abbrev pub fields_of : List FieldId → Symbol → List NodeTerm
fields_of fs s = map (λ f. Target f s) fs

abbrev pub targets_of : List FieldId → List Symbol → List NodeTerm
targets_of fs ss = flat_map (fields_of fs) ss

-- these constants and, at depth 1, the pointer fields of all node constants
abbrev pub nodes_of : List Symbol → Bool → List Symbol → List FieldId → List NodeTerm
nodes_of ss deep constants fs = map At ss ++ only_if deep (targets_of fs constants)

-- ---- marks

-- the constants of marks: those of the pointer variables and of the pointers that are read
abbrev pub mark_constants : Bool → List Symbol → List Symbol → List Symbol
mark_constants marked pointers loads = only_if marked (map mark_of (pointers ++ loads))

-- ---- the setting

abbrev pub bound_of : Option Clause → ℕ
bound_of None = 0
bound_of (Some c) = length c.bound.names

abbrev pub pointer_variables : ℕ → Variables → Variables → List Symbol
pointer_variables shared mine theirs = map symbols.Shared (below shared) ++ (mine.pointers ++ theirs.pointers)

-- what is executed and by whom, and how many nodes the conclusion names; no nodes are listed yet
abbrev pub without_nodes : Flow → Outline → Obligation → Setting
without_nodes flow outline o =
    let marked = program_uses_marks flow outline in
    let mine = variables_of false (acting_locals flow o) in
    record {
      marked = marked;
      mine = mine;
      theirs = variables_of true (owner_locals flow o);
      owned = has_owner o;
      acts = acts_of marked flow.file.ghosts mine (executed flow o);
      makes = list_any is_new (executed flow o);
      bound = bound_of (conclusion flow outline o);
      pointers = [];
      constants = [];
      nodes = [];
      instances = [];
      fields = [];
      marks = [];
    }

-- the same with its nodes, and with what they are found from: the pointer variables and the pointer fields
abbrev pub with_nodes : Flow → Outline → Setting → Setting
with_nodes flow outline s =
    let pointers = pointer_variables (length flow.file.shared) s.mine s.theirs in
    let loads = pointer_loads_from 0 s.acts in
    let constants = node_constants pointers s.makes s.bound loads in
    let fields = pointer_fields_from 0 flow.file.fields in
    let deep = outline.depth == 1 in
    record s {
      pointers = pointers;
      constants = constants;
      nodes = nodes_of constants deep constants fields;
      instances = nodes_of (plain_constants pointers s.bound loads) deep constants fields;
      fields = fields;
      marks = mark_constants s.marked pointers loads;
    }

-- the setting of an obligation
abbrev pub setting_of : Flow → Outline → Obligation → Setting
setting_of flow outline o = with_nodes flow outline (without_nodes flow outline o)

-- ---- the constants, in order

abbrev pub num_numbers : Num → List ℕ
num_numbers (nums.Lit n) = n ∷ []
num_numbers (nums.Local x) = []

-- the numbers that stand in a primitive
abbrev pub prim_numbers : Primitive → List ℕ
prim_numbers (prims.DataSet x e) = num_numbers e
prim_numbers (prims.DataStore p f e) = num_numbers e
prim_numbers (prims.DataTest r x e) = num_numbers e
prim_numbers k = []

abbrev pub term_numbers : Term → List ℕ
term_numbers (terms.Number n) = n ∷ []
term_numbers t = []

-- the numbers that stand in a literal
abbrev pub literal_numbers : Literal → List ℕ
literal_numbers (literals.Same a b equal) = term_numbers a ++ term_numbers b
literal_numbers (literals.Retired x is_so) = []
literal_numbers (literals.Marked t is_so) = []

abbrev pub clause_numbers : Clause → List ℕ
clause_numbers c = flat_map literal_numbers c.literals

abbrev pub step_numbers : Step → List ℕ
step_numbers s = flat_map prim_numbers s.prims

abbrev pub item_numbers : Item → List ℕ
item_numbers i = clause_numbers i.clause

-- 0 and all numbers of the file; that of the depth is none of a clause
abbrev pub all_numbers : Flow → Outline → List ℕ
all_numbers flow outline =
    0 ∷ (flat_map prim_numbers flow.file.init
    ++ (flat_map step_numbers flow.steps
    ++ (flat_map clause_numbers outline.invariants
    ++ flat_map item_numbers outline.items)))

-- numbers in ascending order and these, each put in its place if it isn't there
abbrev pub with_numbers : List ℕ → List ℕ → List ℕ
with_numbers ks ns = fold (insert_key nat_cmp) ks ns

-- the numbers of the file ascending, each once
abbrev pub numbers_of : Flow → Outline → List ℕ
numbers_of flow outline = with_numbers [] (all_numbers flow outline)

abbrev pub constants_of : Flow → Outline → Setting → List Symbol
constants_of flow outline s =
    symbols.Null ∷ (map symbols.Shared (below (length flow.file.shared))
    ++ (s.mine.pointers ++ (s.mine.values
    ++ (s.theirs.pointers ++ (s.theirs.values
    ++ (only_if s.makes (symbols.New ∷ [])
    ++ (map symbols.Bound (below s.bound)
    ++ (loads_from 0 s.acts
    ++ (symbols.Yes ∷ (only_if s.marked (symbols.No ∷ [])
    ++ (symbols.Nobody ∷ symbols.Me ∷ (only_if s.owned (symbols.You ∷ [])
    ++ (map symbols.Value (below (sum_by values_in flow.file.ghosts))
    ++ (map symbols.Number (numbers_of flow outline) ++ s.marks))))))))))))))
