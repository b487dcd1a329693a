-- The tree of an outline's canonical text: invariants before the other items, and nothing at all for an outline of
-- depth 0 that says nothing. It has no places yet.
use Rattle.std.specs.Prelude.{ℕ, zero, suc, Bool, true, false, Option, Some, None, List, [], ◌∷◌, ◌++◌, map, get_or}
use Rattle.plc_lang.specs.declared.syntax.Local.{Local}
use Rattle.plc_lang.specs.declared.syntax.File.{File}
use Rattle.plc_lang.specs.Locals.{locals_of}
use Rattle.plc_lang.specs.Names.{field_name, operation_name, auxiliary_name, value_name, label_name, shared_name}
use Rattle.plc_lang.specs.Names.{local_name}
use Rattle.plc_logic.specs.declared.clause.Base.{Base}
use Rattle.plc_logic.specs.declared.clause.Base.TheVariants as bases
use Rattle.plc_logic.specs.declared.clause.Term.{Term}
use Rattle.plc_logic.specs.declared.clause.Term.TheVariants as terms
use Rattle.plc_logic.specs.declared.clause.Literal.{Literal}
use Rattle.plc_logic.specs.declared.clause.Literal.TheVariants.{Same, Retired, Marked}
use Rattle.plc_logic.specs.declared.clause.Clause.{Clause}
use Rattle.plc_logic.specs.declared.clause.Site.{Site}
use Rattle.plc_logic.specs.declared.clause.Site.TheVariants.{Over, At}
use Rattle.plc_logic.specs.declared.clause.Item.{Item}
use Rattle.plc_logic.specs.declared.clause.Outline.{Outline}
use Rattle.plc_lang.specs.Labels.{labels_by_op}
use Rattle.plc_logic.specs.Sites.{op_of_site}
use Rattle.plc_syntax.specs.Trees.{Text, Placed, PlaceTree, PlaceOf, TermTree, PlaceTerm, NullTerm, NumberTerm, MeTerm}
use Rattle.plc_syntax.specs.Trees.{NoneTerm, FlagTree, RetiredFlag, MarkedFlag, LiteralTree, FlagLiteral}
use Rattle.plc_syntax.specs.Trees.{NotLiteral, EqualityLiteral, BoundTree, NoBound, AllOf, ClauseTree, Claims, ItemTree}
use Rattle.plc_syntax.specs.Trees.{InvariantItem, OverItem, AtItem, OutlineTree, Outlined}

-- what has no place yet
abbrev pub bare : {X : Type 0} → X → Placed X
bare x = record { at = 0; value = x }

-- ---- literals; the names in reach are those of the file, of the operation's locals and of the clause

module _ (file : File) (locals : List Local) (bound : List Text) where
  -- a node
  abbrev pub base_name : Base → Text
  base_name (bases.Shared i) = shared_name file i
  base_name (bases.Local i) = local_name file locals i
  base_name (bases.Bound i) = get_or bound i []

  -- a name alone
  abbrev pub name_term : Text → TermTree
  name_term n = PlaceTerm (PlaceOf (bare n) None)

  -- a field of a node
  abbrev pub field_term : Base → Text → TermTree
  field_term b f = PlaceTerm (PlaceOf (bare (base_name b)) (Some (bare f)))

  -- a side of an equation
  abbrev pub term_tree : Term → TermTree
  term_tree (terms.Shared i) = name_term (base_name (bases.Shared i))
  term_tree (terms.Local i) = name_term (base_name (bases.Local i))
  term_tree (terms.Bound i) = name_term (base_name (bases.Bound i))
  term_tree (terms.FieldOf b f) = field_term b (field_name file f)
  term_tree (terms.GhostOf b g) = field_term b (auxiliary_name file g)
  term_tree terms.Null = NullTerm 0
  term_tree (terms.Number n) = NumberTerm (bare n)
  term_tree (terms.Value g v) = name_term (value_name file g v)
  term_tree terms.Me = MeTerm 0
  term_tree terms.Nobody = NoneTerm 0

  -- the place of a pointer; no text says that anything else is marked
  abbrev pub pointer_place : Term → PlaceTree
  pointer_place (terms.Shared i) = PlaceOf (bare (base_name (bases.Shared i))) None
  pointer_place (terms.Local i) = PlaceOf (bare (base_name (bases.Local i))) None
  pointer_place (terms.FieldOf b f) = PlaceOf (bare (base_name b)) (Some (bare (field_name file f)))
  pointer_place _ = PlaceOf (bare []) None

  -- what is said of a node or a place
  abbrev pub flag_literal : FlagTree → Bool → LiteralTree
  flag_literal f true = FlagLiteral f
  flag_literal f false = NotLiteral f

  abbrev pub literal_tree : Literal → LiteralTree
  literal_tree (Same a b is_equal) = EqualityLiteral (term_tree a) is_equal (term_tree b)
  literal_tree (Retired x is_so) = flag_literal (RetiredFlag (bare (base_name x))) is_so
  literal_tree (Marked t is_so) = flag_literal (MarkedFlag (pointer_place t)) is_so

-- ---- clauses

-- quantified names, of which there are at most two
abbrev pub bound_tree : List Text → BoundTree
bound_tree [] = NoBound
bound_tree (n ∷ []) = AllOf (bare n) None
bound_tree (n ∷ m ∷ ns) = AllOf (bare n) (Some (bare m))

-- literals in order; no text has a clause without any, which is never true, as `null != null` isn't
abbrev pub claims_tree : BoundTree → List LiteralTree → ClauseTree
claims_tree b [] = Claims b (EqualityLiteral (NullTerm 0) false (NullTerm 0)) []
claims_tree b (l ∷ ls) = Claims b l (map bare ls)

-- a clause where these locals are in reach
abbrev pub clause_tree : File → List Local → Clause → ClauseTree
clause_tree file locals c =
    claims_tree (bound_tree c.bound.names) (map (literal_tree file locals c.bound.names) c.literals)

-- ---- items

-- an invariant names no local
abbrev pub invariant_tree : File → Clause → ItemTree
invariant_tree file c = InvariantItem (clause_tree file [] c)

-- no text has an item at no label
abbrev pub at_tree : List Text → ClauseTree → ItemTree
at_tree [] c = AtItem (bare []) [] c
at_tree (n ∷ ns) c = AtItem (bare n) (map bare ns) c

-- where an item puts its clause
abbrev pub site_tree : File → Site → ClauseTree → ItemTree
site_tree file (Over o) c = OverItem (bare (operation_name file o)) c
site_tree file (At labels) c = at_tree (map (label_name file) labels) c

-- the locals in reach of an item
abbrev pub locals_in_reach : File → Option ℕ → List Local
locals_in_reach file None = []
locals_in_reach file (Some o) = locals_of file.ops o

-- a clause at points
abbrev pub item_tree : File → Item → ItemTree
item_tree file item = site_tree file item.site
    (clause_tree file (locals_in_reach file (op_of_site (labels_by_op file.ops) item.site)) item.clause)

-- ---- the outline

-- depth 0 is left out
abbrev pub depth_tree : ℕ → Option (Placed ℕ)
depth_tree zero = None
depth_tree (suc n) = Some (bare (suc n))

-- of depth 0 and without items it is left out
abbrev pub unless_empty : Option (Placed ℕ) → List ItemTree → Option OutlineTree
unless_empty None [] = None
unless_empty d xs = Some (Outlined d xs)

-- invariants go first, each kind in its own order
abbrev pub item_trees : File → Outline → List ItemTree
item_trees file o = map (invariant_tree file) o.invariants ++ map (item_tree file) o.items

abbrev pub outline_tree : File → Outline → Option OutlineTree
outline_tree file o = unless_empty (depth_tree o.depth) (item_trees file o)
