-- Trees with 0 at each place. Two trees that are one so are one but for their places.
use Rattle.std.specs.Prelude.{Option, Some, None, List, map}
use Rattle.plc_syntax.specs.Trees.{Text, Placed, FieldTree, FunctionTree, WatchTree, GhostKindTree}
use Rattle.plc_syntax.specs.Trees.{GhostTree, PlaceTree, AtomTree, ValueTree, SetTree, RefreshTree, GhostValueTree}
use Rattle.plc_syntax.specs.Trees.{GhostSetTree, InitialTree, TestTree, ConditionTree, PrimitiveTree, ArgumentTree}
use Rattle.plc_syntax.specs.Trees.{StatementTree, BlockTree, ElseTree, OrTree, OpTree, TermTree, FlagTree}
use Rattle.plc_syntax.specs.Trees.{LiteralTree, BoundTree, ClauseTree, ItemTree, OutlineTree, FileTree}
use Rattle.plc_syntax.specs.Trees.{PointerField}
use Rattle.plc_syntax.specs.Trees.{DataField, Declares, UseHazard, UseEpoch, OneOf, OfThreads, Auxiliary, PlaceOf}
use Rattle.plc_syntax.specs.Trees.{NullAtom, NumberAtom, NameAtom, NullValue, NewValue, NumberValue, MarkValue}
use Rattle.plc_syntax.specs.Trees.{UnmarkValue, PlaceValue, SetName, SetField, RefreshName, RefreshField, NameGhost}
use Rattle.plc_syntax.specs.Trees.{MeGhost, NoneGhost, SetGhost, InitialSet, InitialGhost, MarkedTest, UnmarkedTest}
use Rattle.plc_syntax.specs.Trees.{Compares, TestCondition, RefreshCondition, CasCondition, SetPrimitive}
use Rattle.plc_syntax.specs.Trees.{RefreshPrimitive, GhostPrimitive, ActivePrimitive, AssumePrimitive, SkipPrimitive}
use Rattle.plc_syntax.specs.Trees.{NoArgument, NullArgument, NameArgument, ActiveArgument, PrimitiveStatement}
use Rattle.plc_syntax.specs.Trees.{AtomicStatement, CallStatement, IfStatement, ChooseStatement, LoopStatement}
use Rattle.plc_syntax.specs.Trees.{BreakStatement, ReturnStatement, LabelStatement, NoStatement, Then, NoElse}
use Rattle.plc_syntax.specs.Trees.{ElseBlock, NoOr, OrBlock, Operates, PlaceTerm, NullTerm, NumberTerm, MeTerm}
use Rattle.plc_syntax.specs.Trees.{NoneTerm, RetiredFlag, MarkedFlag, FlagLiteral, NotLiteral, EqualityLiteral}
use Rattle.plc_syntax.specs.Trees.{NoBound, AllOf, Claims, InvariantItem, OverItem, AtItem, Outlined}
use Rattle.plc_syntax.specs.Forms.{at_place}

-- a form at a place, without both places
abbrev pub unplaced_by : {X : Type 0} → (X → X) → Placed X → Placed X
unplaced_by bare x = at_place 0 (bare x.value)

-- a name or a number
abbrev pub unplaced : {X : Type 0} → Placed X → Placed X
unplaced x = at_place 0 x.value

-- what may be left out
abbrev pub unplaced_maybe : {X : Type 0} → (X → X) → Option X → Option X
unplaced_maybe bare None = None
unplaced_maybe bare (Some x) = Some (bare x)

abbrev pub unplaced_names : List (Placed Text) → List (Placed Text)
unplaced_names ns = map unplaced ns

abbrev pub unplaced_label : Option (Placed Text) → Option (Placed Text)
unplaced_label n = unplaced_maybe unplaced n

-- ---- declarations

abbrev pub unplaced_field : FieldTree → FieldTree
unplaced_field (PointerField n) = PointerField (unplaced n)
unplaced_field (DataField n) = DataField (unplaced n)

abbrev pub unplaced_function : FunctionTree → FunctionTree
unplaced_function (Declares n w) = Declares (unplaced n) w

abbrev pub unplaced_watch : WatchTree → WatchTree
unplaced_watch (UseHazard f) = UseHazard (unplaced f)
unplaced_watch (UseEpoch e l) = UseEpoch (unplaced e) (unplaced l)

abbrev pub unplaced_kind : GhostKindTree → GhostKindTree
unplaced_kind (OneOf v vs) = OneOf (unplaced v) (unplaced_names vs)
unplaced_kind OfThreads = OfThreads

abbrev pub unplaced_ghost : GhostTree → GhostTree
unplaced_ghost (Auxiliary n k) = Auxiliary (unplaced n) (unplaced_kind k)

-- ---- places and values

abbrev pub unplaced_place : PlaceTree → PlaceTree
unplaced_place (PlaceOf n f) = PlaceOf (unplaced n) (unplaced_label f)

abbrev pub unplaced_atom : AtomTree → AtomTree
unplaced_atom (NullAtom at) = NullAtom 0
unplaced_atom (NumberAtom n) = NumberAtom (unplaced n)
unplaced_atom (NameAtom n) = NameAtom (unplaced n)

abbrev pub unplaced_value : ValueTree → ValueTree
unplaced_value (NullValue at) = NullValue 0
unplaced_value (NewValue at) = NewValue 0
unplaced_value (NumberValue n) = NumberValue (unplaced n)
unplaced_value (MarkValue at n) = MarkValue 0 (unplaced n)
unplaced_value (UnmarkValue at n) = UnmarkValue 0 (unplaced n)
unplaced_value (PlaceValue p) = PlaceValue (unplaced_place p)

abbrev pub unplaced_set : SetTree → SetTree
unplaced_set (SetName n v) = SetName (unplaced n) (unplaced_value v)
unplaced_set (SetField n f a) = SetField (unplaced n) (unplaced f) (unplaced_atom a)

abbrev pub unplaced_refresh : RefreshTree → RefreshTree
unplaced_refresh (RefreshName n p) = RefreshName (unplaced n) (unplaced_place p)
unplaced_refresh (RefreshField n f q) = RefreshField (unplaced n) (unplaced f) (unplaced q)

abbrev pub unplaced_ghost_value : GhostValueTree → GhostValueTree
unplaced_ghost_value (NameGhost n) = NameGhost (unplaced n)
unplaced_ghost_value (MeGhost at) = MeGhost 0
unplaced_ghost_value (NoneGhost at) = NoneGhost 0

abbrev pub unplaced_ghost_set : GhostSetTree → GhostSetTree
unplaced_ghost_set (SetGhost n g v) = SetGhost (unplaced n) (unplaced g) (unplaced_ghost_value v)

abbrev pub unplaced_initial : InitialTree → InitialTree
unplaced_initial (InitialSet s) = InitialSet (unplaced_set s)
unplaced_initial (InitialGhost g) = InitialGhost (unplaced_ghost_set g)

abbrev pub unplaced_sets : List (Placed InitialTree) → List (Placed InitialTree)
unplaced_sets sets = map (unplaced_by unplaced_initial) sets

-- ---- tests, conditions and primitives

abbrev pub unplaced_test : TestTree → TestTree
unplaced_test (MarkedTest n) = MarkedTest (unplaced n)
unplaced_test (UnmarkedTest n) = UnmarkedTest (unplaced n)
unplaced_test (Compares n c a) = Compares (unplaced n) (unplaced c) (unplaced_atom a)

abbrev pub unplaced_condition : ConditionTree → ConditionTree
unplaced_condition (TestCondition t) = TestCondition (unplaced_test t)
unplaced_condition (RefreshCondition n p) = RefreshCondition (unplaced n) (unplaced_place p)
unplaced_condition (CasCondition w n x y) = CasCondition w (unplaced n) (unplaced_label x) (unplaced_label y)

abbrev pub unplaced_primitive : PrimitiveTree → PrimitiveTree
unplaced_primitive (SetPrimitive s) = SetPrimitive (unplaced_set s)
unplaced_primitive (RefreshPrimitive r) = RefreshPrimitive (unplaced_refresh r)
unplaced_primitive (GhostPrimitive g) = GhostPrimitive (unplaced_ghost_set g)
unplaced_primitive (ActivePrimitive n) = ActivePrimitive (unplaced n)
unplaced_primitive (AssumePrimitive t) = AssumePrimitive (unplaced_test t)
unplaced_primitive SkipPrimitive = SkipPrimitive

-- ---- statements and operations

abbrev pub unplaced_argument : ArgumentTree → ArgumentTree
unplaced_argument NoArgument = NoArgument
unplaced_argument NullArgument = NullArgument
unplaced_argument (NameArgument n) = NameArgument (unplaced n)
unplaced_argument (ActiveArgument n) = ActiveArgument (unplaced n)

abbrev mutual
  pub unplaced_statement : StatementTree → StatementTree
  unplaced_statement (PrimitiveStatement p) = PrimitiveStatement (unplaced_primitive p)
  unplaced_statement (AtomicStatement ps) = AtomicStatement (map (unplaced_by unplaced_primitive) ps)
  unplaced_statement (CallStatement f a d) = CallStatement (unplaced f) (unplaced_argument a) (unplaced_label d)
  unplaced_statement (IfStatement c b e) = IfStatement (unplaced_condition c) (unplaced_block b) (unplaced_else e)
  unplaced_statement (ChooseStatement a b os) = ChooseStatement (unplaced_block a) (unplaced_block b) (unplaced_ors os)
  unplaced_statement (LoopStatement b) = LoopStatement (unplaced_block b)
  unplaced_statement BreakStatement = BreakStatement
  unplaced_statement ReturnStatement = ReturnStatement
  unplaced_statement (LabelStatement n) = LabelStatement (unplaced n)

  pub unplaced_block : BlockTree → BlockTree
  unplaced_block NoStatement = NoStatement
  unplaced_block (Then at s b) = Then 0 (unplaced_statement s) (unplaced_block b)

  pub unplaced_else : ElseTree → ElseTree
  unplaced_else NoElse = NoElse
  unplaced_else (ElseBlock b) = ElseBlock (unplaced_block b)

  pub unplaced_ors : OrTree → OrTree
  unplaced_ors NoOr = NoOr
  unplaced_ors (OrBlock b os) = OrBlock (unplaced_block b) (unplaced_ors os)

abbrev pub unplaced_op : OpTree → OpTree
unplaced_op (Operates n ps locals b) =
    Operates (unplaced n) (unplaced_names ps) (map unplaced_field locals) (unplaced_block b)

-- ---- outlines

abbrev pub unplaced_term : TermTree → TermTree
unplaced_term (PlaceTerm p) = PlaceTerm (unplaced_place p)
unplaced_term (NullTerm at) = NullTerm 0
unplaced_term (NumberTerm n) = NumberTerm (unplaced n)
unplaced_term (MeTerm at) = MeTerm 0
unplaced_term (NoneTerm at) = NoneTerm 0

abbrev pub unplaced_flag : FlagTree → FlagTree
unplaced_flag (RetiredFlag n) = RetiredFlag (unplaced n)
unplaced_flag (MarkedFlag p) = MarkedFlag (unplaced_place p)

abbrev pub unplaced_literal : LiteralTree → LiteralTree
unplaced_literal (FlagLiteral f) = FlagLiteral (unplaced_flag f)
unplaced_literal (NotLiteral f) = NotLiteral (unplaced_flag f)
unplaced_literal (EqualityLiteral a e b) = EqualityLiteral (unplaced_term a) e (unplaced_term b)

abbrev pub unplaced_bound : BoundTree → BoundTree
unplaced_bound NoBound = NoBound
unplaced_bound (AllOf n m) = AllOf (unplaced n) (unplaced_label m)

abbrev pub unplaced_clause : ClauseTree → ClauseTree
unplaced_clause (Claims b l ls) =
    Claims (unplaced_bound b) (unplaced_literal l) (map (unplaced_by unplaced_literal) ls)

abbrev pub unplaced_item : ItemTree → ItemTree
unplaced_item (InvariantItem c) = InvariantItem (unplaced_clause c)
unplaced_item (OverItem n c) = OverItem (unplaced n) (unplaced_clause c)
unplaced_item (AtItem n ns c) = AtItem (unplaced n) (unplaced_names ns) (unplaced_clause c)

abbrev pub unplaced_outline : OutlineTree → OutlineTree
unplaced_outline (Outlined d items) = Outlined (unplaced_maybe unplaced d) (map unplaced_item items)

-- ---- the file

abbrev pub unplaced_file : FileTree → FileTree
unplaced_file f = record {
  name = unplaced f.name;
  fields = map unplaced_field f.fields;
  pointers = unplaced_names f.pointers;
  functions = map unplaced_function f.functions;
  watched = unplaced_maybe unplaced_watch f.watched;
  ghosts = map unplaced_ghost f.ghosts;
  starts = unplaced_maybe unplaced_sets f.starts;
  ops = map (unplaced_by unplaced_op) f.ops;
  outlined = unplaced_maybe unplaced_outline f.outlined;
}
