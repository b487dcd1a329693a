-- The tree of a unit's canonical text: each number is spelled by the name that it stands for, and optional parts that
-- are empty are left out. A text that is still to be written has no places, so each is 0.
use Rattle.std.specs.Prelude.{ℕ, Bool, true, false, not, Option, Some, None, List, [], ◌∷◌, map, filter, drop}
use Rattle.std.specs.Prelude.{option_map}
use Rattle.plc_base.specs.declared.ids.FieldId.{FieldId}
use Rattle.plc_lang.specs.Locals.{is_parameter}
use Rattle.plc_lang.specs.Names.{name_at, field_name, function_name, auxiliary_name, value_name, label_name}
use Rattle.plc_lang.specs.Names.{pointer_name, data_name, variable_name}
use Rattle.plc_lang.specs.declared.syntax.Var.{Var}
use Rattle.plc_lang.specs.declared.syntax.Num.{Num}
use Rattle.plc_lang.specs.declared.syntax.Num.TheVariants as nums
use Rattle.plc_lang.specs.declared.syntax.Arg.{Arg}
use Rattle.plc_lang.specs.declared.syntax.Arg.TheVariants as args
use Rattle.plc_lang.specs.declared.syntax.Rel.{Rel}
use Rattle.plc_lang.specs.declared.syntax.Rel.TheVariants as rels
use Rattle.plc_lang.specs.declared.syntax.GhostVal.{GhostVal}
use Rattle.plc_lang.specs.declared.syntax.GhostVal.TheVariants as ghosts
use Rattle.plc_lang.specs.declared.syntax.Primitive.{Primitive}
use Rattle.plc_lang.specs.declared.syntax.Primitive.TheVariants as prims
use Rattle.plc_lang.specs.declared.syntax.Cond.{Cond}
use Rattle.plc_lang.specs.declared.syntax.Cond.TheVariants as conds
use Rattle.plc_lang.specs.declared.syntax.Local.{Local}
use Rattle.plc_lang.specs.declared.syntax.Field.{Field}
use Rattle.plc_lang.specs.declared.syntax.Func.{Func}
use Rattle.plc_lang.specs.declared.syntax.Ghost.{Ghost}
use Rattle.plc_lang.specs.declared.syntax.Op.{Op}
use Rattle.plc_lang.specs.declared.syntax.File.{File}
use Rattle.plc_lang.specs.Statements.{Statement, One, Atomic, Call, If, Choose, Loop, Break, Return, Skip, Label}
use Rattle.plc_lang.specs.Statements.{Statements, Empty, Then, Blocks, NoBlock, And}
use Rattle.plc_auto.specs.declared.observer.Observer.{Observer}
use Rattle.plc_auto.specs.declared.observer.Observer.TheVariants.{Plain, Hazard, Epoch}
use Rattle.plc_syntax.specs.Trees.{Text, Placed, FieldTree, PointerField, DataField, Declares, WatchTree, UseHazard}
use Rattle.plc_syntax.specs.Trees.{UseEpoch, GhostKindTree, OneOf, OfThreads, Auxiliary, PlaceOf, AtomTree}
use Rattle.plc_syntax.specs.Trees.{NullAtom, NumberAtom, NameAtom, ValueTree, NullValue, NewValue, NumberValue}
use Rattle.plc_syntax.specs.Trees.{PlaceValue, SetTree, SetName, SetField, RefreshName, RefreshField, GhostValueTree}
use Rattle.plc_syntax.specs.Trees.{NameGhost, MeGhost, NoneGhost, GhostSetTree, SetGhost, InitialTree, InitialSet}
use Rattle.plc_syntax.specs.Trees.{InitialGhost, Comparison, SameAs, OtherThan, LessThan, NotLessThan, TestTree}
use Rattle.plc_syntax.specs.Trees.{Compares, ConditionTree, TestCondition, RefreshCondition, CasCondition}
use Rattle.plc_syntax.specs.Trees.{PrimitiveTree, SetPrimitive, RefreshPrimitive, GhostPrimitive, ActivePrimitive}
use Rattle.plc_syntax.specs.Trees.{AssumePrimitive, SkipPrimitive, ArgumentTree, NoArgument, NullArgument, NameArgument}
use Rattle.plc_syntax.specs.Trees.{ActiveArgument, StatementTree, PrimitiveStatement, AtomicStatement, CallStatement}
use Rattle.plc_syntax.specs.Trees.{IfStatement, ChooseStatement, LoopStatement, BreakStatement, ReturnStatement}
use Rattle.plc_syntax.specs.Trees.{LabelStatement, BlockTree, NoStatement, Then as ThenStatement, ElseTree, NoElse}
use Rattle.plc_syntax.specs.Trees.{ElseBlock, OrTree, NoOr, OrBlock, OpTree, Operates, FileTree, MarkValue, UnmarkValue}
use Rattle.plc_syntax.specs.Trees.{MarkedTest, UnmarkedTest}
use Rattle.plc_parse.specs.declared.unit.Unit.{Unit as FileUnit}
use Rattle.plc_print.specs.Outlines.{bare, outline_tree}

-- a relation of data
abbrev pub comparison : Rel → Comparison
comparison rels.Eq = SameAs
comparison rels.Ne = OtherThan
comparison rels.Lt = LessThan
comparison rels.Ge = NotLessThan

-- a block that is no empty `else`
abbrev pub else_block : Statements → BlockTree → ElseTree
else_block Empty tree = NoElse
else_block (Then l s b) tree = ElseBlock tree

-- two blocks and those after them; fewer have no text, so that empty ones stand for them
abbrev pub choice_tree : OrTree → StatementTree
choice_tree NoOr = ChooseStatement NoStatement NoStatement NoOr
choice_tree (OrBlock a NoOr) = ChooseStatement a NoStatement NoOr
choice_tree (OrBlock a (OrBlock b os)) = ChooseStatement a b os

-- ---- primitives; what no text can say, as a call within a step, has an arbitrary tree

module _ (file : File) (locals : List Local) where
  -- the names of variables
  abbrev pub variable : Var → Placed Text
  variable v = bare (variable_name file locals v)

  abbrev pub pointer : ℕ → Placed Text
  pointer v = bare (pointer_name file locals v)

  abbrev pub data_local : ℕ → Placed Text
  data_local x = bare (data_name file locals x)

  -- a field's name
  abbrev pub field : FieldId → Placed Text
  field f = bare (field_name file f)

  -- what is put into a data local
  abbrev pub value_tree : Num → ValueTree
  value_tree (nums.Lit n) = NumberValue (bare n)
  value_tree (nums.Local y) = PlaceValue (PlaceOf (data_local y) None)

  -- what is put into a data field, and what a data local is compared with
  abbrev pub number_tree : Num → AtomTree
  number_tree (nums.Lit n) = NumberAtom (bare n)
  number_tree (nums.Local y) = NameAtom (data_local y)

  -- an assignment
  abbrev pub set_tree : Primitive → SetTree
  set_tree (prims.Null p) = SetName (variable p) (NullValue 0)
  set_tree (prims.Copy p q) = SetName (variable p) (PlaceValue (PlaceOf (variable q) None))
  set_tree (prims.New p) = SetName (variable p) (NewValue 0)
  set_tree (prims.Mark p q) = SetName (variable p) (MarkValue 0 (variable q))
  set_tree (prims.Unmark p q) = SetName (variable p) (UnmarkValue 0 (variable q))
  set_tree (prims.Load p q f) = SetName (variable p) (PlaceValue (PlaceOf (variable q) (Some (field f))))
  set_tree (prims.Store p f q) = SetField (variable p) (field f) (NameAtom (variable q))
  set_tree (prims.StoreNull p f) = SetField (variable p) (field f) (NullAtom 0)
  set_tree (prims.DataSet x e) = SetName (data_local x) (value_tree e)
  set_tree (prims.DataLoad x q f) = SetName (data_local x) (PlaceValue (PlaceOf (variable q) (Some (field f))))
  set_tree (prims.DataStore p f e) = SetField (variable p) (field f) (number_tree e)
  set_tree k = SetName (bare []) (NullValue 0)

  -- what is put into an auxiliary field
  abbrev pub ghost_value_tree : ℕ → GhostVal → GhostValueTree
  ghost_value_tree g (ghosts.Value v) = NameGhost (bare (value_name file g v))
  ghost_value_tree g ghosts.Me = MeGhost 0
  ghost_value_tree g ghosts.None = NoneGhost 0

  -- an assignment to an auxiliary field
  abbrev pub ghost_tree : Var → ℕ → GhostVal → GhostSetTree
  ghost_tree p g v = SetGhost (variable p) (bare (auxiliary_name file g)) (ghost_value_tree g v)

  -- a test
  abbrev pub test_tree : Primitive → TestTree
  test_tree (prims.Eq p q) = Compares (variable p) (bare SameAs) (NameAtom (variable q))
  test_tree (prims.Ne p q) = Compares (variable p) (bare OtherThan) (NameAtom (variable q))
  test_tree (prims.IsNull p) = Compares (variable p) (bare SameAs) (NullAtom 0)
  test_tree (prims.NotNull p) = Compares (variable p) (bare OtherThan) (NullAtom 0)
  test_tree (prims.MarkTest p true) = MarkedTest (variable p)
  test_tree (prims.MarkTest p false) = UnmarkedTest (variable p)
  test_tree (prims.DataTest r x e) = Compares (data_local x) (bare (comparison r)) (number_tree e)
  test_tree k = Compares (bare []) (bare SameAs) (NullAtom 0)

  -- a primitive that is a statement, or stands in an atomic block
  abbrev pub primitive_tree : Primitive → PrimitiveTree
  primitive_tree (prims.Eq p q) = AssumePrimitive (test_tree (prims.Eq p q))
  primitive_tree (prims.Ne p q) = AssumePrimitive (test_tree (prims.Ne p q))
  primitive_tree (prims.IsNull p) = AssumePrimitive (test_tree (prims.IsNull p))
  primitive_tree (prims.NotNull p) = AssumePrimitive (test_tree (prims.NotNull p))
  primitive_tree (prims.DataTest r x e) = AssumePrimitive (test_tree (prims.DataTest r x e))
  primitive_tree (prims.MarkTest p m) = AssumePrimitive (test_tree (prims.MarkTest p m))
  primitive_tree (prims.Refresh p q) = RefreshPrimitive (RefreshName (pointer p) (PlaceOf (variable q) None))
  primitive_tree (prims.RefreshLoad p q f) =
      RefreshPrimitive (RefreshName (pointer p) (PlaceOf (variable q) (Some (field f))))
  primitive_tree (prims.RefreshStore p f q) = RefreshPrimitive (RefreshField (variable p) (field f) (variable q))
  primitive_tree (prims.Call f a) = SkipPrimitive
  primitive_tree (prims.Done f) = SkipPrimitive
  primitive_tree (prims.Active p) = ActivePrimitive (variable p)
  primitive_tree (prims.Ghost p g v) = GhostPrimitive (ghost_tree p g v)
  primitive_tree k = SetPrimitive (set_tree k)

  -- a pointer variable, or null
  abbrev pub name_or_null : Option Var → Option (Placed Text)
  name_or_null q = option_map variable q

  -- a refresh into a variable, as a condition
  abbrev pub refresh_condition : Primitive → ConditionTree
  refresh_condition (prims.Refresh p q) = RefreshCondition (pointer p) (PlaceOf (variable q) None)
  refresh_condition (prims.RefreshLoad p q f) = RefreshCondition (pointer p) (PlaceOf (variable q) (Some (field f)))
  refresh_condition k = RefreshCondition (bare []) (PlaceOf (bare []) None)

  -- the condition of an `if`
  abbrev pub condition_tree : Cond → ConditionTree
  condition_tree (conds.Test k) = TestCondition (test_tree k)
  condition_tree (conds.Refresh k) = refresh_condition k
  condition_tree (conds.Cas active p old new) = CasCondition active (variable p) (name_or_null old) (name_or_null new)

  -- what a function is called with
  abbrev pub argument_tree : Arg → Bool → ArgumentTree
  argument_tree args.None active = NoArgument
  argument_tree args.Null active = NullArgument
  argument_tree (args.Var p) true = ActiveArgument (variable p)
  argument_tree (args.Var p) false = NameArgument (variable p)

  -- ---- statements

  abbrev mutual
    pub statement_tree : Statement → StatementTree
    statement_tree (One k) = PrimitiveStatement (primitive_tree k)
    statement_tree (Atomic ks) = AtomicStatement (map (λ k. bare (primitive_tree k)) ks)
    statement_tree (Call f a active d) = CallStatement (bare (function_name file f)) (argument_tree a active)
        (option_map (λ l. bare (label_name file l)) d)
    statement_tree (If c y n) = IfStatement (condition_tree c) (block_tree y) (else_block n (block_tree n))
    statement_tree (Choose bs) = choice_tree (blocks_tree bs)
    statement_tree (Loop b) = LoopStatement (block_tree b)
    statement_tree Break = BreakStatement
    statement_tree Return = ReturnStatement
    statement_tree Skip = PrimitiveStatement SkipPrimitive
    statement_tree (Label l) = LabelStatement (bare (label_name file l))

    pub block_tree : Statements → BlockTree
    block_tree Empty = NoStatement
    block_tree (Then l s b) = ThenStatement 0 (statement_tree s) (block_tree b)

    pub blocks_tree : Blocks → OrTree
    blocks_tree NoBlock = NoOr
    blocks_tree (And b bs) = OrBlock (block_tree b) (blocks_tree bs)

-- ---- declarations

-- a declaration of a pointer or of data
abbrev pub declaration_tree : Text → Bool → FieldTree
declaration_tree name true = PointerField (bare name)
declaration_tree name false = DataField (bare name)

-- a local that is no parameter
abbrev pub is_declared : Local → Bool
is_declared l = not l.param

-- an operation
abbrev pub op_tree : File → Op → OpTree
op_tree file o = Operates (bare (name_at file o.name))
    (map (λ (l : Local). bare (name_at file l.name)) (filter is_parameter o.locals))
    (map (λ (l : Local). declaration_tree (name_at file l.name) l.pointer) (filter is_declared o.locals))
    (block_tree file o.locals o.body)

-- a primitive of `init`
abbrev pub initial_tree : File → Primitive → InitialTree
initial_tree file (prims.Ghost p g v) = InitialGhost (ghost_tree file [] p g v)
initial_tree file k = InitialSet (set_tree file [] k)

-- an `init` without primitives is left out
abbrev pub init_tree : File → List Primitive → Option (List (Placed InitialTree))
init_tree file [] = None
init_tree file (k ∷ ks) = Some (map (λ k. bare (initial_tree file k)) (k ∷ ks))

-- a field without values holds a thread
abbrev pub ghost_kind : File → List ℕ → GhostKindTree
ghost_kind file [] = OfThreads
ghost_kind file (v ∷ vs) = OneOf (bare (name_at file v)) (map (λ v. bare (name_at file v)) vs)

-- what is observed
abbrev pub watch_tree : File → Observer → Option WatchTree
watch_tree file Plain = None
watch_tree file (Hazard f) = Some (UseHazard (bare (function_name file f)))
watch_tree file (Epoch e l) = Some (UseEpoch (bare (function_name file e)) (bare (function_name file l)))

-- the whole file; its struct's name is the first that is declared, after `retire`, which is declared from the start
abbrev pub canonical_tree : FileUnit → FileTree
canonical_tree u = record {
  name = bare (name_at u.file 1);
  fields = map (λ (f : Field). declaration_tree (name_at u.file f.name) f.pointer) u.file.fields;
  pointers = map (λ n. bare (name_at u.file n)) u.file.shared;
  functions = map (λ (f : Func). Declares (bare (name_at u.file f.name)) f.pointer) (drop 1 u.file.funcs);
  watched = watch_tree u.file u.observer;
  ghosts = map (λ (g : Ghost). Auxiliary (bare (name_at u.file g.name)) (ghost_kind u.file g.values)) u.file.ghosts;
  starts = init_tree u.file u.file.init;
  ops = map (λ o. bare (op_tree u.file o)) u.file.ops;
  outlined = outline_tree u.file u.outline;
}
