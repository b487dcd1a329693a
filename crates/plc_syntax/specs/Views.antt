-- The trees of the program's forms. Names borrow their bytes from the tokens, so a form stands for the tree with them.
use Rattle.std.specs.Prelude.{ℕ, Option, Some, None}
use Rattle.std.specs.Borrow.{Bor}
use Rattle.plc_syntax.specs.Trees.{Text, Placed, FieldTree, PointerField, DataField, PlaceTree, PlaceOf, AtomTree}
use Rattle.plc_syntax.specs.Trees.{NullAtom}
use Rattle.plc_syntax.specs.Trees.{NumberAtom, NameAtom, ValueTree, NullValue, NewValue, NumberValue, PlaceValue}
use Rattle.plc_syntax.specs.Trees.{SetTree, SetName, SetField, RefreshTree, RefreshName, RefreshField, GhostValueTree}
use Rattle.plc_syntax.specs.Trees.{NameGhost, MeGhost, NoneGhost, GhostSetTree, SetGhost, InitialTree, InitialSet}
use Rattle.plc_syntax.specs.Trees.{InitialGhost, Comparison, SameAs, OtherThan, LessThan, NotLessThan, TestTree}
use Rattle.plc_syntax.specs.Trees.{Compares, MarkedTest, UnmarkedTest, MarkValue, UnmarkValue, ConditionTree}
use Rattle.plc_syntax.specs.Trees.{TestCondition, RefreshCondition, CasCondition, PrimitiveTree, SetPrimitive}
use Rattle.plc_syntax.specs.Trees.{RefreshPrimitive, GhostPrimitive, ActivePrimitive, AssumePrimitive, SkipPrimitive}
use Rattle.plc_syntax.specs.Trees.{ArgumentTree, NoArgument, NullArgument, NameArgument, ActiveArgument, FunctionTree}
use Rattle.plc_syntax.specs.Trees.{Declares, WatchTree, UseHazard, UseEpoch, TermTree, PlaceTerm, NullTerm, NumberTerm}
use Rattle.plc_syntax.specs.Trees.{MeTerm, NoneTerm, FlagTree, RetiredFlag, MarkedFlag, LiteralTree, FlagLiteral}
use Rattle.plc_syntax.specs.Trees.{NotLiteral, EqualityLiteral, BoundTree, NoBound, AllOf}
use Rattle.plc_syntax.specs.declared.form.Placed.{Placed as PlacedForm}
use Rattle.plc_syntax.specs.declared.form.Declaration.{Declaration}
use Rattle.plc_syntax.specs.declared.form.Declaration.TheVariants as declarations
use Rattle.plc_syntax.specs.declared.form.Function.{Function}
use Rattle.plc_syntax.specs.declared.form.Watch.{Watch}
use Rattle.plc_syntax.specs.declared.form.Watch.TheVariants as watches
use Rattle.plc_syntax.specs.declared.form.Place.{Place}
use Rattle.plc_syntax.specs.declared.form.Value.{Value}
use Rattle.plc_syntax.specs.declared.form.Value.TheVariants as values
use Rattle.plc_syntax.specs.declared.form.Atom.{Atom}
use Rattle.plc_syntax.specs.declared.form.Atom.TheVariants as atoms
use Rattle.plc_syntax.specs.declared.form.Set.{Set}
use Rattle.plc_syntax.specs.declared.form.Set.TheVariants as sets
use Rattle.plc_syntax.specs.declared.form.Refresh.{Refresh}
use Rattle.plc_syntax.specs.declared.form.Refresh.TheVariants as refreshes
use Rattle.plc_syntax.specs.declared.form.GhostValue.{GhostValue}
use Rattle.plc_syntax.specs.declared.form.GhostValue.TheVariants as ghosts
use Rattle.plc_syntax.specs.declared.form.GhostSet.{GhostSet}
use Rattle.plc_syntax.specs.declared.form.Relation.{Relation}
use Rattle.plc_syntax.specs.declared.form.Relation.TheVariants as relations
use Rattle.plc_syntax.specs.declared.form.Test.{Test}
use Rattle.plc_syntax.specs.declared.form.Test.TheVariants as tests
use Rattle.plc_syntax.specs.declared.form.Condition.{Condition}
use Rattle.plc_syntax.specs.declared.form.Condition.TheVariants as conditions
use Rattle.plc_syntax.specs.declared.form.Cas.{Cas}
use Rattle.plc_syntax.specs.declared.form.Primitive.{Primitive}
use Rattle.plc_syntax.specs.declared.form.Primitive.TheVariants as primitives
use Rattle.plc_syntax.specs.declared.form.Initial.{Initial}
use Rattle.plc_syntax.specs.declared.form.Initial.TheVariants as initials
use Rattle.plc_syntax.specs.declared.form.Argument.{Argument}
use Rattle.plc_syntax.specs.declared.form.Argument.TheVariants as arguments
use Rattle.plc_syntax.specs.declared.form.Shared.{Shared}
use Rattle.plc_syntax.specs.declared.form.Term.{Term}
use Rattle.plc_syntax.specs.declared.form.Term.TheVariants as terms
use Rattle.plc_syntax.specs.declared.form.Flag.{Flag}
use Rattle.plc_syntax.specs.declared.form.Flag.TheVariants as flags
use Rattle.plc_syntax.specs.declared.form.Literal.{Literal}
use Rattle.plc_syntax.specs.declared.form.Literal.TheVariants as literals
use Rattle.plc_syntax.specs.declared.form.Bound.{Bound}
use Rattle.plc_syntax.specs.declared.form.Bound.TheVariants as bounds

-- what stands at a place, seen otherwise
abbrev pub placed_as : {A B : Type 0} → (A → B) → PlacedForm A → Placed B
placed_as view p = record { at = p.at; value = view p.value }

-- a name and its place
abbrev pub name_tree : PlacedForm (Bor Text) → Placed Text
name_tree n = placed_as (λ t. t.now) n

-- a number and its place
abbrev pub number_tree : PlacedForm ℕ → Placed ℕ
number_tree n = placed_as (λ k. k) n

-- a name that may be left out
abbrev pub name_or_none : Option (PlacedForm (Bor Text)) → Option (Placed Text)
name_or_none None = None
name_or_none (Some n) = Some (name_tree n)

-- a number that may be left out
abbrev pub number_or_none : Option (PlacedForm ℕ) → Option (Placed ℕ)
number_or_none None = None
number_or_none (Some n) = Some (number_tree n)

-- ---- declarations

abbrev pub field_tree : Declaration → FieldTree
field_tree (declarations.Pointer n) = PointerField (name_tree n)
field_tree (declarations.Data n) = DataField (name_tree n)

abbrev pub shared_name : Shared → Placed Text
shared_name s = name_tree s.name

abbrev pub function_tree : Function → FunctionTree
function_tree f = Declares (name_tree f.name) f.takes_pointer

abbrev pub watch_tree : Watch → WatchTree
watch_tree (watches.Hazard f) = UseHazard (name_tree f)
watch_tree (watches.Epoch e l) = UseEpoch (name_tree e) (name_tree l)

-- what is watched, which may be left out
abbrev pub watched_tree : Option Watch → Option WatchTree
watched_tree None = None
watched_tree (Some w) = Some (watch_tree w)

-- ---- primitives

abbrev pub place_tree : Place → PlaceTree
place_tree p = PlaceOf (name_tree p.name) (name_or_none p.field)

abbrev pub value_tree : Value → ValueTree
value_tree (values.Null at) = NullValue at
value_tree (values.New at) = NewValue at
value_tree (values.Number n) = NumberValue (number_tree n)
value_tree (values.Mark at n) = MarkValue at (name_tree n)
value_tree (values.Unmark at n) = UnmarkValue at (name_tree n)
value_tree (values.Place p) = PlaceValue (place_tree p)

abbrev pub atom_tree : Atom → AtomTree
atom_tree (atoms.Null at) = NullAtom at
atom_tree (atoms.Number n) = NumberAtom (number_tree n)
atom_tree (atoms.Name n) = NameAtom (name_tree n)

abbrev pub set_tree : Set → SetTree
set_tree (sets.Name n v) = SetName (name_tree n) (value_tree v)
set_tree (sets.Field n f a) = SetField (name_tree n) (name_tree f) (atom_tree a)

abbrev pub refresh_tree : Refresh → RefreshTree
refresh_tree (refreshes.Name n p) = RefreshName (name_tree n) (place_tree p)
refresh_tree (refreshes.Field n f q) = RefreshField (name_tree n) (name_tree f) (name_tree q)

abbrev pub ghost_value_tree : GhostValue → GhostValueTree
ghost_value_tree (ghosts.Name n) = NameGhost (name_tree n)
ghost_value_tree (ghosts.Me at) = MeGhost at
ghost_value_tree (ghosts.None at) = NoneGhost at

abbrev pub ghost_set_tree : GhostSet → GhostSetTree
ghost_set_tree g = SetGhost (name_tree g.name) (name_tree g.field) (ghost_value_tree g.value)

abbrev pub relation_tree : Relation → Comparison
relation_tree relations.Same = SameAs
relation_tree relations.Other = OtherThan
relation_tree relations.Less = LessThan
relation_tree relations.NotLess = NotLessThan

abbrev pub test_tree : Test → TestTree
test_tree (tests.Marked n) = MarkedTest (name_tree n)
test_tree (tests.Unmarked n) = UnmarkedTest (name_tree n)
test_tree (tests.Compares n r a) = Compares (name_tree n) (placed_as relation_tree r) (atom_tree a)

abbrev pub cas_tree : Cas → ConditionTree
cas_tree c = CasCondition c.is_active (name_tree c.name) (name_or_none c.old) (name_or_none c.new)

abbrev pub condition_tree : Condition → ConditionTree
condition_tree (conditions.Test t) = TestCondition (test_tree t)
condition_tree (conditions.Refresh n p) = RefreshCondition (name_tree n) (place_tree p)
condition_tree (conditions.Cas c) = cas_tree c

abbrev pub primitive_tree : Primitive → PrimitiveTree
primitive_tree (primitives.Set s) = SetPrimitive (set_tree s)
primitive_tree (primitives.Refresh r) = RefreshPrimitive (refresh_tree r)
primitive_tree (primitives.Ghost g) = GhostPrimitive (ghost_set_tree g)
primitive_tree (primitives.Active n) = ActivePrimitive (name_tree n)
primitive_tree (primitives.Assume t) = AssumePrimitive (test_tree t)
primitive_tree primitives.Skip = SkipPrimitive

abbrev pub initial_tree : Initial → InitialTree
initial_tree (initials.Set s) = InitialSet (set_tree s)
initial_tree (initials.Ghost g) = InitialGhost (ghost_set_tree g)

-- ---- calls

abbrev pub argument_tree : Argument → ArgumentTree
argument_tree arguments.None = NoArgument
argument_tree arguments.Null = NullArgument
argument_tree (arguments.Name n) = NameArgument (name_tree n)
argument_tree (arguments.Active n) = ActiveArgument (name_tree n)

-- ---- outlines

abbrev pub term_tree : Term → TermTree
term_tree (terms.Place p) = PlaceTerm (place_tree p)
term_tree (terms.Null at) = NullTerm at
term_tree (terms.Number n) = NumberTerm (number_tree n)
term_tree (terms.Me at) = MeTerm at
term_tree (terms.None at) = NoneTerm at

abbrev pub flag_tree : Flag → FlagTree
flag_tree (flags.Retired n) = RetiredFlag (name_tree n)
flag_tree (flags.Marked p) = MarkedFlag (place_tree p)

abbrev pub literal_tree : Literal → LiteralTree
literal_tree (literals.Flag f) = FlagLiteral (flag_tree f)
literal_tree (literals.Not f) = NotLiteral (flag_tree f)
literal_tree (literals.Equation a e b) = EqualityLiteral (term_tree a) e (term_tree b)

abbrev pub bound_tree : Bound → BoundTree
bound_tree bounds.None = NoBound
bound_tree (bounds.All n m) = AllOf (name_tree n) (name_or_none m)
