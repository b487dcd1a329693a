-- A file with a meaning names what is there: in `init`, in the operations, and where it says what is watched. Each form is read where the names
-- in reach are there (`Reach.antt`), and leaves them so.
use Rattle.std.proofs.Common.{◌≡◌, ◌==◌, ◌&&◌, ◌||◌, ℕ, ◌+◌, Bool, true, false, Option, Some, None, IfSome, Result, Ok}
use Rattle.std.proofs.Common.{Err, List, [], ◌∷◌, length, refl, arith}
use Rattle.plc_lang.specs.declared.syntax.Var.{Var}
use Rattle.plc_lang.specs.declared.syntax.Rel.{Rel}
use Rattle.plc_lang.specs.declared.syntax.Primitive.{Primitive}
use Rattle.plc_lang.specs.declared.syntax.Op.{Op}
use Rattle.plc_lang.specs.Allocation.{is_new}
use Rattle.plc_lang.specs.Fit.{NamesWhatIsThere}
use Rattle.plc_lang.specs.Shape.{Shape, VarIn, VarOrNullIn, ArgIn, PrimitiveIn, PrimitivesIn, CondIn, StatementIn}
use Rattle.plc_lang.specs.Shape.{StatementsIn, BlocksIn}
use Rattle.plc_base.specs.Functions.{is_retire}
use Rattle.plc_base.specs.Limits.{most}
use Rattle.plc_base.specs.declared.limits.What1.TheVariants as limits
use Rattle.plc_base.specs.declared.ids.FieldId.{FieldId}
use Rattle.plc_base.specs.declared.ids.FuncId.{FuncId}
use Rattle.plc_auto.specs.declared.observer.Observer.{Observer}
use Rattle.plc_auto.specs.Table.{is_well_formed}
use Rattle.plc_syntax.specs.Trees.{Text, Placed, PlaceTree, PlaceOf, AtomTree, NullAtom, NumberAtom, NameAtom}
use Rattle.plc_syntax.specs.Trees.{ValueTree, NullValue, NewValue, NumberValue, MarkValue, UnmarkValue, PlaceValue}
use Rattle.plc_syntax.specs.Trees.{SetTree, SetName, SetField, RefreshTree, RefreshName, RefreshField, GhostSetTree}
use Rattle.plc_syntax.specs.Trees.{SetGhost, InitialTree, InitialSet, InitialGhost, Comparison, SameAs, OtherThan}
use Rattle.plc_syntax.specs.Trees.{LessThan, NotLessThan, TestTree, MarkedTest, UnmarkedTest, Compares, ConditionTree}
use Rattle.plc_syntax.specs.Trees.{TestCondition, RefreshCondition, CasCondition, PrimitiveTree, SetPrimitive}
use Rattle.plc_syntax.specs.Trees.{RefreshPrimitive, GhostPrimitive, ActivePrimitive, AssumePrimitive, SkipPrimitive}
use Rattle.plc_syntax.specs.Trees.{ArgumentTree, NoArgument, NullArgument, NameArgument, ActiveArgument, FieldTree}
use Rattle.plc_syntax.specs.Trees.{PointerField as PointerFieldTree, DataField as DataFieldTree, FunctionTree, Declares}
use Rattle.plc_syntax.specs.Trees.{WatchTree, UseHazard, UseEpoch, OneOf, OfThreads, GhostTree}
use Rattle.plc_syntax.specs.Trees.{Auxiliary as AuxiliaryTree, BlockTree, OpTree, Operates, FileTree}
use Rattle.plc_scope.specs.declared.fault.ParseFault.{ParseFault}
use Rattle.plc_scope.specs.declared.scope.Scope.{Scope}
use Rattle.plc_scope.specs.declared.binding.Binding.{Binding}
use Rattle.plc_scope.specs.declared.binding.Binding.TheVariants.{Taken, Shared, PointerField, DataField, Function}
use Rattle.plc_scope.specs.declared.binding.Binding.TheVariants.{Auxiliary, Value, LocalOnly}
use Rattle.plc_scope.specs.declared.binding.Role.{Role}
use Rattle.plc_scope.specs.declared.binding.Role.TheVariants.{PointerVariable as pointer_variable}
use Rattle.plc_scope.specs.declared.binding.Role.TheVariants.{DataLocal as data_local, PointerField as pointer_field}
use Rattle.plc_scope.specs.declared.binding.Role.TheVariants.{DataField as data_field}
use Rattle.plc_scope.specs.Scope.{◌>>=◌, first_scope, role_at, declared, declared_label, declared_parameter, role_as}
use Rattle.plc_scope.specs.Scope.{as_pointer, as_pointer_local, as_data, as_pointer_field, as_data_field, as_function}
use Rattle.plc_scope.specs.Scope.{as_auxiliary, as_protecting, as_without_pointer}
use Rattle.plc_scope.specs.Primitives.{pointer_value, data_value, value_into, pointer_atom, data_atom, atom_into}
use Rattle.plc_scope.specs.Primitives.{set_means, refresh_from, refresh_name_means, refresh_means, ghost_value_means}
use Rattle.plc_scope.specs.Primitives.{ghost_set_means, pointer_equality, pointer_test, data_test, test_of, test_means}
use Rattle.plc_scope.specs.Primitives.{pointer_or_null, condition_means, primitive_means, initial_means, CallMeaning}
use Rattle.plc_scope.specs.Primitives.{argument_means, call_means}
use Rattle.plc_parse.specs.declared.unit.Unit.{Unit as FileUnit}
use Rattle.plc_scope.specs.Limits.{stands_at}
use Rattle.plc_outparse.specs.Meaning.{in_turn}
use Rattle.plc_parse.specs.Meaning.{counted, before, allocates, count_of, forms_mean, atomic_means, one_or_skip}
use Rattle.plc_parse.specs.Meaning.{label_means, statements_mean, field_means, shared_means, function_means}
use Rattle.plc_parse.specs.Meaning.{value_means, ghost_means, listed, watch_means, init_means, local_means, op_means}
use Rattle.plc_parse.specs.Meaning.{placed_op_means, line_at, outlined_means, file_means}
use Rattle.plc_scope.proofs.Holds.{Has, has_along, weaker, next, any, unless, both_err}
use Rattle.plc_parse.proofs.Holds.{OneHas, EachHas, one_name, each_has, turns, Free}
use Rattle.plc_parse.proofs.Upward.{Facts, GoesUp, PartsHave, PrimitiveHas, AtomicHas, CallHas, LabelRead, Read}
use Rattle.plc_parse.proofs.Upward.{statements_read}
use Rattle.plc_parse.proofs.Reach.{BindingIn, RoleIn, Bound, Reaches, outside, inside, reaches_more, first_reaches}
use Rattle.plc_parse.proofs.Reach.{declared_reaches, label_reaches, local_bound, parameter_bound, PointerIn, ValueIn}
use Rattle.plc_parse.proofs.Reach.{FieldIn, NotRetire, names_in}

-- ---- primitives, conditions and calls in a scope

-- `skip` is none
abbrev IfPrimitiveIn : Shape → Option Primitive → Type 0
IfPrimitiveIn h k = IfSome k (PrimitiveIn h)

module _ (h : Shape) (s : Scope) (r : Reaches h s) where
  pointer_value_in : (p : Var) (v : ValueTree) → VarIn h p → Has (PrimitiveIn h) (pointer_value s p v)
  pointer_value_in p (NullValue at) is = is
  pointer_value_in p (NewValue at) is = is
  pointer_value_in p (NumberValue n) is = tt
  pointer_value_in p (MarkValue at n) is =
      next (VarIn h) (PrimitiveIn h) (role_as as_pointer s n) _ (names_in h s r n).pointer (λ q a. (is, a))
  pointer_value_in p (UnmarkValue at n) is =
      next (VarIn h) (PrimitiveIn h) (role_as as_pointer s n) _ (names_in h s r n).pointer (λ q a. (is, a))
  pointer_value_in p (PlaceValue (PlaceOf n None)) is = next (VarIn h) (PrimitiveIn h) (role_as as_pointer s n) _ (names_in h s r n).pointer (λ q a. (is, a))
  pointer_value_in p (PlaceValue (PlaceOf n (Some f))) is = next (VarIn h) (PrimitiveIn h) (role_as as_pointer s n) _ (names_in h s r n).pointer (λ q a.
      next (FieldIn h) (PrimitiveIn h) (role_as as_pointer_field s f) _ (names_in h s r f).pointer_field (λ g b. (is, a, b)))

  data_value_in : (x : ℕ) (v : ValueTree) → ValueIn h x → Has (PrimitiveIn h) (data_value s x v)
  data_value_in x (NullValue at) is = tt
  data_value_in x (NewValue at) is = tt
  data_value_in x (NumberValue n) is = (is, tt)
  data_value_in x (MarkValue at n) is = tt
  data_value_in x (UnmarkValue at n) is = tt
  data_value_in x (PlaceValue (PlaceOf n None)) is = next (ValueIn h) (PrimitiveIn h) (role_as as_data s n) _ (names_in h s r n).value (λ y a. (is, a))
  data_value_in x (PlaceValue (PlaceOf n (Some f))) is = next (VarIn h) (PrimitiveIn h) (role_as as_pointer s n) _ (names_in h s r n).pointer (λ q a.
      next (FieldIn h) (PrimitiveIn h) (role_as as_data_field s f) _ (names_in h s r f).data_field (λ g b. (is, a, b)))

  value_into_in : (v : ValueTree) (n : Placed Text) (left : Role) → RoleIn h left → Has (PrimitiveIn h) (value_into s v n left)
  value_into_in v n (pointer_variable p) is = pointer_value_in p v is
  value_into_in v n (data_local x) is = data_value_in x v is
  value_into_in v n left is = tt

  pointer_atom_in : (p : Var) (f : FieldId) (a : AtomTree) → VarIn h p → FieldIn h f → Has (PrimitiveIn h) (pointer_atom s p f a)
  pointer_atom_in p f (NullAtom at) is field = (is, field)
  pointer_atom_in p f (NumberAtom n) is field = tt
  pointer_atom_in p f (NameAtom n) is field = next (VarIn h) (PrimitiveIn h) (role_as as_pointer s n) _ (names_in h s r n).pointer (λ q a. (is, field, a))

  data_atom_in : (p : Var) (f : FieldId) (a : AtomTree) → VarIn h p → FieldIn h f → Has (PrimitiveIn h) (data_atom s p f a)
  data_atom_in p f (NullAtom at) is field = tt
  data_atom_in p f (NumberAtom n) is field = (is, field, tt)
  data_atom_in p f (NameAtom n) is field = next (ValueIn h) (PrimitiveIn h) (role_as as_data s n) _ (names_in h s r n).value (λ y a. (is, field, a))

  atom_into_in : (p : Var) (a : AtomTree) (n : Placed Text) (field : Role) → VarIn h p → RoleIn h field → Has (PrimitiveIn h) (atom_into s p a n field)
  atom_into_in p a n (pointer_field f) is field = pointer_atom_in p f a is field
  atom_into_in p a n (data_field f) is field = data_atom_in p f a is field
  atom_into_in p a n other is field = tt

  set_in : (t : SetTree) → Has (PrimitiveIn h) (set_means s t)
  unfolding set_means
  set_in (SetName n v) = next (RoleIn h) (PrimitiveIn h) (role_at s n) _ (names_in h s r n).any (λ left a. value_into_in v n left a)
  set_in (SetField n f a) = next (VarIn h) (PrimitiveIn h) (role_as as_pointer s n) _ (names_in h s r n).pointer (λ p is.
      next (RoleIn h) (PrimitiveIn h) (role_at s f) _ (names_in h s r f).any (λ field b. atom_into_in p a f field is b))

  refresh_from_in : (p : ℕ) (place : PlaceTree) → PointerIn h p → Has (PrimitiveIn h) (refresh_from s p place)
  refresh_from_in p (PlaceOf n None) is = next (VarIn h) (PrimitiveIn h) (role_as as_pointer s n) _ (names_in h s r n).pointer (λ q a. (is, a))
  refresh_from_in p (PlaceOf n (Some f)) is = next (VarIn h) (PrimitiveIn h) (role_as as_pointer s n) _ (names_in h s r n).pointer (λ q a.
      next (FieldIn h) (PrimitiveIn h) (role_as as_pointer_field s f) _ (names_in h s r f).pointer_field (λ g b. (is, a, b)))

  refresh_name_in : (n : Placed Text) (place : PlaceTree) → Has (PrimitiveIn h) (refresh_name_means s n place)
  unfolding refresh_name_means
  refresh_name_in n place = next (PointerIn h) (PrimitiveIn h) (role_as as_pointer_local s n) _ (names_in h s r n).pointer_local (λ p a. refresh_from_in p place a)

  refresh_in : (t : RefreshTree) → Has (PrimitiveIn h) (refresh_means s t)
  unfolding refresh_means
  refresh_in (RefreshName n place) = refresh_name_in n place
  refresh_in (RefreshField n f m) = next (VarIn h) (PrimitiveIn h) (role_as as_pointer s n) _ (names_in h s r n).pointer (λ p a.
      next (FieldIn h) (PrimitiveIn h) (role_as as_pointer_field s f) _ (names_in h s r f).pointer_field (λ g b.
      next (VarIn h) (PrimitiveIn h) (role_as as_pointer s m) _ (names_in h s r m).pointer (λ q c. (a, b, c))))

  ghost_set_in : (in_init : Bool) (t : GhostSetTree) → Has (PrimitiveIn h) (ghost_set_means s in_init t)
  unfolding ghost_set_means
  ghost_set_in in_init (SetGhost n f v) = next (VarIn h) (PrimitiveIn h) (role_as as_pointer s n) _ (names_in h s r n).pointer (λ p a.
      any (PrimitiveIn h) (role_as as_auxiliary s f) _ (λ g. any (PrimitiveIn h) (ghost_value_means s in_init g.0 g.1 v) _ (λ w. a)))

  equality_in : (p : Var) (is_equal : Bool) (a : AtomTree) → VarIn h p → Has (PrimitiveIn h) (pointer_equality s p is_equal a)
  equality_in p true (NullAtom at) is = is
  equality_in p false (NullAtom at) is = is
  equality_in p is_equal (NumberAtom n) is = tt
  equality_in p true (NameAtom n) is = next (VarIn h) (PrimitiveIn h) (role_as as_pointer s n) _ (names_in h s r n).pointer (λ q a. (is, a))
  equality_in p false (NameAtom n) is = next (VarIn h) (PrimitiveIn h) (role_as as_pointer s n) _ (names_in h s r n).pointer (λ q a. (is, a))

  pointer_test_in : (p : Var) (at : ℕ) (c : Comparison) (a : AtomTree) → VarIn h p → Has (PrimitiveIn h) (pointer_test s p at c a)
  pointer_test_in p at SameAs a is = equality_in p true a is
  pointer_test_in p at OtherThan a is = equality_in p false a is
  pointer_test_in p at LessThan a is = tt
  pointer_test_in p at NotLessThan a is = tt

  data_test_in : (x : ℕ) (rel : Rel) (a : AtomTree) → ValueIn h x → Has (PrimitiveIn h) (data_test s x rel a)
  data_test_in x rel (NullAtom at) is = tt
  data_test_in x rel (NumberAtom n) is = (is, tt)
  data_test_in x rel (NameAtom n) is = next (ValueIn h) (PrimitiveIn h) (role_as as_data s n) _ (names_in h s r n).value (λ y a. (is, a))

  test_of_in : (n : Placed Text) (c : Placed Comparison) (a : AtomTree) (left : Role) → RoleIn h left → Has (PrimitiveIn h) (test_of s n c a left)
  test_of_in n c a (pointer_variable p) is = pointer_test_in p c.at c.value a is
  test_of_in n c a (data_local x) is = data_test_in x _ a is
  test_of_in n c a left is = tt

  test_in : (t : TestTree) → Has (PrimitiveIn h) (test_means s t)
  unfolding test_means
  test_in (MarkedTest n) =
      next (VarIn h) (PrimitiveIn h) (role_as as_pointer s n) _ (names_in h s r n).pointer (λ p a. a)
  test_in (UnmarkedTest n) =
      next (VarIn h) (PrimitiveIn h) (role_as as_pointer s n) _ (names_in h s r n).pointer (λ p a. a)
  test_in (Compares n c a) = next (RoleIn h) (PrimitiveIn h) (role_at s n) _ (names_in h s r n).any (λ left b. test_of_in n c a left b)

  or_null_in : (n : Option (Placed Text)) → Has (VarOrNullIn h) (pointer_or_null s n)
  or_null_in None = tt
  or_null_in (Some n) = next (VarIn h) (VarOrNullIn h) (role_as as_pointer s n) _ (names_in h s r n).pointer (λ q a. a)

  condition_in : (c : ConditionTree) → Has (CondIn h) (condition_means s c)
  unfolding condition_means
  condition_in (TestCondition t) = next (PrimitiveIn h) (CondIn h) (test_means s t) _ (test_in t) (λ k a. a)
  condition_in (RefreshCondition n place) = next (PrimitiveIn h) (CondIn h) (refresh_name_means s n place) _ (refresh_name_in n place) (λ k a. a)
  condition_in (CasCondition is_active n old new) =
      next (VarIn h) (CondIn h) (role_as as_pointer s n) _ (names_in h s r n).pointer (λ p a.
      next (VarOrNullIn h) (CondIn h) (pointer_or_null s old) _ (or_null_in old) (λ q b.
      next (VarOrNullIn h) (CondIn h) (pointer_or_null s new) _ (or_null_in new) (λ q c. (a, b, c))))

  some_in : (m : Result Primitive ParseFault) → Has (PrimitiveIn h) m → Has (IfPrimitiveIn h) (m >>= λ k. Ok (Some k))
  some_in m is = next (PrimitiveIn h) (IfPrimitiveIn h) m _ is (λ k a. a)

  primitive_in : (p : PrimitiveTree) → Has (IfPrimitiveIn h) (primitive_means s p)
  unfolding primitive_means
  primitive_in (SetPrimitive set) = some_in (set_means s set) (set_in set)
  primitive_in (RefreshPrimitive refresh) = some_in (refresh_means s refresh) (refresh_in refresh)
  primitive_in (GhostPrimitive set) = some_in (ghost_set_means s false set) (ghost_set_in false set)
  primitive_in (ActivePrimitive n) = next (VarIn h) (IfPrimitiveIn h) (role_as as_pointer s n) _ (names_in h s r n).pointer (λ p a. a)
  primitive_in (AssumePrimitive t) = some_in (test_means s t) (test_in t)
  primitive_in SkipPrimitive = tt

  initial_in : (i : InitialTree) → Has (IfPrimitiveIn h) (initial_means s i)
  unfolding initial_means
  initial_in (InitialSet set) = some_in (set_means s set) (set_in set)
  initial_in (InitialGhost set) = some_in (ghost_set_means s true set) (ghost_set_in true set)

  abbrev CallIn : CallMeaning → Type 0
  CallIn c = ArgIn h c.1

  argument_in : (n : Placed Text) (f : FuncId) (takes_pointer : Bool) (a : ArgumentTree) → Has CallIn (argument_means s n f takes_pointer a)
  argument_in n f false NoArgument = tt
  argument_in n f false a = tt
  argument_in n f true NoArgument = tt
  argument_in n f true NullArgument = unless CallIn (is_retire f) _ _ (λ other. tt)
  argument_in n f true (NameArgument m) = next (VarIn h) CallIn (role_as as_pointer s m) _ (names_in h s r m).pointer (λ p a. a)
  argument_in n f true (ActiveArgument m) = next (VarIn h) CallIn (role_as as_pointer s m) _ (names_in h s r m).pointer (λ p a. a)

  call_in : (n : Placed Text) (a : ArgumentTree) → Has CallIn (call_means s n a)
  unfolding call_means
  call_in n a = any CallIn (role_as as_function s n) _ (λ f. argument_in n f.0 f.1 a)

-- ---- primitives of one step

module _ (h : Shape) where
  counted_in : (n : ℕ) (has_new : Bool) (at : ℕ) (m : Result (Option Primitive) ParseFault) → Has (IfPrimitiveIn h) m → Has (IfPrimitiveIn h) (counted n has_new at m)
  counted_in n has_new at (Ok None) is = tt
  counted_in n has_new at (Ok (Some k)) is = unless (IfPrimitiveIn h) (n == most limits.Prims) _ _ (λ few. unless (IfPrimitiveIn h) (has_new && is_new k) _ (Ok (Some k)) (λ one. is))
  counted_in n has_new at (Err e) is = both_err (IfPrimitiveIn h) (stands_at at e) (n == most limits.Prims) e _ e

  before_in : (k : Option Primitive) (ks : List Primitive) → IfPrimitiveIn h k → PrimitivesIn h ks → PrimitivesIn h (before k ks)
  before_in None ks is others = others
  before_in (Some k) ks is others = (is, others)

  module _ {X : Type 0} (means : X → Result (Option Primitive) ParseFault) (each : (x : X) → Has (IfPrimitiveIn h) (means x)) where
    forms_in : (n : ℕ) (has_new : Bool) (xs : List (Placed X)) → Has (PrimitivesIn h) (forms_mean means n has_new xs)
    forms_in n has_new [] = tt
    forms_in n has_new (x ∷ xs) = next (IfPrimitiveIn h) (PrimitivesIn h) (counted n has_new x.at (means x.value)) _ (counted_in n has_new x.at (means x.value) (each x.value)) (λ k a.
        next (PrimitivesIn h) (PrimitivesIn h) (forms_mean means (n + count_of k) (has_new || allocates k) xs) _ (forms_in (n + count_of k) (has_new || allocates k) xs) (λ others b.
        before_in k others a b))

-- ---- statements

one_in : (h : Shape) (k : Option Primitive) → IfPrimitiveIn h k → StatementIn h (one_or_skip k)
one_in h None is = tt
one_in h (Some k) is = is

label_in : (h : Shape) (s : Scope) (n : Placed Text) → Reaches h s → Has (LabelRead (Reaches h)) (label_means s n)
label_in h s n r = unless (LabelRead (Reaches h)) (length s.labels == most limits.Labels) _ _ (λ few. next (Reaches h) (LabelRead (Reaches h)) (declared_label s n) _ (label_reaches h s n r) (λ t k. k))

module _ (h : Shape) where
  -- names what is there
  abbrev Names : Facts
  Names = record { Condition = CondIn h; One = StatementIn h; Many = StatementsIn h; Several = BlocksIn h }

  names_go_up : GoesUp Names
  names_go_up = record {
    of_if = λ k a b is yes no. (is, yes, no);
    of_choice = λ bs is. is;
    of_loop = λ b is. is;
    leaves = record { of_break = tt; of_return = tt; of_label = λ l. tt; of_empty = tt; of_none = tt };
    of_more = λ line st b is others. (is, others);
    of_further = λ b bs is others. (is, others);
  }

  parts_in : PartsHave (Reaches h) Names
  parts_in = record {
    primitive = λ s p r. weaker (IfPrimitiveIn h) (PrimitiveHas Names) (primitive_means s p) (one_in h) (primitive_in h s r p);
    atomic = λ s ps r. weaker (PrimitivesIn h) (AtomicHas Names) (atomic_means s ps) (λ b is. is) (forms_in h (primitive_means s) (primitive_in h s r) 0 false ps);
    call = λ s n a r. weaker (CallIn h s r) (CallHas Names) (call_means s n a) (λ c is l. is) (call_in h s r n a);
    condition = λ s c r. condition_in h s r c;
    label = label_in h;
  }

  statements_in : (lines : List ℕ) (s : Scope) (in_loop : Bool) (b : BlockTree) → Reaches h s → Has (Read (Reaches h) (StatementsIn h)) (statements_mean lines s in_loop b)
  statements_in lines s in_loop b r = statements_read (Reaches h) Names names_go_up parts_in lines s in_loop b r

-- ---- locals

module _ (P : Binding → Type 0) (of_local : P LocalOnly) where
  pub parameters_bound : (s : Scope) (names : List (Placed Text)) → Bound P s → Has (Bound P) (in_turn declared_parameter s names)
  parameters_bound = turns (Bound P) declared_parameter (parameter_bound P of_local)

  one_local_bound : (s : Scope) (l : FieldTree) → Bound P s → Has (Bound P) (local_means s l)
  one_local_bound s (PointerFieldTree name) b = local_bound P of_local s name true b
  one_local_bound s (DataFieldTree name) b = local_bound P of_local s name false b

  pub locals_bound : (s : Scope) (ls : List FieldTree) → Bound P s → Has (Bound P) (in_turn local_means s ls)
  locals_bound = turns (Bound P) local_means one_local_bound

-- ---- declarations

-- each of so many fields is there, and no shared pointer yet
abbrev HasFields : ℕ → Scope → Type 0
HasFields n s = Reaches (outside 0 n) s

-- each of the fields and of so many shared pointers is there
abbrev HasShared : ℕ → ℕ → Scope → Type 0
HasShared fields n s = Reaches (outside n fields) s

field_in : (s : Scope) (n : ℕ) (f : FieldTree) → HasFields n s → Has (OneHas Free HasFields n) (field_means s n f)
field_in s n (PointerFieldTree name) r = one_name Free HasFields n limits.Fields s name _ _ tt (λ few.
    declared_reaches (outside 0 (n + 1)) s name (PointerField (record { 0 = n })) (omega arith) (reaches_more 0 n 0 (n + 1) s (omega arith) (omega arith) r))
field_in s n (DataFieldTree name) r = one_name Free HasFields n limits.Fields s name _ _ tt (λ few.
    declared_reaches (outside 0 (n + 1)) s name (DataField (record { 0 = n })) (omega arith) (reaches_more 0 n 0 (n + 1) s (omega arith) (omega arith) r))

module _ (fields : ℕ) where
  shared_in : (s : Scope) (n : ℕ) (name : Placed Text) → HasShared fields n s → Has (OneHas Free (HasShared fields) n) (shared_means s n name)
  shared_in s n name r = one_name Free (HasShared fields) n limits.Shared s name _ _ tt (λ few.
      declared_reaches (outside (n + 1) fields) s name (Shared n) (omega arith) (reaches_more n fields (n + 1) fields s (omega arith) (omega arith) r))

-- after the shared pointers the state stays
module _ (shared fields : ℕ) where
  abbrev h : Shape
  h = outside shared fields

  abbrev Stays : ℕ → Scope → Type 0
  Stays n s = Reaches h s

  function_in : (s : Scope) (n : ℕ) (f : FunctionTree) → Reaches h s → Has (OneHas Free Stays n) (function_means s n f)
  function_in s n (Declares name p) r = one_name Free Stays n limits.Calls s name _ _ tt (λ few. declared_reaches h s name (Function (record { 0 = n + 1 }) p) (λ none. omega arith) r)

  abbrev ValueRead : {Y : Type 0} → Y × Scope → Type 0
  ValueRead v = Reaches h v.1

  abbrev ValuesRead : {Y : Type 0} → Y × Scope → Type 0
  ValuesRead v = Reaches h v.1

  one_value_in : (s : Scope) (g n : ℕ) (name : Placed Text) → Reaches h s → Has ValueRead (value_means g s n name)
  one_value_in s g n name r = next (Reaches h) ValueRead (declared s name (Value g n)) _ (declared_reaches h s name (Value g n) tt r) (λ t k.
      unless ValueRead (n == most limits.Values) _ _ (λ few. k))

  values_in : (s : Scope) (g n : ℕ) (names : List (Placed Text)) → Reaches h s → Has ValuesRead (listed (value_means g) s n names)
  values_in s g n [] r = r
  values_in s g n (name ∷ names) r = next ValueRead ValuesRead (value_means g s n name) _ (one_value_in s g n name r) (λ first f.
      next ValuesRead ValuesRead (listed (value_means g) first.1 (n + 1) names) _ (values_in first.1 g (n + 1) names f) (λ others k. k))

  ghost_in : (s : Scope) (n : ℕ) (g : GhostTree) → Reaches h s → Has (OneHas Free Stays n) (ghost_means s n g)
  ghost_in s n (AuxiliaryTree name OfThreads) r = one_name Free Stays n limits.Ghosts s name _ _ tt (λ few. declared_reaches h s name (Auxiliary n true) tt r)
  ghost_in s n (AuxiliaryTree name (OneOf v vs)) r = unless (OneHas Free Stays n) (n == most limits.Ghosts) _ _ (λ few.
      next (Reaches h) (OneHas Free Stays n) (declared s name (Auxiliary n false)) _ (declared_reaches h s name (Auxiliary n false) tt r) (λ t k.
      next ValuesRead (OneHas Free Stays n) (listed (value_means n) t 0 (v ∷ vs)) _ (values_in t n 0 (v ∷ vs) k) (λ values m. record { is = tt; state = m })))

  -- ---- operations

  abbrev OpIn : Op → Type 0
  OpIn o = StatementsIn (inside shared fields o.locals) o.body

  op_in : (lines : List ℕ) (s : Scope) (n : ℕ) (o : Placed OpTree) → Reaches h s → Has (OneHas OpIn Stays n) (placed_op_means lines s n o)
  op_in lines s n o r = on_line (line_at lines o.at) o.value
    where
      on_line : (line : ℕ) (o : OpTree) → Has (OneHas OpIn Stays n) (op_means lines line s n o)
      on_line line (Operates name ps ls b) = unless (OneHas OpIn Stays n) (n == most limits.Ops) _ _ (λ few.
          next (Reaches h) (OneHas OpIn Stays n) (declared s name Taken) _ (declared_reaches h s name Taken tt r) (λ t k.
          next (Bound (BindingIn shared fields)) (OneHas OpIn Stays n) (in_turn declared_parameter t ps) _ (parameters_bound (BindingIn shared fields) tt t ps k.bound) (λ p c.
          next (Bound (BindingIn shared fields)) (OneHas OpIn Stays n) (in_turn local_means p ls) _ (locals_bound (BindingIn shared fields) tt p ls c) (λ l d.
          let here : Shape = inside shared fields l.locals in
          next (Read (Reaches here) (StatementsIn here)) (OneHas OpIn Stays n) (statements_mean lines l false b) _ (statements_in here lines l false b (record { bound = d; pointers = omega arith; values = omega arith })) (λ body f.
          record { is = f.is; state = record { bound = f.state.bound; pointers = omega arith; values = omega arith } })))))

-- ---- the file

abbrev Watches : Observer → Type 0
Watches o = is_well_formed o ≡ true

watch_in : (h : Shape) (s : Scope) (w : Option WatchTree) → Reaches h s → Has Watches (watch_means s w)
watch_in h s None r = refl
watch_in h s (Some (UseHazard f)) r = next NotRetire Watches (role_as as_protecting s f) _ (names_in h s r f).hazard (λ g a. rw a refl)
watch_in h s (Some (UseEpoch e l)) r = next NotRetire Watches (role_as as_without_pointer s e) _ (names_in h s r e).epoch (λ f a.
    next NotRetire Watches (role_as as_without_pointer s l) _ (names_in h s r l).epoch (λ g b. rw (a, b) refl))

starts_in : (h : Shape) (s : Scope) (starts : Option (List (Placed InitialTree))) → Reaches h s → Has (PrimitivesIn h) (init_means s starts)
starts_in h s None r = tt
starts_in h s (Some is) r = forms_in h (initial_means s) (initial_in h s r) 0 false is

-- the file names what is there, and its observer watches no `retire`
pub record IsRead (u : FileUnit) : Type 0 where
  pub names : NamesWhatIsThere u.file
  pub observer : is_well_formed u.observer ≡ true

unit_in : (lines : List ℕ) (f : FileTree) → Has IsRead (file_means lines f)
unfolding file_means
unit_in lines f =
    next (HasFields 0) IsRead (declared first_scope f.name Taken) _ (declared_reaches (outside 0 0) first_scope f.name Taken tt first_reaches) (λ s first.
    next (EachHas Free HasFields 0) IsRead (listed field_means s 0 f.fields) _ (each_has field_means Free HasFields field_in s 0 f.fields first) (λ fields a.
    let m : ℕ = length fields.0 in
    next (EachHas Free (HasShared m) 0) IsRead (listed shared_means fields.1 0 f.pointers) _
    (each_has shared_means Free (HasShared m) (shared_in m) fields.1 0 f.pointers (reaches_more 0 (0 + m) 0 m fields.1 (omega arith) (omega arith) a.state)) (λ pointers b.
    let n : ℕ = length pointers.0 in
    let h : Shape = outside n m in
    next (EachHas Free (Stays n m) 0) IsRead (listed function_means pointers.1 0 f.functions) _
    (each_has function_means Free (Stays n m) (function_in n m) pointers.1 0 f.functions (reaches_more (0 + n) m n m pointers.1 (omega arith) (omega arith) b.state)) (λ functions c.
    next Watches IsRead (watch_means functions.1 f.watched) _ (watch_in h functions.1 f.watched c.state) (λ observer w.
    next (EachHas Free (Stays n m) 0) IsRead (listed ghost_means functions.1 0 f.ghosts) _
    (each_has ghost_means Free (Stays n m) (ghost_in n m) functions.1 0 f.ghosts c.state) (λ ghosts d.
    next (PrimitivesIn h) IsRead (init_means ghosts.1 f.starts) _ (starts_in h ghosts.1 f.starts d.state) (λ starts i.
    next (EachHas (OpIn n m) (Stays n m) 0) IsRead (listed (placed_op_means lines) ghosts.1 0 f.ops) _
    (each_has (placed_op_means lines) (OpIn n m) (Stays n m) (op_in n m lines) ghosts.1 0 f.ops d.state) (λ ops o.
    any IsRead (outlined_means ops.1 ops.0 f.outlined) _ (λ outline.
    record { names = record { init = i; each_op = o.each }; observer = w })))))))))

pub file_named : (lines : List ℕ) (f : FileTree) (u : FileUnit) → file_means lines f ≡ Ok u → IsRead u
file_named lines f u e = has_along IsRead (file_means lines f) u e (unit_in lines f)
