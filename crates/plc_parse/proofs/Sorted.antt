-- Each thing of a file with a meaning stands where its kind may stand. What a name stands for is there and is what the name says (`There.antt`),
-- and each form asks for the kind that its place wants.
use Rattle.std.proofs.Common.{◌≡◌, ◌==◌, ◌&&◌, ◌||◌, not, if◌then◌else◌, ℕ, ◌<◌, Bool, true, false, Option, Some, None}
use Rattle.std.proofs.Common.{IfSome, Result, Ok, List, [], ◌∷◌, length, slice_get, refl, ap, subst}
use Rattle.std.proofs.Math.Bool.{and-false}
use Rattle.std.proofs.lemmas.Bool.{eqb-true}
use Rattle.plc_base.specs.declared.ids.FieldId.{FieldId}
use Rattle.plc_base.specs.declared.ids.FuncId.{FuncId}
use Rattle.plc_base.specs.Functions.{is_retire}
use Rattle.plc_lang.specs.declared.syntax.Var.{Var}
use Rattle.plc_lang.specs.declared.syntax.Rel.{Rel}
use Rattle.plc_lang.specs.declared.syntax.GhostVal.{GhostVal}
use Rattle.plc_lang.specs.declared.syntax.Primitive.{Primitive}
use Rattle.plc_lang.specs.declared.syntax.Ghost.{Ghost}
use Rattle.plc_lang.specs.declared.syntax.Local.{Local}
use Rattle.plc_lang.specs.declared.syntax.File.{File}
use Rattle.plc_lang.specs.WellSorted.{IsWellSorted, is_call, is_test, is_refresh, is_initial, is_me, WriteIsWellSorted}
use Rattle.plc_lang.specs.WellSorted.{CallIsWellSorted, ClaimFits, ConditionIsWellSorted}
use Rattle.plc_syntax.specs.Trees.{Text, Placed, PlaceTree, PlaceOf, AtomTree, NullAtom, NumberAtom, NameAtom}
use Rattle.plc_syntax.specs.Trees.{ValueTree, NullValue, NewValue, NumberValue, MarkValue, UnmarkValue, PlaceValue}
use Rattle.plc_syntax.specs.Trees.{SetTree, SetName, SetField, RefreshTree, RefreshName, RefreshField, GhostValueTree}
use Rattle.plc_syntax.specs.Trees.{NameGhost, MeGhost, NoneGhost, GhostSetTree, SetGhost, InitialTree, InitialSet}
use Rattle.plc_syntax.specs.Trees.{InitialGhost, Comparison, SameAs, OtherThan, LessThan, NotLessThan, TestTree}
use Rattle.plc_syntax.specs.Trees.{MarkedTest, UnmarkedTest, Compares, ConditionTree, TestCondition, RefreshCondition}
use Rattle.plc_syntax.specs.Trees.{CasCondition, PrimitiveTree, SetPrimitive, RefreshPrimitive, GhostPrimitive}
use Rattle.plc_syntax.specs.Trees.{ActivePrimitive, AssumePrimitive, SkipPrimitive, ArgumentTree, NoArgument}
use Rattle.plc_syntax.specs.Trees.{NullArgument, NameArgument, ActiveArgument}
use Rattle.plc_scope.specs.declared.fault.ParseFault.{ParseFault}
use Rattle.plc_scope.specs.declared.scope.Scope.{Scope}
use Rattle.plc_scope.specs.declared.binding.Binding.{Binding}
use Rattle.plc_scope.specs.declared.binding.Binding.TheVariants.{Shared}
use Rattle.plc_scope.specs.declared.binding.Role.{Role}
use Rattle.plc_scope.specs.declared.binding.Role.TheVariants.{PointerVariable as pointer_variable}
use Rattle.plc_scope.specs.declared.binding.Role.TheVariants.{DataLocal as data_local, PointerField as pointer_field}
use Rattle.plc_scope.specs.declared.binding.Role.TheVariants.{DataField as data_field, Function as function}
use Rattle.plc_scope.specs.declared.binding.Role.TheVariants.{Auxiliary as auxiliary, Value as value}
use Rattle.plc_scope.specs.Scope.{◌>>=◌, needed, role_of, role_at, local_role, binding_role, as_pointer_field}
use Rattle.plc_scope.specs.Scope.{as_data_field, as_function, as_protecting, as_without_pointer, as_auxiliary}
use Rattle.plc_scope.specs.Scope.{as_value_of, as_thread, role_as, as_pointer, as_pointer_local, as_data}
use Rattle.plc_scope.specs.Primitives.{pointer_value, data_value, value_into, pointer_atom, data_atom, atom_into}
use Rattle.plc_scope.specs.Primitives.{set_means, refresh_from, refresh_name_means, refresh_means, ghost_value_means}
use Rattle.plc_scope.specs.Primitives.{ghost_set_means, pointer_equality, pointer_test, data_test, test_of, test_means}
use Rattle.plc_scope.specs.Primitives.{pointer_or_null, condition_means, primitive_means, initial_means, CallMeaning}
use Rattle.plc_scope.specs.Primitives.{argument_means, call_means}
use Rattle.plc_scope.proofs.Holds.{Has, weaker, next, any, unless, known_has}
use Rattle.plc_outparse.specs.Fit.{holds_threads}
use Rattle.plc_parse.proofs.Reach.{role_is, needed_in}
use Rattle.plc_parse.proofs.There.{Lists, IsField, IsFunction, RoleThere, IsThere, AllThere, lists_of}

-- ---- what a name is

-- a function with a pointer
abbrev pub IsProtecting : Lists → FuncId → Type 0
IsProtecting d f = IsFunction d f.0 true

-- a function without a pointer
abbrev pub IsWithoutPointer : Lists → FuncId → Type 0
IsWithoutPointer d f = IsFunction d f.0 false

module _ (d : Lists) where
  binding_there : (b : Binding) → IsThere d b → IfSome (binding_role b) (RoleThere d)
  binding_there (Shared k) is = tt
  binding_there b is = is

  local_there : (ls : List Local) (i : ℕ) (pointer : Bool) → RoleThere d (local_role ls i pointer)
  local_there ls i true = tt
  local_there ls i false = tt

  pointer_fields : (k : Role) → RoleThere d k → IfSome (as_pointer_field k) (λ f. IsField d f.0 true)
  pointer_fields (pointer_field f) is = is
  pointer_fields k is = tt

  data_fields : (k : Role) → RoleThere d k → IfSome (as_data_field k) (λ f. IsField d f.0 false)
  data_fields (data_field f) is = is
  data_fields k is = tt

  abbrev FunctionFound : FuncId × Bool → Type 0
  FunctionFound f = IsFunction d f.0.0 f.1

  functions : (k : Role) → RoleThere d k → IfSome (as_function k) FunctionFound
  functions (function f p) is = is
  functions k is = tt

  protects : (f : FuncId) (p retires : Bool) → IsFunction d f.0 p → IfSome (if p && not retires then Some f else None) (IsProtecting d)
  protects f false retires is = tt
  protects f true true is = tt
  protects f true false is = is

  protecting : (k : Role) → RoleThere d k → IfSome (as_protecting k) (IsProtecting d)
  protecting (function f p) is = protects f p (is_retire f) is
  protecting k is = tt

  without_pointers : (k : Role) → RoleThere d k → IfSome (as_without_pointer k) (IsWithoutPointer d)
  without_pointers (function f true) is = tt
  without_pointers (function f false) is = is
  without_pointers k is = tt

  abbrev AuxiliaryFound : ℕ × Bool → Type 0
  AuxiliaryFound g = (h : Ghost) × (slice_get d.ghosts g.0 ≡ Some h) × (g.1 ≡ holds_threads h.values)

  auxiliaries : (k : Role) → RoleThere d k → IfSome (as_auxiliary k) AuxiliaryFound
  auxiliaries (auxiliary g t) is = is
  auxiliaries k is = tt

  abbrev ValueFound : ℕ → ℕ → Type 0
  ValueFound g v = (h : Ghost) × (slice_get d.ghosts g ≡ Some h) × (v < length h.values)

  of_field : (h g v : ℕ) (same : Bool) → (g == h) ≡ same → ValueFound g v → IfSome (if same then Some v else None) (ValueFound h)
  of_field h g v true e is = subst (λ k. ValueFound k v) (eqb-true g h e) is
  of_field h g v false e is = tt

  values : (h : ℕ) (k : Role) → RoleThere d k → IfSome (as_value_of h k) (ValueFound h)
  values h (value g v) is = of_field h g v (g == h) refl is
  values h k is = tt

  module _ (s : Scope) (all : AllThere d s) (n : Placed Text) where
    role_there : IfSome (role_of s n.value) (RoleThere d)
    role_there = role_is (IsThere d) (RoleThere d) binding_there s n.value all (λ i l there. local_there s.locals i l.pointer)

    found : {A : Type 0} (P : A → Type 0) (wanted : Role → Option A) → ((k : Role) → RoleThere d k → IfSome (wanted k) P) → Has P (needed wanted n.at (role_of s n.value))
    found P wanted each = needed_in (RoleThere d) P wanted each n.at (role_of s n.value) role_there

    any_there : Has (RoleThere d) (role_at s n)
    any_there = known_has (RoleThere d) n.at (role_of s n.value) role_there

    pointer_field_there : Has (λ f. IsField d f.0 true) (role_as as_pointer_field s n)
    unfolding role_as
    pointer_field_there = found (λ f. IsField d f.0 true) as_pointer_field pointer_fields

    data_field_there : Has (λ f. IsField d f.0 false) (role_as as_data_field s n)
    unfolding role_as
    data_field_there = found (λ f. IsField d f.0 false) as_data_field data_fields

    function_is_there : Has FunctionFound (role_as as_function s n)
    unfolding role_as
    function_is_there = found FunctionFound as_function functions

    pub protecting_there : Has (IsProtecting d) (role_as as_protecting s n)
    unfolding role_as
    protecting_there = found (IsProtecting d) as_protecting protecting

    pub without_pointer_there : Has (IsWithoutPointer d) (role_as as_without_pointer s n)
    unfolding role_as
    without_pointer_there = found (IsWithoutPointer d) as_without_pointer without_pointers

    auxiliary_there : Has AuxiliaryFound (role_as as_auxiliary s n)
    unfolding role_as
    auxiliary_there = found AuxiliaryFound as_auxiliary auxiliaries

    value_is_there : (g : ℕ) → Has (ValueFound g) (role_as (as_value_of g) s n)
    unfolding role_as
    value_is_there g = found (ValueFound g) (as_value_of g) (values g)

    no_thread_there : Has (λ v. ⊥) (role_as as_thread s n)
    unfolding role_as
    no_thread_there = found (λ v. ⊥) as_thread (λ k is. tt)

-- ---- primitives, conditions and calls

-- a primitive that is no call, of one of the kinds of primitives
pub record IsOf (file : File) (kind : Primitive → Bool) (k : Primitive) : Type 0 where
  pub sorted : IsWellSorted file k
  pub no_call : is_call k ≡ false
  pub of_kind : kind k ≡ true

-- a primitive that is no call
abbrev pub every_kind : Primitive → Bool
every_kind k = true

threads_have_none : (vs : List ℕ) → true ≡ holds_threads vs → vs ≡ []
threads_have_none [] e = refl
threads_have_none (v ∷ vs) e = absurd cc

module _ (file : File) (s : Scope) (all : AllThere (lists_of file) s) where
  abbrev pub IsSet : Primitive → Type 0
  IsSet = IsOf file is_initial

  pointer_value_sorted : (p : Var) (v : ValueTree) → Has IsSet (pointer_value s p v)
  pointer_value_sorted p (NullValue at) = record { sorted = tt; no_call = refl; of_kind = refl }
  pointer_value_sorted p (NewValue at) = record { sorted = tt; no_call = refl; of_kind = refl }
  pointer_value_sorted p (NumberValue n) = tt
  pointer_value_sorted p (MarkValue at n) =
      any IsSet (role_as as_pointer s n) _ (λ q. record { sorted = tt; no_call = refl; of_kind = refl })
  pointer_value_sorted p (UnmarkValue at n) =
      any IsSet (role_as as_pointer s n) _ (λ q. record { sorted = tt; no_call = refl; of_kind = refl })
  pointer_value_sorted p (PlaceValue (PlaceOf n None)) = any IsSet (role_as as_pointer s n) _ (λ q. record { sorted = tt; no_call = refl; of_kind = refl })
  pointer_value_sorted p (PlaceValue (PlaceOf n (Some f))) = any IsSet (role_as as_pointer s n) _ (λ q.
      next (λ g. IsField (lists_of file) g.0 true) IsSet (role_as as_pointer_field s f) _ (pointer_field_there (lists_of file) s all f) (λ g is. record { sorted = is; no_call = refl; of_kind = refl }))

  data_value_sorted : (x : ℕ) (v : ValueTree) → Has IsSet (data_value s x v)
  data_value_sorted x (NullValue at) = tt
  data_value_sorted x (NewValue at) = tt
  data_value_sorted x (NumberValue n) = record { sorted = tt; no_call = refl; of_kind = refl }
  data_value_sorted x (MarkValue at n) = tt
  data_value_sorted x (UnmarkValue at n) = tt
  data_value_sorted x (PlaceValue (PlaceOf n None)) = any IsSet (role_as as_data s n) _ (λ y. record { sorted = tt; no_call = refl; of_kind = refl })
  data_value_sorted x (PlaceValue (PlaceOf n (Some f))) = any IsSet (role_as as_pointer s n) _ (λ q.
      next (λ g. IsField (lists_of file) g.0 false) IsSet (role_as as_data_field s f) _ (data_field_there (lists_of file) s all f) (λ g is. record { sorted = is; no_call = refl; of_kind = refl }))

  value_into_sorted : (v : ValueTree) (n : Placed Text) (left : Role) → Has IsSet (value_into s v n left)
  value_into_sorted v n (pointer_variable p) = pointer_value_sorted p v
  value_into_sorted v n (data_local x) = data_value_sorted x v
  value_into_sorted v n left = tt

  pointer_atom_sorted : (p : Var) (f : FieldId) (a : AtomTree) → IsField (lists_of file) f.0 true → Has IsSet (pointer_atom s p f a)
  pointer_atom_sorted p f (NullAtom at) is = record { sorted = is; no_call = refl; of_kind = refl }
  pointer_atom_sorted p f (NumberAtom n) is = tt
  pointer_atom_sorted p f (NameAtom n) is = any IsSet (role_as as_pointer s n) _ (λ q. record { sorted = is; no_call = refl; of_kind = refl })

  data_atom_sorted : (p : Var) (f : FieldId) (a : AtomTree) → IsField (lists_of file) f.0 false → Has IsSet (data_atom s p f a)
  data_atom_sorted p f (NullAtom at) is = tt
  data_atom_sorted p f (NumberAtom n) is = record { sorted = is; no_call = refl; of_kind = refl }
  data_atom_sorted p f (NameAtom n) is = any IsSet (role_as as_data s n) _ (λ y. record { sorted = is; no_call = refl; of_kind = refl })

  atom_into_sorted : (p : Var) (a : AtomTree) (n : Placed Text) (field : Role) → RoleThere (lists_of file) field → Has IsSet (atom_into s p a n field)
  atom_into_sorted p a n (pointer_field f) is = pointer_atom_sorted p f a is
  atom_into_sorted p a n (data_field f) is = data_atom_sorted p f a is
  atom_into_sorted p a n other is = tt

  set_sorted : (t : SetTree) → Has IsSet (set_means s t)
  unfolding set_means
  set_sorted (SetName n v) = any IsSet (role_at s n) _ (λ left. value_into_sorted v n left)
  set_sorted (SetField n f a) = any IsSet (role_as as_pointer s n) _ (λ p.
      next (RoleThere (lists_of file)) IsSet (role_at s f) _ (any_there (lists_of file) s all f) (λ field is. atom_into_sorted p a f field is))

  abbrev IsRefresh : Primitive → Type 0
  IsRefresh = IsOf file is_refresh

  refresh_from_sorted : (p : ℕ) (place : PlaceTree) → Has IsRefresh (refresh_from s p place)
  refresh_from_sorted p (PlaceOf n None) = any IsRefresh (role_as as_pointer s n) _ (λ q. record { sorted = tt; no_call = refl; of_kind = refl })
  refresh_from_sorted p (PlaceOf n (Some f)) = any IsRefresh (role_as as_pointer s n) _ (λ q.
      next (λ g. IsField (lists_of file) g.0 true) IsRefresh (role_as as_pointer_field s f) _ (pointer_field_there (lists_of file) s all f) (λ g is. record { sorted = is; no_call = refl; of_kind = refl }))

  refresh_name_sorted : (n : Placed Text) (place : PlaceTree) → Has IsRefresh (refresh_name_means s n place)
  unfolding refresh_name_means
  refresh_name_sorted n place = any IsRefresh (role_as as_pointer_local s n) _ (λ p. refresh_from_sorted p place)

  abbrev pub IsPlain : Primitive → Type 0
  IsPlain = IsOf file every_kind

  plain : {kind : Primitive → Bool} (k : Primitive) → IsOf file kind k → IsPlain k
  plain k is = record { sorted = is.sorted; no_call = is.no_call; of_kind = refl }

  refresh_sorted : (t : RefreshTree) → Has IsPlain (refresh_means s t)
  unfolding refresh_means
  refresh_sorted (RefreshName n place) = weaker IsRefresh IsPlain (refresh_name_means s n place) (λ k is. plain k is) (refresh_name_sorted n place)
  refresh_sorted (RefreshField n f m) = any IsPlain (role_as as_pointer s n) _ (λ p.
      next (λ g. IsField (lists_of file) g.0 true) IsPlain (role_as as_pointer_field s f) _ (pointer_field_there (lists_of file) s all f) (λ g is.
      any IsPlain (role_as as_pointer s m) _ (λ q. record { sorted = is; no_call = refl; of_kind = refl })))

  -- a value that fits the auxiliary field; `init` has no acting thread
  record IsValueOf (in_init : Bool) (g : ℕ) (v : GhostVal) : Type 0 where
    fits : WriteIsWellSorted file g v
    starts : (in_init && is_me v) ≡ false

  ghost_value_sorted : (in_init : Bool) (g : ℕ) (t : Bool) (v : GhostValueTree) → AuxiliaryFound (lists_of file) (g, t) → Has (IsValueOf in_init g) (ghost_value_means s in_init g t v)
  ghost_value_sorted in_init g false (NameGhost n) is = next (ValueFound (lists_of file) g) (IsValueOf in_init g) (role_as (as_value_of g) s n) _ (value_is_there (lists_of file) s all n g) (λ v a. record { fits = a; starts = and-false in_init })
  ghost_value_sorted in_init g true (NameGhost n) is = next (λ v. ⊥) (IsValueOf in_init g) (role_as as_thread s n) _ (no_thread_there (lists_of file) s all n) (λ v a. absurd a)
  ghost_value_sorted in_init g false (MeGhost at) is = tt
  ghost_value_sorted false g true (MeGhost at) is = record { fits = (is.0, is.1, threads_have_none is.0.values is.2); starts = refl }
  ghost_value_sorted true g true (MeGhost at) is = tt
  ghost_value_sorted in_init g false (NoneGhost at) is = tt
  ghost_value_sorted in_init g true (NoneGhost at) is = record { fits = (is.0, is.1, threads_have_none is.0.values is.2); starts = and-false in_init }

  -- in `init` it is initial
  abbrev writes : Bool → Primitive → Bool
  writes in_init k = not in_init || is_initial k

  write_starts : (in_init : Bool) (v : GhostVal) → (in_init && is_me v) ≡ false → (not in_init || not (is_me v)) ≡ true
  write_starts true v e = ap not e
  write_starts false v e = refl

  ghost_set_sorted : (in_init : Bool) (t : GhostSetTree) → Has (IsOf file (writes in_init)) (ghost_set_means s in_init t)
  unfolding ghost_set_means
  ghost_set_sorted in_init (SetGhost n f v) = any (IsOf file (writes in_init)) (role_as as_pointer s n) _ (λ p.
      next (AuxiliaryFound (lists_of file)) (IsOf file (writes in_init)) (role_as as_auxiliary s f) _ (auxiliary_there (lists_of file) s all f) (λ g is.
      next (IsValueOf in_init g.0) (IsOf file (writes in_init)) (ghost_value_means s in_init g.0 g.1 v) _ (ghost_value_sorted in_init g.0 g.1 v is) (λ w fits.
      record { sorted = fits.fits; no_call = refl; of_kind = write_starts in_init w fits.starts })))

  abbrev IsTest : Primitive → Type 0
  IsTest = IsOf file is_test

  equality_sorted : (p : Var) (is_equal : Bool) (a : AtomTree) → Has IsTest (pointer_equality s p is_equal a)
  equality_sorted p true (NullAtom at) = record { sorted = tt; no_call = refl; of_kind = refl }
  equality_sorted p false (NullAtom at) = record { sorted = tt; no_call = refl; of_kind = refl }
  equality_sorted p is_equal (NumberAtom n) = tt
  equality_sorted p true (NameAtom n) = any IsTest (role_as as_pointer s n) _ (λ q. record { sorted = tt; no_call = refl; of_kind = refl })
  equality_sorted p false (NameAtom n) = any IsTest (role_as as_pointer s n) _ (λ q. record { sorted = tt; no_call = refl; of_kind = refl })

  pointer_test_sorted : (p : Var) (at : ℕ) (c : Comparison) (a : AtomTree) → Has IsTest (pointer_test s p at c a)
  pointer_test_sorted p at SameAs a = equality_sorted p true a
  pointer_test_sorted p at OtherThan a = equality_sorted p false a
  pointer_test_sorted p at LessThan a = tt
  pointer_test_sorted p at NotLessThan a = tt

  data_test_sorted : (x : ℕ) (rel : Rel) (a : AtomTree) → Has IsTest (data_test s x rel a)
  data_test_sorted x rel (NullAtom at) = tt
  data_test_sorted x rel (NumberAtom n) = record { sorted = tt; no_call = refl; of_kind = refl }
  data_test_sorted x rel (NameAtom n) = any IsTest (role_as as_data s n) _ (λ y. record { sorted = tt; no_call = refl; of_kind = refl })

  test_of_sorted : (n : Placed Text) (c : Placed Comparison) (a : AtomTree) (left : Role) → Has IsTest (test_of s n c a left)
  test_of_sorted n c a (pointer_variable p) = pointer_test_sorted p c.at c.value a
  test_of_sorted n c a (data_local x) = data_test_sorted x _ a
  test_of_sorted n c a left = tt

  test_sorted : (t : TestTree) → Has IsTest (test_means s t)
  unfolding test_means
  test_sorted (MarkedTest n) =
      any IsTest (role_as as_pointer s n) _ (λ p. record { sorted = tt; no_call = refl; of_kind = refl })
  test_sorted (UnmarkedTest n) =
      any IsTest (role_as as_pointer s n) _ (λ p. record { sorted = tt; no_call = refl; of_kind = refl })
  test_sorted (Compares n c a) = any IsTest (role_at s n) _ (λ left. test_of_sorted n c a left)

  pub condition_sorted : (c : ConditionTree) → Has (ConditionIsWellSorted file) (condition_means s c)
  unfolding condition_means
  condition_sorted (TestCondition t) = next IsTest (ConditionIsWellSorted file) (test_means s t) _ (test_sorted t) (λ k is. is.of_kind)
  condition_sorted (RefreshCondition n place) = next IsRefresh (ConditionIsWellSorted file) (refresh_name_means s n place) _ (refresh_name_sorted n place) (λ k is. (is.sorted, is.of_kind))
  condition_sorted (CasCondition is_active n old new) =
      any (ConditionIsWellSorted file) (role_as as_pointer s n) _ (λ p.
      any (ConditionIsWellSorted file) (pointer_or_null s old) _ (λ q.
      any (ConditionIsWellSorted file) (pointer_or_null s new) _ (λ r. tt)))

  -- `skip` is none
  abbrev pub MaybePlain : Option Primitive → Type 0
  MaybePlain k = IfSome k IsPlain

  some_plain : (kind : Primitive → Bool) (m : Result Primitive ParseFault) → Has (IsOf file kind) m → Has MaybePlain (m >>= λ k. Ok (Some k))
  some_plain kind m is = next (IsOf file kind) MaybePlain m _ is (λ k a. plain k a)

  pub primitive_sorted : (p : PrimitiveTree) → Has MaybePlain (primitive_means s p)
  unfolding primitive_means
  primitive_sorted (SetPrimitive set) = some_plain is_initial (set_means s set) (set_sorted set)
  primitive_sorted (RefreshPrimitive refresh) = some_plain every_kind (refresh_means s refresh) (refresh_sorted refresh)
  primitive_sorted (GhostPrimitive set) = some_plain (writes false) (ghost_set_means s false set) (ghost_set_sorted false set)
  primitive_sorted (ActivePrimitive n) = any MaybePlain (role_as as_pointer s n) _ (λ p. record { sorted = tt; no_call = refl; of_kind = refl })
  primitive_sorted (AssumePrimitive t) = some_plain is_test (test_means s t) (test_sorted t)
  primitive_sorted SkipPrimitive = tt

  abbrev pub MaybeInitial : Option Primitive → Type 0
  MaybeInitial k = IfSome k IsSet

  initial_of : (k : Primitive) → IsOf file (writes true) k → IsSet k
  initial_of k is = record { sorted = is.sorted; no_call = is.no_call; of_kind = is.of_kind }

  pub initial_sorted : (i : InitialTree) → Has MaybeInitial (initial_means s i)
  unfolding initial_means
  initial_sorted (InitialSet set) = next IsSet MaybeInitial (set_means s set) _ (set_sorted set) (λ k is. is)
  initial_sorted (InitialGhost set) = next (IsOf file (writes true)) MaybeInitial (ghost_set_means s true set) _ (ghost_set_sorted true set) (λ k is. initial_of k is)

  pub record IsCall (c : CallMeaning) : Type 0 where
    pub sorted : CallIsWellSorted file c.0 c.1
    pub claim : ClaimFits c.2 c.1

  argument_sorted : (n : Placed Text) (f : FuncId) (p : Bool) (a : ArgumentTree) → IsFunction (lists_of file) f.0 p → Has IsCall (argument_means s n f p a)
  argument_sorted n f false NoArgument is = record { sorted = is; claim = refl }
  argument_sorted n f false NullArgument is = tt
  argument_sorted n f false (NameArgument m) is = tt
  argument_sorted n f false (ActiveArgument m) is = tt
  argument_sorted n f true NoArgument is = tt
  argument_sorted n f true NullArgument is = unless IsCall (is_retire f) _ _ (λ other. record { sorted = (is, other); claim = refl })
  argument_sorted n f true (NameArgument m) is = any IsCall (role_as as_pointer s m) _ (λ p. record { sorted = is; claim = tt })
  argument_sorted n f true (ActiveArgument m) is = any IsCall (role_as as_pointer s m) _ (λ p. record { sorted = is; claim = tt })

  pub call_sorted : (n : Placed Text) (a : ArgumentTree) → Has IsCall (call_means s n a)
  unfolding call_means
  call_sorted n a = next (FunctionFound (lists_of file)) IsCall (role_as as_function s n) _ (function_is_there (lists_of file) s all n) (λ f is. argument_sorted n f.0 f.1 a is)
