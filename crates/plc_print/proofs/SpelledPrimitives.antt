-- Each primitive, condition and call that is read is spelled by the tree that it was read from, without places.
use Rattle.std.proofs.Common.{◌≡◌, ℕ, Bool, true, false, Option, Some, None, Result, List, [], refl, sym, ap, ◌∙◌}
use Rattle.plc_base.specs.Functions.{is_retire}
use Rattle.plc_base.specs.declared.ids.FuncId.{FuncId}
use Rattle.plc_base.specs.declared.ids.FieldId.{FieldId}
use Rattle.plc_lang.specs.declared.syntax.File.{File}
use Rattle.plc_lang.specs.declared.syntax.Local.{Local}
use Rattle.plc_lang.specs.declared.syntax.Var.{Var}
use Rattle.plc_lang.specs.declared.syntax.GhostVal.{GhostVal}
use Rattle.plc_lang.specs.declared.syntax.Num.{Num}
use Rattle.plc_lang.specs.declared.syntax.Num.TheVariants as nums
use Rattle.plc_lang.specs.declared.syntax.Primitive.{Primitive}
use Rattle.plc_lang.specs.declared.syntax.Primitive.TheVariants as prims
use Rattle.plc_lang.specs.declared.syntax.Cond.{Cond}
use Rattle.plc_syntax.specs.Trees.{Text, Placed, PlaceTree, PlaceOf, AtomTree, NullAtom, NumberAtom, NameAtom}
use Rattle.plc_syntax.specs.Trees.{ValueTree, NullValue, NewValue, NumberValue, MarkValue, UnmarkValue, PlaceValue}
use Rattle.plc_syntax.specs.Trees.{SetTree, SetName, SetField, RefreshTree, RefreshName, RefreshField, GhostValueTree}
use Rattle.plc_syntax.specs.Trees.{NameGhost, MeGhost, NoneGhost, GhostSetTree, SetGhost, InitialTree, InitialSet}
use Rattle.plc_syntax.specs.Trees.{InitialGhost, Comparison, SameAs, OtherThan, LessThan, NotLessThan, TestTree}
use Rattle.plc_syntax.specs.Trees.{MarkedTest, UnmarkedTest, Compares, ConditionTree, TestCondition, RefreshCondition}
use Rattle.plc_syntax.specs.Trees.{CasCondition, PrimitiveTree, SetPrimitive, RefreshPrimitive, GhostPrimitive}
use Rattle.plc_syntax.specs.Trees.{ActivePrimitive, AssumePrimitive, SkipPrimitive, ArgumentTree, NoArgument}
use Rattle.plc_syntax.specs.Trees.{NullArgument, NameArgument, ActiveArgument}
use Rattle.plc_syntax.specs.Forms.{at_place}
use Rattle.plc_syntax.proofs.Unplaced.{unplaced_label, unplaced_set, unplaced_refresh, unplaced_ghost_value}
use Rattle.plc_syntax.proofs.Unplaced.{unplaced_ghost_set, unplaced_test, unplaced_condition, unplaced_primitive}
use Rattle.plc_syntax.proofs.Unplaced.{unplaced_initial, unplaced_argument}
use Rattle.plc_scope.specs.declared.fault.ParseFault.{ParseFault}
use Rattle.plc_scope.specs.declared.fault.ParseFault.TheVariants as faults
use Rattle.plc_scope.specs.declared.scope.Scope.{Scope}
use Rattle.plc_scope.specs.declared.binding.Role.{Role}
use Rattle.plc_scope.specs.declared.binding.Role.TheVariants.{PointerVariable as pointer_variable}
use Rattle.plc_scope.specs.declared.binding.Role.TheVariants.{DataLocal as data_local, PointerField as pointer_field}
use Rattle.plc_scope.specs.declared.binding.Role.TheVariants.{DataField as data_field}
use Rattle.plc_scope.specs.Scope.{◌>>=◌, role_at, needed, role_of, as_thread, role_as, as_pointer, as_pointer_local}
use Rattle.plc_scope.specs.Scope.{as_data, as_pointer_field, as_data_field, as_function, as_auxiliary, as_value_of}
use Rattle.plc_scope.specs.Primitives.{pointer_value, data_value, value_into, pointer_atom, with_number, atom_into}
use Rattle.plc_scope.specs.Primitives.{set_means, refresh_from, refresh_name_means, refresh_means, ghost_value_means}
use Rattle.plc_scope.specs.Primitives.{ghost_set_means, pointer_test, relation, test_of, test_means, pointer_or_null}
use Rattle.plc_scope.specs.Primitives.{condition_means, primitive_means, initial_means, CallMeaning, argument_means}
use Rattle.plc_scope.specs.Primitives.{call_means}
use Rattle.plc_scope.proofs.Holds.{Has, next, weaker, unless}
use Rattle.plc_print.specs.Canonical.{set_tree, number_tree, ghost_value_tree, test_tree, primitive_tree, name_or_null}
use Rattle.plc_print.specs.Canonical.{refresh_condition, condition_tree, argument_tree, initial_tree}
use Rattle.plc_lang.specs.Names.{field_name, function_name, auxiliary_name, value_name, pointer_name, data_name}
use Rattle.plc_lang.specs.Names.{variable_name}
use Rattle.plc_print.specs.Outlines.{bare}
use Rattle.plc_print.proofs.NormalTrees.{stays}
use Rattle.plc_print.proofs.SpelledNames.{Bound, Ends, RoleIs, names_found}

module _ (file : File) (s : Scope) (bound : Bound file s) where
  -- ---- names in turn

  abbrev IsVariable : Placed Text → Var → Type 0
  IsVariable n q = Ends file s → variable_name file s.locals q ≡ n.value

  abbrev IsData : Placed Text → ℕ → Type 0
  IsData n x = Ends file s → data_name file s.locals x ≡ n.value

  abbrev IsField : Placed Text → FieldId → Type 0
  IsField n f = Ends file s → field_name file f ≡ n.value

  by_pointer : {B : Type 0} (n : Placed Text) (Q : B → Type 0) (f : Var → Result B ParseFault) → ((q : Var) → IsVariable n q → Has Q (f q)) → Has Q (role_as as_pointer s n >>= f)
  by_pointer n Q f k = next (IsVariable n) Q (role_as as_pointer s n) f (names_found file s n bound).pointer k

  by_data : {B : Type 0} (n : Placed Text) (Q : B → Type 0) (f : ℕ → Result B ParseFault) → ((x : ℕ) → IsData n x → Has Q (f x)) → Has Q (role_as as_data s n >>= f)
  by_data n Q f k = next (IsData n) Q (role_as as_data s n) f (names_found file s n bound).data_local k

  by_pointer_field : {B : Type 0} (n : Placed Text) (Q : B → Type 0) (f : FieldId → Result B ParseFault) → ((x : FieldId) → IsField n x → Has Q (f x)) → Has Q (role_as as_pointer_field s n >>= f)
  by_pointer_field n Q f k = next (IsField n) Q (role_as as_pointer_field s n) f (names_found file s n bound).pointer_field k

  by_data_field : {B : Type 0} (n : Placed Text) (Q : B → Type 0) (f : FieldId → Result B ParseFault) → ((x : FieldId) → IsField n x → Has Q (f x)) → Has Q (role_as as_data_field s n >>= f)
  by_data_field n Q f k = next (IsField n) Q (role_as as_data_field s n) f (names_found file s n bound).data_field k

  -- ---- assignments

  -- the primitive is spelled by this assignment, as a statement and in `init`
  record AsSet (set : SetTree) (k : Primitive) : Type 0 where
    tree : Ends file s → set_tree file s.locals k ≡ unplaced_set set
    stands : primitive_tree file s.locals k ≡ SetPrimitive (set_tree file s.locals k)
    begins : initial_tree file k ≡ InitialSet (set_tree file [] k)

  pointer_value_found : (p : Var) (n : Placed Text) (v : ValueTree) → IsVariable n p → Has (AsSet (SetName n v)) (pointer_value s p v)
  pointer_value_found p n (NullValue i) h = record { tree = λ e. rw (h e) refl; stands = refl; begins = refl }
  pointer_value_found p n (NewValue i) h = record { tree = λ e. rw (h e) refl; stands = refl; begins = refl }
  pointer_value_found p n (NumberValue m) h = tt
  pointer_value_found p n (MarkValue i m) h = by_pointer m _ _ (λ q f.
      record { tree = λ e. rw (h e, f e) refl; stands = refl; begins = refl })
  pointer_value_found p n (UnmarkValue i m) h = by_pointer m _ _ (λ q f.
      record { tree = λ e. rw (h e, f e) refl; stands = refl; begins = refl })
  pointer_value_found p n (PlaceValue (PlaceOf m None)) h = by_pointer m _ _ (λ q f.
      record { tree = λ e. rw (h e, f e) refl; stands = refl; begins = refl })
  pointer_value_found p n (PlaceValue (PlaceOf m (Some g))) h = by_pointer m _ _ (λ q f. by_pointer_field g _ _ (λ x k.
      record { tree = λ e. rw (h e, f e, k e) refl; stands = refl; begins = refl }))

  data_value_found : (x : ℕ) (n : Placed Text) (v : ValueTree) → IsData n x → Has (AsSet (SetName n v)) (data_value s x v)
  data_value_found x n (NullValue i) h = tt
  data_value_found x n (NewValue i) h = tt
  data_value_found x n (MarkValue i m) h = tt
  data_value_found x n (UnmarkValue i m) h = tt
  data_value_found x n (NumberValue m) h = record { tree = λ e. rw (h e) refl; stands = refl; begins = refl }
  data_value_found x n (PlaceValue (PlaceOf m None)) h = by_data m _ _ (λ y f.
      record { tree = λ e. rw (h e, f e) refl; stands = refl; begins = refl })
  data_value_found x n (PlaceValue (PlaceOf m (Some g))) h = by_pointer m _ _ (λ q f. by_data_field g _ _ (λ y k.
      record { tree = λ e. rw (h e, f e, k e) refl; stands = refl; begins = refl }))

  value_into_found : (n : Placed Text) (v : ValueTree) (r : Role) → (Ends file s → RoleIs file s.locals n.value r) → Has (AsSet (SetName n v)) (value_into s v n r)
  value_into_found n v (pointer_variable p) h = pointer_value_found p n v h
  value_into_found n v (data_local x) h = data_value_found x n v h
  value_into_found n v _ h = tt

  pointer_atom_found : (p : Var) (n m : Placed Text) (x : FieldId) (a : AtomTree) → IsVariable n p → IsField m x → Has (AsSet (SetField n m a)) (pointer_atom s p x a)
  pointer_atom_found p n m x (NullAtom i) h k = record { tree = λ e. rw (h e, k e) refl; stands = refl; begins = refl }
  pointer_atom_found p n m x (NumberAtom i) h k = tt
  pointer_atom_found p n m x (NameAtom q) h k = by_pointer q _ _ (λ v f.
      record { tree = λ e. rw (h e, k e, f e) refl; stands = refl; begins = refl })

  data_atom_found : (p : Var) (n m : Placed Text) (x : FieldId) (a : AtomTree) → IsVariable n p → IsField m x → Has (AsSet (SetField n m a)) (with_number s a (prims.DataStore p x))
  data_atom_found p n m x (NullAtom i) h k = tt
  data_atom_found p n m x (NumberAtom i) h k = record { tree = λ e. rw (h e, k e) refl; stands = refl; begins = refl }
  data_atom_found p n m x (NameAtom q) h k = by_data q _ _ (λ v f.
      record { tree = λ e. rw (h e, k e, f e) refl; stands = refl; begins = refl })

  atom_into_found : (p : Var) (n m : Placed Text) (a : AtomTree) (r : Role) → IsVariable n p → (Ends file s → RoleIs file s.locals m.value r) → Has (AsSet (SetField n m a)) (atom_into s p a m r)
  atom_into_found p n m a (pointer_field x) h k = pointer_atom_found p n m x a h k
  atom_into_found p n m a (data_field x) h k = data_atom_found p n m x a h k
  atom_into_found p n m a _ h k = tt

  set_found : (set : SetTree) → Has (AsSet set) (set_means s set)
  unfolding set_means
  set_found (SetName n v) = next (λ r. Ends file s → RoleIs file s.locals n.value r) _ (role_at s n) _ (names_found file s n bound).any (λ r f. value_into_found n v r f)
  set_found (SetField n m a) =
      by_pointer n _ _ (λ p h.
      next (λ r. Ends file s → RoleIs file s.locals m.value r) _ (role_at s m) _ (names_found file s m bound).any (λ r f. atom_into_found p n m a r h f))

  -- ---- refreshes

  -- the primitive is spelled by this refresh of a local, as a statement and as a condition
  record AsRefresh (n : Placed Text) (place : PlaceTree) (k : Primitive) : Type 0 where
    stands : Ends file s → primitive_tree file s.locals k ≡ RefreshPrimitive (unplaced_refresh (RefreshName n place))
    tests : Ends file s → refresh_condition file s.locals k ≡ unplaced_condition (RefreshCondition n place)

  abbrev IsPointerLocal : Placed Text → ℕ → Type 0
  IsPointerLocal n p = Ends file s → pointer_name file s.locals p ≡ n.value

  refresh_from_found : (p : ℕ) (n : Placed Text) (place : PlaceTree) → IsPointerLocal n p → Has (AsRefresh n place) (refresh_from s p place)
  refresh_from_found p n (PlaceOf m None) h = by_pointer m _ _ (λ q f.
      record { stands = λ e. rw (h e, f e) refl; tests = λ e. rw (h e, f e) refl })
  refresh_from_found p n (PlaceOf m (Some g)) h = by_pointer m _ _ (λ q f. by_pointer_field g _ _ (λ x k.
      record { stands = λ e. rw (h e, f e, k e) refl; tests = λ e. rw (h e, f e, k e) refl }))

  refresh_name_found : (n : Placed Text) (place : PlaceTree) → Has (AsRefresh n place) (refresh_name_means s n place)
  unfolding refresh_name_means
  refresh_name_found n place =
      next (IsPointerLocal n) _ (role_as as_pointer_local s n) _ (names_found file s n bound).pointer_local (λ p h.
      refresh_from_found p n place h)

  -- the primitive is spelled by this tree
  abbrev pub IsSpelled : PrimitiveTree → Primitive → Type 0
  IsSpelled tree k = Ends file s → primitive_tree file s.locals k ≡ unplaced_primitive tree

  refresh_found : (r : RefreshTree) → Has (IsSpelled (RefreshPrimitive r)) (refresh_means s r)
  unfolding refresh_means
  refresh_found (RefreshName n place) =
      weaker (AsRefresh n place) _ (refresh_name_means s n place) (λ k g. g.stands) (refresh_name_found n place)
  refresh_found (RefreshField n g m) = by_pointer n _ _ (λ p h. by_pointer_field g _ _ (λ x k. by_pointer m _ _ (λ q f.
      (λ e. rw (h e, k e, f e) refl))))

  -- ---- auxiliary fields

  abbrev IsGhostValue : ℕ → GhostValueTree → GhostVal → Type 0
  IsGhostValue g v w = Ends file s → ghost_value_tree file s.locals g w ≡ unplaced_ghost_value v

  no_thread : (o : Option Role) (place : ℕ) (f : ℕ → Result GhostVal ParseFault) (Q : GhostVal → Type 0) → Has Q (needed as_thread place o >>= f)
  no_thread None place f Q = tt
  no_thread (Some r) place f Q = tt

  ghost_value_found : (in_init : Bool) (g : ℕ) (thread : Bool) (v : GhostValueTree) → Has (IsGhostValue g v) (ghost_value_means s in_init g thread v)
  unfolding role_as
  ghost_value_found in_init g false (NameGhost n) =
      next (λ v. Ends file s → value_name file g v ≡ n.value) _ (role_as (as_value_of g) s n) _ ((names_found file s n bound).value g) (λ v f. (λ e. ap (λ n. NameGhost (bare n)) (f e)))
  ghost_value_found in_init g true (NameGhost n) = no_thread (role_of s n.value) n.at _ _
  ghost_value_found in_init g false (MeGhost i) = tt
  ghost_value_found false g true (MeGhost i) = (λ e. refl)
  ghost_value_found true g true (MeGhost i) = tt
  ghost_value_found in_init g false (NoneGhost i) = tt
  ghost_value_found in_init g true (NoneGhost i) = (λ e. refl)

  -- the primitive is spelled by this assignment to an auxiliary field, as a statement and in `init`
  record AsGhost (set : GhostSetTree) (k : Primitive) : Type 0 where
    stands : Ends file s → primitive_tree file s.locals k ≡ GhostPrimitive (unplaced_ghost_set set)
    begins : s.locals ≡ [] → Ends file s → initial_tree file k ≡ InitialGhost (unplaced_ghost_set set)

  ghost_set_found : (in_init : Bool) (set : GhostSetTree) → Has (AsGhost set) (ghost_set_means s in_init set)
  unfolding ghost_set_means
  ghost_set_found in_init (SetGhost n f v) = by_pointer n _ _ (λ p h.
      next (λ g. Ends file s → auxiliary_name file g.0 ≡ f.value) _ (role_as as_auxiliary s f) _ (names_found file s f bound).auxiliary (λ g k.
      next (IsGhostValue g.0 v) _ (ghost_value_means s in_init g.0 g.1 v) _ (ghost_value_found in_init g.0 g.1 v) (λ w m.
      record {
        stands = λ e. rw (h e, k e, m e) refl;
        begins = λ none e. ap (λ (ls : List Local). InitialGhost (SetGhost (bare (variable_name file ls p)) (bare (auxiliary_name file g.0)) (ghost_value_tree file ls g.0 w))) (sym none) ∙ rw (h e, k e, m e) refl;
      })))

  -- ---- tests

  -- the primitive is spelled by this test, as a condition and after `assume`
  record AsTest (t : TestTree) (k : Primitive) : Type 0 where
    tree : Ends file s → test_tree file s.locals k ≡ unplaced_test t
    stands : primitive_tree file s.locals k ≡ AssumePrimitive (test_tree file s.locals k)

  pointer_test_found : (p : Var) (n : Placed Text) (at : ℕ) (c : Comparison) (a : AtomTree) → IsVariable n p → Has (AsTest (Compares n (at_place at c) a)) (pointer_test s p at c a)
  pointer_test_found p n at SameAs (NullAtom i) h = record { tree = λ e. rw (h e) refl; stands = refl }
  pointer_test_found p n at SameAs (NumberAtom i) h = tt
  pointer_test_found p n at SameAs (NameAtom m) h = by_pointer m _ _ (λ q f. record { tree = λ e. rw (h e, f e) refl; stands = refl })
  pointer_test_found p n at OtherThan (NullAtom i) h = record { tree = λ e. rw (h e) refl; stands = refl }
  pointer_test_found p n at OtherThan (NumberAtom i) h = tt
  pointer_test_found p n at OtherThan (NameAtom m) h = by_pointer m _ _ (λ q f. record { tree = λ e. rw (h e, f e) refl; stands = refl })
  pointer_test_found p n at LessThan a h = tt
  pointer_test_found p n at NotLessThan a h = tt

  data_test_tree : (x : ℕ) (c : Comparison) (y : Num) → test_tree file s.locals (prims.DataTest (relation c) x y) ≡ Compares (bare (data_name file s.locals x)) (bare c) (number_tree file s.locals y)
  data_test_tree x SameAs y = refl
  data_test_tree x OtherThan y = refl
  data_test_tree x LessThan y = refl
  data_test_tree x NotLessThan y = refl

  data_test_found : (x : ℕ) (n : Placed Text) (c : Placed Comparison) (a : AtomTree) → IsData n x → Has (AsTest (Compares n c a)) (with_number s a (prims.DataTest (relation c.value) x))
  data_test_found x n c (NullAtom i) h = tt
  data_test_found x n c (NumberAtom i) h = record { tree = λ e. data_test_tree x c.value (nums.Lit i.value) ∙ rw (h e) refl; stands = refl }
  data_test_found x n c (NameAtom m) h = by_data m _ _ (λ y f.
      record { tree = λ e. data_test_tree x c.value (nums.Local y) ∙ rw (h e, f e) refl; stands = refl })

  test_of_found : (n : Placed Text) (c : Placed Comparison) (a : AtomTree) (r : Role) → (Ends file s → RoleIs file s.locals n.value r) → Has (AsTest (Compares n c a)) (test_of s n c a r)
  test_of_found n c a (pointer_variable p) h = pointer_test_found p n c.at c.value a h
  test_of_found n c a (data_local x) h = data_test_found x n c a h
  test_of_found n c a _ h = tt

  test_found : (t : TestTree) → Has (AsTest t) (test_means s t)
  unfolding test_means
  test_found (MarkedTest n) = by_pointer n _ _ (λ p h.
      record { tree = λ e. rw (h e) refl; stands = refl })
  test_found (UnmarkedTest n) = by_pointer n _ _ (λ p h.
      record { tree = λ e. rw (h e) refl; stands = refl })
  test_found (Compares n c a) =
      next (λ r. Ends file s → RoleIs file s.locals n.value r) _ (role_at s n) _ (names_found file s n bound).any (λ r f.
      test_of_found n c a r f)

  -- ---- conditions

  abbrev pub IsCondition : ConditionTree → Cond → Type 0
  IsCondition tree c = Ends file s → condition_tree file s.locals c ≡ unplaced_condition tree

  abbrev IsNameOrNull : Option (Placed Text) → Option Var → Type 0
  IsNameOrNull n q = Ends file s → name_or_null file s.locals q ≡ unplaced_label n

  name_or_null_found : (n : Option (Placed Text)) → Has (IsNameOrNull n) (pointer_or_null s n)
  name_or_null_found None = (λ e. refl)
  name_or_null_found (Some n) = by_pointer n _ _ (λ q f. (λ e. ap (λ n. Some (bare n)) (f e)))

  pub condition_found : (c : ConditionTree) → Has (IsCondition c) (condition_means s c)
  unfolding condition_means
  condition_found (TestCondition t) =
      next (AsTest t) _ (test_means s t) _ (test_found t) (λ k f. (λ e. ap TestCondition (f.tree e)))
  condition_found (RefreshCondition n place) =
      next (AsRefresh n place) _ (refresh_name_means s n place) _ (refresh_name_found n place) (λ k f. f.tests)
  condition_found (CasCondition active n old new) = by_pointer n _ _ (λ p f.
      next (IsNameOrNull old) _ (pointer_or_null s old) _ (name_or_null_found old) (λ q g.
      next (IsNameOrNull new) _ (pointer_or_null s new) _ (name_or_null_found new) (λ r h.
      (λ e. rw (f e, g e, h e) refl))))

  -- ---- primitives

  -- `skip` alone is no primitive
  abbrev pub IsPrimitive : PrimitiveTree → Option Primitive → Type 0
  IsPrimitive p None = p ≡ SkipPrimitive
  IsPrimitive p (Some k) = (stays p ≡ true) × IsSpelled p k

  pub primitive_found : (p : PrimitiveTree) → Has (IsPrimitive p) (primitive_means s p)
  unfolding primitive_means
  primitive_found (SetPrimitive set) =
      next (AsSet set) _ (set_means s set) _ (set_found set) (λ k f. (refl, λ e. f.stands ∙ ap SetPrimitive (f.tree e)))
  primitive_found (RefreshPrimitive r) =
      next (IsSpelled (RefreshPrimitive r)) _ (refresh_means s r) _ (refresh_found r) (λ k f. (refl, f))
  primitive_found (GhostPrimitive set) =
      next (AsGhost set) _ (ghost_set_means s false set) _ (ghost_set_found false set) (λ k f. (refl, f.stands))
  primitive_found (ActivePrimitive n) = by_pointer n _ _ (λ p f. (refl, λ e. ap (λ n. ActivePrimitive (bare n)) (f e)))
  primitive_found (AssumePrimitive t) =
      next (AsTest t) _ (test_means s t) _ (test_found t) (λ k f. (refl, λ e. f.stands ∙ ap AssumePrimitive (f.tree e)))
  primitive_found SkipPrimitive = refl

  -- each form of `init` is a primitive
  abbrev pub IsInitial : InitialTree → Option Primitive → Type 0
  IsInitial i None = ⊥
  IsInitial i (Some k) = Ends file s → initial_tree file k ≡ unplaced_initial i

  pub initial_found : s.locals ≡ [] → (i : InitialTree) → Has (IsInitial i) (initial_means s i)
  unfolding initial_means
  initial_found none (InitialSet set) =
      next (AsSet set) _ (set_means s set) _ (set_found set) (λ k f. (λ e. f.begins ∙ ap (λ (ls : List Local). InitialSet (set_tree file ls k)) (sym none) ∙ ap InitialSet (f.tree e)))
  initial_found none (InitialGhost set) =
      next (AsGhost set) _ (ghost_set_means s true set) _ (ghost_set_found true set) (λ k f. f.begins none)

  -- ---- calls

  -- the function and its argument are spelled so
  pub record IsCall (n : Placed Text) (a : ArgumentTree) (c : CallMeaning) : Type 0 where
    pub function : Ends file s → function_name file c.0 ≡ n.value
    pub argument : Ends file s → argument_tree file s.locals c.1 c.2 ≡ unplaced_argument a

  argument_found : (f : FuncId) (n : Placed Text) (takes : Bool) (a : ArgumentTree) → (Ends file s → function_name file f ≡ n.value) → Has (IsCall n a) (argument_means s n f takes a)
  argument_found f n false NoArgument h = record { function = h; argument = λ e. refl }
  argument_found f n false NullArgument h = tt
  argument_found f n false (NameArgument m) h = tt
  argument_found f n false (ActiveArgument m) h = tt
  argument_found f n true NoArgument h = tt
  argument_found f n true NullArgument h = unless (IsCall n NullArgument) (is_retire f) (faults.NoSuchCall n.at) _ (λ not_first. record { function = h; argument = λ e. refl })
  argument_found f n true (NameArgument m) h = by_pointer m _ _ (λ p g. record { function = h; argument = λ e. ap (λ n. NameArgument (bare n)) (g e) })
  argument_found f n true (ActiveArgument m) h = by_pointer m _ _ (λ p g. record { function = h; argument = λ e. ap (λ n. ActiveArgument (bare n)) (g e) })

  pub call_found : (n : Placed Text) (a : ArgumentTree) → Has (IsCall n a) (call_means s n a)
  unfolding call_means
  call_found n a =
      next (λ f. Ends file s → function_name file f.0 ≡ n.value) _ (role_as as_function s n) _ (names_found file s n bound).function (λ f g.
      argument_found f.0 n f.1 a g)
