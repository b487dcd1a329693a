-- A unit uses marks exactly where the tree that means it does: a primitive speaks of marks where its tree uses them,
-- and each form where one of its parts does. `skip` means no primitive, and uses none.
use Rattle.std.proofs.Common.{◌≡◌, ◌==◌, ◌&&◌, ◌||◌, ℕ, ◌+◌, Bool, true, false, Option, Some, None, Result, Ok, Err}
use Rattle.std.proofs.Common.{List, [], ◌∷◌, refl, sym, ◌∙◌}
use Rattle.std.specs.List.{list_any}
use Rattle.plc_base.specs.Limits.{most}
use Rattle.plc_base.specs.declared.limits.What1.TheVariants as limits
use Rattle.plc_base.specs.declared.ids.FieldId.{FieldId}
use Rattle.plc_lang.specs.Allocation.{is_new}
use Rattle.plc_lang.specs.declared.syntax.Var.{Var}
use Rattle.plc_lang.specs.declared.syntax.Num.{Num}
use Rattle.plc_lang.specs.declared.syntax.Num.TheVariants.{Lit, Local as DataLocal}
use Rattle.plc_lang.specs.declared.syntax.Primitive.{Primitive}
use Rattle.plc_lang.specs.declared.syntax.Primitive.TheVariants.{DataStore, DataTest}
use Rattle.plc_lang.specs.declared.syntax.Cond.{Cond}
use Rattle.plc_lang.specs.declared.syntax.Op.{Op}
use Rattle.plc_lang.specs.Marks.{speaks_of_marks, speak_of_marks, condition_uses_marks, statement_uses_marks}
use Rattle.plc_lang.specs.Marks.{statements_use_marks, blocks_use_marks}
use Rattle.plc_lang.specs.Statements.{Statement, Statements, Blocks}
use Rattle.plc_syntax.specs.Trees.{Text, Placed, PlaceTree, PlaceOf, AtomTree, NullAtom, NumberAtom, NameAtom}
use Rattle.plc_syntax.specs.Trees.{ValueTree, NullValue, NewValue, NumberValue, MarkValue, UnmarkValue, PlaceValue}
use Rattle.plc_syntax.specs.Trees.{SetTree, SetName, SetField, RefreshTree, RefreshName, RefreshField, GhostSetTree}
use Rattle.plc_syntax.specs.Trees.{SetGhost, InitialTree, InitialSet, InitialGhost, Comparison, SameAs, OtherThan}
use Rattle.plc_syntax.specs.Trees.{LessThan, NotLessThan, TestTree, MarkedTest, UnmarkedTest, Compares, ConditionTree}
use Rattle.plc_syntax.specs.Trees.{TestCondition, RefreshCondition, CasCondition, PrimitiveTree, SetPrimitive}
use Rattle.plc_syntax.specs.Trees.{RefreshPrimitive, GhostPrimitive, ActivePrimitive, AssumePrimitive, SkipPrimitive}
use Rattle.plc_syntax.specs.Trees.{StatementTree, PrimitiveStatement, AtomicStatement, CallStatement, IfStatement}
use Rattle.plc_syntax.specs.Trees.{ChooseStatement, LoopStatement, BreakStatement, ReturnStatement, LabelStatement}
use Rattle.plc_syntax.specs.Trees.{BlockTree, NoStatement, Then, ElseTree, NoElse, ElseBlock, OrTree, NoOr, OrBlock}
use Rattle.plc_syntax.specs.Trees.{OpTree, Operates, OutlineTree, FileTree}
use Rattle.plc_syntax.specs.Marks.{value_uses_marks, set_uses_marks, initial_uses_marks, init_uses_marks}
use Rattle.plc_syntax.specs.Marks.{test_uses_marks, condition_tree_uses_marks, primitive_uses_marks}
use Rattle.plc_syntax.specs.Marks.{statement_tree_uses_marks, block_uses_marks, else_uses_marks, or_uses_marks}
use Rattle.plc_syntax.specs.Marks.{op_uses_marks, outlined_uses_marks, file_tree_uses_marks}
use Rattle.plc_syntax.proofs.Marked.{marks_spelled}
use Rattle.plc_scope.specs.declared.fault.ParseFault.{ParseFault}
use Rattle.plc_scope.specs.declared.scope.Scope.{Scope}
use Rattle.plc_scope.specs.declared.binding.Binding.TheVariants.{Taken}
use Rattle.plc_scope.specs.declared.binding.Role.{Role}
use Rattle.plc_scope.specs.declared.binding.Role.TheVariants.{PointerVariable as pointer_variable}
use Rattle.plc_scope.specs.declared.binding.Role.TheVariants.{DataLocal as data_local, PointerField as pointer_field}
use Rattle.plc_scope.specs.declared.binding.Role.TheVariants.{DataField as data_field}
use Rattle.plc_scope.specs.Limits.{stands_at}
use Rattle.plc_scope.specs.Scope.{first_scope, role_at, declared, declared_parameter, role_as, as_pointer}
use Rattle.plc_scope.specs.Scope.{as_pointer_local, as_data, as_pointer_field, as_data_field, as_auxiliary}
use Rattle.plc_scope.specs.Primitives.{with_number, pointer_value, data_value, value_into, pointer_atom, atom_into}
use Rattle.plc_scope.specs.Primitives.{set_means, refresh_from, refresh_name_means, refresh_means, ghost_value_means}
use Rattle.plc_scope.specs.Primitives.{ghost_set_means, pointer_equality, pointer_test, relation, test_of, test_means}
use Rattle.plc_scope.specs.Primitives.{pointer_or_null, condition_means, some_primitive, primitive_means, initial_means}
use Rattle.plc_scope.specs.Primitives.{call_means}
use Rattle.plc_scope.proofs.Holds.{Has, has_along, next, any, unless, both_err}
use Rattle.plc_parse.specs.declared.unit.Unit.{Unit as FileUnit}
use Rattle.plc_outparse.proofs.Marked.{OutlineSpeaks, outline_marked}
use Rattle.plc_parse.specs.Marks.{unit_uses_marks, UnitsUseTheirMarks}
use Rattle.plc_outparse.specs.Meaning.{in_turn}
use Rattle.plc_parse.specs.Meaning.{counted, count_of, allocates, before, forms_mean, atomic_means, local_means}
use Rattle.plc_parse.specs.Meaning.{one_or_skip, label_means, during_means, statement_means, statements_mean}
use Rattle.plc_parse.specs.Meaning.{else_means, or_means, listed, field_means, shared_means, function_means}
use Rattle.plc_parse.specs.Meaning.{ghost_means, watch_means, init_means, op_means, placed_op_means, line_at}
use Rattle.plc_parse.specs.Meaning.{outlined_means, file_means}
use Rattle.plc_parse.specs.Units.{lines_of}

-- ---- primitives and conditions

-- a primitive speaks of marks or not
abbrev Speaks : Bool → Primitive → Type 0
Speaks uses k = speaks_of_marks k ≡ uses

-- where there is one
abbrev maybe_speaks : Option Primitive → Bool
maybe_speaks None = false
maybe_speaks (Some k) = speaks_of_marks k

abbrev MaybeSpeaks : Bool → Option Primitive → Type 0
MaybeSpeaks uses k = maybe_speaks k ≡ uses

module _ (s : Scope) where
  pointer_value_marked : (p : Var) (v : ValueTree) → Has (Speaks (value_uses_marks v)) (pointer_value s p v)
  pointer_value_marked p (NullValue at) = refl
  pointer_value_marked p (NewValue at) = refl
  pointer_value_marked p (NumberValue n) = tt
  pointer_value_marked p (MarkValue at n) = any (Speaks true) (role_as as_pointer s n) _ (λ q. refl)
  pointer_value_marked p (UnmarkValue at n) = any (Speaks true) (role_as as_pointer s n) _ (λ q. refl)
  pointer_value_marked p (PlaceValue (PlaceOf n None)) = any (Speaks false) (role_as as_pointer s n) _ (λ q. refl)
  pointer_value_marked p (PlaceValue (PlaceOf n (Some f))) =
      any (Speaks false) (role_as as_pointer s n) _ (λ q. any (Speaks false) (role_as as_pointer_field s f) _ (λ g. refl))

  data_value_marked : (x : ℕ) (v : ValueTree) → Has (Speaks (value_uses_marks v)) (data_value s x v)
  data_value_marked x (NullValue at) = tt
  data_value_marked x (NewValue at) = tt
  data_value_marked x (NumberValue n) = refl
  data_value_marked x (MarkValue at n) = tt
  data_value_marked x (UnmarkValue at n) = tt
  data_value_marked x (PlaceValue (PlaceOf n None)) = any (Speaks false) (role_as as_data s n) _ (λ y. refl)
  data_value_marked x (PlaceValue (PlaceOf n (Some f))) =
      any (Speaks false) (role_as as_pointer s n) _ (λ q. any (Speaks false) (role_as as_data_field s f) _ (λ g. refl))

  value_into_marked : (v : ValueTree) (n : Placed Text) (left : Role)
      → Has (Speaks (value_uses_marks v)) (value_into s v n left)
  value_into_marked v n (pointer_variable p) = pointer_value_marked p v
  value_into_marked v n (data_local x) = data_value_marked x v
  value_into_marked v n left = tt

  pointer_atom_marked : (p : Var) (f : FieldId) (a : AtomTree) → Has (Speaks false) (pointer_atom s p f a)
  pointer_atom_marked p f (NullAtom at) = refl
  pointer_atom_marked p f (NumberAtom n) = tt
  pointer_atom_marked p f (NameAtom n) = any (Speaks false) (role_as as_pointer s n) _ (λ q. refl)

  number_marked : (a : AtomTree) (make : Num → Primitive) → ((e : Num) → Speaks false (make e))
      → Has (Speaks false) (with_number s a make)
  number_marked (NullAtom at) make plain = tt
  number_marked (NumberAtom n) make plain = plain (Lit n.value)
  number_marked (NameAtom n) make plain = any (Speaks false) (role_as as_data s n) _ (λ y. plain (DataLocal y))

  atom_into_marked : (p : Var) (a : AtomTree) (n : Placed Text) (field : Role)
      → Has (Speaks false) (atom_into s p a n field)
  atom_into_marked p a n (pointer_field f) = pointer_atom_marked p f a
  atom_into_marked p a n (data_field f) = number_marked a (DataStore p f) (λ e. refl)
  atom_into_marked p a n other = tt

  set_marked : (t : SetTree) → Has (Speaks (set_uses_marks t)) (set_means s t)
  unfolding set_means
  set_marked (SetName n v) =
      any (Speaks (value_uses_marks v)) (role_at s n) _ (λ left. value_into_marked v n left)
  set_marked (SetField n f a) =
      any (Speaks false) (role_as as_pointer s n) _ (λ p.
      any (Speaks false) (role_at s f) _ (λ field. atom_into_marked p a f field))

  refresh_from_marked : (p : ℕ) (place : PlaceTree) → Has (Speaks false) (refresh_from s p place)
  refresh_from_marked p (PlaceOf n None) = any (Speaks false) (role_as as_pointer s n) _ (λ q. refl)
  refresh_from_marked p (PlaceOf n (Some f)) =
      any (Speaks false) (role_as as_pointer s n) _ (λ q. any (Speaks false) (role_as as_pointer_field s f) _ (λ g. refl))

  refresh_name_marked : (n : Placed Text) (place : PlaceTree) → Has (Speaks false) (refresh_name_means s n place)
  unfolding refresh_name_means
  refresh_name_marked n place =
      any (Speaks false) (role_as as_pointer_local s n) _ (λ p. refresh_from_marked p place)

  refresh_marked : (t : RefreshTree) → Has (Speaks false) (refresh_means s t)
  unfolding refresh_means
  refresh_marked (RefreshName n place) = refresh_name_marked n place
  refresh_marked (RefreshField n f m) =
      any (Speaks false) (role_as as_pointer s n) _ (λ p.
      any (Speaks false) (role_as as_pointer_field s f) _ (λ g.
      any (Speaks false) (role_as as_pointer s m) _ (λ q. refl)))

  ghost_set_marked : (in_init : Bool) (t : GhostSetTree) → Has (Speaks false) (ghost_set_means s in_init t)
  unfolding ghost_set_means
  ghost_set_marked in_init (SetGhost n f v) =
      any (Speaks false) (role_as as_pointer s n) _ (λ p.
      any (Speaks false) (role_as as_auxiliary s f) _ (λ g.
      any (Speaks false) (ghost_value_means s in_init g.0 g.1 v) _ (λ w. refl)))

  equality_marked : (p : Var) (is_equal : Bool) (a : AtomTree)
      → Has (Speaks false) (pointer_equality s p is_equal a)
  equality_marked p true (NullAtom at) = refl
  equality_marked p false (NullAtom at) = refl
  equality_marked p is_equal (NumberAtom n) = tt
  equality_marked p true (NameAtom n) = any (Speaks false) (role_as as_pointer s n) _ (λ q. refl)
  equality_marked p false (NameAtom n) = any (Speaks false) (role_as as_pointer s n) _ (λ q. refl)

  pointer_test_marked : (p : Var) (at : ℕ) (c : Comparison) (a : AtomTree)
      → Has (Speaks false) (pointer_test s p at c a)
  pointer_test_marked p at SameAs a = equality_marked p true a
  pointer_test_marked p at OtherThan a = equality_marked p false a
  pointer_test_marked p at LessThan a = tt
  pointer_test_marked p at NotLessThan a = tt

  test_of_marked : (n : Placed Text) (c : Placed Comparison) (a : AtomTree) (left : Role)
      → Has (Speaks false) (test_of s n c a left)
  test_of_marked n c a (pointer_variable p) = pointer_test_marked p c.at c.value a
  test_of_marked n c a (data_local x) = number_marked a (DataTest (relation c.value) x) (λ e. refl)
  test_of_marked n c a left = tt

  test_marked : (t : TestTree) → Has (Speaks (test_uses_marks t)) (test_means s t)
  unfolding test_means
  test_marked (MarkedTest n) = any (Speaks true) (role_as as_pointer s n) _ (λ p. refl)
  test_marked (UnmarkedTest n) = any (Speaks true) (role_as as_pointer s n) _ (λ p. refl)
  test_marked (Compares n c a) =
      any (Speaks false) (role_at s n) _ (λ left. test_of_marked n c a left)

  abbrev ConditionSpeaks : Bool → Cond → Type 0
  ConditionSpeaks uses c = condition_uses_marks c ≡ uses

  condition_marked : (c : ConditionTree)
      → Has (ConditionSpeaks (condition_tree_uses_marks c)) (condition_means s c)
  unfolding condition_means
  condition_marked (TestCondition t) =
      next (Speaks (test_uses_marks t)) (ConditionSpeaks (test_uses_marks t)) (test_means s t) _ (test_marked t)
      (λ k a. a)
  condition_marked (RefreshCondition n place) =
      next (Speaks false) (ConditionSpeaks false) (refresh_name_means s n place) _ (refresh_name_marked n place)
      (λ k a. a)
  condition_marked (CasCondition is_active n old new) =
      any (ConditionSpeaks false) (role_as as_pointer s n) _ (λ p.
      any (ConditionSpeaks false) (pointer_or_null s old) _ (λ q.
      any (ConditionSpeaks false) (pointer_or_null s new) _ (λ r. refl)))

  some_marked : (uses : Bool) (m : Result Primitive ParseFault) → Has (Speaks uses) m
      → Has (MaybeSpeaks uses) (some_primitive m)
  some_marked uses m is = next (Speaks uses) (MaybeSpeaks uses) m _ is (λ k a. a)

  primitive_marked : (p : PrimitiveTree) → Has (MaybeSpeaks (primitive_uses_marks p)) (primitive_means s p)
  unfolding primitive_means
  primitive_marked (SetPrimitive set) = some_marked (set_uses_marks set) (set_means s set) (set_marked set)
  primitive_marked (RefreshPrimitive refresh) =
      some_marked false (refresh_means s refresh) (refresh_marked refresh)
  primitive_marked (GhostPrimitive set) =
      some_marked false (ghost_set_means s false set) (ghost_set_marked false set)
  primitive_marked (ActivePrimitive n) = any (MaybeSpeaks false) (role_as as_pointer s n) _ (λ p. refl)
  primitive_marked (AssumePrimitive t) =
      some_marked (test_uses_marks t) (test_means s t) (test_marked t)
  primitive_marked SkipPrimitive = refl

  initial_marked : (i : InitialTree) → Has (MaybeSpeaks (initial_uses_marks i)) (initial_means s i)
  unfolding initial_means
  initial_marked (InitialSet set) = some_marked (set_uses_marks set) (set_means s set) (set_marked set)
  initial_marked (InitialGhost set) =
      some_marked false (ghost_set_means s true set) (ghost_set_marked true set)

-- ---- primitives of one step

abbrev FormsSpeak : Bool → List Primitive → Type 0
FormsSpeak uses ks = speak_of_marks ks ≡ uses

counted_marked : (uses : Bool) (n : ℕ) (has_new : Bool) (at : ℕ) (m : Result (Option Primitive) ParseFault)
    → Has (MaybeSpeaks uses) m → Has (MaybeSpeaks uses) (counted n has_new at m)
counted_marked uses n has_new at (Ok None) is = is
counted_marked uses n has_new at (Ok (Some k)) is =
    unless (MaybeSpeaks uses) (n == most limits.Prims) _ _ (λ few.
    unless (MaybeSpeaks uses) (has_new && is_new k) _ (Ok (Some k)) (λ one. is))
counted_marked uses n has_new at (Err e) is =
    both_err (MaybeSpeaks uses) (stands_at at e) (n == most limits.Prims) e _ e

before_speaks : (k : Option Primitive) (ks : List Primitive) (a b : Bool) → maybe_speaks k ≡ a → speak_of_marks ks ≡ b
    → speak_of_marks (before k ks) ≡ (a || b)
before_speaks None ks a b is others = rw (← is, ← others) refl
before_speaks (Some k) ks a b is others = rw (← is, ← others) refl

-- at its place
abbrev placed_uses : {X : Type 0} → (X → Bool) → Placed X → Bool
placed_uses uses x = uses x.value

module _ {X : Type 0} (means : X → Result (Option Primitive) ParseFault) (uses : X → Bool)
    (each : (x : X) → Has (MaybeSpeaks (uses x)) (means x)) where
  forms_marked : (n : ℕ) (has_new : Bool) (xs : List (Placed X))
      → Has (FormsSpeak (list_any (placed_uses uses) xs)) (forms_mean means n has_new xs)
  forms_marked n has_new [] = refl
  forms_marked n has_new (x ∷ xs) = let all : Bool = uses x.value || list_any (placed_uses uses) xs in
      next (MaybeSpeaks (uses x.value)) (FormsSpeak all) (counted n has_new x.at (means x.value)) _
      (counted_marked (uses x.value) n has_new x.at (means x.value) (each x.value)) (λ k a.
      next (FormsSpeak (list_any (placed_uses uses) xs)) (FormsSpeak all)
      (forms_mean means (n + count_of k) (has_new || allocates k) xs) _
      (forms_marked (n + count_of k) (has_new || allocates k) xs) (λ others b.
      before_speaks k others (uses x.value) (list_any (placed_uses uses) xs) a b))

-- ---- statements

-- and the scope after them
abbrev OneSpeaks : Bool → Statement × Scope → Type 0
OneSpeaks uses r = statement_uses_marks r.0 ≡ uses

abbrev ManySpeak : Bool → Statements × Scope → Type 0
ManySpeak uses r = statements_use_marks r.0 ≡ uses

abbrev SeveralSpeak : Bool → Blocks × Scope → Type 0
SeveralSpeak uses r = blocks_use_marks r.0 ≡ uses

one_marked : (uses : Bool) (k : Option Primitive) → maybe_speaks k ≡ uses
    → statement_uses_marks (one_or_skip k) ≡ uses
one_marked uses None is = is
one_marked uses (Some k) is = is

module _ (lines : List ℕ) where
  mutual
    statement_marked : (s : Scope) (in_loop : Bool) (at : ℕ) (st : StatementTree)
        → Has (OneSpeaks (statement_tree_uses_marks st)) (statement_means lines s in_loop at st)
    statement_marked s in_loop at (PrimitiveStatement p) =
        next (MaybeSpeaks (primitive_uses_marks p)) (OneSpeaks (primitive_uses_marks p)) (primitive_means s p) _
        (primitive_marked s p) (λ k a. one_marked (primitive_uses_marks p) k a)
    statement_marked s in_loop at (AtomicStatement ps) = let uses : Bool = list_any (placed_uses primitive_uses_marks) ps in
        next (FormsSpeak uses) (OneSpeaks uses) (atomic_means s ps) _
        (forms_marked (primitive_means s) primitive_uses_marks (primitive_marked s) 0 false ps)
        (λ b a. a)
    statement_marked s in_loop at (CallStatement n a d) =
        any (OneSpeaks false) (call_means s n a) _ (λ c.
        any (OneSpeaks false) (during_means s d) _ (λ l. refl))
    statement_marked s in_loop at (IfStatement c b e) =
        let uses : Bool = condition_tree_uses_marks c || block_uses_marks b || else_uses_marks e in
        next (ConditionSpeaks s (condition_tree_uses_marks c)) (OneSpeaks uses) (condition_means s c) _
        (condition_marked s c) (λ k test.
        next (ManySpeak (block_uses_marks b)) (OneSpeaks uses)
        (statements_mean lines s in_loop b) _
        (statements_marked s in_loop b) (λ x yes.
        next (ManySpeak (else_uses_marks e)) (OneSpeaks uses) (else_means lines x.1 in_loop e) _
        (else_marked x.1 in_loop e) (λ y no. rw (test, yes, no) refl)))
    statement_marked s in_loop at (ChooseStatement a b os) =
        let uses : Bool = block_uses_marks a || (block_uses_marks b || or_uses_marks os) in
        next (ManySpeak (block_uses_marks a)) (OneSpeaks uses) (statements_mean lines s in_loop a) _
        (statements_marked s in_loop a) (λ x first.
        next (ManySpeak (block_uses_marks b)) (OneSpeaks uses) (statements_mean lines x.1 in_loop b) _
        (statements_marked x.1 in_loop b) (λ y second.
        next (SeveralSpeak (or_uses_marks os)) (OneSpeaks uses) (or_means lines y.1 in_loop os) _
        (ors_marked y.1 in_loop os) (λ z others. rw (first, second, others) refl)))
    statement_marked s in_loop at (LoopStatement b) =
        next (ManySpeak (block_uses_marks b)) (OneSpeaks (block_uses_marks b))
        (statements_mean lines s true b) _ (statements_marked s true b) (λ x a. a)
    statement_marked s true at BreakStatement = refl
    statement_marked s false at BreakStatement = tt
    statement_marked s in_loop at ReturnStatement = refl
    statement_marked s in_loop at (LabelStatement n) = any (OneSpeaks false) (label_means s n) _ (λ l. refl)

    statements_marked : (s : Scope) (in_loop : Bool) (b : BlockTree)
        → Has (ManySpeak (block_uses_marks b)) (statements_mean lines s in_loop b)
    statements_marked s in_loop NoStatement = refl
    statements_marked s in_loop (Then at st b) =
        let uses : Bool = statement_tree_uses_marks st || block_uses_marks b in
        next (OneSpeaks (statement_tree_uses_marks st)) (ManySpeak uses) (statement_means lines s in_loop at st) _
        (statement_marked s in_loop at st) (λ first a.
        next (ManySpeak (block_uses_marks b)) (ManySpeak uses) (statements_mean lines first.1 in_loop b) _
        (statements_marked first.1 in_loop b) (λ others c. rw (a, c) refl))

    else_marked : (s : Scope) (in_loop : Bool) (e : ElseTree)
        → Has (ManySpeak (else_uses_marks e)) (else_means lines s in_loop e)
    else_marked s in_loop NoElse = refl
    else_marked s in_loop (ElseBlock b) = statements_marked s in_loop b

    ors_marked : (s : Scope) (in_loop : Bool) (os : OrTree)
        → Has (SeveralSpeak (or_uses_marks os)) (or_means lines s in_loop os)
    ors_marked s in_loop NoOr = refl
    ors_marked s in_loop (OrBlock b os) = let uses : Bool = block_uses_marks b || or_uses_marks os in
        next (ManySpeak (block_uses_marks b)) (SeveralSpeak uses) (statements_mean lines s in_loop b) _
        (statements_marked s in_loop b) (λ x a.
        next (SeveralSpeak (or_uses_marks os)) (SeveralSpeak uses) (or_means lines x.1 in_loop os) _
        (ors_marked x.1 in_loop os) (λ y c. rw (a, c) refl))

  -- ---- operations

  -- an operation's body speaks of marks
  abbrev body_speaks : Op → Bool
  body_speaks o = statements_use_marks o.body

  abbrev OpSpeaks : Bool → Op × Scope → Type 0
  OpSpeaks uses r = body_speaks r.0 ≡ uses

  abbrev OpsSpeak : Bool → List Op × Scope → Type 0
  OpsSpeak uses r = list_any body_speaks r.0 ≡ uses

  op_marked : (line : ℕ) (s : Scope) (n : ℕ) (o : OpTree)
      → Has (OpSpeaks (op_uses_marks o)) (op_means lines line s n o)
  op_marked line s n (Operates name ps ls b) = let uses : Bool = block_uses_marks b in
      unless (OpSpeaks uses) (n == most limits.Ops) _ _ (λ few.
      any (OpSpeaks uses) (declared s name Taken) _ (λ t.
      any (OpSpeaks uses) (in_turn declared_parameter t ps) _ (λ p.
      any (OpSpeaks uses) (in_turn local_means p ls) _ (λ l.
      next (ManySpeak uses) (OpSpeaks uses) (statements_mean lines l false b) _ (statements_marked l false b)
      (λ body a. a)))))

  ops_marked : (s : Scope) (n : ℕ) (os : List (Placed OpTree))
      → Has (OpsSpeak (list_any (placed_uses op_uses_marks) os)) (listed (placed_op_means lines) s n os)
  ops_marked s n [] = refl
  ops_marked s n (o ∷ os) = let uses : Bool = op_uses_marks o.value || list_any (placed_uses op_uses_marks) os in
      next (OpSpeaks (op_uses_marks o.value)) (OpsSpeak uses) (placed_op_means lines s n o) _
      (op_marked (line_at lines o.at) s n o.value) (λ first a.
      next (OpsSpeak (list_any (placed_uses op_uses_marks) os)) (OpsSpeak uses)
      (listed (placed_op_means lines) first.1 (n + 1) os) _ (ops_marked first.1 (n + 1) os) (λ others b.
      rw (a, b) refl))

-- ---- the file

starts_marked : (s : Scope) (starts : Option (List (Placed InitialTree)))
    → Has (FormsSpeak (init_uses_marks starts)) (init_means s starts)
starts_marked s None = refl
starts_marked s (Some is) = forms_marked (initial_means s) initial_uses_marks (initial_marked s) 0 false is

-- an outline does, or none that is left out
outlined_marked : (s : Scope) (ops : List Op) (t : Option OutlineTree)
    → Has (OutlineSpeaks s ops (outlined_uses_marks t)) (outlined_means s ops t)
outlined_marked s ops None = refl
outlined_marked s ops (Some t) = outline_marked s ops t

abbrev UnitSpeaks : Bool → FileUnit → Type 0
UnitSpeaks uses u = unit_uses_marks u ≡ uses

unit_marked : (lines : List ℕ) (f : FileTree) → Has (UnitSpeaks (file_tree_uses_marks f)) (file_means lines f)
unfolding file_means
unit_marked lines f = let uses : Bool = file_tree_uses_marks f in
    any (UnitSpeaks uses) (declared first_scope f.name Taken) _ (λ s.
    any (UnitSpeaks uses) (listed field_means s 0 f.fields) _ (λ fields.
    any (UnitSpeaks uses) (listed shared_means fields.1 0 f.pointers) _ (λ pointers.
    any (UnitSpeaks uses) (listed function_means pointers.1 0 f.functions) _ (λ functions.
    any (UnitSpeaks uses) (watch_means functions.1 f.watched) _ (λ observer.
    any (UnitSpeaks uses) (listed ghost_means functions.1 0 f.ghosts) _ (λ ghosts.
    next (FormsSpeak (init_uses_marks f.starts)) (UnitSpeaks uses) (init_means ghosts.1 f.starts) _
    (starts_marked ghosts.1 f.starts) (λ starts a.
    next (OpsSpeak lines (list_any (placed_uses op_uses_marks) f.ops)) (UnitSpeaks uses)
    (listed (placed_op_means lines) ghosts.1 0 f.ops) _ (ops_marked lines ghosts.1 0 f.ops) (λ ops b.
    next (OutlineSpeaks ops.1 ops.0 (outlined_uses_marks f.outlined)) (UnitSpeaks uses)
    (outlined_means ops.1 ops.0 f.outlined) _ (outlined_marked ops.1 ops.0 f.outlined) (λ outline c.
    rw (a, b, c) refl)))))))))

-- the tokens say what the tree says, and the tree what the unit says
pub units_marked : UnitsUseTheirMarks
units_marked ts u is =
    rw is.means.tokens.tokens (marks_spelled is.means.tree
    ∙ sym (has_along (UnitSpeaks (file_tree_uses_marks is.means.tree)) (file_means (lines_of ts) is.means.tree) u
    is.means.is (unit_marked (lines_of ts) is.means.tree)))
