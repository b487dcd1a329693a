-- Whether a file has a meaning, and which but for lines, doesn't depend on its places.
use Rattle.std.proofs.Common.{◌≡◌, ◌==◌, ◌+◌, ◌||◌, ℕ, Bool, true, false, if◌then◌else◌, List, [], ◌∷◌, length, map, Option, Some, None, Result, Ok, Err, refl, ap, ◌∙◌, subst}
use Rattle.plc_base.specs.Limits.{most}
use Rattle.plc_base.specs.declared.limits.What1.TheVariants as limits
use Rattle.plc_lang.specs.declared.syntax.Op.{Op}
use Rattle.plc_lang.specs.declared.syntax.Primitive.{Primitive}
use Rattle.plc_lang.specs.Statements.{If, Choose, Loop, Then, And}
use Rattle.plc_syntax.specs.Trees.{Text, Placed, FieldTree, PointerField, DataField, FunctionTree, Declares, WatchTree, UseHazard, UseEpoch, OneOf, OfThreads, GhostTree, Auxiliary, InitialTree}
use Rattle.plc_syntax.specs.Trees.{StatementTree, PrimitiveStatement, AtomicStatement, CallStatement, IfStatement, ChooseStatement, LoopStatement, BreakStatement, ReturnStatement, LabelStatement}
use Rattle.plc_syntax.specs.Trees.{BlockTree, NoStatement, Then as ThenStatement, ElseTree, NoElse, ElseBlock, OrTree, NoOr, OrBlock, OpTree, Operates, OutlineTree, FileTree}
use Rattle.plc_syntax.proofs.Unplaced.{unplaced, unplaced_by, unplaced_maybe, unplaced_label, unplaced_field, unplaced_function, unplaced_watch, unplaced_ghost, unplaced_initial, unplaced_sets}
use Rattle.plc_syntax.proofs.Unplaced.{unplaced_primitive, unplaced_statement, unplaced_block, unplaced_else, unplaced_ors, unplaced_op, unplaced_outline, unplaced_file}
use Rattle.plc_scope.specs.declared.fault.ParseFault.{ParseFault}
use Rattle.plc_scope.specs.declared.fault.ParseFault.TheVariants as faults
use Rattle.plc_scope.specs.declared.scope.Scope.{Scope}
use Rattle.plc_scope.specs.declared.binding.Binding.TheVariants as bindings
use Rattle.plc_scope.specs.Scope.{◌>>=◌, first_scope, declared_parameter, as_protecting, as_without_pointer}
use Rattle.plc_scope.specs.Limits.{within_limit, stands_at}
use Rattle.plc_scope.specs.Primitives.{primitive_means, initial_means}
use Rattle.plc_scope.proofs.Alike.{Alike, Same, same, go_on, then_alike, then_same, limit_same, refused_same, declared_same, declared_label_same, declared_local_same, declared_parameter_same}
use Rattle.plc_scope.proofs.Alike.{name_same, condition_same, primitive_same, initial_same, call_same}
use Rattle.plc_outparse.specs.Meaning.{in_turn}
use Rattle.plc_outparse.proofs.Alike.{outline_same}
use Rattle.plc_parse.specs.Meaning.{counted, forms_mean, count_of, allocates, label_means, during_means, statement_means, statements_mean, else_means, or_means, field_means, shared_means}
use Rattle.plc_parse.specs.Meaning.{function_means, value_means, ghost_means, listed, watch_means, init_means, local_means, placed_op_means, op_means, line_at, outlined_means, retire, file_means}
use Rattle.plc_print.specs.Laws.{statement_without_lines, without_lines, blocks_without_lines, op_without_lines, SameUpToLines}
use Rattle.plc_print.proofs.OutlineLines.{same_outline}

-- ---- primitives in order

some_counted : (n : ℕ) (has_new : Bool) (a b : ℕ) (o : Option Primitive) → Same (counted n has_new a (Ok o)) (counted n has_new b (Ok o))
some_counted n has_new a b None = refl
some_counted n has_new a b (Some k) = same (counted n has_new a (Ok (Some k)))

counted_same : (n : ℕ) (has_new : Bool) (a b : ℕ) (r q : Result (Option Primitive) ParseFault) → Same r q → Same (counted n has_new a r) (counted n has_new b q)
counted_same n has_new a b (Ok x) (Ok y) h = subst (λ z. Same (counted n has_new a (Ok x)) (counted n has_new b (Ok z))) h (some_counted n has_new a b x)
counted_same n has_new a b (Err e) (Err f) h = refused_same (Option Primitive) (stands_at a e) (stands_at b f) (n == most limits.Prims) e f (faults.Limit limits.Prims (most limits.Prims + 1))
counted_same n has_new a b (Ok x) (Err f) h = absurd h
counted_same n has_new a b (Err e) (Ok y) h = absurd h

forms_same : {X : Type 0} (means : X → Result (Option Primitive) ParseFault) (bare : X → X) → ((x : X) → Same (means x) (means (bare x)))
    → (n : ℕ) (has_new : Bool) (xs : List (Placed X)) → Same (forms_mean means n has_new xs) (forms_mean means n has_new (map (unplaced_by bare) xs))
forms_same means bare one n has_new [] = refl
forms_same means bare one n has_new (x ∷ xs) = then_same _ _ _ _ (counted_same n has_new x.at 0 (means x.value) (means (bare x.value)) (one x.value)) (λ k.
    then_same _ _ _ _ (forms_same means bare one (n + count_of k) (has_new || allocates k) xs) (λ others. refl))

-- ---- statements

label_same : (s : Scope) (n : Placed Text) → Same (label_means s n) (label_means s (unplaced n))
label_same s n = limit_same (length s.labels) limits.Labels _ _ (then_same _ _ _ _ (declared_label_same s n) (λ t. refl))

during_same : (s : Scope) (d : Option (Placed Text)) → Same (during_means s d) (during_means s (unplaced_label d))
during_same s None = refl
during_same s (Some n) = then_same _ _ _ _ (label_same s n) (λ l. refl)

-- one scope, and what is equal but for lines
abbrev Lineless : {A : Type 0} → (A → A) → A × Scope → A × Scope → Type 0
Lineless bare x y = (bare x.0 ≡ bare y.0) × (x.1 ≡ y.1)

-- after what is equal but for lines
after_lineless : {A C D : Type 0} (bare : A → A) (S : C → D → Type 0) (r q : Result (A × Scope) ParseFault) (f : A × Scope → Result C ParseFault) (g : A × Scope → Result D ParseFault)
    → Alike (Lineless bare) r q → ((x y : A) (s : Scope) → bare x ≡ bare y → Alike S (f (x, s)) (g (y, s))) → Alike S (r >>= f) (q >>= g)
after_lineless bare S r q f g h k = go_on (Lineless bare) S r q f g h (λ x y e. subst (λ t. Alike S (f x) (g (y.0, t))) e.1 (k x.0 y.0 x.1 e.0))

module _ (lines others : List ℕ) where
  mutual
    statement_alike : (s : Scope) (in_loop : Bool) (at : ℕ) (t : StatementTree) → Alike (Lineless statement_without_lines) (statement_means lines s in_loop at t) (statement_means others s in_loop 0 (unplaced_statement t))
    statement_alike s in_loop at (PrimitiveStatement p) = then_alike _ _ _ _ _ (primitive_same s p) (λ k. (refl, refl))
    statement_alike s in_loop at (AtomicStatement ps) = then_alike _ _ _ _ _ (forms_same (primitive_means s) unplaced_primitive (primitive_same s) 0 false ps) (λ ks. (refl, refl))
    statement_alike s in_loop at (CallStatement f a d) = then_alike _ _ _ _ _ (call_same s f a) (λ c. then_alike _ _ _ _ _ (during_same s d) (λ l. (refl, refl)))
    statement_alike s in_loop at (IfStatement c b e) = then_alike _ _ _ _ _ (condition_same s c) (λ k.
        after_lineless without_lines _ _ _ _ _ (block_alike s in_loop b) (λ x y t h.
        after_lineless without_lines _ _ _ _ _ (else_alike t in_loop e) (λ z w u g.
        (ap (λ m. If k m (without_lines z)) h ∙ ap (λ m. If k (without_lines y) m) g, refl))))
    statement_alike s in_loop at (ChooseStatement a b os) =
        after_lineless without_lines _ _ _ _ _ (block_alike s in_loop a) (λ x y t h.
        after_lineless without_lines _ _ _ _ _ (block_alike t in_loop b) (λ z w u g.
        after_lineless blocks_without_lines _ _ _ _ _ (ors_alike u in_loop os) (λ v m n e. (
          ap (λ k. Choose (And k (And (without_lines z) (blocks_without_lines v)))) h ∙ ap (λ k. Choose (And (without_lines y) (And k (blocks_without_lines v)))) g
              ∙ ap (λ k. Choose (And (without_lines y) (And (without_lines w) k))) e,
          refl,
        ))))
    statement_alike s in_loop at (LoopStatement b) = after_lineless without_lines _ _ _ _ _ (block_alike s true b) (λ x y t h. (ap Loop h, refl))
    statement_alike s true at BreakStatement = (refl, refl)
    statement_alike s false at BreakStatement = tt
    statement_alike s in_loop at ReturnStatement = (refl, refl)
    statement_alike s in_loop at (LabelStatement n) = then_alike _ _ _ _ _ (label_same s n) (λ l. (refl, refl))

    block_alike : (s : Scope) (in_loop : Bool) (b : BlockTree) → Alike (Lineless without_lines) (statements_mean lines s in_loop b) (statements_mean others s in_loop (unplaced_block b))
    block_alike s in_loop NoStatement = (refl, refl)
    block_alike s in_loop (ThenStatement at t b) =
        after_lineless statement_without_lines _ _ _ _ _ (statement_alike s in_loop at t) (λ x y u h.
        after_lineless without_lines _ _ _ _ _ (block_alike u in_loop b) (λ z w v g.
        (ap (λ m. Then 0 m (without_lines z)) h ∙ ap (λ m. Then 0 (statement_without_lines y) m) g, refl)))

    else_alike : (s : Scope) (in_loop : Bool) (e : ElseTree) → Alike (Lineless without_lines) (else_means lines s in_loop e) (else_means others s in_loop (unplaced_else e))
    else_alike s in_loop NoElse = (refl, refl)
    else_alike s in_loop (ElseBlock b) = block_alike s in_loop b

    ors_alike : (s : Scope) (in_loop : Bool) (os : OrTree) → Alike (Lineless blocks_without_lines) (or_means lines s in_loop os) (or_means others s in_loop (unplaced_ors os))
    ors_alike s in_loop NoOr = (refl, refl)
    ors_alike s in_loop (OrBlock b os) =
        after_lineless without_lines _ _ _ _ _ (block_alike s in_loop b) (λ x y t h.
        after_lineless blocks_without_lines _ _ _ _ _ (ors_alike t in_loop os) (λ z w u g.
        (ap (λ m. And m (blocks_without_lines z)) h ∙ ap (λ m. And (without_lines y) m) g, refl)))

-- ---- declarations

field_same : (s : Scope) (n : ℕ) (f : FieldTree) → Same (field_means s n f) (field_means s n (unplaced_field f))
field_same s n (PointerField name) = limit_same n limits.Fields _ _ (then_same _ _ _ _ (declared_same s name _) (λ t. refl))
field_same s n (DataField name) = limit_same n limits.Fields _ _ (then_same _ _ _ _ (declared_same s name _) (λ t. refl))

shared_same : (s : Scope) (n : ℕ) (name : Placed Text) → Same (shared_means s n name) (shared_means s n (unplaced name))
shared_same s n name = limit_same n limits.Shared _ _ (then_same _ _ _ _ (declared_same s name _) (λ t. refl))

function_same : (s : Scope) (n : ℕ) (f : FunctionTree) → Same (function_means s n f) (function_means s n (unplaced_function f))
function_same s n (Declares name takes_pointer) = limit_same n limits.Calls _ _ (then_same _ _ _ _ (declared_same s name _) (λ t. refl))

value_same : (g : ℕ) (s : Scope) (k : ℕ) (name : Placed Text) → Same (value_means g s k name) (value_means g s k (unplaced name))
value_same g s k name = then_same _ _ _ _ (declared_same s name _) (λ t. same (within_limit k limits.Values (Ok (length s.names.names, t))))

listed_same : {X Y : Type 0} (means : Scope → ℕ → X → Result (Y × Scope) ParseFault) (bare : X → X) → ((s : Scope) (n : ℕ) (x : X) → Same (means s n x) (means s n (bare x)))
    → (s : Scope) (n : ℕ) (xs : List X) → Same (listed means s n xs) (listed means s n (map bare xs))
listed_same means bare one s n [] = refl
listed_same means bare one s n (x ∷ xs) = then_same _ _ _ _ (one s n x) (λ first. then_same _ _ _ _ (listed_same means bare one first.1 (n + 1) xs) (λ others. refl))

ghost_same : (s : Scope) (n : ℕ) (g : GhostTree) → Same (ghost_means s n g) (ghost_means s n (unplaced_ghost g))
ghost_same s n (Auxiliary name OfThreads) = limit_same n limits.Ghosts _ _ (then_same _ _ _ _ (declared_same s name _) (λ t. refl))
ghost_same s n (Auxiliary name (OneOf v vs)) = limit_same n limits.Ghosts _ _ (then_same _ _ _ _ (declared_same s name _) (λ t.
    then_same _ _ _ _ (listed_same (value_means n) unplaced (value_same n) t 0 (v ∷ vs)) (λ values. refl)))

watch_same : (s : Scope) (w : Option WatchTree) → Same (watch_means s w) (watch_means s (unplaced_maybe unplaced_watch w))
watch_same s None = refl
watch_same s (Some (UseHazard f)) = then_same _ _ _ _ (name_same s as_protecting f) (λ g. refl)
watch_same s (Some (UseEpoch e l)) = then_same _ _ _ _ (name_same s as_without_pointer e) (λ f. then_same _ _ _ _ (name_same s as_without_pointer l) (λ g. refl))

init_same : (s : Scope) (is : Option (List (Placed InitialTree))) → Same (init_means s is) (init_means s (unplaced_maybe unplaced_sets is))
init_same s None = refl
init_same s (Some is) = forms_same (initial_means s) unplaced_initial (initial_same s) 0 false is

-- ---- operations

-- trees one after the other
in_turn_same : {X : Type 0} (step : Scope → X → Result Scope ParseFault) (bare : X → X) → ((s : Scope) (x : X) → Same (step s x) (step s (bare x)))
    → (s : Scope) (xs : List X) → Same (in_turn step s xs) (in_turn step s (map bare xs))
in_turn_same step bare one s [] = refl
in_turn_same step bare one s (x ∷ xs) = then_same _ _ _ _ (one s x) (λ t. in_turn_same step bare one t xs)

local_same : (s : Scope) (l : FieldTree) → Same (local_means s l) (local_means s (unplaced_field l))
local_same s (PointerField name) = declared_local_same s name true
local_same s (DataField name) = declared_local_same s name false

-- a form past the limit has no meaning, whatever it would have
limit_alike : {A B : Type 0} (S : A → B → Type 0) (n : ℕ) (r : Result A ParseFault) (q : Result B ParseFault) → Alike S r q → Alike S (within_limit n limits.Ops r) (within_limit n limits.Ops q)
limit_alike S n r q h = by (n == most limits.Ops)
  where
    by : (b : Bool) → Alike S (if b then Err (faults.Limit limits.Ops (most limits.Ops + 1)) else r) (if b then Err (faults.Limit limits.Ops (most limits.Ops + 1)) else q)
    by true = tt
    by false = h

module _ (lines others : List ℕ) where
  op_alike : (s : Scope) (n : ℕ) (o : Placed OpTree) → Alike (Lineless op_without_lines) (placed_op_means lines s n o) (placed_op_means others s n (unplaced_by unplaced_op o))
  op_alike s n o = by o.value
    where
      by : (t : OpTree) → Alike (Lineless op_without_lines) (op_means lines (line_at lines o.at) s n t) (op_means others (line_at others 0) s n (unplaced_op t))
      by (Operates name parameters locals body) = limit_alike (Lineless op_without_lines) n _ _ (
          then_alike _ _ _ _ _ (declared_same s name bindings.Taken) (λ t. then_alike _ _ _ _ _ (in_turn_same declared_parameter unplaced declared_parameter_same t parameters) (λ p. then_alike _ _ _ _ _ (in_turn_same local_means unplaced_field local_same p locals) (λ l.
          after_lineless without_lines _ _ _ _ _ (block_alike lines others l false body) (λ x y u h.
          (ap (λ b. record { name = length s.names.names; locals = l.locals; body = b; line = 0 }) h, refl))))))

  ops_alike : (s : Scope) (n : ℕ) (os : List (Placed OpTree)) → Alike (Lineless (map op_without_lines)) (listed (placed_op_means lines) s n os) (listed (placed_op_means others) s n (map (unplaced_by unplaced_op) os))
  ops_alike s n [] = (refl, refl)
  ops_alike s n (o ∷ os) =
      after_lineless op_without_lines _ _ _ _ _ (op_alike s n o) (λ x y t h.
      after_lineless (map op_without_lines) _ _ _ _ _ (ops_alike t (n + 1) os) (λ xs ys u g.
      (ap (λ k. k ∷ map op_without_lines xs) h ∙ ap (λ ks. op_without_lines y ∷ ks) g, refl)))

  -- ---- the file

  outlined_same : (s : Scope) (ops : List Op) (t : Option OutlineTree) → Same (outlined_means s ops t) (outlined_means s ops (unplaced_maybe unplaced_outline t))
  outlined_same s ops None = refl
  outlined_same s ops (Some t) = outline_same s ops t

  -- after operations that are equal but for lines
  outlined_alike : (s : Scope) (xs ys : List Op) → map op_without_lines xs ≡ map op_without_lines ys → (t : Option OutlineTree) → Same (outlined_means s xs t) (outlined_means s ys (unplaced_maybe unplaced_outline t))
  outlined_alike s xs ys e t = subst (λ r. Same (outlined_means s xs t) r) (same_outline s xs ys e (unplaced_maybe unplaced_outline t)) (outlined_same s xs t)

  pub file_alike : (f : FileTree) → Alike SameUpToLines (file_means lines f) (file_means others (unplaced_file f))
  unfolding file_means
  file_alike f =
      then_alike _ _ _ _ _ (declared_same first_scope f.name bindings.Taken) (λ s.
      then_alike _ _ _ _ _ (listed_same field_means unplaced_field field_same s 0 f.fields) (λ fields.
      then_alike _ _ _ _ _ (listed_same shared_means unplaced shared_same fields.1 0 f.pointers) (λ pointers.
      then_alike _ _ _ _ _ (listed_same function_means unplaced_function function_same pointers.1 0 f.functions) (λ functions.
      then_alike _ _ _ _ _ (watch_same functions.1 f.watched) (λ observer.
      then_alike _ _ _ _ _ (listed_same ghost_means unplaced_ghost ghost_same functions.1 0 f.ghosts) (λ ghosts.
      then_alike _ _ _ _ _ (init_same ghosts.1 f.starts) (λ starts.
      after_lineless (map op_without_lines) _ _ _ _ _ (ops_alike ghosts.1 0 f.ops) (λ xs ys u h.
      then_alike _ _ _ _ _ (outlined_alike u xs ys h f.outlined) (λ outline.
      ap (λ (os : List Op). record {
        file = record { names = u.names; fields = fields.0; shared = pointers.0; funcs = retire ∷ functions.0; ghosts = ghosts.0; init = starts; ops = os; labels = u.labels };
        observer = observer;
        outline = outline;
      }) h)))))))))
