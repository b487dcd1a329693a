-- A file that is read is spelled by its normal tree without places, and the normal tree means the same unit.
use Rattle.std.proofs.Common.{◌≡◌, ℕ, zero, suc, ◌+◌, true, false, Option, Some, None, Result, Ok, Err, List, [], ◌∷◌}
use Rattle.std.proofs.Common.{map, slice_get, refl, ap, ◌∙◌, subst, arith}
use Rattle.plc_auto.specs.declared.observer.Observer.{Observer}
use Rattle.plc_lang.specs.declared.syntax.File.{File}
use Rattle.plc_lang.specs.declared.syntax.Field.{Field}
use Rattle.plc_lang.specs.declared.syntax.Func.{Func}
use Rattle.plc_lang.specs.declared.syntax.Ghost.{Ghost}
use Rattle.plc_lang.specs.declared.syntax.Op.{Op}
use Rattle.plc_lang.specs.declared.syntax.Primitive.{Primitive}
use Rattle.plc_syntax.specs.Trees.{Text, Placed, FieldTree, FunctionTree, WatchTree, UseHazard, UseEpoch, GhostTree}
use Rattle.plc_syntax.specs.Trees.{InitialTree, OpTree, OutlineTree, FileTree}
use Rattle.plc_syntax.proofs.Unplaced.{unplaced, unplaced_by, unplaced_maybe, unplaced_field}
use Rattle.plc_syntax.proofs.Unplaced.{unplaced_function, unplaced_watch, unplaced_ghost, unplaced_initial}
use Rattle.plc_syntax.proofs.Unplaced.{unplaced_sets, unplaced_file}
use Rattle.plc_scope.specs.declared.fault.ParseFault.{ParseFault}
use Rattle.plc_scope.specs.declared.scope.Scope.{Scope}
use Rattle.plc_scope.specs.declared.binding.Binding.{Binding}
use Rattle.plc_scope.specs.declared.binding.Binding.TheVariants.{Taken, Function}
use Rattle.plc_scope.specs.Scope.{◌>>=◌, first_scope, declared, role_as, as_protecting, as_without_pointer}
use Rattle.plc_scope.specs.Primitives.{initial_means}
use Rattle.plc_logic.specs.declared.clause.Outline.{Outline}
use Rattle.plc_parse.specs.declared.unit.Unit.{Unit as FileUnit}
use Rattle.plc_parse.specs.Meaning.{listed, field_means, shared_means, function_means, ghost_means, watch_means}
use Rattle.plc_parse.specs.Meaning.{forms_mean, init_means, placed_op_means, outlined_means, retire, file_means}
use Rattle.plc_scope.proofs.Holds.{Has, has_along, next}
use Rattle.plc_print.specs.Canonical.{watch_tree, initial_tree, init_tree, canonical_tree}
use Rattle.plc_lang.specs.Names.{name_at}
use Rattle.plc_print.specs.Outlines.{bare}
use Rattle.plc_print.proofs.NormalTrees.{normal_starts, normal_outline, normal_file}
use Rattle.plc_print.proofs.Steps.{after, held}
use Rattle.plc_print.proofs.SpelledNames.{Bound, IsBound, Ends, number_named, names_found}
use Rattle.plc_print.proofs.SpelledPrimitives.{IsInitial, initial_found}
use Rattle.plc_print.proofs.GrowingScopes.{ends_before, declared_found}
use Rattle.plc_print.proofs.SpelledForms.{kept, FormsRead, forms_found}
use Rattle.plc_print.proofs.SpelledDeclarations.{listed_found, FieldThere, field_spelled, field_found, SharedThere}
use Rattle.plc_print.proofs.SpelledDeclarations.{shared_found, FunctionThere, function_spelled, function_declared}
use Rattle.plc_print.proofs.SpelledDeclarations.{GhostThere, ghost_spelled, ghost_declared}
use Rattle.plc_print.proofs.SpelledOperations.{ManyOps, ops_found}
use Rattle.plc_print.proofs.SpelledOutlines.{OutlineRead, outline_found}

-- where an answer comes of two steps, the first has one
inverted : {A B C : Type 0} (r : Result A ParseFault) (f : A → Result B ParseFault) (y : B) → (r >>= f) ≡ Ok y → ((x : A) → r ≡ Ok x → f x ≡ Ok y → C) → C
inverted (Ok x) f y e k = k x refl e
inverted (Err e) f y h k = absurd cc

all_stay : {X : Type 0} (xs : List (Placed X)) → kept (λ x. true) xs ≡ xs
all_stay [] = refl
all_stay (x ∷ xs) = ap (λ ys. x ∷ ys) (all_stay xs)

module _ (file : File) (s : Scope) (bound : Bound file s) where
  -- ---- what is observed

  abbrev WatchRead : Option WatchTree → Observer → Type 0
  WatchRead w r = Ends file s → watch_tree file r ≡ unplaced_maybe unplaced_watch w

  watch_found : (w : Option WatchTree) → Has (WatchRead w) (watch_means s w)
  watch_found None = λ e. refl
  watch_found (Some (UseHazard f)) =
      next _ (WatchRead (Some (UseHazard f))) (role_as as_protecting s f) _ (names_found file s f bound).protecting (λ g h e. ap (λ n. Some (UseHazard (bare n))) (h e))
  watch_found (Some (UseEpoch n m)) =
      next _ (WatchRead (Some (UseEpoch n m))) (role_as as_without_pointer s n) _ (names_found file s n bound).without_pointer (λ f h.
      next _ (WatchRead (Some (UseEpoch n m))) (role_as as_without_pointer s m) _ (names_found file s m bound).without_pointer (λ g k e. rw (h e, k e) refl))

  -- ---- `init`

  record InitRead (starts : Option (List (Placed InitialTree))) (ks : List Primitive) : Type 0 where
    tree : Ends file s → init_tree file ks ≡ unplaced_maybe unplaced_sets (normal_starts starts)
    again : init_means s (normal_starts starts) ≡ Ok ks

  with_primitives : (ks : List Primitive) (i : Placed InitialTree) (is : List (Placed InitialTree)) → map (λ k. bare (initial_tree file k)) ks ≡ i ∷ is → init_tree file ks ≡ Some (i ∷ is)
  with_primitives [] i is e = absurd cc
  with_primitives (k ∷ ks) i is e = ap Some e

  module _ (none : s.locals ≡ []) where
    abbrev Initials : List (Placed InitialTree) → List Primitive → Type 0
    Initials is r = FormsRead (initial_means s) unplaced_initial (λ i. true) (IsInitial file s bound) (Ends file s) (initial_tree file) (λ i h. absurd h) (λ i k h. (refl, h)) (initial_found file s bound none) 0 false is r

    init_found : (starts : Option (List (Placed InitialTree))) → Has (InitRead starts) (init_means s starts)
    init_found None = record { tree = λ e. refl; again = refl }
    init_found (Some []) = record { tree = λ e. refl; again = refl }
    init_found (Some (i ∷ is)) =
        held (Initials (i ∷ is)) (InitRead (Some (i ∷ is))) (forms_mean (initial_means s) 0 false (i ∷ is))
        (forms_found (initial_means s) unplaced_initial (λ i. true) (IsInitial file s bound) (Ends file s) (initial_tree file) (λ i h. absurd h) (λ i k h. (refl, h)) (initial_found file s bound none) 0 false (i ∷ is)) (λ ks f e. record {
          tree = λ e. with_primitives ks (unplaced_by unplaced_initial i) (unplaced_sets is) (f.tree e ∙ ap unplaced_sets (all_stay (i ∷ is)));
          again = e;
        })

-- ---- the whole file

-- the canonical tree of the unit is the file's normal tree without places, and the normal tree means the unit
pub record FileRead (lines : List ℕ) (f : FileTree) (u : FileUnit) : Type 0 where
  pub tree : canonical_tree u ≡ unplaced_file (normal_file f)
  pub again : file_means lines (normal_file f) ≡ Ok u

at_start : {Y : Type 0} (ys : List Y) (k : ℕ) (y : Y) → slice_get ys k ≡ Some y → slice_get ys (0 + k) ≡ Some y
at_start ys k y e = let same : 0 + k ≡ k = omega arith in ap (slice_get ys) same ∙ e

after_retire : (ys : List Func) (k : ℕ) (y : Func) → slice_get ys k ≡ Some y → slice_get (retire ∷ ys) (0 + k + 1) ≡ Some y
after_retire ys k y e = let same : 0 + k + 1 ≡ suc k = omega arith in ap (slice_get (retire ∷ ys)) same ∙ e

same_tree : (n n' : Placed Text) (a a' : List FieldTree) (b b' : List (Placed Text)) (c c' : List FunctionTree) (d d' : Option WatchTree) (g g' : List GhostTree) (i i' : Option (List (Placed InitialTree))) (o o' : List (Placed OpTree)) (l l' : Option OutlineTree)
    → n ≡ n' → a ≡ a' → b ≡ b' → c ≡ c' → d ≡ d' → g ≡ g' → i ≡ i' → o ≡ o' → l ≡ l'
    → ◌≡◌ {A = FileTree} (record { name = n; fields = a; pointers = b; functions = c; watched = d; ghosts = g; starts = i; ops = o; outlined = l }) (record { name = n'; fields = a'; pointers = b'; functions = c'; watched = d'; ghosts = g'; starts = i'; ops = o'; outlined = l' })
same_tree n n' a a' b b' c c' d d' g g' i i' o o' l l' p1 p2 p3 p4 p5 p6 p7 p8 p9 = rw (p1, p2, p3, p4, p5, p6, p7, p8, p9) refl

module _ (lines : List ℕ) (f : FileTree) (s : Scope) (fields : List Field × Scope) (pointers : List ℕ × Scope) (functions : List Func × Scope) (observer : Observer)
    (ghosts : List Ghost × Scope) (starts : List Primitive) (ops : List Op × Scope) (outline : Outline)
    (to_s : declared first_scope f.name Taken ≡ Ok s) (to_fields : listed field_means s 0 f.fields ≡ Ok fields) (to_pointers : listed shared_means fields.1 0 f.pointers ≡ Ok pointers)
    (to_functions : listed function_means pointers.1 0 f.functions ≡ Ok functions) (to_observer : watch_means functions.1 f.watched ≡ Ok observer)
    (to_ghosts : listed ghost_means functions.1 0 f.ghosts ≡ Ok ghosts) (to_starts : init_means ghosts.1 f.starts ≡ Ok starts) (to_ops : listed (placed_op_means lines) ghosts.1 0 f.ops ≡ Ok ops)
    (to_outline : outlined_means ops.1 ops.0 f.outlined ≡ Ok outline) where
  abbrev unit : FileUnit
  unit = record {
    file = record { names = ops.1.names; fields = fields.0; shared = pointers.0; funcs = retire ∷ functions.0; ghosts = ghosts.0; init = starts; ops = ops.0; labels = ops.1.labels };
    observer = observer;
    outline = outline;
  }

  abbrev file : File
  file = unit.file

  first_bound : Bound file first_scope
  first_bound = record { even = refl; each = λ i b e. by i b e }
    where
      by : (i : ℕ) (b : Binding) → slice_get (Function (record { 0 = 0 }) true ∷ []) i ≡ Some b → IsBound file i b
      by zero b e = let same : Function (record { 0 = 0 }) true ≡ b = cc in subst (λ c. IsBound file 0 c) same refl
      by (suc i) b e = absurd cc

  unit_again : init_means ghosts.1 (normal_starts f.starts) ≡ Ok starts → listed (placed_op_means lines) ghosts.1 0 (normal_file f).ops ≡ Ok ops → outlined_means ops.1 ops.0 (normal_outline f.outlined) ≡ Ok outline
      → file_means lines (normal_file f) ≡ Ok unit
  unfolding file_means
  unit_again begun done said =
      after _ _ _ _ to_s (after _ _ _ _ to_fields (after _ _ _ _ to_pointers (after _ _ _ _ to_functions (after _ _ _ _ to_observer (after _ _ _ _ to_ghosts (after _ _ _ _ begun (after _ _ _ _ done
      (after _ _ _ _ said refl))))))))

  outline_read : (bound : Bound file ops.1) → OutlineRead file ops.1 bound f.outlined outline
  outline_read bound = has_along (OutlineRead file ops.1 bound f.outlined) (outlined_means ops.1 ops.0 f.outlined) outline to_outline (outline_found file ops.1 bound f.outlined)

  parts_read : FileRead lines f unit
  parts_read =
      let d = has_along _ _ s to_s (declared_found file first_scope f.name Taken) in
      let a = (has_along _ _ fields to_fields (listed_found file FieldTree Field field_means unplaced_field (field_spelled file) (FieldThere file) (field_found file) s 0 f.fields)) (at_start fields.0) in
      let b = (has_along _ _ pointers to_pointers (listed_found file (Placed Text) ℕ shared_means unplaced (λ n. bare (name_at file n)) (SharedThere file) (shared_found file) fields.1 0 f.pointers)) (at_start pointers.0) in
      let c = (has_along _ _ functions to_functions (listed_found file FunctionTree Func function_means unplaced_function (function_spelled file) (FunctionThere file) (function_declared file) pointers.1 0 f.functions)) (after_retire functions.0) in
      let g = (has_along _ _ ghosts to_ghosts (listed_found file GhostTree Ghost ghost_means unplaced_ghost (ghost_spelled file) (GhostThere file) (ghost_declared file) functions.1 0 f.ghosts)) (at_start ghosts.0) in
      let first : Bound file s = d.bound first_bound tt in
      let watching : Bound file functions.1 = c.goes.bound (b.goes.bound (a.goes.bound first)) in
      let starting : Bound file ghosts.1 = g.goes.bound watching in
      let none : ghosts.1.locals ≡ [] = g.locals ∙ c.locals ∙ b.locals ∙ a.locals ∙ d.locals in
      let w = has_along _ _ observer to_observer (watch_found file functions.1 watching f.watched) in
      let i = has_along _ _ starts to_starts (init_found file ghosts.1 starting none f.starts) in
      let o : ManyOps file lines ghosts.1 0 f.ops ops = has_along _ _ ops to_ops (ops_found file lines ghosts.1 0 f.ops (record { bound = starting; locals = none })) in
      let l = outline_read (o.goes.bound starting) in
      let at_end : Ends file ops.1 = record { names = λ k x e. e; labels = λ k x e. e } in
      let at_ghosts = ends_before file ghosts.1 ops.1 o.goes at_end in
      let at_functions = ends_before file functions.1 ghosts.1 g.goes at_ghosts in
      let at_pointers = ends_before file pointers.1 functions.1 c.goes at_functions in
      let at_fields = ends_before file fields.1 pointers.1 b.goes at_pointers in
      let at_struct = ends_before file s fields.1 a.goes at_fields in
      record {
        tree = same_tree _ _ _ _ _ _ _ _ _ _ _ _ _ _ _ _ _ _ (ap (λ (n : Text). bare n) (number_named file s 1 f.name.value at_struct d.there)) (a.tree at_fields) (b.tree at_pointers) (c.tree at_functions)
            (w at_functions) (g.tree at_ghosts) (i.tree at_ghosts) (o.tree at_end) (l.tree at_end);
        again = unit_again i.again o.again l.again;
      }

pub file_read_again : (lines : List ℕ) (f : FileTree) (u : FileUnit) → file_means lines f ≡ Ok u → FileRead lines f u
unfolding file_means
file_read_again lines f u e =
    inverted (declared first_scope f.name Taken) _ u e (λ s to_s e1.
    inverted (listed field_means s 0 f.fields) _ u e1 (λ fields to_fields e2.
    inverted (listed shared_means fields.1 0 f.pointers) _ u e2 (λ pointers to_pointers e3.
    inverted (listed function_means pointers.1 0 f.functions) _ u e3 (λ functions to_functions e4.
    inverted (watch_means functions.1 f.watched) _ u e4 (λ observer to_observer e5.
    inverted (listed ghost_means functions.1 0 f.ghosts) _ u e5 (λ ghosts to_ghosts e6.
    inverted (init_means ghosts.1 f.starts) _ u e6 (λ starts to_starts e7.
    inverted (listed (placed_op_means lines) ghosts.1 0 f.ops) _ u e7 (λ ops to_ops e8.
    inverted (outlined_means ops.1 ops.0 f.outlined) _ u e8 (λ outline to_outline e9.
    has_along (FileRead lines f) _ u e9 (parts_read lines f s fields pointers functions observer ghosts starts ops outline to_s to_fields to_pointers to_functions to_observer to_ghosts to_starts to_ops to_outline))))))))))
