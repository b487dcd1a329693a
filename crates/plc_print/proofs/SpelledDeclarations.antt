-- Declarations that are read are spelled by the trees they were read from, and what they bind is as the file has it.
use Rattle.std.proofs.Common.{◌≡◌, ◌==◌, ℕ, suc, ◌+◌, true, false, Option, Some, option_map, Result, List, [], ◌∷◌, map, slice_get, refl, ap, ap₂, ◌∙◌, subst, add-zero, arith}
use Rattle.plc_base.specs.Limits.{most}
use Rattle.plc_base.specs.declared.limits.What1.TheVariants as limits
use Rattle.plc_lang.specs.declared.syntax.File.{File}
use Rattle.plc_lang.specs.declared.syntax.Field.{Field}
use Rattle.plc_lang.specs.declared.syntax.Func.{Func}
use Rattle.plc_lang.specs.declared.syntax.Ghost.{Ghost}
use Rattle.plc_syntax.specs.Trees.{Text, Placed, FieldTree, PointerField as PointerFieldTree, DataField as DataFieldTree, FunctionTree, Declares as FunctionDeclares, GhostTree, Auxiliary as AuxiliaryTree, GhostKindTree, OneOf, OfThreads}
use Rattle.plc_scope.specs.declared.fault.ParseFault.{ParseFault}
use Rattle.plc_scope.specs.declared.scope.Scope.{Scope}
use Rattle.plc_scope.specs.declared.binding.Binding.TheVariants.{Shared, PointerField, DataField, Function, Auxiliary, Value}
use Rattle.plc_scope.specs.Scope.{declared}
use Rattle.plc_parse.specs.Meaning.{field_means, shared_means, function_means, value_means, ghost_means, listed}
use Rattle.plc_scope.proofs.Holds.{Has, next, unless}
use Rattle.plc_print.specs.Canonical.{declaration_tree, ghost_kind}
use Rattle.plc_lang.specs.Names.{name_at, values_of}
use Rattle.plc_syntax.proofs.Unplaced.{unplaced, unplaced_field, unplaced_function, unplaced_ghost}
use Rattle.plc_print.specs.Outlines.{bare}
use Rattle.plc_print.proofs.SpelledNames.{Ends}
use Rattle.plc_print.proofs.GrowingScopes.{Goes, goes_nowhere, goes_on, ends_before, Declares, declared_found, goes_by, declared_name}

-- what was read leaves the locals and is spelled by the tree
pub record Spelled {X Y : Type 0} (file : File) (spell : Y → X) (s : Scope) (x : X) (y : Y) (t : Scope) : Type 0 where
  pub goes : Goes file s t
  pub locals : t.locals ≡ s.locals
  pub tree : Ends file t → spell y ≡ x

-- items of which the first has a number stand in their places
abbrev pub AllThere : {Y : Type 0} → (ℕ → Y → Type 0) → ℕ → List Y → Type 0
AllThere {Y} There n ys = (k : ℕ) (y : Y) → slice_get ys k ≡ Some y → There (n + k) y

first_there : {Y : Type 0} (There : ℕ → Y → Type 0) (n : ℕ) (y : Y) (ys : List Y) → AllThere There n (y ∷ ys) → There n y
first_there There n y ys there = subst (λ k. There k y) (add-zero n) (there 0 y refl)

others_there : {Y : Type 0} (There : ℕ → Y → Type 0) (n : ℕ) (y : Y) (ys : List Y) → AllThere There n (y ∷ ys) → AllThere There (n + 1) ys
others_there There n y ys there = λ k z e. let moved : n + suc k ≡ n + 1 + k = omega arith in subst (λ j. There j z) moved (there (suc k) z e)

one_then : {X Y : Type 0} (file : File) (spell : Y → X) (s t u : Scope) (x : X) (xs : List X) (y : Y) (ys : List Y) → Spelled file spell s x y t → Spelled file (map spell) t xs ys u → Spelled file (map spell) s (x ∷ xs) (y ∷ ys) u
one_then {X} file spell s t u x xs y ys one many = record {
  goes = goes_on file s t u one.goes many.goes;
  locals = many.locals ∙ one.locals;
  tree = λ e. ap₂ (λ (z : X) (zs : List X). z ∷ zs) (one.tree (ends_before file t u many.goes e)) (many.tree e);
}

none_spelled : {X Y : Type 0} (file : File) (spell : Y → X) (s : Scope) → Spelled file (map spell) s [] [] s
none_spelled file spell s = record { goes = goes_nowhere file s; locals = refl; tree = λ e. refl }

-- ---- declarations of one kind in order

module _ (file : File) (X Y : Type 0) (means : Scope → ℕ → X → Result (Y × Scope) ParseFault) (bare_of : X → X) (spell : Y → X) (There : ℕ → Y → Type 0) where
  -- one that the file has in its place
  abbrev pub OneRead : Scope → ℕ → X → Y × Scope → Type 0
  OneRead s n x r = There n r.0 → Spelled file spell s (bare_of x) r.0 r.1

  abbrev pub ManyRead : Scope → ℕ → List X → List Y × Scope → Type 0
  ManyRead s n xs r = AllThere There n r.0 → Spelled file (map spell) s (map bare_of xs) r.0 r.1

  pub listed_found : ((s : Scope) (n : ℕ) (x : X) → Has (OneRead s n x) (means s n x)) → (s : Scope) (n : ℕ) (xs : List X) → Has (ManyRead s n xs) (listed means s n xs)
  listed_found one s n [] = λ there. none_spelled file spell s
  listed_found one s n (x ∷ xs) =
      next (OneRead s n x) (ManyRead s n (x ∷ xs)) (means s n x) _ (one s n x) (λ first f.
      next (ManyRead first.1 (n + 1) xs) (ManyRead s n (x ∷ xs)) (listed means first.1 (n + 1) xs) _ (listed_found one first.1 (n + 1) xs) (λ others g there.
      one_then file spell s first.1 others.1 (bare_of x) (map bare_of xs) first.0 others.0 (f (first_there There n first.0 others.0 there)) (g (others_there There n first.0 others.0 there))))

module _ (file : File) where
  -- ---- fields, shared pointers and functions

  abbrev pub FieldThere : ℕ → Field → Type 0
  FieldThere n y = slice_get file.fields n ≡ Some y

  abbrev pub field_spelled : Field → FieldTree
  field_spelled f = declaration_tree (name_at file f.name) f.pointer

  abbrev OneField : Scope → ℕ → FieldTree → Field × Scope → Type 0
  OneField = OneRead file FieldTree Field field_means unplaced_field field_spelled FieldThere

  pub field_found : (s : Scope) (n : ℕ) (f : FieldTree) → Has (OneField s n f) (field_means s n f)
  field_found s n (PointerFieldTree name) = unless (OneField s n (PointerFieldTree name)) (n == most limits.Fields) _ _ (λ less.
      next (Declares file name.value (PointerField (record { 0 = n })) s) _ (declared s name (PointerField (record { 0 = n }))) _ (declared_found file s name (PointerField (record { 0 = n }))) (λ t d there. record {
        goes = goes_by file s t name.value (PointerField (record { 0 = n })) d (λ b. ap (option_map (λ (x : Field). x.name)) there);
        locals = d.locals;
        tree = λ e. ap (λ m. PointerFieldTree (bare m)) (declared_name file s t name.value (PointerField (record { 0 = n })) d e);
      }))
  field_found s n (DataFieldTree name) = unless (OneField s n (DataFieldTree name)) (n == most limits.Fields) _ _ (λ less.
      next (Declares file name.value (DataField (record { 0 = n })) s) _ (declared s name (DataField (record { 0 = n }))) _ (declared_found file s name (DataField (record { 0 = n }))) (λ t d there. record {
        goes = goes_by file s t name.value (DataField (record { 0 = n })) d (λ b. ap (option_map (λ (x : Field). x.name)) there);
        locals = d.locals;
        tree = λ e. ap (λ m. DataFieldTree (bare m)) (declared_name file s t name.value (DataField (record { 0 = n })) d e);
      }))

  abbrev pub SharedThere : ℕ → ℕ → Type 0
  SharedThere n y = slice_get file.shared n ≡ Some y

  abbrev OneShared : Scope → ℕ → Placed Text → ℕ × Scope → Type 0
  OneShared = OneRead file (Placed Text) ℕ shared_means unplaced (λ n. bare (name_at file n)) SharedThere

  pub shared_found : (s : Scope) (n : ℕ) (name : Placed Text) → Has (OneShared s n name) (shared_means s n name)
  shared_found s n name = unless (OneShared s n name) (n == most limits.Shared) _ _ (λ less.
      next (Declares file name.value (Shared n) s) _ (declared s name (Shared n)) _ (declared_found file s name (Shared n)) (λ t d there. record {
        goes = goes_by file s t name.value (Shared n) d (λ b. there);
        locals = d.locals;
        tree = λ e. ap (λ (m : Text). bare m) (declared_name file s t name.value (Shared n) d e);
      }))

  -- `retire` stands before those that are declared
  abbrev pub FunctionThere : ℕ → Func → Type 0
  FunctionThere n y = slice_get file.funcs (n + 1) ≡ Some y

  abbrev pub function_spelled : Func → FunctionTree
  function_spelled f = FunctionDeclares (bare (name_at file f.name)) f.pointer

  abbrev OneFunction : Scope → ℕ → FunctionTree → Func × Scope → Type 0
  OneFunction = OneRead file FunctionTree Func function_means unplaced_function function_spelled FunctionThere

  pub function_declared : (s : Scope) (n : ℕ) (f : FunctionTree) → Has (OneFunction s n f) (function_means s n f)
  function_declared s n (FunctionDeclares name p) = unless (OneFunction s n (FunctionDeclares name p)) (n == most limits.Calls) _ _ (λ less.
      next (Declares file name.value (Function (record { 0 = n + 1 }) p) s) _ (declared s name (Function (record { 0 = n + 1 }) p)) _ (declared_found file s name (Function (record { 0 = n + 1 }) p)) (λ t d there. record {
        goes = goes_by file s t name.value (Function (record { 0 = n + 1 }) p) d (λ b. ap (option_map (λ (x : Func). x.name)) there);
        locals = d.locals;
        tree = λ e. ap (λ m. FunctionDeclares (bare m) p) (declared_name file s t name.value (Function (record { 0 = n + 1 }) p) d e);
      }))

  -- ---- auxiliary fields

  abbrev ValueThere : ℕ → ℕ → ℕ → Type 0
  ValueThere g k y = slice_get (values_of (slice_get file.ghosts g)) k ≡ Some y

  abbrev OneValue : ℕ → Scope → ℕ → Placed Text → ℕ × Scope → Type 0
  OneValue g = OneRead file (Placed Text) ℕ (value_means g) unplaced (λ n. bare (name_at file n)) (ValueThere g)

  value_declared : (g : ℕ) (s : Scope) (k : ℕ) (name : Placed Text) → Has (OneValue g s k name) (value_means g s k name)
  value_declared g s k name =
      next (Declares file name.value (Value g k) s) (OneValue g s k name) (declared s name (Value g k)) _ (declared_found file s name (Value g k)) (λ t d.
      unless (OneValue g s k name) (k == most limits.Values) _ _ (λ less there. record { goes = goes_by file s t name.value (Value g k) d (λ b. there); locals = d.locals; tree = λ e. ap (λ (m : Text). bare m) (declared_name file s t name.value (Value g k) d e) }))

  abbrev ManyValues : ℕ → Scope → ℕ → List (Placed Text) → List ℕ × Scope → Type 0
  ManyValues g = ManyRead file (Placed Text) ℕ (value_means g) unplaced (λ n. bare (name_at file n)) (ValueThere g)

  values_declared : (g : ℕ) (s : Scope) (k : ℕ) (names : List (Placed Text)) → Has (ManyValues g s k names) (listed (value_means g) s k names)
  values_declared g = listed_found file (Placed Text) ℕ (value_means g) unplaced (λ n. bare (name_at file n)) (ValueThere g) (value_declared g)

  -- what a field with these values' names holds
  abbrev kind_named : List (Placed Text) → GhostKindTree
  kind_named [] = OfThreads
  kind_named (n ∷ ns) = OneOf n ns

  kind_spelled : (vs : List ℕ) → ghost_kind file vs ≡ kind_named (map (λ n. bare (name_at file n)) vs)
  kind_spelled [] = refl
  kind_spelled (v ∷ vs) = refl

  abbrev pub GhostThere : ℕ → Ghost → Type 0
  GhostThere n y = slice_get file.ghosts n ≡ Some y

  abbrev pub ghost_spelled : Ghost → GhostTree
  ghost_spelled g = AuxiliaryTree (bare (name_at file g.name)) (ghost_kind file g.values)

  abbrev OneGhost : Scope → ℕ → GhostTree → Ghost × Scope → Type 0
  OneGhost = OneRead file GhostTree Ghost ghost_means unplaced_ghost ghost_spelled GhostThere

  pub ghost_declared : (s : Scope) (n : ℕ) (g : GhostTree) → Has (OneGhost s n g) (ghost_means s n g)
  ghost_declared s n (AuxiliaryTree name OfThreads) = unless (OneGhost s n (AuxiliaryTree name OfThreads)) (n == most limits.Ghosts) _ _ (λ less.
      next (Declares file name.value (Auxiliary n true) s) _ (declared s name (Auxiliary n true)) _ (declared_found file s name (Auxiliary n true)) (λ t d there. record {
        goes = goes_by file s t name.value (Auxiliary n true) d (λ b. ap (option_map (λ (x : Ghost). x.name)) there);
        locals = d.locals;
        tree = λ e. ap (λ m. AuxiliaryTree (bare m) OfThreads) (declared_name file s t name.value (Auxiliary n true) d e);
      }))
  ghost_declared s n (AuxiliaryTree name (OneOf v vs)) = unless (OneGhost s n (AuxiliaryTree name (OneOf v vs))) (n == most limits.Ghosts) _ _ (λ less.
      next (Declares file name.value (Auxiliary n false) s) _ (declared s name (Auxiliary n false)) _ (declared_found file s name (Auxiliary n false)) (λ t d.
      next (ManyValues n t 0 (v ∷ vs)) _ (listed (value_means n) t 0 (v ∷ vs)) _ (values_declared n t 0 (v ∷ vs)) (λ values h there.
      let many = h (λ j y e. let same : 0 + j ≡ j = omega arith in ap (λ (o : Option Ghost). slice_get (values_of o) (0 + j)) there ∙ ap (slice_get values.0) same ∙ e) in
      let declares = goes_by file s t name.value (Auxiliary n false) d (λ b. ap (option_map (λ (x : Ghost). x.name)) there) in
      record {
        goes = goes_on file s t values.1 declares many.goes;
        locals = many.locals ∙ d.locals;
        tree = λ e. ap₂ (λ (m : Text) (k : GhostKindTree). AuxiliaryTree (bare m) k)
            (declared_name file s t name.value (Auxiliary n false) d (ends_before file t values.1 many.goes e)) (kind_spelled values.0 ∙ ap kind_named (many.tree e));
      })))
