-- Each name that is found in a scope is the name that the canonical text spells for what it stands for.
use Rattle.std.proofs.Common.{◌≡◌, ◌==◌, ℕ, suc, ◌+◌, ◌<◌, Bool, true, false, cond, not, ◌&&◌, if◌then◌else◌, Option}
use Rattle.std.proofs.Common.{Some, None, IfSome, option_map, List, [], ◌∷◌, length, slice_get, refl, sym, ap, ◌∙◌}
use Rattle.std.proofs.Common.{subst, bytes_eq, nat_lt, arith}
use Rattle.std.specs.List.{prefix_len}
use Rattle.std.proofs.lemmas.Bool.{eqb-true, ltb-true}
use Rattle.std.proofs.lemmas.Option.{get_or_from_slice_get}
use Rattle.std.proofs.lemmas.Slice.Eq.{bytes_eq-Decides}
use Rattle.plc_base.specs.Functions.{is_retire}
use Rattle.plc_base.specs.Names.{place_of}
use Rattle.plc_lang.specs.Locals.{is_pointer, is_data}
use Rattle.plc_lang.specs.declared.syntax.Field.{Field}
use Rattle.plc_lang.specs.declared.syntax.Func.{Func}
use Rattle.plc_lang.specs.declared.syntax.Ghost.{Ghost}
use Rattle.plc_lang.specs.declared.syntax.File.{File}
use Rattle.plc_lang.specs.declared.syntax.Local.{Local}
use Rattle.plc_lang.specs.declared.syntax.Var.TheVariants.{Shared as SharedVar, Local as LocalVar}
use Rattle.plc_syntax.specs.Trees.{Text, Placed}
use Rattle.plc_scope.specs.declared.scope.Scope.{Scope}
use Rattle.plc_scope.specs.declared.binding.Binding.{Binding}
use Rattle.plc_scope.specs.declared.binding.Binding.TheVariants.{Taken, Shared, PointerField, DataField, Function}
use Rattle.plc_scope.specs.declared.binding.Binding.TheVariants.{Auxiliary, Value, LocalOnly}
use Rattle.plc_scope.specs.declared.binding.Role.{Role}
use Rattle.plc_scope.specs.declared.binding.Role.TheVariants.{PointerVariable as pointer_variable}
use Rattle.plc_scope.specs.declared.binding.Role.TheVariants.{DataLocal as data_local, PointerField as pointer_field}
use Rattle.plc_scope.specs.declared.binding.Role.TheVariants.{DataField as data_field, Function as function}
use Rattle.plc_scope.specs.declared.binding.Role.TheVariants.{Auxiliary as auxiliary, Value as value}
use Rattle.plc_scope.specs.declared.binding.Role.TheVariants.{NoValue as no_value}
use Rattle.plc_scope.specs.Scope.{known, needed, if_fits, role_at, binding_role, local_role, role_found, role_of}
use Rattle.plc_scope.specs.Scope.{as_pointer, as_pointer_local, as_data, as_pointer_field, as_data_field, as_function}
use Rattle.plc_scope.specs.Scope.{as_protecting, as_without_pointer, as_auxiliary, as_value_of, role_as}
use Rattle.plc_scope.proofs.Holds.{Has}
use Rattle.plc_scope.proofs.Finds.{made_is, of_kind}
use Rattle.plc_lang.specs.Names.{name_at, name_of, field_name, function_name, auxiliary_name, values_of, value_name}
use Rattle.plc_lang.specs.Names.{pointer_name, data_name, variable_name}
use Rattle.plc_print.proofs.Steps.{Within}

-- ---- the place of a name

pub onward : {A : Type 0} (x : A) (xs : List A) (n : ℕ) → slice_get (x ∷ xs) (1 + n) ≡ slice_get xs n
onward x xs n = let e : 1 + n ≡ suc n = omega arith in ap (slice_get (x ∷ xs)) e

first_here : (n : Text) (names : List Text) → prefix_len (λ x. not (bytes_eq n x)) names < length names → slice_get names (prefix_len (λ x. not (bytes_eq n x)) names) ≡ Some n
first_here n [] h = absurd (omega arith)
first_here n (x ∷ xs) h = by (bytes_eq n x) refl (λ less. first_here n xs less) h
  where
    k : ℕ
    k = prefix_len (λ y. not (bytes_eq n y)) xs

    by : (b : Bool) → bytes_eq n x ≡ b → (k < length xs → slice_get xs k ≡ Some n) → cond (not b) (1 + k) 0 < suc (length xs) → slice_get (x ∷ xs) (cond (not b) (1 + k) 0) ≡ Some n
    by true e others less = ap Some (sym ((bytes_eq-Decides n x).0 e))
    by false e others less = onward x xs k ∙ others (omega arith)

pub place_found : (n : Text) (names : List Text) (i : ℕ) → place_of n names ≡ Some i → slice_get names i ≡ Some n
place_found n names i e = by (nat_lt k (length names)) refl e
  where
    k : ℕ
    k = prefix_len (λ x. not (bytes_eq n x)) names

    by : (b : Bool) → nat_lt k (length names) ≡ b → cond b (Some k) None ≡ Some i → slice_get names i ≡ Some n
    by true less same = let at : k ≡ i = cc in subst (λ j. slice_get names j ≡ Some n) at (first_here n names (ltb-true k (length names) less))
    by false less same = absurd cc

module _ (file : File) where
  -- ---- what a number is bound to

  -- what is bound to a number was declared by the name with that number
  abbrev pub IsBound : ℕ → Binding → Type 0
  IsBound i Taken = Unit {0}
  IsBound i LocalOnly = Unit {0}
  IsBound i (Shared k) = slice_get file.shared k ≡ Some i
  IsBound i (PointerField f) = option_map (λ (x : Field). x.name) (slice_get file.fields f.0) ≡ Some i
  IsBound i (DataField f) = option_map (λ (x : Field). x.name) (slice_get file.fields f.0) ≡ Some i
  IsBound i (Function f p) = option_map (λ (x : Func). x.name) (slice_get file.funcs f.0) ≡ Some i
  IsBound i (Auxiliary g t) = option_map (λ (x : Ghost). x.name) (slice_get file.ghosts g) ≡ Some i
  IsBound i (Value g v) = slice_get (values_of (slice_get file.ghosts g)) v ≡ Some i

  -- one binding for each name, and each as the file has it
  pub record Bound (s : Scope) : Type 0 where
    pub even : length s.bindings ≡ length s.names.names
    pub each : (i : ℕ) (b : Binding) → slice_get s.bindings i ≡ Some b → IsBound i b

  -- the file has the names and labels of the scope, and perhaps more after
  pub record Ends (s : Scope) : Type 0 where
    pub names : Within s.names.names file.names.names
    pub labels : Within s.labels file.labels

  -- ---- what a name is

  -- the canonical text spells the name for this role
  abbrev pub RoleIs : List Local → Text → Role → Type 0
  RoleIs locals n (pointer_variable v) = variable_name file locals v ≡ n
  RoleIs locals n (data_local x) = data_name file locals x ≡ n
  RoleIs locals n (pointer_field f) = field_name file f ≡ n
  RoleIs locals n (data_field f) = field_name file f ≡ n
  RoleIs locals n (function f p) = function_name file f ≡ n
  RoleIs locals n (auxiliary g t) = auxiliary_name file g ≡ n
  RoleIs locals n (value g v) = value_name file g v ≡ n
  RoleIs locals n no_value = Unit {0}

  -- the name with a number
  pub from_number : (o : Option ℕ) (i : ℕ) (n : Text) → o ≡ Some i → name_at file i ≡ n → name_of file o ≡ n
  from_number o i n e f = ap (name_of file) e ∙ f

  -- a local with its number among those of its kind
  named_local : (locals : List Local) (i : ℕ) (l : Local) (n : Text) → slice_get locals i ≡ Some l → name_at file l.name ≡ n → (pointer : Bool) → l.pointer ≡ pointer → RoleIs locals n (local_role locals i pointer)
  named_local locals i l n there named true e = from_number _ l.name n (ap (option_map (λ (x : Local). x.name)) (of_kind is_pointer locals i l there e)) named
  named_local locals i l n there named false e = from_number _ l.name n (ap (option_map (λ (x : Local). x.name)) (of_kind is_data locals i l there (ap not e))) named

  named_binding : (locals : List Local) (i : ℕ) (n : Text) (b : Binding) → name_at file i ≡ n → IsBound i b → IfSome (binding_role b) (RoleIs locals n)
  named_binding locals i n Taken e h = tt
  named_binding locals i n LocalOnly e h = tt
  named_binding locals i n (Shared k) e h = from_number _ i n h e
  named_binding locals i n (PointerField f) e h = from_number _ i n h e
  named_binding locals i n (DataField f) e h = from_number _ i n h e
  named_binding locals i n (Function f p) e h = from_number _ i n h e
  named_binding locals i n (Auxiliary g t) e h = from_number _ i n h e
  named_binding locals i n (Value g v) e h = from_number _ i n h e

  -- a number of a scope keeps its name in the file
  pub number_named : (s : Scope) (i : ℕ) (n : Text) → Ends s → slice_get s.names.names i ≡ Some n → name_at file i ≡ n
  number_named s i n ends e = get_or_from_slice_get file.names.names i n [] (ends.names i n e)

  pub role_is : (s : Scope) (n : Text) → Bound s → Ends s → IfSome (role_of s n) (RoleIs s.locals n)
  unfolding role_of
  role_is s n bound ends =
      let named : (i : ℕ) → place_of n s.names.names ≡ Some i → name_at file i ≡ n = λ i e. number_named s i n ends (place_found n s.names.names i e) in
      made_is (role_found s.locals) (RoleIs s.locals n) s s.locals n
      (λ i j l at there same. named_local s.locals j l n there (ap (name_at file) same ∙ named i at) l.pointer refl) (λ i b at there. named_binding s.locals i n b (named i at) (bound.each i b there))

  -- ---- what is found by a name

  pub fits_found : {A : Type 0} (E : Type 0) (Q : A → Type 0) (o : Option A) (at : ℕ) → (E → IfSome o Q) → Has (λ x. E → Q x) (if_fits at o)
  fits_found E Q (Some x) at h = h
  fits_found E Q None at h = tt

  pub known_found : {K : Type 0} (E : Type 0) (R : K → Type 0) (o : Option K) (at : ℕ) → (E → IfSome o R) → Has (λ k. E → R k) (known at o)
  known_found E R (Some k) at h = h
  known_found E R None at h = tt

  needed_found : {A : Type 0} (wanted : Role → Option A) (E : Type 0) (R : Role → Type 0) (Q : A → Type 0) (o : Option Role) (at : ℕ) → (E → IfSome o R) → ((r : Role) → R r → IfSome (wanted r) Q)
      → Has (λ x. E → Q x) (needed wanted at o)
  needed_found wanted E R Q None at h k = tt
  needed_found wanted E R Q (Some r) at h k = fits_found E Q (wanted r) at (λ e. k r (h e))

  as_pointer_is : (locals : List Local) (n : Text) (r : Role) → RoleIs locals n r → IfSome (as_pointer r) (λ q. variable_name file locals q ≡ n)
  as_pointer_is locals n (pointer_variable v) h = h
  as_pointer_is locals n _ h = tt

  as_pointer_local_is : (locals : List Local) (n : Text) (r : Role) → RoleIs locals n r → IfSome (as_pointer_local r) (λ q. pointer_name file locals q ≡ n)
  as_pointer_local_is locals n (pointer_variable (LocalVar v)) h = h
  as_pointer_local_is locals n (pointer_variable (SharedVar k)) h = tt
  as_pointer_local_is locals n (data_local x) h = tt
  as_pointer_local_is locals n (pointer_field f) h = tt
  as_pointer_local_is locals n (data_field f) h = tt
  as_pointer_local_is locals n (function f p) h = tt
  as_pointer_local_is locals n (auxiliary g t) h = tt
  as_pointer_local_is locals n (value g v) h = tt
  as_pointer_local_is locals n no_value h = tt

  as_data_is : (locals : List Local) (n : Text) (r : Role) → RoleIs locals n r → IfSome (as_data r) (λ x. data_name file locals x ≡ n)
  as_data_is locals n (data_local x) h = h
  as_data_is locals n _ h = tt

  as_pointer_field_is : (locals : List Local) (n : Text) (r : Role) → RoleIs locals n r → IfSome (as_pointer_field r) (λ f. field_name file f ≡ n)
  as_pointer_field_is locals n (pointer_field f) h = h
  as_pointer_field_is locals n _ h = tt

  as_data_field_is : (locals : List Local) (n : Text) (r : Role) → RoleIs locals n r → IfSome (as_data_field r) (λ f. field_name file f ≡ n)
  as_data_field_is locals n (data_field f) h = h
  as_data_field_is locals n _ h = tt

  as_function_is : (locals : List Local) (n : Text) (r : Role) → RoleIs locals n r → IfSome (as_function r) (λ f. function_name file f.0 ≡ n)
  as_function_is locals n (function f p) h = h
  as_function_is locals n _ h = tt

  as_auxiliary_is : (locals : List Local) (n : Text) (r : Role) → RoleIs locals n r → IfSome (as_auxiliary r) (λ g. auxiliary_name file g.0 ≡ n)
  as_auxiliary_is locals n (auxiliary g t) h = h
  as_auxiliary_is locals n _ h = tt

  if_some : {A : Type 0} (Q : A → Type 0) (b : Bool) (x : A) → Q x → IfSome (if b then Some x else None) Q
  if_some Q true x h = h
  if_some Q false x h = tt

  if_none : {A : Type 0} (Q : A → Type 0) (b : Bool) (x : A) → Q x → IfSome (if b then None else Some x) Q
  if_none Q true x h = tt
  if_none Q false x h = h

  as_protecting_is : (locals : List Local) (n : Text) (r : Role) → RoleIs locals n r → IfSome (as_protecting r) (λ f. function_name file f ≡ n)
  as_protecting_is locals n (function f p) h = if_some (λ f. function_name file f ≡ n) (p && not (is_retire f)) f h
  as_protecting_is locals n _ h = tt

  as_without_pointer_is : (locals : List Local) (n : Text) (r : Role) → RoleIs locals n r → IfSome (as_without_pointer r) (λ f. function_name file f ≡ n)
  as_without_pointer_is locals n (function f p) h = if_none (λ f. function_name file f ≡ n) p f h
  as_without_pointer_is locals n _ h = tt

  of_field : (g h v : ℕ) (n : Text) (same : Bool) → (g == h) ≡ same → value_name file g v ≡ n → IfSome (if same then Some v else None) (λ w. value_name file h w ≡ n)
  of_field g h v n true e f = subst (λ k. value_name file k v ≡ n) (eqb-true g h e) f
  of_field g h v n false e f = tt

  as_value_is : (g : ℕ) (locals : List Local) (n : Text) (r : Role) → RoleIs locals n r → IfSome (as_value_of g r) (λ v. value_name file g v ≡ n)
  as_value_is g locals n (value h v) f = of_field h g v n (h == g) refl f
  as_value_is g locals n _ f = tt

  -- what a name is found to be, whatever is wanted, is spelled by the name
  pub record NamesFound (s : Scope) (n : Placed Text) : Type 0 where
    pub any : Has (λ r. Ends s → RoleIs s.locals n.value r) (role_at s n)
    pub pointer : Has (λ q. Ends s → variable_name file s.locals q ≡ n.value) (role_as as_pointer s n)
    pub pointer_local : Has (λ q. Ends s → pointer_name file s.locals q ≡ n.value) (role_as as_pointer_local s n)
    pub data_local : Has (λ x. Ends s → data_name file s.locals x ≡ n.value) (role_as as_data s n)
    pub pointer_field : Has (λ f. Ends s → field_name file f ≡ n.value) (role_as as_pointer_field s n)
    pub data_field : Has (λ f. Ends s → field_name file f ≡ n.value) (role_as as_data_field s n)
    pub function : Has (λ f. Ends s → function_name file f.0 ≡ n.value) (role_as as_function s n)
    pub protecting : Has (λ f. Ends s → function_name file f ≡ n.value) (role_as as_protecting s n)
    pub without_pointer : Has (λ f. Ends s → function_name file f ≡ n.value) (role_as as_without_pointer s n)
    pub auxiliary : Has (λ g. Ends s → auxiliary_name file g.0 ≡ n.value) (role_as as_auxiliary s n)
    pub value : (g : ℕ) → Has (λ v. Ends s → value_name file g v ≡ n.value) (role_as (as_value_of g) s n)

  pub names_found : (s : Scope) (n : Placed Text) → Bound s → NamesFound s n
  unfolding role_as
  names_found s n bound =
      let role = role_of s n.value in
      let is = role_is s n.value bound in
      record {
        any = known_found (Ends s) (RoleIs s.locals n.value) role n.at is;
        pointer = needed_found as_pointer (Ends s) (RoleIs s.locals n.value) (λ q. variable_name file s.locals q ≡ n.value) role n.at is (as_pointer_is s.locals n.value);
        pointer_local = needed_found as_pointer_local (Ends s) (RoleIs s.locals n.value) (λ q. pointer_name file s.locals q ≡ n.value) role n.at is (as_pointer_local_is s.locals n.value);
        data_local = needed_found as_data (Ends s) (RoleIs s.locals n.value) (λ x. data_name file s.locals x ≡ n.value) role n.at is (as_data_is s.locals n.value);
        pointer_field = needed_found as_pointer_field (Ends s) (RoleIs s.locals n.value) (λ f. field_name file f ≡ n.value) role n.at is (as_pointer_field_is s.locals n.value);
        data_field = needed_found as_data_field (Ends s) (RoleIs s.locals n.value) (λ f. field_name file f ≡ n.value) role n.at is (as_data_field_is s.locals n.value);
        function = needed_found as_function (Ends s) (RoleIs s.locals n.value) (λ f. function_name file f.0 ≡ n.value) role n.at is (as_function_is s.locals n.value);
        protecting = needed_found as_protecting (Ends s) (RoleIs s.locals n.value) (λ f. function_name file f ≡ n.value) role n.at is (as_protecting_is s.locals n.value);
        without_pointer = needed_found as_without_pointer (Ends s) (RoleIs s.locals n.value) (λ f. function_name file f ≡ n.value) role n.at is (as_without_pointer_is s.locals n.value);
        auxiliary = needed_found as_auxiliary (Ends s) (RoleIs s.locals n.value) (λ g. auxiliary_name file g.0 ≡ n.value) role n.at is (as_auxiliary_is s.locals n.value);
        value = λ g. needed_found (as_value_of g) (Ends s) (RoleIs s.locals n.value) (λ v. value_name file g v ≡ n.value) role n.at is (as_value_is g s.locals n.value);
      }
