-- What is in reach is there: names stand for what was declared, so what is looked up is there too. Bindings number shared pointers and
-- fields, of which no more are declared once an operation begins; locals number themselves by those before them, pointers and data apart.
use Rattle.std.proofs.Common.{ap, ◌≡◌, ◌==◌, ◌&&◌, not, ℕ, ◌+◌, ◌≤◌, ◌<◌, Bool, true, false, cond, if◌then◌else◌}
use Rattle.std.proofs.Common.{Option, Some, None, IfSome, Ok, List, [], ◌∷◌, All, length, count_by, slice_get, refl}
use Rattle.std.proofs.Common.{subst, arith}
use Rattle.std.proofs.lemmas.Bool.{ne_eqb}
use Rattle.std.proofs.lemmas.List.Elements.{All-get_or, All-push, All-weaker, All-nil, All-cons}
use Rattle.std.proofs.lemmas.List.Sums.{sum_by-cons}
use Rattle.std.proofs.lemmas.Option.{slice_get_within, get_or_from_slice_get}
use Rattle.plc_base.specs.declared.ids.FieldId.{FieldId}
use Rattle.plc_base.specs.declared.ids.FuncId.{FuncId}
use Rattle.plc_base.specs.Names.{place_of}
use Rattle.plc_lang.specs.declared.syntax.Local.{Local}
use Rattle.plc_lang.specs.declared.syntax.Var.TheVariants.{Shared as SharedVar, Local as LocalVar}
use Rattle.plc_lang.specs.Locals.{is_pointer, is_data, is_parameter, is_other_data}
use Rattle.plc_lang.specs.Shape.{Shape, VarIn}
use Rattle.plc_base.specs.Functions.{is_retire}
use Rattle.plc_syntax.specs.Trees.{Text, Placed}
use Rattle.plc_scope.specs.declared.fault.ParseFault.TheVariants as faults
use Rattle.plc_scope.specs.declared.scope.Scope.{Scope}
use Rattle.plc_scope.specs.declared.binding.Binding.{Binding}
use Rattle.plc_scope.specs.declared.binding.Binding.TheVariants.{Taken, Shared, PointerField, DataField, Function}
use Rattle.plc_scope.specs.declared.binding.Binding.TheVariants.{Auxiliary, Value, LocalOnly}
use Rattle.plc_scope.specs.declared.binding.Role.{Role}
use Rattle.plc_scope.specs.declared.binding.Role.TheVariants.{PointerVariable as pointer_variable}
use Rattle.plc_scope.specs.declared.binding.Role.TheVariants.{DataLocal as data_local, PointerField as pointer_field}
use Rattle.plc_scope.specs.declared.binding.Role.TheVariants.{DataField as data_field, Function as function}
use Rattle.plc_scope.specs.declared.binding.Role.TheVariants.{Auxiliary as auxiliary, Value as value}
use Rattle.plc_scope.specs.declared.binding.Role.TheVariants.{NoValue as no_value}
use Rattle.plc_scope.specs.Scope.{◌>>=◌, most_locals, first_scope, if_new, with_name, declared, declared_label}
use Rattle.plc_scope.specs.Scope.{has_local, may_name_local, local_number, with_local, declared_local}
use Rattle.plc_scope.specs.Scope.{declared_parameter, binding_role, local_role, role_found, role_of, role_at, if_fits}
use Rattle.plc_scope.specs.Scope.{needed, as_pointer, as_pointer_local, as_data, as_pointer_field, as_data_field}
use Rattle.plc_scope.specs.Scope.{as_protecting, as_without_pointer, role_as}
use Rattle.plc_scope.proofs.Holds.{Has, next, unless, if_ok, known_has}
use Rattle.plc_scope.proofs.Finds.{made_is, below_count}

-- ---- what names stand for

-- `retire` takes a pointer
abbrev pub FunctionIn : FuncId → Bool → Type 0
FunctionIn f p = p ≡ false → 0 < f.0

-- of so many shared pointers and fields
abbrev pub BindingIn : ℕ → ℕ → Binding → Type 0
BindingIn shared fields Taken = Unit {0}
BindingIn shared fields (Shared i) = i < shared
BindingIn shared fields (PointerField f) = f.0 < fields
BindingIn shared fields (DataField f) = f.0 < fields
BindingIn shared fields (Function f p) = FunctionIn f p
BindingIn shared fields (Auxiliary g t) = Unit {0}
BindingIn shared fields (Value g v) = Unit {0}
BindingIn shared fields LocalOnly = Unit {0}

-- the same in an operation
abbrev pub RoleIn : Shape → Role → Type 0
RoleIn h (pointer_variable v) = VarIn h v
RoleIn h (data_local x) = x < h.values
RoleIn h (pointer_field f) = f.0 < h.fields
RoleIn h (data_field f) = f.0 < h.fields
RoleIn h (function f p) = FunctionIn f p
RoleIn h (auxiliary g t) = Unit {0}
RoleIn h (value g v) = Unit {0}
RoleIn h no_value = Unit {0}

-- this holds of all that names stand for
abbrev pub Bound : (Binding → Type 0) → Scope → Type 0
Bound P s = All P s.bindings

pub bound_at : (P : Binding → Type 0) (s : Scope) → Bound P s → (i : ℕ) (b : Binding) → slice_get s.bindings i ≡ Some b → P b
bound_at P s each i b e = subst P (get_or_from_slice_get s.bindings i b b e) (All-get_or P s.bindings i b (slice_get_within s.bindings i b e) each)

-- all that is in reach is there
pub record Reaches (h : Shape) (s : Scope) : Type 0 where
  pub bound : Bound (BindingIn h.shared h.fields) s
  pub pointers : count_by is_pointer s.locals ≤ h.pointers
  pub values : count_by is_parameter s.locals + count_by is_other_data s.locals ≤ h.values

-- outside operations
abbrev pub outside : ℕ → ℕ → Shape
outside shared fields = record { shared = shared; pointers = 0; values = 0; fields = fields }

-- in an operation with these locals
abbrev pub inside : ℕ → ℕ → List Local → Shape
inside shared fields locals = record { shared = shared; pointers = count_by is_pointer locals; values = count_by is_parameter locals + count_by is_other_data locals; fields = fields }

-- ---- declarations

more_in : (m n k l : ℕ) → m ≤ k → n ≤ l → (b : Binding) → BindingIn m n b → BindingIn k l b
more_in m n k l a b Taken h = tt
more_in m n k l a b (Shared i) h = omega (arith, a, h)
more_in m n k l a b (PointerField f) h = omega (arith, b, h)
more_in m n k l a b (DataField f) h = omega (arith, b, h)
more_in m n k l a b (Function f p) h = h
more_in m n k l a b (Auxiliary g t) h = tt
more_in m n k l a b (Value g v) h = tt
more_in m n k l a b LocalOnly h = tt

-- further shared pointers and fields may follow
pub reaches_more : (m n k l : ℕ) (s : Scope) → m ≤ k → n ≤ l → Reaches (outside m n) s → Reaches (outside k l) s
reaches_more m n k l s a b r = record { bound = All-weaker (BindingIn m n) (BindingIn k l) (more_in m n k l a b) s.bindings r.bound; pointers = r.pointers; values = r.values }

pub first_reaches : Reaches (outside 0 0) first_scope
first_reaches = record { bound = All-cons (BindingIn 0 0) (Function (record { 0 = 0 }) true) [] (λ e. absurd cc) (All-nil (BindingIn 0 0)); pointers = omega arith; values = omega arith }

pub declared_reaches : (h : Shape) (s : Scope) (name : Placed Text) (b : Binding) → BindingIn h.shared h.fields b → Reaches h s → Has (Reaches h) (declared s name b)
declared_reaches h s name b is r = new (place_of name.value s.names.names)
  where
    new : (o : Option ℕ) → Has (Reaches h) (if_new o name.at (with_name s name.value b))
    new None = record { bound = All-push (BindingIn h.shared h.fields) s.bindings b r.bound is; pointers = r.pointers; values = r.values }
    new (Some i) = tt

pub label_reaches : (h : Shape) (s : Scope) (name : Placed Text) → Reaches h s → Has (Reaches h) (declared_label s name)
label_reaches h s name r = next (Reaches h) (Reaches h) (declared s name Taken) _ (declared_reaches h s name Taken tt r) (λ t k. record { bound = k.bound; pointers = k.pointers; values = k.values })

-- what holds of a name that is a local's only goes on holding
module _ (P : Binding → Type 0) (of_local : P LocalOnly) where
  number_bound : (o : Option ℕ) (s : Scope) (name : Placed Text) → Bound P s → Has (λ x. Bound P x.1) (local_number o s name)
  number_bound None s name h = All-push P s.bindings LocalOnly h of_local
  number_bound (Some i) s name h = if_ok (λ x. Bound P x.1) (may_name_local (slice_get s.bindings i) (has_local s.locals i)) (i, s) (faults.Duplicate name.at) h

  pub local_bound : (s : Scope) (name : Placed Text) (p : Bool) → Bound P s → Has (Bound P) (declared_local s name p)
  unfolding declared_local
  local_bound s name p h = unless (Bound P) (length s.locals == most_locals) _ (local_number (place_of name.value s.names.names) s name >>= λ x. Ok (with_local x.1 x.0 p false)) (λ few.
      next (λ x. Bound P x.1) (Bound P) (local_number (place_of name.value s.names.names) s name) _ (number_bound (place_of name.value s.names.names) s name h) (λ x k. k))

  pub parameter_bound : (s : Scope) (name : Placed Text) → Bound P s → Has (Bound P) (declared_parameter s name)
  unfolding declared_parameter
  parameter_bound s name h = next (λ x. Bound P x.1) (Bound P) (local_number (place_of name.value s.names.names) s name) _ (number_bound (place_of name.value s.names.names) s name h) (λ x k.
      unless (Bound P) (length s.locals == most_locals) _ (Ok (with_local x.1 x.0 false true)) (λ few. k))

-- ---- what a name is

-- each data local is a parameter or another one
data_within : (ls : List Local) → count_by is_data ls ≤ count_by is_parameter ls + count_by is_other_data ls
data_within [] = omega arith
data_within (l ∷ ls) =
    let counts = sum_by-cons (λ l. cond (is_data l) 1 0) l ls in
    let parameters = sum_by-cons (λ l. cond (is_parameter l) 1 0) l ls in
    let others = sum_by-cons (λ l. cond (is_other_data l) 1 0) l ls in
    let rest = data_within ls in
    omega (arith, counts, parameters, others, rest, one l.pointer l.param)
  where
    one : (pointer param : Bool) → cond (not pointer) 1 0 ≤ cond param 1 0 + cond (not pointer && not param) 1 0
    one true param = omega arith
    one false true = omega arith
    one false false = omega arith

module _ (h : Shape) where
  binding_in : (b : Binding) → BindingIn h.shared h.fields b → IfSome (binding_role b) (RoleIn h)
  binding_in Taken is = tt
  binding_in (Auxiliary g t) is = tt
  binding_in (Value g v) is = tt
  binding_in LocalOnly is = tt
  binding_in b is = is

  -- a local with its number
  local_in : (ls : List Local) → count_by is_pointer ls ≤ h.pointers → count_by is_parameter ls + count_by is_other_data ls ≤ h.values
      → (i : ℕ) (l : Local) → slice_get ls i ≡ Some l → (pointer : Bool) → l.pointer ≡ pointer → RoleIn h (local_role ls i pointer)
  local_in ls a b i l there true e = let below = below_count is_pointer ls i l there e in omega (arith, a, below)
  local_in ls a b i l there false e = (let below = below_count is_data ls i l there (ap not e) in let all = data_within ls in omega (arith, b, below, all))

-- what a name is, where this holds of what names stand for, and that of what they are
module _ (B : Binding → Type 0) (R : Role → Type 0) (binding_is : (b : Binding) → B b → IfSome (binding_role b) R) where
  pub role_is : (s : Scope) (name : Text) → Bound B s → ((i : ℕ) (l : Local) → slice_get s.locals i ≡ Some l → R (local_role s.locals i l.pointer)) → IfSome (role_of s name) R
  unfolding role_of
  role_is s name each locals =
      made_is (role_found s.locals) R s s.locals name (λ n i l at there same. locals i l there) (λ n b at there. binding_is b (bound_at B s each n b there))

role_in : (h : Shape) (s : Scope) (name : Text) → Reaches h s → IfSome (role_of s name) (RoleIn h)
role_in h s name r = role_is (BindingIn h.shared h.fields) (RoleIn h) (binding_in h) s name r.bound (λ i l there. local_in h s.locals r.pointers r.values i l there l.pointer refl)

-- ---- what is looked up

-- a pointer local that is there
abbrev pub PointerIn : Shape → ℕ → Type 0
PointerIn h p = p < h.pointers

-- a data local that is there
abbrev pub ValueIn : Shape → ℕ → Type 0
ValueIn h x = x < h.values

-- a field that is there
abbrev pub FieldIn : Shape → FieldId → Type 0
FieldIn h f = f.0 < h.fields

-- a function that isn't `retire`
abbrev pub NotRetire : FuncId → Type 0
NotRetire f = is_retire f ≡ false

-- a name of the wanted kind
module _ (R : Role → Type 0) {A : Type 0} (P : A → Type 0) (wanted : Role → Option A) (each : (k : Role) → R k → IfSome (wanted k) P) where
  fits_in : (at : ℕ) (o : Option A) → IfSome o P → Has P (if_fits at o)
  fits_in at (Some x) is = is
  fits_in at None is = tt

  pub needed_in : (at : ℕ) (o : Option Role) → IfSome o R → Has P (needed wanted at o)
  needed_in at None is = tt
  needed_in at (Some k) is = fits_in at (wanted k) (each k is)

pointers_in : (h : Shape) (k : Role) → RoleIn h k → IfSome (as_pointer k) (VarIn h)
pointers_in h (pointer_variable v) is = is
pointers_in h k is = tt

pointer_locals_in : (h : Shape) (k : Role) → RoleIn h k → IfSome (as_pointer_local k) (PointerIn h)
pointer_locals_in h (pointer_variable (SharedVar i)) is = tt
pointer_locals_in h (pointer_variable (LocalVar v)) is = is
pointer_locals_in h k is = tt

values_in : (h : Shape) (k : Role) → RoleIn h k → IfSome (as_data k) (ValueIn h)
values_in h (data_local x) is = is
values_in h k is = tt

pointer_fields_in : (h : Shape) (k : Role) → RoleIn h k → IfSome (as_pointer_field k) (FieldIn h)
pointer_fields_in h (pointer_field f) is = is
pointer_fields_in h k is = tt

data_fields_in : (h : Shape) (k : Role) → RoleIn h k → IfSome (as_data_field k) (FieldIn h)
data_fields_in h (data_field f) is = is
data_fields_in h k is = tt

protects : (f : FuncId) (p retires : Bool) → is_retire f ≡ retires → IfSome (if p && not retires then Some f else None) NotRetire
protects f false retires e = tt
protects f true true e = tt
protects f true false e = e

protecting_in : (h : Shape) (k : Role) → RoleIn h k → IfSome (as_protecting k) NotRetire
protecting_in h (function f p) is = protects f p (is_retire f) refl
protecting_in h k is = tt

without_pointer_in : (h : Shape) (k : Role) → RoleIn h k → IfSome (as_without_pointer k) NotRetire
without_pointer_in h (function f true) is = tt
without_pointer_in h (function f false) is = ne_eqb f.0 0 (λ e. omega (arith, e, is refl))
without_pointer_in h k is = tt

-- what a name is found to be is there, whatever is wanted
pub record NamesIn (h : Shape) (s : Scope) (n : Placed Text) : Type 0 where
  pub any : Has (RoleIn h) (role_at s n)
  pub pointer : Has (VarIn h) (role_as as_pointer s n)
  pub pointer_local : Has (PointerIn h) (role_as as_pointer_local s n)
  pub value : Has (ValueIn h) (role_as as_data s n)
  pub pointer_field : Has (FieldIn h) (role_as as_pointer_field s n)
  pub data_field : Has (FieldIn h) (role_as as_data_field s n)
  pub hazard : Has NotRetire (role_as as_protecting s n)
  pub epoch : Has NotRetire (role_as as_without_pointer s n)

pub names_in : (h : Shape) (s : Scope) (r : Reaches h s) (n : Placed Text) → NamesIn h s n
unfolding role_as
names_in h s r n =
    let role = role_of s n.value in
    let is = role_in h s n.value r in
    record {
      any = known_has (RoleIn h) n.at role is;
      pointer = needed_in (RoleIn h) (VarIn h) as_pointer (pointers_in h) n.at role is;
      pointer_local = needed_in (RoleIn h) (PointerIn h) as_pointer_local (pointer_locals_in h) n.at role is;
      value = needed_in (RoleIn h) (ValueIn h) as_data (values_in h) n.at role is;
      pointer_field = needed_in (RoleIn h) (FieldIn h) as_pointer_field (pointer_fields_in h) n.at role is;
      data_field = needed_in (RoleIn h) (FieldIn h) as_data_field (data_fields_in h) n.at role is;
      hazard = needed_in (RoleIn h) NotRetire as_protecting (protecting_in h) n.at role is;
      epoch = needed_in (RoleIn h) NotRetire as_without_pointer (without_pointer_in h) n.at role is;
    }
