-- What names stand for is there: each declaration stands in the lists of the file at its number, so a name that is in reach stands for
-- what the file has. Nothing is asked of the lists before they are whole: whatever lists have what was declared have what is in reach.
use Rattle.std.proofs.Common.{◌≡◌, ◌==◌, ℕ, suc, ◌+◌, ◌≤◌, ◌<◌, Bool, true, false, Option, Some, None, IfSome, Result}
use Rattle.std.proofs.Common.{Ok, List, [], ◌∷◌, length, slice_get, refl, subst, ap, ◌∙◌, arith}
use Rattle.std.proofs.lemmas.Option.{slice_get_within}
use Rattle.std.proofs.lemmas.List.Elements.{All-nil, All-cons, All-push}
use Rattle.plc_base.specs.Names.{place_of}
use Rattle.plc_base.specs.Limits.{most}
use Rattle.plc_base.specs.declared.limits.What1.{What1}
use Rattle.plc_base.specs.declared.limits.What1.TheVariants as limits
use Rattle.plc_lang.specs.declared.syntax.Field.{Field}
use Rattle.plc_lang.specs.declared.syntax.Func.{Func}
use Rattle.plc_lang.specs.declared.syntax.Ghost.{Ghost}
use Rattle.plc_lang.specs.declared.syntax.File.{File}
use Rattle.plc_syntax.specs.Trees.{Text, Placed, FieldTree, PointerField as PointerFieldTree}
use Rattle.plc_syntax.specs.Trees.{DataField as DataFieldTree, FunctionTree, Declares, GhostTree}
use Rattle.plc_syntax.specs.Trees.{Auxiliary as AuxiliaryTree, OneOf, OfThreads}
use Rattle.plc_scope.specs.declared.fault.ParseFault.{ParseFault}
use Rattle.plc_scope.specs.declared.scope.Scope.{Scope}
use Rattle.plc_scope.specs.declared.binding.Binding.{Binding}
use Rattle.plc_scope.specs.declared.binding.Binding.TheVariants.{Shared, Function, Auxiliary, Value}
use Rattle.plc_scope.specs.declared.binding.Role.{Role}
use Rattle.plc_scope.specs.declared.binding.Role.TheVariants.{PointerVariable as pointer_variable}
use Rattle.plc_scope.specs.declared.binding.Role.TheVariants.{DataLocal as data_local, PointerField as pointer_field}
use Rattle.plc_scope.specs.declared.binding.Role.TheVariants.{DataField as data_field, Function as function}
use Rattle.plc_scope.specs.declared.binding.Role.TheVariants.{Auxiliary as auxiliary, Value as value}
use Rattle.plc_scope.specs.declared.binding.Role.TheVariants.{NoValue as no_value}
use Rattle.plc_scope.specs.Scope.{◌>>=◌, first_scope, if_new, with_name, declared, binding_role}
use Rattle.plc_scope.specs.Limits.{within_limit}
use Rattle.plc_scope.proofs.Holds.{Has, next, unless}
use Rattle.plc_outparse.specs.Fit.{holds_threads}
use Rattle.plc_parse.specs.Meaning.{field_means, shared_means, function_means, value_means, ghost_means, listed, retire}
use Rattle.plc_parse.specs.Growth.{KeepsLists}
use Rattle.plc_parse.proofs.Reach.{Bound}

-- ---- what names stand for

-- what a file declares
pub record Lists : Type 0 where
  pub fields : List Field
  pub shared : List ℕ
  pub funcs : List Func
  pub ghosts : List Ghost

-- a field that is there, a pointer or not
abbrev pub IsField : Lists → ℕ → Bool → Type 0
IsField d f is_pointer = (x : Field) × (slice_get d.fields f ≡ Some x) × (x.pointer ≡ is_pointer)

-- a function that is there, with a pointer or none
abbrev pub IsFunction : Lists → ℕ → Bool → Type 0
IsFunction d f is_pointer = (x : Func) × (slice_get d.funcs f ≡ Some x) × (x.pointer ≡ is_pointer)

-- what a name is in an operation is there; of locals nothing is asked
abbrev pub RoleThere : Lists → Role → Type 0
RoleThere d (pointer_variable v) = Unit {0}
RoleThere d (data_local x) = Unit {0}
RoleThere d (pointer_field f) = IsField d f.0 true
RoleThere d (data_field f) = IsField d f.0 false
RoleThere d (function f p) = IsFunction d f.0 p
RoleThere d (auxiliary g t) = (h : Ghost) × (slice_get d.ghosts g ≡ Some h) × (t ≡ holds_threads h.values)
RoleThere d (value g v) = (h : Ghost) × (slice_get d.ghosts g ≡ Some h) × (v < length h.values)
RoleThere d no_value = Unit {0}

-- what a name stands for is there, and is what the name says
abbrev pub IsThere : Lists → Binding → Type 0
IsThere d (Shared k) = k < length d.shared
IsThere d b = IfSome (binding_role b) (RoleThere d)

-- the same of all names in reach
abbrev pub AllThere : Lists → Scope → Type 0
AllThere d s = Bound (IsThere d) s

abbrev pub lists_of : File → Lists
lists_of file = record { fields = file.fields; shared = file.shared; funcs = file.funcs; ghosts = file.ghosts }

-- ---- declarations, each of which stands in the lists at its number

-- no local and no label was declared, and what is there stays, where the lists have what was declared
pub record OneThere {Y : Type 0} (There : Lists → ℕ → Y → Type 0) (s : Scope) (n : ℕ) (r : Y × Scope) : Type 0 where
  pub keeps : KeepsLists s r.1
  pub there : (d : Lists) → There d n r.0 → AllThere d s → AllThere d r.1

pub record EachThere {Y : Type 0} (There : Lists → ℕ → Y → Type 0) (s : Scope) (n : ℕ) (r : List Y × Scope) : Type 0 where
  pub keeps : KeepsLists s r.1
  pub there : (d : Lists) → ((k : ℕ) (y : Y) → slice_get r.0 k ≡ Some y → There d (n + k) y) → AllThere d s → AllThere d r.1

pub kept_then : {s t u : Scope} → KeepsLists s t → KeepsLists t u → KeepsLists s u
kept_then k l = record { locals = l.locals ∙ k.locals; labels = l.labels ∙ k.labels }

module _ {X Y : Type 0} (means : Scope → ℕ → X → Result (Y × Scope) ParseFault) (There : Lists → ℕ → Y → Type 0)
    (one : (s : Scope) (n : ℕ) (x : X) → Has (OneThere There s n) (means s n x)) where
  pub each_there : (s : Scope) (n : ℕ) (xs : List X) → Has (EachThere There s n) (listed means s n xs)
  each_there s n [] = record { keeps = record { locals = refl; labels = refl }; there = λ d there h. h }
  each_there s n (x ∷ xs) = next (OneThere There s n) (EachThere There s n) (means s n x) _ (one s n x) (λ first f.
      next (EachThere There first.1 (n + 1)) (EachThere There s n) (listed means first.1 (n + 1) xs) _ (each_there first.1 (n + 1) xs) (λ others g.
      let here : n + 0 ≡ n = omega arith in
      record {
        keeps = kept_then f.keeps g.keeps;
        there = λ d there h.
            g.there d (λ k y e. let after : n + suc k ≡ n + 1 + k = omega arith in subst (λ m. There d m y) after (there (suc k) y e))
            (f.there d (subst (λ m. There d m first.0) here (there 0 first.0 refl)) h);
      }))

-- one name is declared
pub record Named (s : Scope) (b : Binding) (t : Scope) : Type 0 where
  pub keeps : KeepsLists s t
  pub there : (d : Lists) → IsThere d b → AllThere d s → AllThere d t

pub named : (s : Scope) (name : Placed Text) (b : Binding) → Has (Named s b) (declared s name b)
named s name b = new (place_of name.value s.names.names)
  where
    new : (o : Option ℕ) → Has (Named s b) (if_new o name.at (with_name s name.value b))
    new None = record { keeps = record { locals = refl; labels = refl }; there = λ d is h. All-push (IsThere d) s.bindings b h is }
    new (Some i) = tt

pub one_there : {Y : Type 0} (There : Lists → ℕ → Y → Type 0) (n : ℕ) (what : What1) (s : Scope) (name : Placed Text) (b : Binding) (y : Y)
    → ((d : Lists) → There d n y → IsThere d b) → Has (OneThere There s n) (within_limit n what (declared s name b >>= λ t. Ok (y, t)))
one_there There n what s name b y is = unless (OneThere There s n) (n == most what) _ _ (λ few.
    next (Named s b) (OneThere There s n) (declared s name b) _ (named s name b) (λ t f. record { keeps = f.keeps; there = λ d there h. f.there d (is d there) h }))

abbrev pub FieldThere : Lists → ℕ → Field → Type 0
FieldThere d n x = slice_get d.fields n ≡ Some x

pub field_there : (s : Scope) (n : ℕ) (f : FieldTree) → Has (OneThere FieldThere s n) (field_means s n f)
field_there s n (PointerFieldTree name) = one_there FieldThere n limits.Fields s name _ _ (λ d there. (_, there, refl))
field_there s n (DataFieldTree name) = one_there FieldThere n limits.Fields s name _ _ (λ d there. (_, there, refl))

abbrev pub SharedThere : Lists → ℕ → ℕ → Type 0
SharedThere d n name = slice_get d.shared n ≡ Some name

pub shared_there : (s : Scope) (n : ℕ) (name : Placed Text) → Has (OneThere SharedThere s n) (shared_means s n name)
shared_there s n name = one_there SharedThere n limits.Shared s name _ _ (λ d there. slice_get_within d.shared n _ there)

-- `retire` stands before those that are declared
abbrev pub FunctionThere : Lists → ℕ → Func → Type 0
FunctionThere d n x = slice_get d.funcs (n + 1) ≡ Some x

pub function_there : (s : Scope) (n : ℕ) (f : FunctionTree) → Has (OneThere FunctionThere s n) (function_means s n f)
function_there s n (Declares name p) = one_there FunctionThere n limits.Calls s name _ _ (λ d there. (_, there, refl))

pub after_retire : (fs : List Func) (k : ℕ) (f : Func) → slice_get fs k ≡ Some f → slice_get (retire ∷ fs) (0 + k + 1) ≡ Some f
after_retire fs k f e = let same : 0 + k + 1 ≡ suc k = omega arith in ap (slice_get (retire ∷ fs)) same ∙ e

-- ---- auxiliary fields

abbrev pub GhostThere : Lists → ℕ → Ghost → Type 0
GhostThere d g h = slice_get d.ghosts g ≡ Some h

-- a value with k before it
pub record ValueThere (s : Scope) (g k : ℕ) (r : ℕ × Scope) : Type 0 where
  pub keeps : KeepsLists s r.1
  pub there : (d : Lists) (h : Ghost) → GhostThere d g h → k < length h.values → AllThere d s → AllThere d r.1

pub value_there : (s : Scope) (g k : ℕ) (name : Placed Text) → Has (ValueThere s g k) (value_means g s k name)
value_there s g k name = next (Named s (Value g k)) (ValueThere s g k) (declared s name (Value g k)) _ (named s name (Value g k)) (λ t f.
    unless (ValueThere s g k) (k == most limits.Values) _ _ (λ few. record { keeps = f.keeps; there = λ d h there less before. f.there d (h, there, less) before }))

-- so many values after the first k
pub record ValuesThere (s : Scope) (g k n : ℕ) (r : List ℕ × Scope) : Type 0 where
  pub count : length r.0 ≡ n
  pub keeps : KeepsLists s r.1
  pub there : (d : Lists) (h : Ghost) → GhostThere d g h → k + length r.0 ≤ length h.values → AllThere d s → AllThere d r.1

pub values_there : (s : Scope) (g k : ℕ) (names : List (Placed Text)) → Has (ValuesThere s g k (length names)) (listed (value_means g) s k names)
values_there s g k [] = record { count = refl; keeps = record { locals = refl; labels = refl }; there = λ d h there le before. before }
values_there s g k (name ∷ names) = next (ValueThere s g k) (ValuesThere s g k (length (name ∷ names))) (value_means g s k name) _ (value_there s g k name) (λ first f.
    next (ValuesThere first.1 g (k + 1) (length names)) (ValuesThere s g k (length (name ∷ names))) (listed (value_means g) first.1 (k + 1) names) _ (values_there first.1 g (k + 1) names) (λ others m.
    record { count = omega (arith, m.count); keeps = kept_then f.keeps m.keeps; there = λ d h there le before. m.there d h there (omega (arith, le)) (f.there d h there (omega (arith, le)) before) }))

-- values that are some hold no threads
some_values : (vs : List ℕ) (n : ℕ) → length vs ≡ n + 1 → false ≡ holds_threads vs
some_values [] n e = absurd (omega (arith, e))
some_values (v ∷ vs) n e = refl

pub ghost_there : (s : Scope) (n : ℕ) (g : GhostTree) → Has (OneThere GhostThere s n) (ghost_means s n g)
ghost_there s n (AuxiliaryTree name OfThreads) = one_there GhostThere n limits.Ghosts s name _ _ (λ d there. (_, there, refl))
ghost_there s n (AuxiliaryTree name (OneOf v vs)) = unless (OneThere GhostThere s n) (n == most limits.Ghosts) _ _ (λ few.
    next (Named s (Auxiliary n false)) (OneThere GhostThere s n) (declared s name (Auxiliary n false)) _ (named s name (Auxiliary n false)) (λ t f.
    next (ValuesThere t n 0 (length (v ∷ vs))) (OneThere GhostThere s n) (listed (value_means n) t 0 (v ∷ vs)) _ (values_there t n 0 (v ∷ vs)) (λ values m.
    record {
      keeps = kept_then f.keeps m.keeps;
      there = λ d there before. m.there d _ there (omega arith)
          (f.there d (_, there, some_values values.0 (length vs) (m.count ∙ omega arith)) before);
    })))

-- `retire` is there from the start
abbrev pub HasRetire : Lists → Type 0
HasRetire d = slice_get d.funcs 0 ≡ Some retire

pub first_there : (d : Lists) → HasRetire d → AllThere d first_scope
first_there d there = All-cons (IsThere d) (Function (record { 0 = 0 }) true) [] (retire, there, refl) (All-nil (IsThere d))
