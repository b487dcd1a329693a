-- What a search in a list finds, where a name is found, and the number of a local among those of its kind.
use Rattle.std.proofs.Common.{◌≡◌, ◌==◌, ℕ, suc, ◌+◌, ◌<◌, Bool, true, false, if◌then◌else◌, Option, Some, None, IfSome, List, [], ◌∷◌, length, take, drop, filter, slice_get, count_by, refl, sym, subst, ap, ◌∙◌, arith}
use Rattle.std.specs.Prelude.{option_map, option_and_then}
use Rattle.std.specs.List.{position_from}
use Rattle.std.proofs.lemmas.Bool.{eqb-true}
use Rattle.std.proofs.lemmas.List.Sums.{length-filter}
use Rattle.std.proofs.lemmas.Option.{slice_get_within}
use Rattle.plc_base.specs.Names.{place_of}
use Rattle.plc_base.proofs.Lists.{drop_there}
use Rattle.plc_lang.specs.declared.syntax.Local.{Local}
use Rattle.plc_lang.specs.Lookup.{local_at}
use Rattle.plc_lang.proofs.Numbers.{place_of_number, local_of_place}
use Rattle.plc_scope.specs.declared.scope.Scope.{Scope}
use Rattle.plc_scope.specs.declared.binding.Binding.{Binding}
use Rattle.plc_scope.specs.declared.binding.Found.{Found}
use Rattle.plc_scope.specs.declared.binding.Found.TheVariants.{Local as LocalAt, OfFile}
use Rattle.plc_scope.specs.Scope.{local_named, local_or, found_at, found}

-- ---- what a search finds

pub if_some : {A : Type 0} (P : A → Type 0) (b : Bool) (x : A) (o : Option A) → (b ≡ true → P x) → IfSome o P → IfSome (if b then Some x else o) P
if_some P true x o h g = h refl
if_some P false x o h g = g

-- an element stands at this place, and passes
abbrev pub Passes : {A : Type 0} → (A → Bool) → List A → ℕ → Type 0
Passes {A} p all k = (x : A) × (slice_get all k ≡ Some x) × (p x ≡ true)

placed : {A : Type 0} (p : A → Bool) (all : List A) (i : ℕ) (xs : List A) → ((j : ℕ) (x : A) → slice_get xs j ≡ Some x → slice_get all (i + j) ≡ Some x) → IfSome (position_from p i xs) (Passes p all)
placed p all i [] h = tt
placed p all i (x ∷ xs) h =
    let here : i + 0 ≡ i = omega arith in
    if_some (Passes p all) (p x) i (position_from p (i + 1) xs) (λ is. (x, ap (slice_get all) (sym here) ∙ h 0 x refl, is))
    (placed p all (i + 1) xs (λ j y e. let there : i + 1 + j ≡ i + suc j = omega arith in ap (slice_get all) there ∙ h (suc j) y e))

pub position_passes : {A : Type 0} (p : A → Bool) (all : List A) → IfSome (position_from p 0 all) (Passes p all)
position_passes p all = placed p all 0 all (λ j x e. let here : 0 + j ≡ j = omega arith in ap (slice_get all) here ∙ e)

-- a search from a place on, where an element passes, finds it there
pub found_here : {A : Type 0} (p : A → Bool) (all : List A) (i : ℕ) (x : A) → slice_get all i ≡ Some x → p x ≡ true → position_from p i (drop i all) ≡ Some i
found_here p all i x there passes = ap (position_from p i) (drop_there all i x there) ∙ rw passes refl

-- what holds of what a table makes of all that may be there holds of what it makes of what is there
then_is : {A B : Type 0} (P : A → Type 0) (table : A → Option B) (Q : B → Type 0) (o : Option A) → IfSome o P → ((x : A) → P x → IfSome (table x) Q) → IfSome (option_and_then table o) Q
then_is P table Q (Some x) h k = k x h
then_is P table Q None h k = tt

-- ---- where a name is found

module _ (P : Found → Type 0) where
  local_is : (ls : List Local) (number : ℕ) → ((i : ℕ) (l : Local) → slice_get ls i ≡ Some l → l.name ≡ number → P (LocalAt i l.pointer)) → IfSome (local_named ls number) P
  local_is ls number h =
      then_is (Passes (λ (l : Local). l.name == number) ls) (λ i. option_map (λ (l : Local). LocalAt i l.pointer) (slice_get ls i)) P (position_from (λ (l : Local). l.name == number) 0 ls)
      (position_passes (λ (l : Local). l.name == number) ls)
      (λ i at. rw at.1 (h i at.0 at.1 (eqb-true at.0.name number at.2)))

  either_is : (o : Option Found) (b : Option Binding) → IfSome o P → ((x : Binding) → b ≡ Some x → P (OfFile x)) → IfSome (local_or o b) P
  either_is (Some f) b h k = h
  either_is None (Some x) h k = k x refl
  either_is None None h k = tt

  -- what holds of each local with the name, and of what the name stands for in the file, holds of what is found
  found_is : (s : Scope) (ls : List Local) (name : List ℕ)
      → ((number i : ℕ) (l : Local) → place_of name s.names.names ≡ Some number → slice_get ls i ≡ Some l → l.name ≡ number → P (LocalAt i l.pointer))
      → ((number : ℕ) (b : Binding) → place_of name s.names.names ≡ Some number → slice_get s.bindings number ≡ Some b → P (OfFile b))
      → IfSome (found s ls name) P
  unfolding found
  found_is s ls name of_local of_file = by (place_of name s.names.names) refl
    where
      by : (o : Option ℕ) → place_of name s.names.names ≡ o → IfSome (found_at s ls o) P
      by None e = tt
      by (Some n) e = either_is (local_named ls n) (slice_get s.bindings n) (local_is ls n (λ i l. of_local n i l e)) (λ b. of_file n b e)

-- a local is found among those in reach
abbrev Within : List Local → Found → Type 0
Within ls (LocalAt i is_pointer) = i < length ls
Within ls (OfFile binding) = Unit {0}

pub place_within : (s : Scope) (ls : List Local) (name : List ℕ) (i : ℕ) (is_pointer : Bool) → found s ls name ≡ Some (LocalAt i is_pointer) → i < length ls
place_within s ls name i is_pointer e =
    subst (λ o. IfSome o (Within ls)) e (found_is (Within ls) s ls name (λ n j l at there same. slice_get_within ls j l there) (λ n b at there. tt))

-- what holds of what a table makes of each of these holds of what it makes of what is found
pub made_is : {A : Type 0} (table : Found → Option A) (Q : A → Type 0) (s : Scope) (ls : List Local) (name : List ℕ)
    → ((number i : ℕ) (l : Local) → place_of name s.names.names ≡ Some number → slice_get ls i ≡ Some l → l.name ≡ number → IfSome (table (LocalAt i l.pointer)) Q)
    → ((number : ℕ) (b : Binding) → place_of name s.names.names ≡ Some number → slice_get s.bindings number ≡ Some b → IfSome (table (OfFile b)) Q)
    → IfSome (option_and_then table (found s ls name)) Q
made_is table Q s ls name of_local of_file = then_is (λ f. IfSome (table f) Q) table Q (found s ls name) (found_is (λ f. IfSome (table f) Q) s ls name of_local of_file) (λ f h. h)

-- ---- the number of a local among those of its kind

module _ (k : Local → Bool) (ls : List Local) (i : ℕ) (l : Local) (there : slice_get ls i ≡ Some l) (kind : k l ≡ true) where
  pub of_kind : slice_get (filter k ls) (count_by k (take i ls)) ≡ Some l
  of_kind =
      let start : 0 + i ≡ i = omega arith in
      local_of_place k ls (count_by k (take i ls)) ∙ ap (local_at ls) (place_of_number k ls 0 i l there kind ∙ ap Some start) ∙ there

  pub below_count : count_by k (take i ls) < count_by k ls
  below_count = let fewer = slice_get_within (filter k ls) (count_by k (take i ls)) l of_kind in omega (arith, fewer, length-filter k ls)
