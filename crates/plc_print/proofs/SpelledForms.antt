-- The primitives of an atomic block and of `init`: those that stay mean the same.
use Rattle.std.proofs.Common.{◌≡◌, ◌==◌, ℕ, ◌+◌, Bool, true, false, cond, ◌&&◌, ◌||◌, if◌then◌else◌, Option, Some, None, Result, Ok, Err, List, [], ◌∷◌, map, filter, refl, sym, ap, ap₂, ◌∙◌, add-zero}
use Rattle.plc_base.specs.Limits.{most}
use Rattle.plc_base.specs.declared.limits.What1.TheVariants as limits
use Rattle.plc_lang.specs.declared.syntax.Primitive.{Primitive}
use Rattle.plc_syntax.specs.Trees.{Placed}
use Rattle.plc_syntax.proofs.Unplaced.{unplaced_by}
use Rattle.plc_scope.specs.declared.fault.ParseFault.{ParseFault}
use Rattle.plc_lang.specs.Allocation.{is_new}
use Rattle.plc_scope.specs.Limits.{stands_at}
use Rattle.plc_parse.specs.Meaning.{counted, count_of, allocates, before, forms_mean}
use Rattle.plc_scope.proofs.Holds.{Has, next, unless}
use Rattle.plc_print.specs.Outlines.{bare}
use Rattle.plc_print.proofs.Steps.{after, along}

refused : {A : Type 0} (P : A → Type 0) (first past : Bool) (a b c : ParseFault) → Has P (if first then Err a else (if past then Err b else Err c))
refused P true past a b c = tt
refused P false true a b c = tt
refused P false false a b c = tt

or_false : (b : Bool) → (b || false) ≡ b
or_false true = refl
or_false false = refl

-- forms that stay
abbrev pub kept : {X : Type 0} → (X → Bool) → List (Placed X) → List (Placed X)
kept keeps xs = filter (λ x. keeps x.value) xs

module _ {X : Type 0} (means : X → Result (Option Primitive) ParseFault) (plain_of : X → X) (keeps : X → Bool) (Is : X → Option Primitive → Type 0) (E : Type 0) (spell : Primitive → X)
    (none : (x : X) → Is x None → keeps x ≡ false) (some : (x : X) (k : Primitive) → Is x (Some k) → (keeps x ≡ true) × (E → spell k ≡ plain_of x))
    (found : (x : X) → Has (Is x) (means x)) where
  counted_found : (n : ℕ) (has_new : Bool) (x : X) (at : ℕ) (m : Result (Option Primitive) ParseFault) → Has (Is x) m → Has (Is x) (counted n has_new at m)
  counted_found n has_new x at (Ok None) h = h
  counted_found n has_new x at (Ok (Some k)) h = unless _ (n == most limits.Prims) _ _ (λ below. unless _ (has_new && is_new k) _ _ (λ one. h))
  counted_found n has_new x at (Err e) h = refused _ (stands_at at e) (n == most limits.Prims) e _ e

  -- the same primitives, from those forms alone that stay
  pub record FormsRead (n : ℕ) (has_new : Bool) (xs : List (Placed X)) (ks : List Primitive) : Type 0 where
    pub tree : E → map (λ k. bare (spell k)) ks ≡ map (unplaced_by plain_of) (kept keeps xs)
    pub again : forms_mean means n has_new (kept keeps xs) ≡ Ok ks

  stays_or_not : (x : Placed X) (xs : List (Placed X)) (b : Bool) → keeps x.value ≡ b → kept keeps (x ∷ xs) ≡ cond b (x ∷ kept keeps xs) (kept keeps xs)
  stays_or_not x xs b e = ap (λ (c : Bool). cond c (x ∷ kept keeps xs) (kept keeps xs)) e

  joined : (n : ℕ) (has_new : Bool) (x : Placed X) (xs : List (Placed X)) (o : Option Primitive) (others : List Primitive) → Is x.value o → counted n has_new x.at (means x.value) ≡ Ok o
      → FormsRead (n + count_of o) (has_new || allocates o) xs others → FormsRead n has_new (x ∷ xs) (before o others)
  joined n has_new x xs None others f first g =
      let left = stays_or_not x xs false (none x.value f) in record {
        tree = λ e. g.tree e ∙ ap (map (unplaced_by plain_of)) (sym left);
        again = ap (λ ys. forms_mean means n has_new ys) left ∙ ap (λ (k : ℕ). forms_mean means k has_new (kept keeps xs)) (sym (add-zero n))
            ∙ ap (λ (b : Bool). forms_mean means (n + 0) b (kept keeps xs)) (sym (or_false has_new)) ∙ g.again;
      }
  joined n has_new x xs (Some k) others f first g =
      let is = some x.value k f in
      let left = stays_or_not x xs true is.0 in record {
        tree = λ e. ap₂ (λ (y : X) (ys : List (Placed X)). bare y ∷ ys) (is.1 e) (g.tree e) ∙ ap (map (unplaced_by plain_of)) (sym left);
        again = ap (λ ys. forms_mean means n has_new ys) left ∙ after _ _ _ _ first (after _ _ _ _ g.again refl);
      }

  pub forms_found : (n : ℕ) (has_new : Bool) (xs : List (Placed X)) → Has (FormsRead n has_new xs) (forms_mean means n has_new xs)
  forms_found n has_new [] = record { tree = λ e. refl; again = refl }
  forms_found n has_new (x ∷ xs) =
      along (Is x.value) (FormsRead n has_new (x ∷ xs)) (counted n has_new x.at (means x.value)) _ (counted_found n has_new x.value x.at (means x.value) (found x.value)) (λ o f e.
      next (FormsRead (n + count_of o) (has_new || allocates o) xs) (FormsRead n has_new (x ∷ xs)) (forms_mean means (n + count_of o) (has_new || allocates o) xs) _ (forms_found (n + count_of o) (has_new || allocates o) xs) (λ others g.
      joined n has_new x xs o others f e g))
