-- What is made of each list of one node, and of each list of two.
use Rattle.std.proofs.Common.{◌≡◌, ◌∙◌, List, [], ◌∷◌, ◌++◌, map, flat_map, ap, refl}
use Rattle.std.proofs.lemmas.List.{map-append}
use Rattle.std.proofs.lemmas.List.Concat.{flat_map_single}
use Rattle.std.proofs.lemmas.Simd.{map-map}
use Rattle.plc_symbolic.specs.declared.symbolic.NodeTerm.{NodeTerm}
use Rattle.plc_encoding.specs.Items.{tuples}

map-flat_map : {A B C : Type 0} (f : B → C) (g : A → List B) (xs : List A) → map f (flat_map g xs) ≡ flat_map (λ x. map f (g x)) xs
map-flat_map f g [] = refl
map-flat_map f g (x ∷ xs) = map-append f (g x) (flat_map g xs) ∙ ap (λ ys. map f (g x) ++ ys) (map-flat_map f g xs)

flat_map-same : {A B : Type 0} (g h : A → List B) → ((x : A) → g x ≡ h x) → (xs : List A) → flat_map g xs ≡ flat_map h xs
flat_map-same g h e [] = refl
flat_map-same g h e (x ∷ xs) = ap (λ ys. ys ++ flat_map g xs) (e x) ∙ ap (λ ys. h x ++ ys) (flat_map-same g h e xs)

pub at-one : {X : Type 0} (f : List NodeTerm → X) (ts : List NodeTerm) → map f (tuples 1 ts) ≡ map (λ a. f (a ∷ [])) ts
at-one f ts = map-flat_map f (λ t. (t ∷ []) ∷ []) ts ∙ flat_map_single (λ t. f (t ∷ [])) ts

pub at-two : {X : Type 0} (f : List NodeTerm → X) (ts : List NodeTerm)
    → map f (tuples 2 ts) ≡ flat_map (λ a. map (λ b. f (a ∷ b ∷ [])) ts) ts
at-two f ts =
    map-flat_map f (λ t. map (λ rest. t ∷ rest) (tuples 1 ts)) ts
    ∙ flat_map-same _ _ (λ t. map-map f (λ rest. t ∷ rest) (tuples 1 ts) ∙ at-one (λ rest. f (t ∷ rest)) ts) ts
