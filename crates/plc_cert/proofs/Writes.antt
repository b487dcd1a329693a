-- The JSON value that a certificate is written as.
use Rattle.std.proofs.Common.{◌≡◌, ℕ, zero, suc, ◌+◌, ◌<◌, ◌||◌, List, [], ◌∷◌, ◌++◌, length, take, drop, filter, slice_set, Bool, true, false, if◌then◌else◌, refl, sym, ap, ◌∙◌, arith, append_assoc}
use Rattle.std.proofs.lemmas.List.{take_more_set}
use Rattle.serde_json.specs.Data.{Data}
use Rattle.serde_json.specs.Events.{items_len}
use Rattle.serde_json.specs.Written.{has_float, items_have_float}
use Rattle.plc_base.specs.Mask.{numbers}
use Rattle.plc_type.specs.declared.env.PtrType.{PtrType}
use Rattle.plc_type.specs.declared.env.Env.{Env}
use Rattle.plc_ground.specs.declared.terms.Node.{Node}
use Rattle.plc_ground.specs.declared.terms.Node.TheVariants.{Split, Leaf}
use Rattle.plc_ground.specs.declared.terms.Tree.{Tree}
use Rattle.plc_cert.specs.declared.cert.Cert.{Cert}
use Rattle.plc_cert.specs.Written.{whole, items, node, tree, mask, members, pointer, env, cert}

pub items_len-items : {A : Type 0} (f : A → Data) (xs : List A) → items_len (items f xs) ≡ length xs
items_len-items f [] = refl
items_len-items f (x ∷ xs) = ap suc (items_len-items f xs)

-- ---- no part has a float

items_no_float : {A : Type 0} (f : A → Data) → ((x : A) → has_float (f x) ≡ false) → (xs : List A) → items_have_float (items f xs) ≡ false
items_no_float f h [] = refl
items_no_float f h (x ∷ xs) = ap (λ b. b || items_have_float (items f xs)) (h x) ∙ items_no_float f h xs

node_no_float : (n : Node) → has_float (node n) ≡ false
node_no_float (Split c) = refl
node_no_float (Leaf a b) = refl

tree_no_float : (t : Tree) → has_float (tree t) ≡ false
tree_no_float t = items_no_float node node_no_float t.nodes

mask_no_float : (m : ℕ) → has_float (mask m) ≡ false
mask_no_float m = items_no_float whole (λ n. refl) (members m)

pointer_no_float : (t : PtrType) → has_float (pointer t) ≡ false
pointer_no_float t = rw (mask_no_float t.m) refl

env_no_float : (e : Env) → has_float (env e) ≡ false
env_no_float e = rw (mask_no_float e.w, items_no_float pointer pointer_no_float e.locals) refl

pub no_float : (c : Cert) → has_float (cert c) ≡ false
no_float c = rw (items_no_float env env_no_float c.env, items_no_float tree tree_no_float c.trees) refl

-- ---- the locations in a set, one after another

pub next_location : (l : ℕ) → l < 8 → drop l numbers ≡ l ∷ drop (l + 1) numbers
next_location zero h = refl
next_location (suc zero) h = refl
next_location (suc (suc zero)) h = refl
next_location (suc (suc (suc zero))) h = refl
next_location (suc (suc (suc (suc zero)))) h = refl
next_location (suc (suc (suc (suc (suc zero))))) h = refl
next_location (suc (suc (suc (suc (suc (suc zero)))))) h = refl
next_location (suc (suc (suc (suc (suc (suc (suc zero))))))) h = refl
next_location (suc (suc (suc (suc (suc (suc (suc (suc l)))))))) h = absurd (omega arith)

pub found_here : (p : ℕ → Bool) (l n : ℕ) (xs rest all : List ℕ) → p l ≡ true → n < length xs → take n xs ++ filter p (l ∷ rest) ≡ all → take (n + 1) (slice_set xs n l) ++ filter p rest ≡ all
found_here p l n xs rest all is room h =
    ap (λ ys. ys ++ filter p rest) (take_more_set xs n l room) ∙ append_assoc (take n xs) (l ∷ []) (filter p rest)
    ∙ ap (λ b. take n xs ++ (if b then l ∷ filter p rest else filter p rest)) (sym is) ∙ h

pub found_none : (p : ℕ → Bool) (l : ℕ) (done rest all : List ℕ) → p l ≡ false → done ++ filter p (l ∷ rest) ≡ all → done ++ filter p rest ≡ all
found_none p l done rest all is h = ap (λ b. done ++ (if b then l ∷ filter p rest else filter p rest)) (sym is) ∙ h
