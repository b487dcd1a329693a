-- Reading the items of an array.
use Rattle.std.proofs.Common.{◌≡◌, ℕ, ◌+◌, ◌<◌, ◌≤◌, ◌||◌, List, drop, [], ◌∷◌, length, get_or, Bool, true, false, IsUtf8, IsTrue, if◌then◌else◌, nat_le, Option, Some, None, option_map, option_and_then, refl, sym, ap, subst, ◌++◌, ◌∙◌, arith, le-leb}
use Rattle.std.proofs.lemmas.Str.{is_utf8-from_IsUtf8, IsUtf8-from_is_utf8}
use Rattle.std.proofs.Math.Bool.{or_assoc}
use Rattle.std.proofs.lemmas.List.{append_assoc, append-nil, drop_more}
use Rattle.serde_json.specs.Data.{Data}
use Rattle.serde_json.specs.View.{view, items_view}
use Rattle.serde_json.specs.Read.{read}
use Rattle.serde_json.specs.declared.value.Value.{Value}
use Rattle.plc_base.specs.Mask.{no_members, single, union, has}
use Rattle.plc_base.proofs.MaskLemmas.{same_members, has-union, has-empty, union_absorbs, empty_within}
use Rattle.plc_cert.specs.Shape.{each, node_from, pair_from, json_of, whole_below, locations_from}

-- an array of any other length is no node
pub other_length : (vs : List Value) → (length vs ≡ 2 → ⊥) → (length vs ≡ 3 → ⊥) → node_from (items_view vs) ≡ None
other_length [] two three = refl
other_length (a ∷ []) two three = refl
other_length (a ∷ b ∷ []) two three = absurd (two refl)
other_length (a ∷ b ∷ c ∷ []) two three = absurd (three refl)
other_length (a ∷ b ∷ c ∷ d ∷ vs) two three = refl

-- an array of any other length is no pair
pub not_two : (vs : List Value) → (length vs ≡ 2 → ⊥) → None ≡ pair_from (items_view vs)
not_two [] other = refl
not_two (a ∷ []) other = refl
not_two (a ∷ b ∷ []) other = absurd (other refl)
not_two (a ∷ b ∷ c ∷ vs) other = refl

pub two_items : (vs : List Value) (a b : Value) → length vs ≡ 2 → Some (view (get_or vs 0 a), view (get_or vs 1 b)) ≡ pair_from (items_view vs)
two_items [] a b h = absurd (omega (arith, h))
two_items (x ∷ []) a b h = absurd (omega (arith, h))
two_items (x ∷ y ∷ []) a b h = refl
two_items (x ∷ y ∷ z ∷ vs) a b h = absurd (omega (arith, h))

-- ---- sets of locations

union_assoc : (a b c : ℕ) → union (union a b) c ≡ union a (union b c)
union_assoc a b c =
    same_members _ _ (λ l. has-union (union a b) c l ∙ ap (λ x. x || has c l) (has-union a b l) ∙ or_assoc (has a l) (has b l) (has c l)
    ∙ sym (has-union a (union b c) l ∙ ap (λ x. has a l || x) (has-union b c l)))

pub union_none : (m : ℕ) → union no_members m ≡ m
union_none m = same_members _ _ (λ l. has-union no_members m l ∙ ap (λ x. x || has m l) (has-empty l))

pub union_empty : (m : ℕ) → union m no_members ≡ m
union_empty m = union_absorbs m no_members (empty_within m)

regroup : (done one : ℕ) (rest : Option ℕ) → option_map (λ m. union done m) (option_map (λ m. union one m) rest) ≡ option_map (λ m. union (union done one) m) rest
regroup done one None = refl
regroup done one (Some m) = ap Some (sym (union_assoc done one m))

pub all_locations : (o : Option ℕ) → o ≡ option_map (λ m. union no_members m) o
all_locations None = refl
all_locations (Some m) = ap Some (sym (union_none m))

-- one more location was read
pub one_more : (all : Option ℕ) (done least l : ℕ) (v : Value) (vs : List Value) → Some l ≡ whole_below 8 (view v) → least ≤ l
    → all ≡ option_map (λ m. union done m) (locations_from least (items_view (v ∷ vs))) → all ≡ option_map (λ m. union (union done (single l)) m) (locations_from (l + 1) (items_view vs))
one_more all done least l v vs is above h =
    let rest = locations_from (l + 1) (items_view vs) in
    h ∙ ap (λ o. option_map (λ m. union done m) (option_and_then (λ x. if nat_le least x then option_map (λ m. union (single x) m) (locations_from (x + 1) (items_view vs)) else None) o)) (sym is)
    ∙ ap (λ b. option_map (λ m. union done m) (if b then option_map (λ m. union (single l) m) rest else None)) (le-leb least l above)
    ∙ regroup done (single l) rest

-- bytes that are UTF-8 are the value of their text
pub json_of-utf8 : (bytes : List ℕ) → IsUtf8 bytes → json_of bytes ≡ read bytes
json_of-utf8 bytes u = rw (is_utf8-from_IsUtf8 bytes u) refl

no_json : (b : Bool) (bytes : List ℕ) → (b ≡ true → read bytes ≡ None) → (if b then read bytes else None) ≡ None
no_json true bytes h = h refl
no_json false bytes h = refl

-- bytes without a value
pub json_of-none : (bytes : List ℕ) → (IsUtf8 bytes → read bytes ≡ None) → json_of bytes ≡ None
json_of-none bytes h = no_json _ bytes (λ e. h (IsUtf8-from_is_utf8 bytes e))

pub no_truth : IsTrue false → ⊥
no_truth h = cc

-- ---- lists of parts

before_all : {A : Type 0} (all : Option (List A)) → all ≡ option_map (λ rest. [] ++ rest) all
before_all None = refl
before_all (Some xs) = refl

one_later : {A : Type 0} (done : List A) (x : A) (rest : Option (List A)) →
    option_map (λ ys. done ++ ys) (option_map (λ ys. x ∷ ys) rest) ≡ option_map (λ ys. (done ++ x ∷ []) ++ ys) rest
one_later done x None = refl
one_later done x (Some ys) = ap Some (sym (append_assoc done (x ∷ []) ys))

module _ {A : Type 0} (f : Data → Option A) where
  pub each_first : (vs : List Value) (none : List A) → none ≡ [] → each f (items_view vs) ≡ option_map (λ rest. none ++ rest) (each f (items_view vs))
  each_first vs none is = subst (λ (xs : List A). each f (items_view vs) ≡ option_map (λ rest. xs ++ rest) (each f (items_view vs))) (sym is) (before_all (each f (items_view vs)))

  -- all values were read
  pub each_last : (all : Option (List A)) (done : List A) (vs : List Value) → vs ≡ []
      → all ≡ option_map (λ rest. done ++ rest) (each f (items_view vs)) → Some done ≡ all
  each_last all done vs none h =
      sym (h ∙ ap (λ ys. option_map (λ rest. done ++ rest) (each f (items_view ys))) none ∙ ap Some (append-nil done))

  -- the next value
  module _ (all : Option (List A)) (done : List A) (vs : List Value) (i : ℕ) (v : Value) (small : i < length vs) (is : v ≡ get_or vs i v)
      (h : all ≡ option_map (λ rest. done ++ rest) (each f (items_view (drop i vs)))) where
    next : (o : Option A) → o ≡ f (view v)
        → all ≡ option_map (λ rest. done ++ rest) (option_and_then (λ y. option_map (λ ys. y ∷ ys) (each f (items_view (drop (i + 1) vs)))) o)
    next o part =
        h ∙ ap (λ ys. option_map (λ rest. done ++ rest) (each f (items_view ys))) (drop_more vs i v small ∙ ap (λ y. y ∷ drop (i + 1) vs) (sym is))
        ∙ ap (λ o. option_map (λ rest. done ++ rest) (option_and_then (λ y. option_map (λ ys. y ∷ ys) (each f (items_view (drop (i + 1) vs)))) o)) (sym part)

    pub each_more : (x : A) → Some x ≡ f (view v) → (now : List A) → now ≡ done ++ x ∷ []
        → all ≡ option_map (λ rest. now ++ rest) (each f (items_view (drop (i + 1) vs)))
    each_more x part now pushed =
        subst (λ ys. all ≡ option_map (λ rest. ys ++ rest) (each f (items_view (drop (i + 1) vs)))) (sym pushed)
        (next (Some x) part ∙ one_later done x (each f (items_view (drop (i + 1) vs))))

    pub each_none : None ≡ f (view v) → None ≡ all
    each_none part = sym (next None part)
