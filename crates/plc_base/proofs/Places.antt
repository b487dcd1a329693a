-- What is kept of a list of names and of the map from each to its place: for the empty list, and after a new name.
use Rattle.std.proofs.Common.{◌≡◌, ℕ, ◌<◌, true, false, cond, List, [], ◌∷◌, ◌++◌, length, map, Option, Some, None, refl, sym, ap, subst, ◌∙◌, arith}
use Rattle.std.specs.Prelude.{Vec}
use Rattle.std.specs.HashMap.{HashMap, get_by, UpdatesBy}
use Rattle.std.specs.List.{IsDistinct}
use Rattle.std.specs.Map.{lookup, KeepsOthers}
use Rattle.std.specs.Str.{bytes_eq}
use Rattle.std.proofs.lemmas.Cmp.{nat_list_eq_equiv}
use Rattle.std.proofs.lemmas.List.{map-append, length-append}
use Rattle.std.proofs.lemmas.List.Quantifiers.{position-Some}
use Rattle.std.proofs.lemmas.Map.Keys.{IsDistinct-push}
use Rattle.std.proofs.lemmas.Slice.Eq.{bytes_eq-Decides}
use Rattle.plc_base.specs.Names.{NameList, place_of, IsKept}
use Rattle.plc_base.proofs.Positions.{absent_any, position_here, position_push}

-- where a name is absent, the places after it is put last
places_more : (name other : List ℕ) (names : List (List ℕ)) → place_of name names ≡ None
    → place_of other (names ++ name ∷ []) ≡ cond (bytes_eq name other) (Some (length names)) (place_of other names)
places_more name other names absent = elim (bytes_eq name other) as (λ b. bytes_eq name other ≡ b → place_of other (names ++ name ∷ []) ≡ cond b (Some (length names)) (place_of other names)) [
  | true ↦ λ e. subst (λ o. place_of o (names ++ name ∷ []) ≡ Some (length names)) ((bytes_eq-Decides name other).0 e) (position_here (bytes_eq name) names name absent (nat_list_eq_equiv.refl name))
  | false ↦ λ e. position_push (bytes_eq other) names name (nat_list_eq_equiv.symm other name ∙ e)
] refl

-- one more name, to which the map leads
kept_name : (place wider : List ℕ → Option ℕ) (names : List (List ℕ)) (name : List ℕ) (limit : ℕ) → IsKept place names limit → place_of name names ≡ None → length names < limit
    → ((other : List ℕ) → wider other ≡ cond (bytes_eq name other) (Some (length names)) (place other)) → IsKept wider (names ++ name ∷ []) limit
kept_name place wider names name limit kept absent room is = record {
  unique = IsDistinct-push nat_list_eq_equiv names name kept.unique (absent_any (bytes_eq name) names absent);
  bound = omega (arith, room, length-append names (name ∷ []));
  found = λ other. is other ∙ ap (λ o. cond (bytes_eq name other) (Some (length names)) o) (kept.found other) ∙ sym (places_more name other names absent);
}

apart : (name other items : List ℕ) → bytes_eq name other ≡ false → bytes_eq name items ≡ true → bytes_eq other items ≡ false
apart name other items unlike like = nat_list_eq_equiv.symm other items ∙ sym (nat_list_eq_equiv.congr name items other like) ∙ unlike

-- a place that was found is one of the list
pub place_within : (name : List ℕ) (names : List (List ℕ)) (at : ℕ) → Some at ≡ place_of name names → at < length names
place_within name names at is = (position-Some (bytes_eq name) names at [] (sym is)).0

module _ {A S : Type 0} where
  -- the place to which a map leads from a name
  abbrev place_in : HashMap (Vec ℕ A) ℕ S → List ℕ → Option ℕ
  place_in places name = get_by (λ v. bytes_eq name v.items) places

  pub kept_none : (places : HashMap (Vec ℕ A) ℕ S) (limit : ℕ) → places.entries ≡ [] → IsKept (place_in places) [] limit
  unfolding IsDistinct
  kept_none places limit none = record { unique = tt; bound = omega arith; found = λ name. ap (λ (es : List (Vec ℕ A × ℕ)). lookup (λ v. bytes_eq name v.items) es) none }

  -- where a map leads after a change at a key
  place_update : (old new : HashMap (Vec ℕ A) ℕ S) (key : Vec ℕ A) (place : Option ℕ) → UpdatesBy (λ a b. bytes_eq a.items b.items) (λ v. bytes_eq key.items v.items) old new place
      → (other : List ℕ) → place_in new other ≡ cond (bytes_eq key.items other) place (place_in old other)
  unfolding KeepsOthers
  place_update old new key place puts other = elim (bytes_eq key.items other) as (λ b. bytes_eq key.items other ≡ b → place_in new other ≡ cond b place (place_in old other)) [
    | true ↦ λ e. subst (λ l. place_in new l ≡ place) ((bytes_eq-Decides key.items other).0 e) puts.1
    | false ↦ λ e. puts.3 (λ v. bytes_eq other v.items) (λ x y. nat_list_eq_equiv.congr other x.items y.items) (λ v. apart key.items other v.items e)
  ] refl

  -- a new name, put last in the list and into the map with its place
  pub kept_put : (old new : HashMap (Vec ℕ A) ℕ S) (names more : List (Vec ℕ A)) (last key : Vec ℕ A) (name : List ℕ) (at limit : ℕ) (list : NameList)
      → IsKept (place_in old) (map (λ v. v.items) names) limit → record { names = map (λ v. v.items) names; limit = limit } ≡ list
      → place_of name list.names ≡ None → at ≡ length list.names → at < list.limit → last.items ≡ name → key.items ≡ name
      → UpdatesBy (λ a b. bytes_eq a.items b.items) (λ v. bytes_eq key.items v.items) old new (Some at) → more ≡ names ++ last ∷ [] → IsKept (place_in new) (map (λ v. v.items) more) limit
  kept_put old new names more last key name at limit list kept view absent end room same leads puts is =
      let count : length (map (λ v. v.items) names) ≡ length list.names = ap (λ (l : NameList). length l.names) view in
      let most : limit ≡ list.limit = ap (λ (l : NameList). l.limit) view in
      let none : place_of name (map (λ v. v.items) names) ≡ None = ap (λ (l : NameList). place_of name l.names) view ∙ absent in
      let place : at ≡ length (map (λ v. v.items) names) = end ∙ sym count in
      let listed : map (λ v. v.items) more ≡ map (λ v. v.items) names ++ name ∷ [] = ap (λ (vs : List (Vec ℕ A)). map (λ v. v.items) vs) is ∙ map-append (λ v. v.items) names (last ∷ []) ∙ rw same refl in
      let by_key : (other : List ℕ) → place_in new other ≡ cond (bytes_eq key.items other) (Some at) (place_in old other) = place_update old new key (Some at) puts in
      let by_name : (other : List ℕ) → place_in new other ≡ cond (bytes_eq name other) (Some at) (place_in old other) = subst (λ l. (other : List ℕ) → place_in new other ≡ cond (bytes_eq l other) (Some at) (place_in old other)) leads by_key in
      let by_place : (other : List ℕ) → place_in new other ≡ cond (bytes_eq name other) (Some (length (map (λ v. v.items) names))) (place_in old other) = subst (λ n. (other : List ℕ) → place_in new other ≡ cond (bytes_eq name other) (Some n) (place_in old other)) place by_name in
      subst (λ ns. IsKept (place_in new) ns limit) (sym listed) (kept_name (place_in old) (place_in new) _ name limit kept none (omega (arith, count, most, end, room)) by_place)
