-- Places of the locals of a kind, and how many of the kind stand before a place.
use Rattle.std.proofs.Common.{◌≡◌, ℕ, zero, suc, ◌+◌, ◌-◌, ◌<◌, nat_lt, Bool, true, false, cond, List, [], ◌∷◌, take, filter, slice_get, count_by, Option, Some, None, refl, sym, ap, ◌∙◌, arith}
use Rattle.std.specs.List.{sum_by}
use Rattle.std.specs.Option.{unwrap_or}
use Rattle.std.proofs.lemmas.Bool.{lt-ltb, le-ltb, ltb-false}
use Rattle.std.proofs.lemmas.List.Sums.{sum_by-cons}
use Rattle.plc_lang.specs.declared.syntax.Local.{Local}
use Rattle.plc_lang.specs.declared.syntax.Ghost.{Ghost}
use Rattle.plc_lang.specs.Numbering.{places_from, value_from, value_number, values_in, NumbersAreOne, ValuesAreNumbered}
use Rattle.plc_lang.specs.Lookup.{local_at}
use Rattle.plc_lang.specs.Locals.{is_pointer, is_data}

module _ (k : Local → Bool) where
  -- the place n of a list that begins at place b, with v of the kind before it; there stands the v-th of the kind
  abbrev Stands : List Local → ℕ → ℕ → ℕ → Type 0
  Stands ls b v p = (n : ℕ) × (p ≡ b + n) × (count_by k (take n ls) ≡ v) × (slice_get ls n ≡ slice_get (filter k ls) v)

  counted : (l : Local) (ls : List Local) → count_by k (l ∷ ls) ≡ cond (k l) 1 0 + count_by k ls
  counted l ls = sum_by-cons (λ x. cond (k x) 1 0) l ls

  further : (l : Local) (ls : List Local) (b v p w : ℕ) → cond (k l) 1 0 + v ≡ w → slice_get (filter k (l ∷ ls)) w ≡ slice_get (filter k ls) v → Stands ls (b + 1) v p → Stands (l ∷ ls) b w p
  further l ls b v p w e same s = (suc (s.0), omega (arith, s.1), counted l (take (s.0) ls) ∙ omega (arith, e, s.2), s.3 ∙ sym same)

  -- so many of the kind stand before the place that its number has
  pub number_of_place : (ls : List Local) (b v p : ℕ) → slice_get (places_from k b ls) v ≡ Some p → Stands ls b v p
  number_of_place [] b v p e = absurd cc
  number_of_place (l ∷ ls) b v p e = go (λ w f. number_of_place ls (b + 1) w p f) (k l) refl v e
    where
      go : ((w : ℕ) → slice_get (places_from k (b + 1) ls) w ≡ Some p → Stands ls (b + 1) w p) → (y : Bool) → k l ≡ y → (v : ℕ) → slice_get (cond y (b ∷ places_from k (b + 1) ls) (places_from k (b + 1) ls)) v ≡ Some p → Stands (l ∷ ls) b v p
      go rest true h zero f = (let same : b ≡ p = cc in (zero, omega (arith, same), refl, rw h refl))
      go rest true h (suc w) f = further l ls b w p (suc w) (rw h (omega arith)) (rw h refl) (rest w f)
      go rest false h w f = further l ls b w p w (rw h (omega arith)) (rw h refl) (rest w f)

  -- the place of a local of the kind is found by how many of the kind stand before it
  pub place_of_number : (ls : List Local) (b n : ℕ) (l : Local) → slice_get ls n ≡ Some l → k l ≡ true → slice_get (places_from k b ls) (count_by k (take n ls)) ≡ Some (b + n)
  place_of_number [] b n l e h = absurd cc
  place_of_number (x ∷ ls) b zero l e h =
      let same : x ≡ l = cc in
      let kind : k x ≡ true = ap k same ∙ h in
      rw kind (ap Some (omega arith))
  place_of_number (x ∷ ls) b (suc n) l e h =
      let rest = place_of_number ls (b + 1) n l e h in
      let there : b + 1 + n ≡ b + suc n = omega arith in
      rw (counted x (take n ls)) (go (k x) (rest ∙ ap Some there))
    where
      go : (y : Bool) → slice_get (places_from k (b + 1) ls) (count_by k (take n ls)) ≡ Some (b + suc n) → slice_get (cond y (b ∷ places_from k (b + 1) ls) (places_from k (b + 1) ls)) (cond y 1 0 + count_by k (take n ls)) ≡ Some (b + suc n)
      go true r = let more : 1 + count_by k (take n ls) ≡ suc (count_by k (take n ls)) = omega arith in ap (λ m. slice_get (b ∷ places_from k (b + 1) ls) m) more ∙ r
      go false r = let none : 0 + count_by k (take n ls) ≡ count_by k (take n ls) = omega arith in ap (λ m. slice_get (places_from k (b + 1) ls) m) none ∙ r

  -- each number below the count of the kind has a place
  pub place_there : (ls : List Local) (b v : ℕ) → v < count_by k ls → (p : ℕ) × (slice_get (places_from k b ls) v ≡ Some p)
  place_there [] b v h = absurd (omega arith)
  place_there (l ∷ ls) b v h = go (λ w less. place_there ls (b + 1) w less) (k l) v (omega (arith, h, counted l ls))
    where
      go : ((w : ℕ) → w < count_by k ls → (p : ℕ) × (slice_get (places_from k (b + 1) ls) w ≡ Some p)) → (y : Bool) → (v : ℕ) → v < cond y 1 0 + count_by k ls → (p : ℕ) × (slice_get (cond y (b ∷ places_from k (b + 1) ls) (places_from k (b + 1) ls)) v ≡ Some p)
      go rest true zero less = (b, refl)
      go rest true (suc w) less = rest w (omega arith)
      go rest false w less = rest w (omega arith)

  from_start : (ls : List Local) (n : ℕ) (l : Local) → slice_get ls n ≡ Some l → k l ≡ true → slice_get (places_from k 0 ls) (count_by k (take n ls)) ≡ Some n
  from_start ls n l e h = (let same : 0 + n ≡ n = omega arith in place_of_number ls 0 n l e h ∙ ap Some same)

  at_start : (ls : List Local) (v p : ℕ) → slice_get (places_from k 0 ls) v ≡ Some p → count_by k (take p ls) ≡ v
  at_start ls v p e =
      let s = number_of_place ls 0 v p e in
      let same : p ≡ s.0 = omega (arith, s.1) in
      rw same (s.2)

  -- past the last place there is none of the kind
  none_left : (ls : List Local) (b v : ℕ) → slice_get (places_from k b ls) v ≡ None → slice_get (filter k ls) v ≡ None
  none_left [] b v e = refl
  none_left (l ∷ ls) b v e = go (λ w f. none_left ls (b + 1) w f) (k l) refl v e
    where
      go : ((w : ℕ) → slice_get (places_from k (b + 1) ls) w ≡ None → slice_get (filter k ls) w ≡ None) → (y : Bool) → k l ≡ y → (v : ℕ) → slice_get (cond y (b ∷ places_from k (b + 1) ls) (places_from k (b + 1) ls)) v ≡ None → slice_get (cond y (l ∷ filter k ls) (filter k ls)) v ≡ None
      go rest true h zero f = absurd cc
      go rest true h (suc w) f = rest w f
      go rest false h w f = rest w f

  -- the v-th of the kind is the local at its place
  pub local_of_place : (ls : List Local) (v : ℕ) → slice_get (filter k ls) v ≡ local_at ls (slice_get (places_from k 0 ls) v)
  local_of_place ls v = go (slice_get (places_from k 0 ls) v) refl
    where
      go : (o : Option ℕ) → slice_get (places_from k 0 ls) v ≡ o → slice_get (filter k ls) v ≡ local_at ls o
      go None e = none_left ls 0 v e
      go (Some p) e =
          let s = number_of_place ls 0 v p e in
          let same : s.0 ≡ p = omega (arith, s.1) in
          sym s.3 ∙ ap (slice_get ls) same

-- the two numbers of a local lead to each other
pub numbers_are_one : (locals : List Local) → NumbersAreOne locals
numbers_are_one locals = record {
  of_pointer = at_start is_pointer locals;
  of_data = at_start is_data locals;
  to_pointer = from_start is_pointer locals;
  to_data = from_start is_data locals;
  pointer_there = place_there is_pointer locals 0;
  data_there = place_there is_data locals 0;
}

-- the values of the fields before come before those of a field
value_found : (b : ℕ) (gs : List Ghost) (k v : ℕ) (g : Ghost) → slice_get gs k ≡ Some g → v < values_in g → (n : ℕ) → n ≡ sum_by values_in (take k gs) + v → value_from b gs n ≡ Some (b + k, v)
value_found b [] k v g e h n same = absurd cc
value_found b (x ∷ gs) zero v g e h n same =
    let field : x ≡ g = cc in
    let number : n ≡ v = omega (arith, same) in
    let small : nat_lt n (values_in x) ≡ true = lt-ltb _ _ (rw (field, number) h) in
    let first : b ≡ b + 0 = omega arith in
    rw small (ap (λ i. Some (i, n)) first ∙ ap (λ j. Some (b + 0, j)) number)
value_found b (x ∷ gs) (suc k) v g e h n same =
    let sum = sum_by-cons values_in x (take k gs) in
    let large : nat_lt n (values_in x) ≡ false = le-ltb _ _ (omega (arith, same, sum)) in
    let next : b + 1 + k ≡ b + suc k = omega arith in
    rw large (value_found (b + 1) gs k v g e h (n - values_in x) (omega (arith, same, sum)) ∙ ap (λ i. Some (i, v)) next)

-- a value that is found stands after the values of the fields before
value_back : (b : ℕ) (gs : List Ghost) (n p v : ℕ) → value_from b gs n ≡ Some (p, v) → (k : ℕ) × (p ≡ b + k) × (sum_by values_in (take k gs) + v ≡ n)
value_back b [] n p v e = absurd cc
value_back b (x ∷ gs) n p v e = go (λ m f. value_back (b + 1) gs m p v f) (nat_lt n (values_in x)) refl e
  where
    go : ((m : ℕ) → value_from (b + 1) gs m ≡ Some (p, v) → (k : ℕ) × (p ≡ b + 1 + k) × (sum_by values_in (take k gs) + v ≡ m)) → (y : Bool) → nat_lt n (values_in x) ≡ y → cond y (Some (b, n)) (value_from (b + 1) gs (n - values_in x)) ≡ Some (p, v) → (k : ℕ) × (p ≡ b + k) × (sum_by values_in (take k (x ∷ gs)) + v ≡ n)
    go rest true small f =
        let first : b ≡ p = ap (λ (o : Option (ℕ × ℕ)). (unwrap_or o (0, 0)).0) f in
        let second : n ≡ v = ap (λ (o : Option (ℕ × ℕ)). (unwrap_or o (0, 0)).1) f in
        (zero, omega (arith, first), omega (arith, second))
    go rest false large f =
        let r = rest (n - values_in x) f in
        let most = ltb-false n (values_in x) large in
        (suc (r.0), omega (arith, r.1), omega (arith, r.2, most, sum_by-cons values_in x (take (r.0) gs)))

-- the two numbers of a value lead to each other
pub values_are_numbered : (ghosts : List Ghost) → ValuesAreNumbered ghosts
values_are_numbered ghosts = record {
  there = λ k v g e h.
      let first : 0 + k ≡ k = omega arith in
      value_found 0 ghosts k v g e h (value_number ghosts k v) refl ∙ ap (λ i. Some (i, v)) first;
  back = λ n k v e.
      let r = value_back 0 ghosts n k v e in
      let same : k ≡ r.0 = omega (arith, r.1) in
      rw same (r.2);
}
