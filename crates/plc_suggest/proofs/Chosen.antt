-- Sets of spots as lists: which of them put fewer claims in front of each step, and what flags choose of them as more
-- flags become known.
use Rattle.std.proofs.Common.{◌≡◌, ℕ, zero, suc, ◌≤◌, ◌==◌, true, false, Bool}
use Rattle.std.proofs.Common.{List, [], ◌∷◌, ◌++◌, length, take, drop, map}
use Rattle.std.proofs.Common.{refl, sym, subst, ◌∙◌, ap, inl, inr, arith}
use Rattle.std.specs.Prelude.{if◌then◌else◌, Contains, ◌⊎◌}
use Rattle.std.proofs.lemmas.Bool.{eqb-true}
use Rattle.plc_lang.specs.declared.syntax.Primitive.{Primitive}
use Rattle.plc_lang.specs.declared.syntax.Primitive.TheVariants.{Active}
use Rattle.plc_suggest.specs.declared.spot.Spot.{Spot}
use Rattle.plc_suggest.specs.Spots.{claims_at}
use Rattle.plc_suggest.specs.Needed.{chosen, tried}
use Rattle.plc_suggest.proofs.Claims.{IsPart, HasFewerClaims}

-- ---- parts of lists

pub part_more : {A : Type 0} → (xs : List A) (y : A) (ys : List A) → IsPart xs ys → IsPart xs (y ∷ ys)
part_more [] y ys h = tt
part_more (x ∷ xs) y ys h = inr h

pub part_same : {A : Type 0} → (xs : List A) → IsPart xs xs
part_same [] = tt
part_same (x ∷ xs) = inl (refl, part_same xs)

pub part_trans : {A : Type 0} → (xs ys zs : List A) → IsPart xs ys → IsPart ys zs → IsPart xs zs
part_trans [] ys zs h k = tt
part_trans (x ∷ xs) [] zs h k = absurd h
part_trans (x ∷ xs) (y ∷ ys) [] h k = absurd k
part_trans (x ∷ xs) (y ∷ ys) (z ∷ zs) (inl h) (inl k) = inl (h.0 ∙ k.0, part_trans xs ys zs h.1 k.1)
part_trans (x ∷ xs) (y ∷ ys) (z ∷ zs) (inr h) (inl k) = inr (part_trans (x ∷ xs) ys zs h k.1)
part_trans (x ∷ xs) (y ∷ ys) (z ∷ zs) h (inr k) = inr (part_trans (x ∷ xs) (y ∷ ys) zs h k)

claims_more : (here : Bool) (p : Primitive) (ys xs : List Primitive) → IsPart ys xs
    → IsPart ys (if here then p ∷ xs else xs)
claims_more true p ys xs h = part_more ys p xs h
claims_more false p ys xs h = h

claims_both : (here : Bool) (p : Primitive) (ys xs : List Primitive) → IsPart ys xs
    → IsPart (if here then p ∷ ys else ys) (if here then p ∷ xs else xs)
claims_both true p ys xs h = inl (refl, h)
claims_both false p ys xs h = h

-- a part of the spots has fewer claims
pub part_fewer : (ys xs : List Spot) → IsPart ys xs → HasFewerClaims ys xs
part_fewer [] xs h k = tt
part_fewer (y ∷ ys) [] h k = absurd h
part_fewer (y ∷ ys) (x ∷ xs) (inl h) k =
    subst (λ (z : Spot). IsPart (claims_at (z ∷ ys) k) (claims_at (x ∷ xs) k)) (sym h.0)
    (claims_both (x.step.0 == k) (Active x.var) (claims_at ys k) (claims_at xs k) (part_fewer ys xs h.1 k))
part_fewer (y ∷ ys) (x ∷ xs) (inr h) k =
    claims_more (x.step.0 == k) (Active x.var) (claims_at (y ∷ ys) k) (claims_at xs k) (part_fewer (y ∷ ys) xs h k)

-- ---- choices

-- what flags choose is a part of all
pub chosen_part : (flags : List Bool) (spots : List Spot) → IsPart (chosen flags spots) spots
chosen_part [] spots = tt
chosen_part (b ∷ flags) [] = tt
chosen_part (true ∷ flags) (x ∷ xs) = inl (refl, chosen_part flags xs)
chosen_part (false ∷ flags) (x ∷ xs) = part_more (chosen flags xs) x xs (chosen_part flags xs)

-- ---- spots that stand apart

pub part_append : {A : Type 0} → (xs ys vs ws : List A) → IsPart xs ys → IsPart vs ws → IsPart (xs ++ vs) (ys ++ ws)
part_append [] [] vs ws h k = k
part_append [] (y ∷ ys) vs ws h k = part_more vs y (ys ++ ws) (part_append [] ys vs ws tt k)
part_append (x ∷ xs) [] vs ws h k = absurd h
part_append (x ∷ xs) (y ∷ ys) vs ws (inl h) k = inl (h.0, part_append xs ys vs ws h.1 k)
part_append (x ∷ xs) (y ∷ ys) vs ws (inr h) k = inr (part_append (x ∷ xs) ys vs ws h k)

pub drop_part : {A : Type 0} → (n : ℕ) (xs : List A) → IsPart (drop n xs) xs
drop_part zero xs = part_same xs
drop_part (suc n) [] = tt
drop_part (suc n) (x ∷ xs) = part_more (drop n xs) x xs (drop_part n xs)

-- later spots are a part of earlier ones
pub drops_part : {A : Type 0} → (n m : ℕ) (xs : List A) → n ≤ m → IsPart (drop m xs) (drop n xs)
drops_part zero m xs h = drop_part m xs
drops_part (suc n) zero xs h = absurd (omega arith)
drops_part (suc n) (suc m) [] h = tt
drops_part (suc n) (suc m) (x ∷ xs) h = drops_part n m xs (omega arith)

-- with a row of spots left out there are fewer claims
pub row_fewer : (kept spots : List Spot) (at after : ℕ) → at ≤ after
    → HasFewerClaims (kept ++ drop after spots) (kept ++ drop at spots)
row_fewer kept spots at after h =
    part_fewer (kept ++ drop after spots) (kept ++ drop at spots)
    (part_append kept kept (drop after spots) (drop at spots) (part_same kept) (drops_part at after spots h))

claims_append_if : (here : Bool) (p : Primitive) (xs ys zs : List Primitive) → zs ≡ xs ++ ys
    → (if here then p ∷ zs else zs) ≡ (if here then p ∷ xs else xs) ++ ys
claims_append_if true p xs ys zs h = ap (λ (vs : List Primitive). p ∷ vs) h
claims_append_if false p xs ys zs h = h

pub claims_append : (xs ys : List Spot) (k : ℕ) → claims_at (xs ++ ys) k ≡ claims_at xs k ++ claims_at ys k
claims_append [] ys k = refl
claims_append (x ∷ xs) ys k =
    claims_append_if (x.step.0 == k) (Active x.var) (claims_at xs k) (claims_at ys k) (claims_at (xs ++ ys) k)
    (claims_append xs ys k)

contains_later : (x k : ℕ) (xs : List ℕ) → Contains xs k → Contains (x ∷ xs) k
contains_later x k xs (i, small, is) = (suc i, omega arith, is)

no_claims_if : (x : Spot) (gone : List Spot) (k : ℕ) (here : Bool) → (x.step.0 == k) ≡ here
    → Contains (map (λ (y : Spot). y.step.0) gone) k ⊎ (claims_at gone k ≡ [])
    → Contains (x.step.0 ∷ map (λ (y : Spot). y.step.0) gone) k
    ⊎ ((if here then Active x.var ∷ claims_at gone k else claims_at gone k) ≡ [])
no_claims_if x gone k true is h = inl (0, omega arith, eqb-true x.step.0 k is)
no_claims_if x gone k false is (inl h) = inl (contains_later x.step.0 k (map (λ (y : Spot). y.step.0) gone) h)
no_claims_if x gone k false is (inr h) = inr h

-- spots have no claims in front of the steps that aren't theirs
no_claims : (gone : List Spot) (k : ℕ) → Contains (map (λ (y : Spot). y.step.0) gone) k ⊎ (claims_at gone k ≡ [])
no_claims [] k = inr refl
no_claims (x ∷ gone) k = no_claims_if x gone k (x.step.0 == k) refl (no_claims gone k)

-- leaving spots out changes the claims of their steps alone
pub claims_without : (kept gone rest : List Spot) (k : ℕ) → Contains (map (λ (y : Spot). y.step.0) gone) k
    ⊎ (claims_at (kept ++ (gone ++ rest)) k ≡ claims_at (kept ++ rest) k)
claims_without kept gone rest k = elim (no_claims gone k) [
  | inl h ↦ inl h
  | inr h ↦ inr (claims_append kept (gone ++ rest) k
      ∙ ap (λ (vs : List Primitive). claims_at kept k ++ vs) (claims_append gone rest k)
      ∙ ap (λ (vs : List Primitive). claims_at kept k ++ (vs ++ claims_at rest k)) h
      ∙ sym (claims_append kept rest k))
]

-- ---- flags that grow

chosen_of_none : (flags : List Bool) → chosen flags [] ≡ []
chosen_of_none [] = refl
chosen_of_none (b ∷ flags) = refl

-- flags after those of the first spots say nothing of them
pub chosen_longer : (flags more : List Bool) (i : ℕ) (spots : List Spot) → i ≤ length flags
    → chosen (flags ++ more) (take i spots) ≡ chosen flags (take i spots)
chosen_longer [] more zero spots h = chosen_of_none more
chosen_longer [] more (suc i) spots h = absurd (omega arith)
chosen_longer (b ∷ flags) more zero spots h = refl
chosen_longer (b ∷ flags) more (suc i) [] h = refl
chosen_longer (true ∷ flags) more (suc i) (x ∷ xs) h =
    ap (λ (ys : List Spot). x ∷ ys) (chosen_longer flags more i xs (omega arith))
chosen_longer (false ∷ flags) more (suc i) (x ∷ xs) h = chosen_longer flags more i xs (omega arith)

pub tried_longer : (flags more : List Bool) (i : ℕ) (spots : List Spot) → i ≤ length flags
    → tried (flags ++ more) i spots ≡ tried flags i spots
tried_longer flags more i spots h =
    ap (λ (ys : List Spot). ys ++ drop (suc i) spots) (chosen_longer flags more i spots h)
