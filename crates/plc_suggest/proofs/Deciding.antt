-- The spots that are kept, as one after another is decided.
use Rattle.std.proofs.Common.{◌≡◌, ℕ, zero, suc, ◌+◌, ◌-◌, ◌<◌, ◌≤◌, Bool, true, false, Some, List, [], ◌∷◌, ◌++◌}
use Rattle.std.proofs.Common.{length, get_or, take, drop, refl, sym, ap, subst, ◌∙◌, arith, inl, inr}
use Rattle.std.specs.Prelude.{◌⊎◌, slice_get, Contains}
use Rattle.std.proofs.lemmas.List.{take-append-drop, drop-drop, length-take-le, length_push, take_more}
use Rattle.std.proofs.lemmas.List.{get_or_default}
use Rattle.plc_lang.specs.Skeleton.{Skeleton}
use Rattle.plc_auto.specs.declared.observer.Observer.{Observer}
use Rattle.plc_suggest.specs.declared.spot.Spot.{Spot}
use Rattle.plc_suggest.specs.Spots.{spots_of, claims_at}
use Rattle.plc_suggest.specs.Needed.{chosen, tried, IsTypable}
use Rattle.plc_suggest.specs.Marking.{steps_of}
use Rattle.plc_suggest.proofs.Defaults.{some_spot}
use Rattle.plc_suggest.specs.Trials.{AreKept}
use Rattle.plc_suggest.proofs.Chosen.{claims_without, row_fewer, tried_longer}
use Rattle.plc_suggest.proofs.Marked.{typable_stays}

-- ---- fewer spots

-- a row of spots and those after it
pub row_and_rest : (spots : List Spot) (m n : ℕ) → m ≤ n → drop m spots ≡ take (n - m) (drop m spots) ++ drop n spots
row_and_rest spots m n small =
    let same : m + (n - m) ≡ n = omega arith in
    sym (take-append-drop (n - m) (drop m spots))
    ∙ ap (λ (xs : List Spot). take (n - m) (drop m spots) ++ xs)
    (drop-drop (n - m) m spots ∙ ap (λ (k : ℕ). drop k spots) same)

-- steps in front of which no spot of the row stands keep their claims
pub row_claims : (kept spots : List Spot) (m n k : ℕ) → m ≤ n
    → Contains (steps_of (take (n - m) (drop m spots))) k
    ⊎ (claims_at (kept ++ drop m spots) k ≡ claims_at (kept ++ drop n spots) k)
row_claims kept spots m n k small =
    let row = take (n - m) (drop m spots) in
    subst (λ (xs : List Spot). Contains (steps_of row) k
    ⊎ (claims_at (kept ++ xs) k ≡ claims_at (kept ++ drop n spots) k))
    (sym (row_and_rest spots m n small)) (claims_without kept row (drop n spots) k)

-- ---- flags

-- the spots with one more, where it is chosen
abbrev pub kept_more : List Spot → Spot → Bool → List Spot
kept_more kept x true = kept ++ x ∷ []
kept_more kept x false = kept

chosen_last : (flags : List Bool) (spots : List Spot) (b : Bool) (x : Spot) → length flags ≡ length spots
    → chosen (flags ++ b ∷ []) (spots ++ x ∷ []) ≡ kept_more (chosen flags spots) x b
chosen_last [] [] true x count = refl
chosen_last [] [] false x count = refl
chosen_last [] (y ∷ ys) b x count = absurd (omega arith)
chosen_last (c ∷ flags) [] b x count = absurd (omega arith)
chosen_last (true ∷ flags) (y ∷ ys) true x count = ap (λ (zs : List Spot). y ∷ zs)
    (chosen_last flags ys true x (omega arith))
chosen_last (true ∷ flags) (y ∷ ys) false x count = ap (λ (zs : List Spot). y ∷ zs)
    (chosen_last flags ys false x (omega arith))
chosen_last (false ∷ flags) (y ∷ ys) b x count = chosen_last flags ys b x (omega arith)

-- a flag of those with one more is one of them, or the last
last_flag : (flags : List Bool) (b c : Bool) (i : ℕ) → slice_get (flags ++ b ∷ []) i ≡ Some c
    → ((i < length flags) × (slice_get flags i ≡ Some c)) ⊎ ((i ≡ length flags) × (b ≡ c))
last_flag [] b c zero e = inr (refl, cc)
last_flag [] b c (suc i) e = absurd cc
last_flag (d ∷ flags) b c zero e = inl (omega arith, e)
last_flag (d ∷ flags) b c (suc i) e = go (last_flag flags b c i e)
  where
    go : ((i < length flags) × (slice_get flags i ≡ Some c)) ⊎ ((i ≡ length flags) × (b ≡ c))
        → ((suc i < suc (length flags)) × (slice_get flags i ≡ Some c)) ⊎ ((suc i ≡ suc (length flags)) × (b ≡ c))
    go (inl h) = inl (omega arith, h.1)
    go (inr h) = inr (omega arith, h.1)

-- ---- one spot is decided

-- what a trial without the spot says
abbrev pub Decides : Observer → Skeleton → List Spot → ℕ → Bool → Type 0
Decides o s kept at true = IsTypable o s (kept ++ drop (at + 1) (spots_of s)) → ⊥
Decides o s kept at false = IsTypable o s (kept ++ drop (at + 1) (spots_of s))

-- a spot before it is tried as before, or it is the spot itself
abbrev IsTried : Skeleton → List Spot → ℕ → Bool → List Bool → Bool → ℕ → Type 0
IsTried s kept at b flags c i =
    ((i < at) × (slice_get flags i ≡ Some c) × (tried (flags ++ b ∷ []) i (spots_of s) ≡ tried flags i (spots_of s)))
    ⊎ ((b ≡ c) × (tried (flags ++ b ∷ []) i (spots_of s) ≡ kept ++ drop (at + 1) (spots_of s)))

module _ (o : Observer) (s : Skeleton) (kept : List Spot) (at : ℕ) (x : Spot) (b : Bool) (so_far : AreKept o s kept at)
    (small : at < length (spots_of s)) (read : x ≡ get_or (spots_of s) at x) where
  abbrev flags_of : List Bool
  flags_of = so_far.flags ++ b ∷ []

  same_tried : (i : ℕ) → i ≤ at → tried flags_of i (spots_of s) ≡ tried so_far.flags i (spots_of s)
  same_tried i less = tried_longer so_far.flags (b ∷ []) i (spots_of s) (let h = so_far.count in omega arith)

  -- what is tried for the spot itself
  tried_here : tried so_far.flags at (spots_of s) ≡ kept ++ drop (at + 1) (spots_of s)
  tried_here =
      let one : suc at ≡ at + 1 = omega arith in
      ap (λ (xs : List Spot). xs ++ drop (suc at) (spots_of s)) (sym so_far.are)
      ∙ ap (λ (n : ℕ). kept ++ drop n (spots_of s)) one

  kept_is : kept_more kept x b ≡ chosen flags_of (take (at + 1) (spots_of s))
  kept_is =
      let count : length so_far.flags ≡ length (take at (spots_of s)) = so_far.count
      ∙ sym (length-take-le at (spots_of s) so_far.within) in
      ap (λ (xs : List Spot). kept_more xs x b) so_far.are
      ∙ sym (chosen_last so_far.flags (take at (spots_of s)) b x count)
      ∙ ap (chosen flags_of)
      (sym (take_more (spots_of s) at x small ∙ ap (λ (y : Spot). take at (spots_of s) ++ y ∷ []) (sym read)))

  is_tried : (c : Bool) (i : ℕ) → slice_get flags_of i ≡ Some c → IsTried s kept at b so_far.flags c i
  is_tried c i e = go (last_flag so_far.flags b c i e)
    where
      go : ((i < length so_far.flags) × (slice_get so_far.flags i ≡ Some c)) ⊎ ((i ≡ length so_far.flags) × (b ≡ c))
          → IsTried s kept at b so_far.flags c i
      go (inl h) =
          let less : i < at = subst (λ (n : ℕ). i < n) so_far.count h.0 in
          inl (less, h.1, same_tried i (omega arith))
      go (inr h) =
          let here : i ≡ at = h.0 ∙ so_far.count in
          inr (h.1, same_tried i (omega arith) ∙ ap (λ (n : ℕ). tried so_far.flags n (spots_of s)) here ∙ tried_here)

-- the spot is kept exactly where it is needed
pub decide : (o : Observer) (s : Skeleton) (kept : List Spot) (at : ℕ) (x : Spot) (b : Bool) → AreKept o s kept at
    → at < length (spots_of s) → x ≡ get_or (spots_of s) at x → Decides o s kept at b
    → AreKept o s (kept_more kept x b) (at + 1)
decide o s kept at x b so_far small read verdict = record {
  flags = so_far.flags ++ b ∷ [];
  count = length_push so_far.flags b ∙ ap (λ (n : ℕ). n + 1) so_far.count;
  within = omega arith;
  are = kept_is o s kept at x b so_far small read;
  needed = λ i e. needed i (is_tried o s kept at x b so_far small read true i e);
  needless = λ i e. needless i (is_tried o s kept at x b so_far small read false i e);
}
  where
    needed : (i : ℕ) → IsTried s kept at b so_far.flags true i
        → IsTypable o s (tried (so_far.flags ++ b ∷ []) i (spots_of s)) → ⊥
    needed i (inl h) typable = so_far.needed i h.1 (subst (IsTypable o s) h.2 typable)
    needed i (inr h) typable = subst (Decides o s kept at) h.0 verdict (subst (IsTypable o s) h.1 typable)

    needless : (i : ℕ) → IsTried s kept at b so_far.flags false i
        → IsTypable o s (tried (so_far.flags ++ b ∷ []) i (spots_of s))
    needless i (inl h) = subst (IsTypable o s) (sym h.2) (so_far.needless i h.1)
    needless i (inr h) = subst (IsTypable o s) (sym h.1) (subst (Decides o s kept at) h.0 verdict)

-- ---- a row goes at once

pub skip_row : (o : Observer) (s : Skeleton) (kept : List Spot) (n at : ℕ) → AreKept o s kept at
    → at + n ≤ length (spots_of s)
    → IsTypable o s (kept ++ drop (at + n) (spots_of s)) → AreKept o s kept (at + n)
skip_row o s kept zero at so_far within typable = let e : at ≡ at + 0 = omega arith in subst (AreKept o s kept) e so_far
skip_row o s kept (suc n) at so_far within typable =
    let same : at + 1 + n ≡ at + suc n = omega arith in
    let small : at < length (spots_of s) = omega arith in
    let first : IsTypable o s (kept ++ drop (at + 1) (spots_of s)) =
    typable_stays o s (kept ++ drop (at + suc n) (spots_of s)) (kept ++ drop (at + 1) (spots_of s))
    (row_fewer kept (spots_of s) (at + 1) (at + suc n) (omega arith)) typable in
    let next = decide o s kept at (get_or (spots_of s) at some_spot) false so_far small
    (get_or_default (spots_of s) at some_spot (get_or (spots_of s) at some_spot) small) first in
    subst (AreKept o s kept) same
    (skip_row o s kept n (at + 1) next (omega arith)
    (subst (λ (k : ℕ). IsTypable o s (kept ++ drop k (spots_of s))) (sym same) typable))
