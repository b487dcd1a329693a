-- What a cut at the first mark gives, and that words that were joined are cut apart again.
use Rattle.std.proofs.Common.{◌≡◌, ℕ, suc, ◌+◌, ◌-◌, ◌<◌, ◌≤◌, ◌==◌, Bool, true, false, not, cond, List, [], ◌∷◌, length, take, drop, All, refl, ap, ◌∙◌, arith}
use Rattle.std.specs.List.{prefix_len, slice_split, onto_first, join_with_byte}
use Rattle.std.proofs.Math.Seq.{take-length}
use Rattle.std.proofs.lemmas.List.Elements.{All-head, All-tail}
use Rattle.std.proofs.lemmas.List.Splits.{slice_split_none, slice_split_at}

-- the pieces after a mark that stands at the front
abbrev pub after_mark : ℕ → List ℕ → List (List ℕ)
after_mark mark [] = []
after_mark mark (m ∷ bs) = slice_split (λ b. b == mark) bs

first_step : (mark x : ℕ) (xs : List ℕ) (n : ℕ) (hit : Bool) → slice_split (λ b. b == mark) xs ≡ take n xs ∷ after_mark mark (drop n xs)
    → cond hit ([] ∷ slice_split (λ b. b == mark) xs) (onto_first x (slice_split (λ b. b == mark) xs)) ≡ take (cond (not hit) (1 + n) 0) (x ∷ xs) ∷ after_mark mark (drop (cond (not hit) (1 + n) 0) (x ∷ xs))
first_step mark x xs n true e = refl
first_step mark x xs n false e = let s : 1 + n ≡ suc n = omega arith in rw (s, e) refl

-- the bytes before the first mark are the first piece
split_first : (mark : ℕ) (bs : List ℕ) → slice_split (λ b. b == mark) bs ≡ take (prefix_len (λ b. not (b == mark)) bs) bs ∷ after_mark mark (drop (prefix_len (λ b. not (b == mark)) bs) bs)
split_first mark [] = refl
split_first mark (x ∷ xs) = first_step mark x xs (prefix_len (λ b. not (b == mark)) xs) (x == mark) (split_first mark xs)

pub cut_is : (mark n : ℕ) (bs piece rest : List ℕ) → n ≡ prefix_len (λ b. not (b == mark)) bs → piece ≡ take n bs → rest ≡ drop n bs → slice_split (λ b. b == mark) bs ≡ piece ∷ after_mark mark rest
cut_is mark n bs piece rest e p r = rw (p, r, e) (split_first mark bs)

pub nothing_after : (mark : ℕ) (rest : List ℕ) → length rest < 1 → after_mark mark rest ≡ []
nothing_after mark [] h = refl
nothing_after mark (m ∷ bs) h = absurd (omega arith)

pub pieces_follow : (mark : ℕ) (rest : List ℕ) → 1 ≤ length rest → after_mark mark rest ≡ slice_split (λ b. b == mark) (take (length rest - 1) (drop 1 rest))
pieces_follow mark [] h = absurd (omega arith)
pieces_follow mark (m ∷ bs) h = let n : length (m ∷ bs) - 1 ≡ length bs = omega arith in rw (n, take-length) refl

-- no byte is a space
abbrev pub IsWord : List ℕ → Type 0
IsWord word = All (λ b. (b == 32) ≡ false) word

-- words that were joined by spaces are cut apart again
pub split_joined : (words : List (List ℕ)) → 0 < length words → All IsWord words → slice_split (λ b. b == 32) (join_with_byte 32 words) ≡ words
split_joined [] some each = absurd (omega arith)
split_joined (word ∷ []) some each = slice_split_none (λ b. b == 32) word (All-head IsWord word [] each)
split_joined (word ∷ next ∷ more) some each =
    slice_split_at (λ b. b == 32) word 32 (join_with_byte 32 (next ∷ more)) (All-head IsWord word (next ∷ more) each) refl
    ∙ ap (λ words. word ∷ words) (split_joined (next ∷ more) (omega arith) (All-tail IsWord word (next ∷ more) each))
