-- How many members a set has: tried for each of the 256 sets.
use Rattle.std.proofs.Common.{◌≡◌, ℕ, zero, suc, ◌+◌, ◌<◌, Bool, true, ◌&&◌, ◌==◌, count_by, refl, subst, arith}
use Rattle.std.specs.Int.Count.{ones}
use Rattle.std.proofs.lemmas.Bool.{eqb-true, and_parts}
use Rattle.plc_base.specs.Mask.{has, member_count, numbers}

counts_so : ℕ → Bool
unfolding has member_count
counts_so a = member_count a == count_by (has a) numbers

-- the first n sets from a on
each_from : ℕ → ℕ → Bool
each_from a zero = true
each_from a (suc n) = counts_so a && each_from (a + 1) n

tried : each_from 0 256 ≡ true
unfolding each_from counts_so has member_count ones
tried = refl

at : (a n k : ℕ) → each_from a n ≡ true → k < n → counts_so (a + k) ≡ true
unfolding each_from
at a zero k e h = absurd (omega arith)
at a (suc n) zero e h = let same : a + 0 ≡ a = omega arith in rw same ((and_parts _ _ e).0)
at a (suc n) (suc k) e h = let same : a + suc k ≡ a + 1 + k = omega arith in rw same (at (a + 1) n k ((and_parts _ _ e).1) (omega arith))

pub mask-counts : (a : ℕ) → a < 256 → member_count a ≡ count_by (has a) numbers
unfolding counts_so
mask-counts a h = let same : 0 + a ≡ a = omega arith in eqb-true _ _ (subst (λ b. counts_so b ≡ true) same (at 0 256 a tried h))
