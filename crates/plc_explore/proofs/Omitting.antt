-- Without the moves of one maker, from one of them on, there are fewer.
use Rattle.std.proofs.Common.{◌≡◌, ◌≤◌, ◌<◌, ◌-◌, ℕ, zero, suc, Bool, true, false, not, cond, List, [], ◌∷◌, ◌++◌, length, take, drop, filter, slice_get, Option, Some, None, refl, sym, ap, subst, ◌∙◌, arith}
use Rattle.std.proofs.lemmas.Cmp.{nat_eq_equiv}
use Rattle.std.specs.Prelude.{if◌then◌else◌, IfOk, IfSome, Result, Ok, Err}
use Rattle.plc_moves.specs.declared.words.Move.{Move}
use Rattle.plc_explore.specs.Leaving.{maker_of, common_maker, same_maker, made_by, without}
use Rattle.plc_explore.specs.declared.follow.Followed.{Followed}
use Rattle.plc_explore.specs.declared.program.Program.{Program}
use Rattle.plc_explore.specs.Racing.{RacesAmong}

same_as_itself : (maker : Option ℕ) → same_maker maker maker ≡ true
same_as_itself None = refl
same_as_itself (Some t) = nat_eq_equiv.refl t

others_short : (p : Move → Bool) (k : ℕ) (ms : List Move) → length (filter p (take k ms) ++ drop k ms) ≤ length ms
others_short p zero ms = omega arith
others_short p (suc k) [] = omega arith
others_short p (suc k) (m ∷ ms) = go (p m) (others_short p k ms) where
  go : (b : Bool) → length (filter p (take k ms) ++ drop k ms) ≤ length ms
      → length (cond b (m ∷ filter p (take k ms)) (filter p (take k ms)) ++ drop k ms) ≤ suc (length ms)
  go true short = omega arith
  go false short = omega arith

first_goes : (p : Move → Bool) (k : ℕ) (x : Move) (ms : List Move) → p x ≡ false
    → length (filter p (take (suc k) (x ∷ ms)) ++ drop (suc k) (x ∷ ms)) < suc (length ms)
first_goes p k x ms by_it = go (p x) by_it (others_short p k ms) where
  go : (b : Bool) → b ≡ false → length (filter p (take k ms) ++ drop k ms) ≤ length ms
      → length (cond b (x ∷ filter p (take k ms)) (filter p (take k ms)) ++ drop k ms) < suc (length ms)
  go true by_it short = cc
  go false by_it short = omega arith

fewer_without : (from to : ℕ) (moves : List Move) (first : Move) → from < to → slice_get moves from ≡ Some first
    → length (without (maker_of first) from to moves) < length moves
fewer_without zero zero ms first less is = elim less [ ]
fewer_without (suc from) zero ms first less is = elim less [ ]
fewer_without zero (suc k) [] first less is = cc
fewer_without (suc from) (suc to) [] first less is = cc
fewer_without zero (suc k) (x ∷ ms) first less is =
    let Others = λ (move : Move). not (made_by (maker_of first) move) in
    let same : x ≡ first = cc in
    let own : made_by (maker_of first) x ≡ true =
    ap (λ (m : Move). made_by (maker_of first) m) same ∙ same_as_itself (maker_of first) in
    let all : suc k - 0 ≡ suc k = omega arith in
    subst (λ n. length (filter Others (take n (x ∷ ms)) ++ drop (suc k) (x ∷ ms)) < suc (length ms)) (sym all)
    (first_goes Others k x ms (ap not own))
fewer_without (suc from) (suc to) (m ∷ ms) first less is =
    let p = λ (move : Move). not (made_by (maker_of first) move) in
    let fewer = fewer_without from to ms first (omega arith) is in
    let all : suc to - suc from ≡ to - from = omega arith in
    let more : suc (length (without (maker_of first) from to ms)) < suc (length ms) = omega arith in
    subst (λ n. suc (length (take from ms ++ filter p (take n (drop from ms)) ++ drop to ms)) < suc (length ms))
    (sym all) more

pub fewer_than_before : (from to : ℕ) (moves : List Move) (by : Option ℕ) → from < to
    → common_maker (slice_get moves from) (slice_get moves to) ≡ Some by
    → length (without by from to moves) < length moves
fewer_than_before from to moves by less common = go (slice_get moves from) (slice_get moves to) refl common where
  fewer : (first : Move) → slice_get moves from ≡ Some first → maker_of first ≡ by
      → length (without by from to moves) < length moves
  fewer first is same =
      subst (λ (b : Option ℕ). length (without b from to moves) < length moves) same
      (fewer_without from to moves first less is)

  which : (first : Move) (b : Bool) → (if b then Some (maker_of first) else None) ≡ Some by → maker_of first ≡ by
  which first true common = cc
  which first false common = cc

  go : (first next : Option Move) → slice_get moves from ≡ first → common_maker first next ≡ Some by
      → length (without by from to moves) < length moves
  go None next is common = cc
  go (Some first) None is common = fewer first is cc
  go (Some first) (Some next) is common = fewer first is (which first (made_by (maker_of first) next) common)

-- a run that races has a move
pub none_races : (program : Program) (threads : ℕ) (moves : List Move) → length moves ≤ 0
    → RacesAmong program threads moves → ⊥
none_races program threads [] few run = run.races
none_races program threads (m ∷ ms) few run = elim few [ ]

pub shorter_still : {E : Type 0} (result : Result (Option Followed) E) (m n : ℕ) → m < n
    → IfOk result (λ left. IfSome left (λ short. length short.moves ≤ m))
    → IfOk result (λ left. IfSome left (λ short. length short.moves < n))
shorter_still (Ok (Some short)) m n less few = omega arith
shorter_still (Ok None) m n less few = few
shorter_still (Err fault) m n less few = few

pub needed_so : {A E : Type 0} (result : Result (Option A) E) (P Q : Type 0) → (P → Q)
    → IfOk result (λ left. left ≡ None → P) → IfOk result (λ left. left ≡ None → Q)
needed_so (Ok left) P Q so known = λ none. so (known none)
needed_so (Err fault) P Q so known = known
