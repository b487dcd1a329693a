-- A statement is smaller than the block in which it stands, a block no larger than those beside which it stands. So
-- what a walk over statements counts down falls, whichever multiple of a size it counts.
use Rattle.std.proofs.Common.{◌≡◌, ℕ, zero, suc, ◌+◌, ◌*◌, ◌<◌, ◌≤◌, ap, List, [], ◌∷◌, length, get_or, arith}
use Rattle.std.proofs.Math.Nat.{mul-le-mul_left}
use Rattle.plc_lang.specs.declared.syntax.Line.{Line}
use Rattle.plc_lang.specs.Statements.{Statements, statement_size, block_size, blocks_size}
use Rattle.plc_lang.specs.Views.{statement_of, block_of, blocks_of}

block_is_positive : (ls : List Line) → 1 ≤ block_size (block_of ls)
block_is_positive [] = omega arith
block_is_positive (l ∷ ls) = omega (arith, block_is_positive ls)

pub line_is_smaller : (ls : List Line) (i : ℕ) (d : Line) → i < length ls → statement_size (statement_of (get_or ls i d).stmt) < block_size (block_of ls)
line_is_smaller [] i d h = absurd (omega arith)
line_is_smaller (l ∷ ls) zero d h = omega (arith, block_is_positive ls)
line_is_smaller (l ∷ ls) (suc i) d h = omega (arith, line_is_smaller ls i d (omega arith))

pub block_is_no_larger : (bs : List Statements) (i : ℕ) (d : Statements) → i < length bs → block_size (get_or bs i d) ≤ blocks_size (blocks_of bs)
block_is_no_larger [] i d h = absurd (omega arith)
block_is_no_larger (b ∷ bs) zero d h = omega arith
block_is_no_larger (b ∷ bs) (suc i) d h = omega (arith, block_is_no_larger bs i d (omega arith))

-- the next line of a block
pub line_falls : (k : ℕ) (b : Statements) (ls : List Line) (i : ℕ) (l : Line) (count : ℕ) → block_of ls ≡ b → i < length ls → l ≡ get_or ls i l →
    k * block_size b + 1 ≡ count → k * statement_size (statement_of l.stmt) < count
line_falls k b ls i l count whole less item is =
    let size = ap block_size whole in
    let part = ap (λ (l : Line). statement_size (statement_of l.stmt)) item in
    let smaller : statement_size (statement_of l.stmt) ≤ block_size b = omega (arith, line_is_smaller ls i l less) in
    let times = mul-le-mul_left k smaller in
    omega (arith, times)

-- the next of the blocks side by side
pub block_falls : (k j : ℕ) (bs : List Statements) (i : ℕ) (b : Statements) (count : ℕ) → i < length bs → b ≡ get_or bs i b →
    k * blocks_size (blocks_of bs) + suc j ≡ count → k * block_size b + j < count
block_falls k j bs i b count less item is =
    let part = ap block_size item in
    let smaller : block_size b ≤ blocks_size (blocks_of bs) = omega (arith, block_is_no_larger bs i b less) in
    let times = mul-le-mul_left k smaller in
    omega (arith, times)
