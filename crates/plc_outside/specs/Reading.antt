-- Reads that gave bytes.
use Rattle.std.specs.Prelude.{ℕ, List}

-- the name that was asked for, and the bytes that it gave
pub record Reading : Type 0 where
  pub name : List ℕ
  pub bytes : List ℕ
