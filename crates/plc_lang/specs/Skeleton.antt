-- A control flow as plain lists, over which typings are defined: how many pointer locals there are at each point,
-- where operations begin, and the steps.
use Rattle.std.specs.Prelude.{ℕ, List, get_or}
use Rattle.plc_lang.specs.declared.syntax.Primitive.{Primitive}

-- a step between two points
pub record Passage : Type 0 where
  pub from : ℕ
  pub to : ℕ
  pub prims : List Primitive

-- the points, with the number of pointer locals of each; the points where operations begin; the steps in order
pub record Skeleton : Type 0 where
  pub shared : ℕ
  pub locals : List ℕ
  pub entries : List ℕ
  pub passages : List Passage

-- how many pointer locals there are at a point
abbrev pub locals_at : Skeleton → ℕ → ℕ
locals_at s p = get_or s.locals p 0
