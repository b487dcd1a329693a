-- Literals of which both sides stand in a list.
use Rattle.std.specs.Prelude.{List}
use Rattle.plc_symbolic.specs.declared.symbolic.SymbolicTerm.{SymbolicTerm}
use Rattle.plc_symbolic.specs.declared.symbolic.SymbolicLit.{SymbolicLit}
use Rattle.plc_symbolic.specs.Numbering.{IsListed}

-- both sides of a literal are listed
pub record HasSides (ts : List SymbolicTerm) (l : SymbolicLit) : Type 0 where
  pub left : IsListed ts l.left
  pub right : IsListed ts l.right
