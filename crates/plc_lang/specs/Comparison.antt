-- How two data values compare.
use Rattle.std.specs.Prelude.{ℕ, Bool, not, ◌==◌, nat_lt, nat_le}
use Rattle.plc_lang.specs.declared.syntax.Rel.{Rel}
use Rattle.plc_lang.specs.declared.syntax.Rel.TheVariants as relations

-- whether the first and the second stand in the relation
abbrev pub compares : Rel → ℕ → ℕ → Bool
compares relations.Eq m n = m == n
compares relations.Ne m n = not (m == n)
compares relations.Lt m n = nat_lt m n
compares relations.Ge m n = nat_le n m
