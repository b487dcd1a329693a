-- What private calls ask, so that numbers of 16 bits don't wrap.
use Rattle.std.specs.Prelude.{◌≡◌, ◌<◌, ◌≤◌, ℕ, List, length, map, filter, All, Option, Some, None}
use Rattle.std.specs.List.{sum_by}
use Rattle.plc_base.specs.Limits.{most_bound}
use Rattle.plc_lang.specs.declared.syntax.Ghost.{Ghost}
use Rattle.plc_lang.specs.Numbering.{value_number, values_in}
use Rattle.plc_flow.specs.declared.flow.Flow.{Flow}
use Rattle.plc_logic.specs.declared.clause.Clause.{Clause}
use Rattle.plc_logic.specs.declared.clause.Item.{Item}
use Rattle.plc_logic.specs.declared.clause.Literal.{Literal}
use Rattle.plc_logic.specs.declared.clause.Literal.TheVariants as literals
use Rattle.plc_logic.specs.declared.clause.Term.{Term}
use Rattle.plc_logic.specs.declared.clause.Term.TheVariants as terms
use Rattle.plc_vocabulary.specs.Points.{stands_at}
use Rattle.plc_encoding.specs.declared.execution.Execution.{Execution}
use Rattle.plc_encoding.specs.Execution.{start}

-- clauses are read before anything is executed
pub record ReadsBefore (ghosts : List Ghost) (before : Execution) : Type 0 where
  pub nothing : before ≡ start
  pub few : sum_by values_in ghosts < 65536

-- where the term is a value of an auxiliary field, its number over the file has 16 bits
abbrev pub ValueIn : List Ghost → Term → Type 0
ValueIn ghosts (terms.Shared i) = Unit {0}
ValueIn ghosts (terms.Local k) = Unit {0}
ValueIn ghosts (terms.Bound i) = Unit {0}
ValueIn ghosts (terms.FieldOf b f) = Unit {0}
ValueIn ghosts (terms.GhostOf b g) = Unit {0}
ValueIn ghosts terms.Null = Unit {0}
ValueIn ghosts (terms.Number n) = Unit {0}
ValueIn ghosts (terms.Value g v) = (g ≤ length ghosts) × (value_number ghosts g v < 65536)
ValueIn ghosts terms.Me = Unit {0}
ValueIn ghosts terms.Nobody = Unit {0}

-- where sides of a literal are values, their numbers have 16 bits
abbrev pub ValuesIn : List Ghost → Literal → Type 0
ValuesIn ghosts (literals.Same a b equal) = ValueIn ghosts a × ValueIn ghosts b
ValuesIn ghosts (literals.Retired b is_so) = Unit {0}
ValuesIn ghosts (literals.Marked t is_so) = Unit {0}

-- the numbers of a clause's values have 16 bits, and it has no more names than it may
pub record ClauseIn (ghosts : List Ghost) (c : Clause) : Type 0 where
  pub names : length c.bound.names ≤ most_bound
  pub values : All (ValuesIn ghosts) c.literals

abbrev pub ItemIn : List Ghost → Item → Type 0
ItemIn ghosts i = ClauseIn ghosts i.clause

abbrev pub ConclusionIn : List Ghost → Option Clause → Type 0
ConclusionIn ghosts None = Unit {0}
ConclusionIn ghosts (Some c) = ClauseIn ghosts c

-- the clauses of those items that stand at a point
abbrev pub clauses_in : Flow → ℕ → List Item → List Clause
clauses_in flow p items = map (λ (i : Item). i.clause) (filter (stands_at flow p) items)
