-- How the names in reach grow.
use Rattle.std.specs.Prelude.{◌≡◌, ◌+◌, ◌*◌, ◌≤◌, ℕ, [], length}
use Rattle.plc_base.specs.declared.limits.What1.TheVariants as limits
use Rattle.plc_base.specs.Limits.{most}
use Rattle.plc_scope.specs.declared.scope.Scope.{Scope}
use Rattle.plc_scope.specs.Scope.{most_locals}
use Rattle.plc_scope.specs.Answers.{GrowsBy, GrowsByLocals}

-- neither locals nor labels were declared
pub record KeepsLists (old new : Scope) : Type 0 where
  pub locals : new.locals ≡ old.locals
  pub labels : new.labels ≡ old.labels

-- at most so many names were declared, none of which is a local's or a label's
pub record AddsNames (old new : Scope) (count : ℕ) : Type 0 where
  pub names : GrowsBy old new count
  pub lists : KeepsLists old new

-- locals were declared, and no label
pub record AddsLocals (old new : Scope) : Type 0 where
  pub names : GrowsByLocals old new
  pub labels : new.labels ≡ old.labels

-- the names that an auxiliary field declares: its own, its values, and the one past their limit
abbrev pub ghost_names : ℕ
ghost_names = most limits.Values + 2

-- the names that are declared before the operations
abbrev pub front_names : ℕ
front_names = most limits.Fields + most limits.Shared + most limits.Calls + ghost_names * most limits.Ghosts

-- labels may be counted over the whole file
abbrev pub most_labels : ℕ
most_labels = most limits.Labels

-- each further label needs one further name
pub record CanLabel (scope : Scope) : Type 0 where
  pub locals : length scope.locals ≤ most_locals
  pub labels : length scope.labels ≤ most_labels
  pub names : length scope.names.names + most_labels ≤ scope.names.limit + length scope.labels

-- labels were declared, and one name for each
pub record GrowsByLabels (old new : Scope) : Type 0 where
  pub locals : new.locals ≡ old.locals
  pub labels : length new.labels ≤ most_labels
  pub names : length new.names.names + length old.labels ≤ length old.names.names + length new.labels
  pub limit : new.names.limit ≡ old.names.limit

-- the names that an operation declares beside its labels: its own and its locals
abbrev pub op_names : ℕ
op_names = most_locals + 1

-- an operation can be declared: there is room for its names, all labels and one past them, and no local before it is
-- in reach
pub record CanOperate (scope : Scope) : Type 0 where
  pub locals : scope.locals ≡ []
  pub labels : length scope.labels ≤ most_labels
  pub names : length scope.names.names + (op_names + most_labels + 1) ≤ scope.names.limit + length scope.labels

-- so many names beside labels were declared, and no local is in reach
pub record GrowsByOps (old new : Scope) (count : ℕ) : Type 0 where
  pub locals : new.locals ≡ []
  pub labels : length new.labels ≤ most_labels
  pub names : length new.names.names + length old.labels ≤ length old.names.names + count + length new.labels
  pub limit : new.names.limit ≡ old.names.limit
