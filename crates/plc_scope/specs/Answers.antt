-- How the program's answers speak of what the specification says, and how the list of names grows.
use Rattle.std.specs.Prelude.{◌≡◌, ◌+◌, ◌≤◌, ◌<◌, ℕ, length, Result, Ok, Err}
use Rattle.plc_scope.specs.declared.fault.ParseFault.{ParseFault}
use Rattle.plc_scope.specs.declared.fault.ParseFault.TheVariants as faults
use Rattle.plc_scope.specs.declared.scope.Scope.{Scope}
use Rattle.plc_scope.specs.Scope.{most_locals}

-- the fault is the specification's, unless memory ran out
abbrev pub FailsAs : {Y : Type 0} → ParseFault → Result Y ParseFault → Type 0
FailsAs faults.Memory said = Unit {0}
FailsAs e said = said ≡ Err e

-- the answer is the specification's, unless memory ran out
abbrev pub Gives : {X Y : Type 0} → (X → Y) → Result X ParseFault → Result Y ParseFault → Type 0
Gives view (Ok x) said = said ≡ Ok (view x)
Gives view (Err e) said = FailsAs e said

-- so many more names can be declared
pub record HasRoom (scope : Scope) (count : ℕ) : Type 0 where
  pub names : length scope.names.names + count ≤ scope.names.limit

-- at most so many names were declared
pub record GrowsBy (old new : Scope) (count : ℕ) : Type 0 where
  pub names : length new.names.names ≤ length old.names.names + count
  pub limit : new.names.limit ≡ old.names.limit

-- each further local needs at most one further name
pub record HasRoomForLocals (scope : Scope) : Type 0 where
  pub locals : length scope.locals ≤ most_locals
  pub names : length scope.names.names + most_locals < scope.names.limit + length scope.locals

-- locals were declared, and at most one name for each
pub record GrowsByLocals (old new : Scope) : Type 0 where
  pub locals : length new.locals ≤ most_locals
  pub names : length new.names.names + length old.locals ≤ length old.names.names + length new.locals
  pub limit : new.names.limit ≡ old.names.limit
