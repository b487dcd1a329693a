-- Limits on what a file holds, as the rules of its parts cite them.
use Rattle.std.specs.Prelude.{◌==◌, ◌+◌, ℕ, Bool, false, if◌then◌else◌, Result, Err}
use Rattle.plc_base.specs.Limits.{most}
use Rattle.plc_base.specs.declared.limits.What1.{What1}
use Rattle.plc_scope.specs.declared.fault.ParseFault.{ParseFault}
use Rattle.plc_scope.specs.declared.fault.ParseFault.TheVariants as faults

-- a form past the limit is the fault, at its first token; n forms are before
abbrev pub within_limit : {A : Type 0} → ℕ → What1 → Result A ParseFault → Result A ParseFault
within_limit n what next = if n == most what then Err (faults.Limit what (most what + 1)) else next

-- whether a fault is at a token: where the first token of a form past the limit is at fault itself, that goes before
-- the limit
abbrev pub stands_at : ℕ → ParseFault → Bool
stands_at at (faults.Undeclared k) = k == at
stands_at at (faults.Duplicate k) = k == at
stands_at at (faults.WrongSort k) = k == at
stands_at at (faults.NoSuchCall k) = k == at
stands_at at (faults.Syntax k) = false
stands_at at (faults.Limit what k) = false
stands_at at faults.Memory = false
