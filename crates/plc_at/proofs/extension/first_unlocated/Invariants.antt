use Rattle.std.proofs.Common.{◌≡◌, ℕ, ◌<◌, slice_get, Some}
use Rattle.plc_at.specs.declared.claim.LocationClaim.{LocationClaim}
use Rattle.plc_at.specs.Extended.{IsLocated}
use Rattle.plc_at.proofs.extension.first_unlocated.Given as goal

abbrev pub invariant-loop-i : goal.invariant-loop-i
invariant-loop-i l =
    (j : ℕ) (c : LocationClaim) → j < l.i → slice_get l.claims j ≡ Some c → IsLocated l.flow l.observer l.typing c
