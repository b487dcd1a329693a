use Rattle.std.proofs.Common.{◌≡◌, ◌<◌, ℕ, false, Some, slice_get}
use Rattle.std.specs.Str.{bytes_eq}
use Rattle.plc_reclaim.proofs.lookup.find_named.Given as goal

abbrev pub invariant-loop-i : goal.invariant-loop-i
invariant-loop-i g l = (j : ℕ) (b : _) → j < l.i → slice_get l.reclaimers j ≡ Some b → bytes_eq l.name ((goal.Reclaimer-dyn g (b.vtable, b.value)).named b.value) ≡ false
