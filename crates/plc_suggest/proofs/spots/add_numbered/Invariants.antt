use Rattle.std.proofs.Common.{◌≡◌, ℕ, ◌++◌}
use Rattle.plc_xfer.specs.Rules.{table}
use Rattle.plc_suggest.specs.Spots.{pointer, spot}
use Rattle.plc_suggest.proofs.spots.add_numbered.Given as goal

abbrev pub invariant-loop-number : goal.invariant-loop-number
invariant-loop-number l =
    l.spots.items ≡ l.fn.spots.items ++ table 0 l.number (λ (i : ℕ). spot l.fn.step.0 (pointer l.fn.shared i))
