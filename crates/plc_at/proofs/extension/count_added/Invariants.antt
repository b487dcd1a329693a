use Rattle.std.proofs.Common.{◌≡◌, ◌+◌, ◌≤◌, length, drop}
use Rattle.plc_at.specs.Extended.{added_items}
use Rattle.plc_at.proofs.extension.count_added.Given as goal

abbrev pub invariant-loop-claim : goal.invariant-loop-claim
invariant-loop-claim l =
    (l.count + length (added_items l.flow l.observer l.typing (drop l.claim-index l.claims))
    ≡ length (added_items l.flow l.observer l.typing l.claims))
    × (l.count ≤ l.claim-index)
