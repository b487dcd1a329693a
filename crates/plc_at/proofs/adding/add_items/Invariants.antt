use Rattle.std.proofs.Common.{◌≡◌, ◌++◌, drop}
use Rattle.plc_at.specs.Extended.{added_items}
use Rattle.plc_at.proofs.adding.add_items.Given as goal

abbrev pub invariant-loop-claim : goal.invariant-loop-claim
invariant-loop-claim l =
    l.items ++ added_items l.flow l.observer l.typing (drop l.claim-index l.claims)
    ≡ l.initial.items ++ added_items l.flow l.observer l.typing l.claims
