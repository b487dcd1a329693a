use Rattle.std.proofs.Common.{◌≡◌, ◌==◌, ℕ, drop}
use Rattle.std.specs.List.{position_from}
use Rattle.plc_outparse.proofs.site.label_named.Given as goal

abbrev pub invariant-loop-i : goal.invariant-loop-i
invariant-loop-i l =
    position_from (λ (n : ℕ). n == l.number) l.i (drop l.i l.scope.labels)
    ≡ position_from (λ (n : ℕ). n == l.number) 0 l.scope.labels
