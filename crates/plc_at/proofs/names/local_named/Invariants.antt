use Rattle.std.specs.Prelude.{take}
use Rattle.std.proofs.Common.{◌≡◌, ◌<◌, ℕ, count_by}
use Rattle.plc_lang.specs.Locals.{is_pointer}
use Rattle.plc_at.specs.Reading.{IsLocalNamed}
use Rattle.plc_at.proofs.names.local_named.Given as goal

abbrev pub invariant-loop-local : goal.invariant-loop-local
invariant-loop-local l =
    (l.number ≡ count_by is_pointer (take l.local-index l.locals))
    × ((v : ℕ) → v < l.number → IsLocalNamed l.file l.locals l.name v → ⊥)
