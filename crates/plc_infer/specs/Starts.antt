-- Where the iteration begins: the entry environment where an operation begins, and elsewhere the environment
-- below all others.
use Rattle.std.specs.Prelude.{ℕ, ◌==◌, List, length, if◌then◌else◌}
use Rattle.std.specs.List.{list_any}
use Rattle.plc_lang.specs.Skeleton.{Skeleton, locals_at}
use Rattle.plc_auto.specs.declared.observer.Observer.{Observer}
use Rattle.plc_auto.specs.Sets.{all_locations}
use Rattle.plc_type.specs.declared.env.Env.{Env}
use Rattle.plc_type.specs.Environments.{bottom, entry}
use Rattle.plc_xfer.specs.Rules.{table}

-- the environment of a point
abbrev pub start_at : Observer → Skeleton → ℕ → Env
start_at o s p =
    if list_any (λ (e : ℕ). e == p) s.entries then entry s.shared (locals_at s p) (all_locations o)
    else bottom s.shared (locals_at s p)

-- the environments of all points, in order
abbrev pub starts_of : Observer → Skeleton → List Env
starts_of o s = table 0 (length s.locals) (start_at o s)
