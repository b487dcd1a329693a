-- What a primitive answers and the state that it leaves, by the four columns of the table: a race first, then a blocked
-- one.
use Rattle.std.specs.Prelude.{ℕ, Bool, true, false, Option, Some, None}
use Rattle.std.specs.Option.{unwrap_or}
use Rattle.plc_lang.specs.declared.syntax.Primitive.{Primitive}
use Rattle.plc_auto.specs.declared.event.Event.{Event}
use Rattle.plc_mem.specs.declared.cell.RaceKind.{RaceKind}
use Rattle.plc_mem.specs.declared.cell.Outcome.{Outcome}
use Rattle.plc_mem.specs.declared.cell.Outcome.TheVariants.{Next, Blocked, Race}
use Rattle.plc_mem.specs.State.{State}
use Rattle.plc_mem.specs.Primitives.{race_of, goes, after, event_of}

-- the answer
abbrev pub outcome : Option RaceKind → Bool → Option Event → Outcome
outcome (Some kind) unblocked e = Race kind
outcome None true e = Next e
outcome None false e = Blocked

-- the state: the next one, or the one before where nothing happened
abbrev pub moved : Option RaceKind → Bool → State → State → State
moved (Some kind) unblocked s next = s
moved None true s next = next
moved None false s next = s

-- the answer of a primitive of thread t; a is the address that a `new` takes
unfoldable pub outcome_of : State → ℕ → ℕ → Primitive → Outcome
outcome_of s t a k = outcome (race_of s t k) (goes s t a k) (event_of s t k)

-- the state that it leaves
unfoldable pub next_of : State → ℕ → ℕ → Primitive → State
next_of s t a k = moved (race_of s t k) (goes s t a k) s (after s t a k)

-- the address that is named, or null
abbrev pub address_or_null : Option ℕ → ℕ
address_or_null addr = unwrap_or addr 0

-- the answers after which all is as before
abbrev pub Stays : Outcome → Type 0
Stays (Next e) = ⊥
Stays Blocked = Unit {0}
Stays (Race kind) = Unit {0}
