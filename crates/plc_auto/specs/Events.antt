-- What an event is on: its kind without thread and address, its thread, and the address that it names.
use Rattle.std.specs.Prelude.{ℕ, Option, Some, None}
use Rattle.plc_auto.specs.declared.event.Event.{Event}
use Rattle.plc_auto.specs.declared.event.Event.TheVariants.{Call as Called, Done as Returned, Free as Freed}
use Rattle.plc_auto.specs.declared.event.EvKind.{EvKind}
use Rattle.plc_auto.specs.declared.event.EvKind.TheVariants.{Call, Done, Free}

-- an event without its thread and address
abbrev pub kind_of : Event → EvKind
kind_of (Called t f b) = Call f
kind_of (Returned t f) = Done f
kind_of (Freed b) = Free

-- the thread of a call or a return
abbrev pub thread_of : Event → Option ℕ
thread_of (Called t f b) = Some t
thread_of (Returned t f) = Some t
thread_of (Freed b) = None

-- the address that an event names; null where it names none
abbrev pub address_of : Event → ℕ
address_of (Called t f None) = 0
address_of (Called t f (Some b)) = b
address_of (Returned t f) = 0
address_of (Freed b) = b
