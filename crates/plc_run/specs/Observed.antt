-- What every state of every run has, whatever the program's types: it is coherent, its history is allowed, and an
-- address is retired in it exactly where the observer says so.
use Rattle.std.specs.Prelude.{◌≡◌, ℕ, ◌<◌, true, List, Some, None}
use Rattle.plc_lang.specs.declared.syntax.Primitive.{Primitive}
use Rattle.plc_auto.specs.declared.event.Event.{Event}
use Rattle.plc_auto.specs.declared.observer.Observer.{Observer}
use Rattle.plc_auto.specs.Table.{count_of}
use Rattle.plc_auto.specs.Location.{location, Allowed, is_retired_after}
use Rattle.plc_flow.specs.declared.flow.Flow.{Flow}
use Rattle.plc_moves.specs.declared.words.Move.{Move}
use Rattle.plc_mem.specs.State.{State, is_retired}
use Rattle.plc_mem.specs.Primitives.{race_of, goes, after, event_of}
use Rattle.plc_mem.specs.Coherence.{IsCoherent}
use Rattle.plc_run.specs.Run.{Configuration, recorded, Run, Moves, first_configuration}

-- thread t stands for every thread below `threads`
pub record IsObserved (o : Observer) (threads : ℕ) (s : State) (h : List Event) : Type 0 where
  pub coherent : IsCoherent s
  pub allowed : Allowed o threads h
  pub retired : (t a : ℕ) → t < threads → 0 < a → is_retired s a ≡ is_retired_after o h t a
  pub live : (t a : ℕ) → t < threads → 0 < a → (l : ℕ) × (location o h t a ≡ Some l) × (l < count_of o)

-- it holds where a run begins, and each primitive that is no race and each move keeps it
pub record RunsAreObserved (o : Observer) (threads : ℕ) : Type 0 where
  pub begun : (flow : Flow) (c : Configuration) → first_configuration flow threads ≡ Some c
      → IsObserved o threads c.state c.history
  pub by_primitive : (s : State) (h : List Event) (t a : ℕ) (k : Primitive) → race_of s t k ≡ None
      → goes s t a k ≡ true → IsObserved o threads s h
      → IsObserved o threads (after s t a k) (recorded h (event_of s t k))
  pub by_move : (flow : Flow) (c d : Configuration) (move : Move) → Moves flow o threads c move d
      → IsObserved o threads c.state c.history → IsObserved o threads d.state d.history
  pub run : (flow : Flow) (n : ℕ) (c : Configuration) → Run flow o threads n c → IsObserved o threads c.state c.history
