-- A sink with a room that is there from the first, and what a write to it answers.
use Rattle.std.specs.Prelude.{◌≡◌, ℕ, ◌<◌, ◌-◌, ◌++◌, ◌↔◌, List, length, min, take, None}
use Rattle.std.specs.Prelude.{Result, IfOk, IfErr, OnErr, IsErrOf}
use Rattle.plc_outside.specs.Known.{KnownSink}
use Rattle.plc_outside.specs.Outside.{CountsFault}
use Rattle.plc_outside.specs.declared.sinks.SinkFault.{SinkFault}
use Rattle.plc_outside.specs.declared.sinks.SinkFault.TheVariants.{Failed}

-- How many bytes there is room for, what was written, and the count of faults.
pub record FixedBytes : Type 0 where
  pub room : ℕ
  pub written : List ℕ
  pub faults : ℕ

-- what is left of the room
abbrev pub left : FixedBytes → ℕ
left s = s.room - length s.written

-- what is known of it: all bytes for which there is room are taken
abbrev pub known_of : FixedBytes → KnownSink
known_of s = record { written = s.written; held = None; faults = s.faults; room = left s }

-- The answer to a write of so many bytes: as many as there is room for, and a failure where there is none.
pub record AnswersFixedPut (s : FixedBytes) (size : ℕ) (result : Result ℕ SinkFault) : Type 0 where
  pub ok : IfOk result (λ n. n ≡ min size (left s))
  pub failed : IsErrOf result Failed ↔ (0 < size) × (left s ≡ 0)
  pub only : IfErr result (λ fault. fault ≡ Failed)

-- The sink after a write of a piece.
pub record IsAfterFixedPut (old new : FixedBytes) (piece : List ℕ) (result : Result ℕ SinkFault) : Type 0 where
  pub room : new.room ≡ old.room
  pub written : IfOk result (λ n. new.written ≡ old.written ++ take n piece)
  pub kept : OnErr result (new.written ≡ old.written)
  pub faults : CountsFault old.faults new.faults result
