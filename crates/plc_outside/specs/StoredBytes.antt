-- What is known of a sink in memory that grows; and a sink in memory that takes a few bytes a call and fails at given
-- calls, with what a write to it answers.
use Rattle.std.specs.Prelude.{◌≡◌, ℕ, ◌==◌, ◌||◌, ◌&&◌, ◌↔◌}
use Rattle.std.specs.Prelude.{◌++◌, not, Bool, IsTrue, List, min, take, None}
use Rattle.std.specs.Prelude.{Result, IfOk, OnErr, IsErrOf}
use Rattle.plc_outside.specs.Counts.{one_more, is_failing}
use Rattle.plc_outside.specs.Known.{KnownSink}
use Rattle.plc_outside.specs.Outside.{CountsFault}
use Rattle.plc_outside.specs.declared.sinks.SinkFault.{SinkFault}
use Rattle.plc_outside.specs.declared.sinks.SinkFault.TheVariants.{Failed}

-- what is known of a sink that grows, by what was written: memory may run out at any byte
abbrev pub known_bytes : List ℕ → KnownSink
known_bytes bytes = record { written = bytes; held = None; faults = 0; room = 0 }

-- The most bytes of a call, the calls that are to fail, how many calls there were, what was written, and the count of
-- faults.
pub record StoredBytes : Type 0 where
  pub most : ℕ
  pub failing : List ℕ
  pub calls : ℕ
  pub written : List ℕ
  pub faults : ℕ

-- what is known of it: it may fail at any call, so no byte is surely taken
abbrev pub known_of : StoredBytes → KnownSink
known_of s = record { written = s.written; held = None; faults = s.faults; room = 0 }

-- the next write of so many bytes fails: the call is to fail, or it would take nothing of a piece with bytes
abbrev pub put_fails : StoredBytes → ℕ → Bool
put_fails s size = is_failing s.failing (one_more s.calls) || (s.most == 0 && not (size == 0))

-- The answer to a write of so many bytes.
pub record AnswersPut (s : StoredBytes) (size : ℕ) (result : Result ℕ SinkFault) : Type 0 where
  pub ok : IfOk result (λ n. n ≡ min size s.most)
  pub failed : IsErrOf result Failed ↔ IsTrue (put_fails s size)

-- The sink after a write of a piece.
pub record IsAfterPut (old new : StoredBytes) (piece : List ℕ) (result : Result ℕ SinkFault) : Type 0 where
  pub most : new.most ≡ old.most
  pub failing : new.failing ≡ old.failing
  pub calls : new.calls ≡ one_more old.calls
  pub written : IfOk result (λ n. new.written ≡ old.written ++ take n piece)
  pub kept : OnErr result (new.written ≡ old.written)
  pub faults : CountsFault old.faults new.faults result
