-- What a read and a write may answer, and why.
use Rattle.std.specs.Prelude.{◌≡◌, ℕ, ◌+◌, ◌<◌, ◌≤◌, ◌⊎◌, List}
use Rattle.std.specs.Prelude.{[], ◌∷◌, ◌++◌, length, take, Option, Some, Vec}
use Rattle.std.specs.Prelude.{Result, MatchResult, IfOk, IfSome, OnErr, IsErrOf}
use Rattle.plc_outside.specs.Counts.{last_count, one_more}
use Rattle.plc_outside.specs.Known.{KnownSink}
use Rattle.plc_outside.specs.Reading.{Reading}
use Rattle.plc_outside.specs.declared.files.FileFault.{FileFault}
use Rattle.plc_outside.specs.declared.files.FileFault.TheVariants as file
use Rattle.plc_outside.specs.declared.sinks.SinkFault.{SinkFault}
use Rattle.plc_outside.specs.declared.sinks.SinkFault.TheVariants as sink

-- ---- reads

-- The cause of a read's fault: `Failed` comes only where the count of the name rose, from `before` to `now`, and
-- `TooLong` only where more than `max` bytes were taken. The count never falls.
pub record ReadHasCause {T : Type 0} (before now taken max : ℕ) (result : Result T FileFault) : Type 0 where
  pub later : before ≤ now
  pub failed : IsErrOf result file.Failed → before < now
  pub long : IsErrOf result file.TooLong → max < taken

-- The answer goes by the content, where that is told: `Ok` has at most `max` bytes and is the content, and of the
-- answers other than `Failed` and `Memory` it is `TooLong` exactly where the content is longer.
pub record AgreesWith {Z : Type 0} (told : Option (List ℕ)) (max : ℕ) (result : Result (Vec ℕ Z) FileFault)
    : Type 0 where
  pub bound : IfOk result (λ bytes. length bytes.items ≤ max)
  pub same : IfSome told (λ content. IfOk result (λ bytes. bytes.items ≡ content))
  pub long : IfSome told (λ content. IsErrOf result file.TooLong → max < length content)
  pub exact : IfSome told (λ content. max < length content → ¬ IsErrOf result file.Failed
      → ¬ IsErrOf result file.Memory → IsErrOf result file.TooLong)

-- A read that gives bytes is noted after the others, with the name that was asked for, and no other read is.
abbrev pub NotesReading : {Z : Type 0} → List Reading → List Reading → List ℕ → Result (Vec ℕ Z) FileFault → Type 0
NotesReading old new name result =
    MatchResult result (λ bytes. new ≡ old ++ record { name = name; bytes = bytes.items } ∷ []) (λ _. new ≡ old)

-- ---- writes

-- a count rose, or stands at its last value
abbrev pub Rose : ℕ → ℕ → Type 0
Rose before now = (before < now) ⊎ (now ≡ last_count)

-- The cause of a write's fault: `Failed` comes only where the count of faults rose, from `before` to `now`, or can
-- rise no more. The count never falls.
pub record PutHasCause {T : Type 0} (before now : ℕ) (result : Result T SinkFault) : Type 0 where
  pub later : before ≤ now
  pub failed : IsErrOf result sink.Failed → Rose before now

-- The room after a write of so many bytes: what is taken is taken from it, and no more; a write of some bytes fails
-- only where there is none, and a fault leaves it.
pub record LeavesRoom (before now size : ℕ) (result : Result ℕ SinkFault) : Type 0 where
  pub failed : IsErrOf result sink.Failed → 0 < size → before ≡ 0
  pub taken : IfOk result (λ n. before ≤ now + n)
  pub kept : OnErr result (now ≡ before)

-- A count that a sink keeps as a u64: `Failed` raises it by one, up to its last value, and no other answer changes it.
pub record CountsFault {T : Type 0} (old new : ℕ) (result : Result T SinkFault) : Type 0 where
  pub failed : IsErrOf result sink.Failed → new ≡ one_more old
  pub other : ¬ IsErrOf result sink.Failed → new ≡ old

-- these bytes and no others were taken, and the writer holds them after the others, where it tells what it holds
pub record Appends (old new : KnownSink) (text : List ℕ) : Type 0 where
  pub written : new.written ≡ old.written ++ text
  pub held : IfSome old.held (λ bytes. new.held ≡ Some (bytes ++ text))

-- a prefix of the text was appended that is shorter than the text
abbrev pub AppendsPart : KnownSink → KnownSink → List ℕ → Type 0
AppendsPart old new text = (n : ℕ) × (n < length text) × Appends old new (take n text)

-- A write of a piece: its first bytes are appended, at least one where there are any, or else nothing is, with a cause.
pub record Puts (old new : KnownSink) (piece : List ℕ) (result : Result ℕ SinkFault) : Type 0 where
  pub appends : IfOk result (λ n. Appends old new (take n piece))
  pub bound : IfOk result (λ n. n ≤ length piece)
  pub goes_on : IfOk result (λ n. 0 < length piece → 0 < n)
  pub err : OnErr result (Appends old new [])
  pub cause : PutHasCause old.faults new.faults result
  pub room : LeavesRoom old.room new.room (length piece) result
