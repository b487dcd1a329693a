-- What is known of the files of the system and of a writer of std.
use Rattle.std.specs.Prelude.{ℕ, List, Option}
use Rattle.plc_outside.specs.Known.{KnownSink}
use Rattle.plc_outside.specs.Reading.{Reading}

-- The names whose reads failed, how many bytes the latest read took, and the reads that gave bytes.
pub record RealReads : Type 0 where
  pub failed : List (List ℕ)
  pub taken : ℕ
  pub given : List Reading

-- The bytes that the writer took from this sink, what it holds, where it tells that, and the count of faults.
pub record RealWrites : Type 0 where
  pub taken : List ℕ
  pub held : Option (List ℕ)
  pub faults : ℕ

-- what is known of it: any write may fail, so no byte is surely taken
abbrev pub known_of : RealWrites → KnownSink
known_of s = record { written = s.taken; held = s.held; faults = s.faults; room = 0 }
