-- What is known of files and of a sink at a time.
use Rattle.std.specs.Prelude.{ℕ, List, Option}
use Rattle.plc_outside.specs.Reading.{Reading}

-- the bytes under each name, where they are told; how many reads of each name failed; how many bytes the latest read
-- took; and the reads that gave bytes, in order
pub record KnownFiles : Type 0 where
  pub content : List ℕ → Option (List ℕ)
  pub faults : List ℕ → ℕ
  pub taken : ℕ
  pub given : List Reading

-- the bytes that it took, in order; what the writer holds to which it hands them on, where there is one that tells it;
-- how many writes failed; and how many more bytes are surely taken before a write fails, which is 0 where nothing is
-- promised
pub record KnownSink : Type 0 where
  pub written : List ℕ
  pub held : Option (List ℕ)
  pub faults : ℕ
  pub room : ℕ
