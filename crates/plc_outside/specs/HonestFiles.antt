-- Files in memory whose reads never fail.
use Rattle.std.specs.Prelude.{◌≡◌, ℕ, List, [], length, Some, Vec, Result, unwrap_or}
use Rattle.plc_outside.specs.Known.{KnownFiles}
use Rattle.plc_outside.specs.Outside.{NotesReading}
use Rattle.plc_outside.specs.Reading.{Reading}
use Rattle.plc_outside.specs.StoredFiles.{content_of}
use Rattle.plc_outside.specs.declared.files.FileFault.{FileFault}

-- Names with their bytes, the bytes that the latest read took, and the reads that gave bytes.
pub record HonestlyStored : Type 0 where
  pub files : List (List ℕ × List ℕ)
  pub taken : ℕ
  pub given : List Reading

-- the bytes under a name: none where there is no such name
abbrev pub bytes_of : List (List ℕ × List ℕ) → List ℕ → List ℕ
bytes_of files name = unwrap_or (content_of files name) []

-- no read of any name fails
abbrev pub no_faults : List ℕ → ℕ
no_faults name = 0

-- what is known of them: all contents are told, and no count is ever above 0
abbrev pub known_of : HonestlyStored → KnownFiles
known_of s = record {
  content = λ name. Some (bytes_of s.files name);
  faults = no_faults;
  taken = s.taken;
  given = s.given;
}

-- The files after a read of a name.
pub record IsAfterHonestRead {Z : Type 0} (old new : HonestlyStored) (name : List ℕ)
    (result : Result (Vec ℕ Z) FileFault) : Type 0 where
  pub files : new.files ≡ old.files
  pub taken : new.taken ≡ length (bytes_of old.files name)
  pub given : NotesReading old.given new.given name result
