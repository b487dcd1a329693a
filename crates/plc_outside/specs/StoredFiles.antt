-- Files that lie in memory, and what a read of them answers.
use Rattle.std.specs.Prelude.{◌≡◌, ℕ, ◌<◌, ◌≤◌, ◌↔◌, if◌then◌else◌}
use Rattle.std.specs.Prelude.{List, [], length, find, map, String, string_bytes}
use Rattle.std.specs.Prelude.{Option, None, Some, IsSomeAnd, option_map, unwrap_or, Vec, Result, IfOk, IsErrOf}
use Rattle.std.specs.Str.{bytes_eq}
use Rattle.plc_outside.specs.Counts.{one_more, is_failing}
use Rattle.plc_outside.specs.Failures.{NotesFailure}
use Rattle.plc_outside.specs.Outside.{NotesReading}
use Rattle.plc_outside.specs.Reading.{Reading}
use Rattle.plc_outside.specs.declared.files.FileFault.{FileFault}
use Rattle.plc_outside.specs.declared.files.FileFault.TheVariants.{Failed, TooLong}

-- Names with their bytes, the calls that are to fail, how many calls there were, the names whose reads failed, the
-- bytes that the latest read took, and the reads that gave bytes.
pub record StoredFiles : Type 0 where
  pub files : List (List ℕ × List ℕ)
  pub failing : List ℕ
  pub calls : ℕ
  pub failed : List (List ℕ)
  pub taken : ℕ
  pub given : List Reading

module _ {Y Z : Type 0} where
  -- names and contents as their bytes
  abbrev pub entries_of : List (String Y × Vec ℕ Z) → List (List ℕ × List ℕ)
  entries_of files = map (λ entry. (string_bytes entry.0, entry.1.items)) files

-- the bytes under a name: of two entries of one name the first counts
abbrev pub content_of : List (List ℕ × List ℕ) → List ℕ → Option (List ℕ)
content_of files name = option_map (λ entry. entry.1) (find (λ entry. bytes_eq entry.0 name) files)

-- the bytes that the next read of a name finds: none where the call is to fail or the name is absent
abbrev pub found : StoredFiles → List ℕ → Option (List ℕ)
found s name = if is_failing s.failing (one_more s.calls) then None else content_of s.files name

-- The answer to a read that finds these bytes: nothing found fails, too many bytes are too long, and the bytes
-- themselves are `Ok`.
pub record Answers {Z : Type 0} (bytes : Option (List ℕ)) (max : ℕ) (result : Result (Vec ℕ Z) FileFault) : Type 0 where
  pub ok : IfOk result (λ v. (bytes ≡ Some v.items) × (length v.items ≤ max))
  pub failed : IsErrOf result Failed → bytes ≡ None
  pub long : IsErrOf result TooLong ↔ IsSomeAnd bytes (λ content. max < length content)

-- The files after a read of a name.
pub record IsAfterRead {Z : Type 0} (old new : StoredFiles) (name : List ℕ)
    (result : Result (Vec ℕ Z) FileFault) : Type 0 where
  pub files : new.files ≡ old.files
  pub failing : new.failing ≡ old.failing
  pub calls : new.calls ≡ one_more old.calls
  pub failed : NotesFailure old.failed new.failed name result
  pub taken : new.taken ≡ length (unwrap_or (found old name) [])
  pub given : NotesReading old.given new.given name result
