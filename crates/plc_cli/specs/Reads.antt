-- What the reads of a call come to, by what is known of the files before and after.
use Rattle.std.specs.Prelude.{◌≡◌, ◌⊎◌, ℕ, ◌<◌, ◌≤◌, List, [], ◌∷◌, ◌++◌, length, IfSome}
use Rattle.plc_base.specs.FileSizes.{largest_file}
use Rattle.plc_outside.specs.Known.{KnownFiles}
use Rattle.plc_outside.specs.Reading.{Reading}
use Rattle.plc_answers.specs.Refusals.{read_failed_text, read_too_long_text}
use Rattle.plc_cli.specs.declared.reading.Content.{Content}
use Rattle.plc_cli.specs.declared.reading.Content.TheVariants as one
use Rattle.plc_cli.specs.declared.reading.Contents.{Contents}
use Rattle.plc_cli.specs.declared.reading.Contents.TheVariants as two
use Rattle.plc_cli.specs.Statuses.{unread}

-- no content changes, and no count falls
pub record FilesAreKept (old new : KnownFiles) : Type 0 where
  pub content : (name : List ℕ) → new.content name ≡ old.content name
  pub faults : (name : List ℕ) → old.faults name ≤ new.faults name

-- the reads that gave bytes in this call are these
abbrev pub Gave : KnownFiles → KnownFiles → List Reading → Type 0
Gave old new reads = new.given ≡ old.given ++ reads

-- a fault of another name than those that were read would be told
abbrev pub NoFaultBut : (List ℕ → Type 0) → KnownFiles → KnownFiles → Type 0
NoFaultBut may old new = (other : List ℕ) → (may other → ⊥) → new.faults other ≡ old.faults other

-- the one name that is read
abbrev pub Only : List ℕ → List ℕ → Type 0
Only name other = other ≡ name

-- the two names that are read
abbrev pub Either : List ℕ → List ℕ → List ℕ → Type 0
Either first second other = (other ≡ first) ⊎ (other ≡ second)

-- a name with the bytes that its read gave
abbrev pub reading : List ℕ → List ℕ → Reading
reading name bytes = record { name = name; bytes = bytes }

-- ---- one read, after reads that gave bytes in this call

-- the count of the name that was read rose
pub record IsReadFailed (may : List ℕ → Type 0) (old new : KnownFiles) (before : List Reading) (name : List ℕ)
    (status : ℕ) (text : List ℕ) : Type 0 where
  pub rose : old.faults name < new.faults name
  pub others : NoFaultBut may old new
  pub gave : Gave old new before
  pub status_is : status ≡ unread
  pub text_is : text ≡ read_failed_text

-- more bytes were taken than the file may have, and where the content is told it is longer
pub record IsReadTooLong (may : List ℕ → Type 0) (old new : KnownFiles) (before : List Reading) (name : List ℕ)
    (most : ℕ) (status : ℕ) (text : List ℕ) : Type 0 where
  pub others : NoFaultBut may old new
  pub gave : Gave old new before
  pub long : most < new.taken
  pub told : IfSome (old.content name) (λ c. most < length c)
  pub status_is : status ≡ unread
  pub text_is : text ≡ read_too_long_text

-- the read gave no bytes: it failed, or the file is too long
abbrev pub IsUnread : (List ℕ → Type 0) → KnownFiles → KnownFiles → List Reading → List ℕ → ℕ → ℕ → List ℕ → Type 0
IsUnread may old new before name most status text =
    IsReadFailed may old new before name status text ⊎ IsReadTooLong may old new before name most status text

-- these bytes were read, which are the content where that is told
pub record IsRead (old : KnownFiles) (name : List ℕ) (most : ℕ) (bytes : List ℕ) : Type 0 where
  pub short : length bytes ≤ most
  pub told : IfSome (old.content name) (λ c. bytes ≡ c)

-- ---- a command that reads one file

-- the read of the file gave these bytes, and there was no other
pub record IsGivenFile (old new : KnownFiles) (name bytes : List ℕ) : Type 0 where
  pub others : NoFaultBut (Only name) old new
  pub read : IsRead old name largest_file bytes
  pub gave : Gave old new (reading name bytes ∷ [])

-- what a command with one file comes to: the file can't be read, or its bytes are answered
abbrev pub IsDueForFile : KnownFiles → KnownFiles → List ℕ → (List ℕ → Type 0) → ℕ → List ℕ → Type 0
IsDueForFile old new name Answers status text =
    IsUnread (Only name) old new [] name largest_file status text
    ⊎ ((bytes : List ℕ) × IsGivenFile old new name bytes × Answers bytes)

-- ---- a command that reads two files, of which the second has at most so many bytes

-- the first file was read, and the second can't be
pub record IsSecondUnread (old new : KnownFiles) (first second : List ℕ) (most : ℕ) (status : ℕ)
    (text : List ℕ) : Type 0 where
  pub bytes : List ℕ
  pub read : IsRead old first largest_file bytes
  pub unread : IsUnread (Either first second) old new (reading first bytes ∷ []) second most status text

-- the first file that can't be read is the answer
abbrev pub IsUnreadPair : KnownFiles → KnownFiles → List ℕ → List ℕ → ℕ → ℕ → List ℕ → Type 0
IsUnreadPair old new first second most status text =
    IsUnread (Only first) old new [] first largest_file status text
    ⊎ IsSecondUnread old new first second most status text

-- the reads of the two files gave these bytes, in their order, and there was no other
pub record IsGivenPair (old new : KnownFiles) (first second : List ℕ) (most : ℕ) (bytes more : List ℕ) : Type 0 where
  pub others : NoFaultBut (Either first second) old new
  pub read : IsRead old first largest_file bytes
  pub read_second : IsRead old second most more
  pub gave : Gave old new (reading first bytes ∷ reading second more ∷ [])

-- what a command with two files comes to
abbrev pub IsDueForPair : KnownFiles → KnownFiles → List ℕ → List ℕ → ℕ → (List ℕ → List ℕ → Type 0) → ℕ → List ℕ
    → Type 0
IsDueForPair old new first second most Answers status text =
    IsUnreadPair old new first second most status text
    ⊎ ((bytes : List ℕ) × (more : List ℕ) × IsGivenPair old new first second most bytes more × Answers bytes more)

-- ---- what the code of a read answers

-- a read of a file of at most so many bytes gave these
pub record IsFound (old new : KnownFiles) (name : List ℕ) (most : ℕ) (bytes : List ℕ) : Type 0 where
  pub others : NoFaultBut (Only name) old new
  pub read : IsRead old name most bytes
  pub gave : Gave old new (reading name bytes ∷ [])

-- what a read came to: bytes, or the answer where there are none
abbrev pub IsContentOf : KnownFiles → KnownFiles → List ℕ → ℕ → Content → Type 0
IsContentOf old new name most (one.Read bytes) = IsFound old new name most bytes.items
IsContentOf old new name most (one.Unread answer) =
    IsUnread (Only name) old new [] name most answer.status answer.text.items

-- what two reads came to, one after the other
abbrev pub AreContentsOf : KnownFiles → KnownFiles → List ℕ → List ℕ → ℕ → Contents → Type 0
AreContentsOf old new first second most (two.Read bytes more) =
    IsGivenPair old new first second most bytes.items more.items
AreContentsOf old new first second most (two.Unread answer) =
    IsUnreadPair old new first second most answer.status answer.text.items
