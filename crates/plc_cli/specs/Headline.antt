-- What a 0 means, and when it comes.
use Rattle.std.specs.Prelude.{◌≡◌, ◌⊎◌, ◌≤◌, ℕ, List, Option, Some, length}
use Rattle.plc_base.specs.FileSizes.{largest_file, largest_certificate}
use Rattle.plc_outside.specs.Known.{KnownFiles}
use Rattle.plc_parse.specs.declared.unit.Unit.{Unit as FileUnit}
use Rattle.plc_flow.specs.Lowering.{flow_of}
use Rattle.plc_xfer.specs.Typings.{HasTyping}
use Rattle.plc_flow.specs.Skeleton.{skeleton_of}
use Rattle.plc_oblig.specs.Outlines.{OutlineHolds}
use Rattle.plc_run.specs.Run.{NeverRaces}
use Rattle.plc_check.specs.Loading.{IsFileOf}
use Rattle.plc_cli.specs.Requests.{Request, Check, Verify}
use Rattle.plc_cli.specs.Reads.{IsGivenFile, IsGivenPair}
use Rattle.plc_cli.specs.Statuses.{holds, unwritten, no_memory}

-- the bytes spell a program, and no run of it has a pointer race or a second retire
pub record IsSafeProgram (bytes : List ℕ) : Type 0 where
  pub unit : FileUnit
  pub spelled : IsFileOf bytes unit
  pub safe : NeverRaces (flow_of unit.file) unit.observer

-- a typing of the unit's flow exists, and its outline holds
pub record IsProved (u : FileUnit) : Type 0 where
  pub typed : HasTyping u.observer (skeleton_of (flow_of u.file))
  pub held : OutlineHolds (flow_of u.file) u.outline

-- the one read of this call, of the file of this name, gave bytes that spell a safe program
pub record IsSafeRead (old new : KnownFiles) (name : List ℕ) : Type 0 where
  pub bytes : List ℕ
  pub given : IsGivenFile old new name bytes
  pub safe : IsSafeProgram bytes

-- the two reads of this call, of the files of these names, gave bytes of which the first spell a safe program
pub record IsSafePair (old new : KnownFiles) (name certificate : List ℕ) : Type 0 where
  pub bytes : List ℕ
  pub second : List ℕ
  pub given : IsGivenPair old new name certificate largest_certificate bytes second
  pub safe : IsSafeProgram bytes

-- where the words ask for the check of a file, or for that of its certificate: by the bytes that its read gave, and by
-- its content where that is told
pub record Headline (request : Option Request) (old new : KnownFiles) (result : ℕ) : Type 0 where
  pub read : (name : List ℕ) → request ≡ Some (Check name) → result ≡ holds → IsSafeRead old new name
  pub sound : (name bytes : List ℕ) → request ≡ Some (Check name) → old.content name ≡ Some bytes → result ≡ holds
      → IsSafeProgram bytes
  -- where the file is read, 5 and 6 alone are left, each with its cause in the outcome
  pub complete : (name bytes : List ℕ) → request ≡ Some (Check name) → old.content name ≡ Some bytes
      → length bytes ≤ largest_file → new.faults name ≡ old.faults name
      → (u : FileUnit) → IsFileOf bytes u → IsProved u
      → (result ≡ holds) ⊎ ((result ≡ unwritten) ⊎ (result ≡ no_memory))
  pub only_proved : (name bytes : List ℕ) → request ≡ Some (Check name) → old.content name ≡ Some bytes
      → (u : FileUnit) → IsFileOf bytes u → result ≡ holds → IsProved u
  -- a certificate that is valid shows as much, whoever wrote it
  pub read_verified : (name certificate : List ℕ) → request ≡ Some (Verify name certificate) → result ≡ holds
      → IsSafePair old new name certificate
  pub verified : (name certificate bytes : List ℕ) → request ≡ Some (Verify name certificate)
      → old.content name ≡ Some bytes → result ≡ holds → IsSafeProgram bytes
