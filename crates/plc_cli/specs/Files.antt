-- What is answered to the bytes of a file: why they are refused, or what is due for the unit that they spell.
use Rattle.std.specs.Prelude.{◌≡◌, ◌≢◌, ◌⊎◌, ℕ, List}
use Rattle.plc_parse.specs.declared.unit.Unit.{Unit as FileUnit}
use Rattle.plc_print.specs.Text.{canonical_text}
use Rattle.plc_check.specs.declared.judged.Judged.{Judged}
use Rattle.plc_check.specs.declared.judged.LoadFault.{LoadFault}
use Rattle.plc_check.specs.declared.judged.LoadFault.TheVariants.{Memory}
use Rattle.plc_check.specs.Loading.{IsFileOf}
use Rattle.plc_check.specs.Answered.{HasFault, judged_of}
use Rattle.plc_check.specs.Verdicts.{IsVerdictOn}
use Rattle.plc_cli.specs.Refusals.{load_fault_text}
use Rattle.plc_cli.specs.Statuses.{holds, refused}
use Rattle.plc_cli.specs.Verdicts.{verdict_status, verdict_text}

-- the bytes have a fault that is told, and spell no file
pub record IsRefusedFile (bytes : List ℕ) (status : ℕ) (text : List ℕ) : Type 0 where
  pub fault : LoadFault
  pub has : HasFault bytes fault
  pub told : fault ≢ Memory
  pub none : (u : FileUnit) → IsFileOf bytes u → ⊥
  pub status_is : status ≡ refused
  pub text_is : text ≡ load_fault_text fault

-- the bytes spell a file, for which this is due
pub record IsSpelledFile (IsDue : FileUnit → ℕ → List ℕ → Type 0) (bytes : List ℕ) (status : ℕ) (text : List ℕ)
    : Type 0 where
  pub unit : FileUnit
  pub spelled : IsFileOf bytes unit
  pub answer : IsDue unit status text

-- refused, or what is due
abbrev pub IsAnsweredFile : (FileUnit → ℕ → List ℕ → Type 0) → List ℕ → ℕ → List ℕ → Type 0
IsAnsweredFile IsDue bytes status text = IsRefusedFile bytes status text ⊎ IsSpelledFile IsDue bytes status text

-- something that is right, told by its status and its text
pub record IsTold {A : Type 0} (IsRight : A → Type 0) (status_of : A → ℕ) (text_of : A → List ℕ) (status : ℕ)
    (text : List ℕ) : Type 0 where
  pub what : A
  pub right : IsRight what
  pub status_is : status ≡ status_of what
  pub text_is : text ≡ text_of what

-- ---- the verdict on a file

-- any verdict that is right, since an outline that doesn't hold may have several models
abbrev pub IsJudgedAs : Judged → ℕ → List ℕ → Type 0
IsJudgedAs j = IsTold (IsVerdictOn j) verdict_status (verdict_text j)

-- what `check` answers to bytes: refused, or safe, untyped or unproved
abbrev pub IsAnswerTo : List ℕ → ℕ → List ℕ → Type 0
IsAnswerTo bytes status text = IsAnsweredFile (λ u. IsJudgedAs (judged_of u)) bytes status text

-- ---- the file in canonical text

-- the canonical text of the unit
pub record IsPrintedAs (unit : FileUnit) (status : ℕ) (text : List ℕ) : Type 0 where
  pub status_is : status ≡ holds
  pub text_is : text ≡ canonical_text unit

-- what `print` answers to bytes: refused or printed
abbrev pub IsPrintOf : List ℕ → ℕ → List ℕ → Type 0
IsPrintOf bytes status text = IsAnsweredFile IsPrintedAs bytes status text
