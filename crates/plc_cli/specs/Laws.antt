-- What two commands answer, together.
use Rattle.std.specs.Prelude.{◌≡◌, ℕ, List, length}
use Rattle.plc_parse.specs.declared.unit.Unit.{Unit as FileUnit}
use Rattle.plc_flow.specs.Lowering.{flow_of}
use Rattle.plc_oblig.specs.Obligations.{obligations}
use Rattle.plc_check.specs.Loading.{IsFileOf}
use Rattle.plc_answers.specs.Certificates.{verified_text}
use Rattle.plc_cli.specs.Certificates.{IsCertificateOf, IsVerificationOf}
use Rattle.plc_cli.specs.Statuses.{holds}

-- the text that is answered to a valid certificate
abbrev pub verified_line : FileUnit → List ℕ
verified_line u = verified_text (flow_of u.file) (length (obligations (flow_of u.file) u.outline))

-- to the bytes of a file and what `certify` answers to them with 0, `verify` answers with 0 and the text of a valid
-- certificate, and nothing else
abbrev pub CertifiedFilesVerify : Type 0
CertifiedFilesVerify =
    (bytes certificate : List ℕ) (u : FileUnit) → IsFileOf bytes u → IsCertificateOf bytes holds certificate
    → IsVerificationOf bytes certificate holds (verified_line u)
    × ((status : ℕ) (text : List ℕ) → IsVerificationOf bytes certificate status text
    → (status ≡ holds) × (text ≡ verified_line u))
