-- What `certify` and `verify` answer.
use Rattle.std.specs.Prelude.{◌≡◌, ◌≢◌, ◌⊎◌, ℕ, List, length, Ok, Err}
use Rattle.plc_oblig.specs.Obligations.{obligations}
use Rattle.plc_cert.specs.declared.cert.Cert.{Cert}
use Rattle.plc_cert.specs.declared.cert.CertFault.{CertFault}
use Rattle.plc_cert.specs.declared.cert.CertFault.TheVariants as faults
use Rattle.plc_cert.specs.Shape.{reading}
use Rattle.plc_verify.specs.declared.fault.VerifyFault.{VerifyFault}
use Rattle.plc_verify.specs.Validity.{IsValid, IsFirstFault}
use Rattle.plc_check.specs.declared.judged.Judged.{Judged}
use Rattle.plc_check.specs.declared.certified.Certified.{Certified}
use Rattle.plc_check.specs.declared.certified.Certified.TheVariants.{Yes, No}
use Rattle.plc_check.specs.Answered.{judged_of}
use Rattle.plc_check.specs.Certified.{IsCertified}
use Rattle.plc_answers.specs.Certificates.{certificate_line, certificate_fault_text, verified_text, invalid_text}
use Rattle.plc_cli.specs.Files.{IsAnsweredFile, IsTold}
use Rattle.plc_cli.specs.Statuses.{holds, fails, refused}
use Rattle.plc_cli.specs.Verdicts.{verdict_status, verdict_text}

-- ---- a certificate that is written

-- a certificate holds, and a verdict that isn't safe fails
abbrev pub certified_status : Certified → ℕ
certified_status (Yes cert) = holds
certified_status (No verdict) = verdict_status verdict

-- the certificate, or the verdict
abbrev pub certified_text : Judged → Certified → List ℕ
certified_text j (Yes cert) = certificate_line cert
certified_text j (No verdict) = verdict_text j verdict

-- any certificate that is right, or the verdict on a file that isn't safe
abbrev pub IsCertifiedAs : Judged → ℕ → List ℕ → Type 0
IsCertifiedAs j = IsTold (IsCertified j) certified_status (certified_text j)

-- what `certify` answers to bytes: refused, or certified, or not safe
abbrev pub IsCertificateOf : List ℕ → ℕ → List ℕ → Type 0
IsCertificateOf bytes status text = IsAnsweredFile (λ u. IsCertifiedAs (judged_of u)) bytes status text

-- ---- a certificate that is judged

-- the bytes are no certificate, and this is why
pub record IsRefusedCertificate (bytes : List ℕ) (status : ℕ) (text : List ℕ) : Type 0 where
  pub fault : CertFault
  pub is_fault : reading bytes ≡ Err fault
  pub told : fault ≢ faults.Memory
  pub status_is : status ≡ refused
  pub text_is : text ≡ certificate_fault_text fault

-- the certificate is valid
pub record IsVerified (j : Judged) (cert : Cert) (status : ℕ) (text : List ℕ) : Type 0 where
  pub valid : IsValid j.flow j.observer j.unit_outline cert
  pub status_is : status ≡ holds
  pub text_is : text ≡ verified_text j.flow (length (obligations j.flow j.unit_outline))

-- it isn't, and its first item that fails is told
pub record IsInvalid (j : Judged) (cert : Cert) (status : ℕ) (text : List ℕ) : Type 0 where
  pub fault : VerifyFault
  pub first : IsFirstFault j.flow j.observer j.unit_outline cert fault
  pub invalid : IsValid j.flow j.observer j.unit_outline cert → ⊥
  pub status_is : status ≡ fails
  pub text_is : text ≡ invalid_text j.flow fault

-- a certificate is told to be valid, or its first fault is told
abbrev pub IsCertificateJudged : Judged → Cert → ℕ → List ℕ → Type 0
IsCertificateJudged j cert status text = IsVerified j cert status text ⊎ IsInvalid j cert status text

-- the bytes are a certificate, which is judged
pub record IsJudgedCertificate (j : Judged) (bytes : List ℕ) (status : ℕ) (text : List ℕ) : Type 0 where
  pub cert : Cert
  pub read : reading bytes ≡ Ok cert
  pub answer : IsCertificateJudged j cert status text

-- what is answered to a certificate for a flow that was loaded: refused or judged
abbrev pub IsCertificateAnswered : Judged → List ℕ → ℕ → List ℕ → Type 0
IsCertificateAnswered j bytes status text =
    IsRefusedCertificate bytes status text ⊎ IsJudgedCertificate j bytes status text

-- what `verify` answers to the bytes of a file and of a certificate; the file's refusals go first
abbrev pub IsVerificationOf : List ℕ → List ℕ → ℕ → List ℕ → Type 0
IsVerificationOf bytes second status text =
    IsAnsweredFile (λ u. IsCertificateAnswered (judged_of u) second) bytes status text
