-- From a certificate that is valid to what a 0 of `verify` says: the file is safe.
use Rattle.std.proofs.Common.{◌≡◌, inl, inr, ℕ, List, Some, subst}
use Rattle.plc_base.specs.FileSizes.{largest_certificate}
use Rattle.plc_outside.specs.Known.{KnownFiles}
use Rattle.plc_parse.specs.declared.unit.Unit.{Unit as FileUnit}
use Rattle.plc_flow.specs.Lowering.{flow_of}
use Rattle.plc_cert.specs.declared.cert.Cert.{Cert}
use Rattle.plc_verify.proofs.Refused.{valid_prove}
use Rattle.plc_check.specs.Loading.{IsFileOf}
use Rattle.plc_check.specs.Answered.{judged_of}
use Rattle.plc_cli.specs.Certificates.{IsVerificationOf, IsCertificateAnswered, IsCertificateJudged}
use Rattle.plc_cli.specs.Headline.{IsSafeProgram, IsSafePair}
use Rattle.plc_cli.specs.Reads.{IsDueForPair}
use Rattle.plc_cli.proofs.Racing.{never_races}
use Rattle.plc_cli.proofs.TwoReads.{told_is, unread_pair_status}

-- what is due for a file and its certificate
abbrev pub IsDue : ℕ → List ℕ → KnownFiles → KnownFiles → List ℕ → List ℕ → Type 0
IsDue status text old new name certificate =
    IsDueForPair old new name certificate largest_certificate (λ bytes second. IsVerificationOf bytes second status text) status text

module _ (status : ℕ) (text : List ℕ) (is_0 : status ≡ 0) where
  module _ (bytes : List ℕ) (u : FileUnit) (spelled : IsFileOf bytes u) where
    judged_safe : (cert : Cert) → IsCertificateJudged (judged_of u) cert status text → IsSafeProgram bytes
    judged_safe cert (inl verified) =
        let proves = valid_prove (flow_of u.file) u.observer u.outline cert verified.valid in
        record { unit = u; spelled = spelled; safe = never_races bytes u spelled (record { typed = proves.0; held = proves.1 }) }
    judged_safe cert (inr invalid) = let is = invalid.status_is in absurd cc

    certificate_safe : (second : List ℕ) → IsCertificateAnswered (judged_of u) second status text → IsSafeProgram bytes
    certificate_safe second (inl refused) = let is = refused.status_is in absurd cc
    certificate_safe second (inr judged) = judged_safe judged.cert judged.answer

  verification_safe : (bytes second : List ℕ) → IsVerificationOf bytes second status text → IsSafeProgram bytes
  verification_safe bytes second (inl refused) = let is = refused.status_is in absurd cc
  verification_safe bytes second (inr spelled) =
      certificate_safe bytes spelled.unit spelled.spelled second spelled.answer

  module _ (old new : KnownFiles) (name certificate : List ℕ) where
    pub safe_pair : IsDue status text old new name certificate → IsSafePair old new name certificate
    safe_pair (inl unread) = let is = unread_pair_status status text _ _ _ _ _ unread in absurd cc
    safe_pair (inr due) = record { bytes = due.0; second = due.1; given = due.2; safe = verification_safe due.0 due.1 due.3 }

    pub safe_content : (content : List ℕ) → old.content name ≡ Some content → IsDue status text old new name certificate → IsSafeProgram content
    safe_content content told (inl unread) = let is = unread_pair_status status text _ _ _ _ _ unread in absurd cc
    safe_content content told (inr due) =
        verification_safe content due.1 (subst (λ (bytes : List ℕ). IsVerificationOf bytes due.1 status text) (told_is (old.content name) due.0 content due.2.read.told told) due.3)
