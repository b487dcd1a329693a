-- What `certify` writes is read again, as a certificate that is valid for the one unit that the bytes spell, and so
-- `verify` can answer nothing else.
use Rattle.std.proofs.Common.{◌≡◌, ℕ, List, length, Ok, Err, inl, inr, refl, sym, ap, ◌∙◌, subst}
use Rattle.plc_oblig.specs.Obligations.{obligations}
use Rattle.plc_parse.specs.declared.unit.Unit.{Unit as FileUnit}
use Rattle.plc_cert.specs.declared.cert.Cert.{Cert}
use Rattle.plc_cert.specs.Fits.{stored}
use Rattle.plc_cert.specs.Shape.{reading}
use Rattle.plc_verify.specs.Validity.{IsValid}
use Rattle.plc_check.specs.declared.judged.Judged.{Judged}
use Rattle.plc_check.specs.declared.certified.Certified.{Certified}
use Rattle.plc_check.specs.declared.certified.Certified.TheVariants.{Yes, No}
use Rattle.plc_check.specs.declared.verdict.Verdict.TheVariants.{Safe, Untyped, Unproved}
use Rattle.plc_check.specs.Loading.{IsFileOf}
use Rattle.plc_check.specs.Answered.{judged_of}
use Rattle.plc_check.specs.Certified.{IsCertified}
use Rattle.plc_check.proofs.Readable.{read_and_valid}
use Rattle.plc_check.proofs.Unique.{one_file}
use Rattle.plc_answers.specs.Certificates.{verified_text}
use Rattle.plc_cli.specs.Certificates.{IsCertificateOf, IsCertificateJudged, IsCertificateAnswered, IsVerificationOf}
use Rattle.plc_cli.specs.Certificates.{certified_status, certified_text}
use Rattle.plc_cli.specs.Laws.{verified_line, CertifiedFilesVerify}
use Rattle.plc_cli.specs.Statuses.{holds}

-- bytes that are read as a certificate that is valid
pub record AreValid (j : Judged) (bytes : List ℕ) : Type 0 where
  pub cert : Cert
  pub read : reading bytes ≡ Ok cert
  pub valid : IsValid j.flow j.observer j.unit_outline cert

-- what is answered to them
abbrev IsAccepted : Judged → ℕ → List ℕ → Type 0
IsAccepted j status text = (status ≡ holds) × (text ≡ verified_text j.flow (length (obligations j.flow j.unit_outline)))

module _ (j : Judged) (bytes : List ℕ) where
  -- an answer with 0 is a certificate
  shown : (c : Certified) → IsCertified j c → holds ≡ certified_status c → bytes ≡ certified_text j c → AreValid j bytes
  shown (Yes cert) right status text =
      let law = read_and_valid j cert right in
      record { cert = stored cert; read = ap reading text ∙ law.0; valid = law.1 }
  shown (No (Safe typing count)) right status text = absurd right
  shown (No (Untyped step prim fault)) right status text = absurd cc
  shown (No (Unproved o set model)) right status text = absurd cc

  module _ (are : AreValid j bytes) (status : ℕ) (text : List ℕ) where
    judged_so : (cert : Cert) → reading bytes ≡ Ok cert → IsCertificateJudged j cert status text → IsAccepted j status text
    judged_so cert read (inl verified) = (verified.status_is, verified.text_is)
    judged_so cert read (inr invalid) =
        let both : Ok are.cert ≡ Ok cert = sym are.read ∙ read in
        let same : are.cert ≡ cert = cc in
        absurd (invalid.invalid (subst (λ (c : Cert). IsValid j.flow j.observer j.unit_outline c) same are.valid))

    accepted : IsCertificateAnswered j bytes status text → IsAccepted j status text
    accepted (inl refused) = let both : Ok are.cert ≡ Err refused.fault = sym are.read ∙ refused.is_fault in absurd cc
    accepted (inr judged) = judged_so judged.cert judged.read judged.answer

-- of the unit that the bytes of the file spell
of_unit : (bytes certificate : List ℕ) (u : FileUnit) → IsFileOf bytes u
    → IsCertificateOf bytes holds certificate → AreValid (judged_of u) certificate
of_unit bytes certificate u spelled (inl refused) = absurd (refused.none u spelled)
of_unit bytes certificate u spelled (inr file) =
    subst (λ (v : FileUnit). AreValid (judged_of v) certificate) (one_file bytes file.unit u file.spelled spelled)
    (shown (judged_of file.unit) certificate file.answer.what file.answer.right file.answer.status_is file.answer.text_is)

-- `verify` may answer so
is_accepted : (bytes certificate : List ℕ) (u : FileUnit) → IsFileOf bytes u → AreValid (judged_of u) certificate
    → IsVerificationOf bytes certificate holds (verified_line u)
is_accepted bytes certificate u spelled are = inr (record {
  unit = u;
  spelled = spelled;
  answer = inr (record {
    cert = are.cert;
    read = are.read;
    answer = inl (record { valid = are.valid; status_is = refl; text_is = refl });
  });
})

-- and can't answer otherwise
is_only : (bytes certificate : List ℕ) (u : FileUnit) → IsFileOf bytes u → AreValid (judged_of u) certificate
    → (status : ℕ) (text : List ℕ) → IsVerificationOf bytes certificate status text
    → (status ≡ holds) × (text ≡ verified_line u)
is_only bytes certificate u spelled are status text (inl refused) = absurd (refused.none u spelled)
is_only bytes certificate u spelled are status text (inr file) =
    accepted (judged_of u) certificate are status text
    (subst (λ (v : FileUnit). IsCertificateAnswered (judged_of v) certificate status text)
    (one_file bytes file.unit u file.spelled spelled) file.answer)

pub certified_verify : CertifiedFilesVerify
certified_verify bytes certificate u spelled certified =
    let are = of_unit bytes certificate u spelled certified in
    (is_accepted bytes certificate u spelled are, is_only bytes certificate u spelled are)
