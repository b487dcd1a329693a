-- What there is to show of a file, and that it is read again and valid as it is written.
use Rattle.std.specs.Prelude.{◌≡◌, ℕ, List, [], ◌∷◌, ◌++◌, slice_get, Some, Ok}
use Rattle.plc_xfer.specs.Typings.{IsStrongest}
use Rattle.plc_flow.specs.declared.flow.Flow.{Flow}
use Rattle.plc_flow.specs.Skeleton.{skeleton_of}
use Rattle.plc_logic.specs.declared.clause.Outline.{Outline}
use Rattle.plc_ground.specs.declared.terms.Tree.{Tree}
use Rattle.plc_ground.specs.Trees.{SplitsOnce}
use Rattle.plc_vocabulary.specs.declared.obligations.Obligation.{Obligation}
use Rattle.plc_oblig.specs.Obligations.{obligations}
use Rattle.plc_oblig.specs.GroundSets.{ground_set}
use Rattle.plc_cert.specs.declared.cert.Cert.{Cert}
use Rattle.plc_cert.specs.Fits.{CertFits, stored}
use Rattle.plc_cert.specs.Shape.{reading}
use Rattle.plc_cert.specs.Written.{text}
use Rattle.plc_verify.specs.Validity.{IsValid}
use Rattle.plc_check.specs.declared.judged.Judged.{Judged}
use Rattle.plc_check.specs.declared.verdict.Verdict.TheVariants.{Safe, Untyped, Unproved}
use Rattle.plc_check.specs.declared.certified.Certified.{Certified}
use Rattle.plc_check.specs.declared.certified.Certified.TheVariants.{Yes, No}
use Rattle.plc_check.specs.Verdicts.{IsVerdictOn}

-- no branch of the tree with this number splits one clause twice
abbrev pub SplitsOnceAt : Flow → Outline → List Tree → ℕ → Type 0
SplitsOnceAt flow outline trees i =
    (o : Obligation) (t : Tree) → slice_get (obligations flow outline) i ≡ Some o → slice_get trees i ≡ Some t
    → SplitsOnce (ground_set flow outline o) ([] ∷ []) t.nodes

-- a valid certificate with the strongest typing, no branch of whose trees splits one clause twice; its text can be read
pub record ShowsSafe (j : Judged) (cert : Cert) : Type 0 where
  pub valid : IsValid j.flow j.observer j.unit_outline cert
  pub strongest : IsStrongest j.observer (skeleton_of j.flow) cert.env
  pub once : (i : ℕ) → SplitsOnceAt j.flow j.unit_outline cert.trees i
  pub fits : CertFits cert

-- a certificate, or a verdict that isn't safe
abbrev pub IsCertified : Judged → Certified → Type 0
IsCertified j (Yes cert) = ShowsSafe j cert
IsCertified j (No (Safe typing count)) = ⊥
IsCertified j (No (Untyped step prim fault)) = IsVerdictOn j (Untyped step prim fault)
IsCertified j (No (Unproved obligation set model)) = IsVerdictOn j (Unproved obligation set model)

-- the text of a certificate, with a line feed after it, is read, and what is read is valid
abbrev pub CertificatesAreVerified : Type 0
CertificatesAreVerified =
    (j : Judged) (cert : Cert) → ShowsSafe j cert
    → (reading (text cert ++ 10 ∷ []) ≡ Ok (stored cert)) × IsValid j.flow j.observer j.unit_outline (stored cert)
