-- When a certificate is valid for a flow and an outline, and why it isn't: the first item that fails.
use Rattle.std.specs.Prelude.{◌≡◌, ◌⊎◌, ℕ, if◌then◌else◌}
use Rattle.plc_auto.specs.declared.observer.Observer.{Observer}
use Rattle.plc_xfer.specs.Typings.{IsTyping, HasTyping}
use Rattle.plc_flow.specs.declared.flow.Flow.{Flow}
use Rattle.plc_flow.specs.Skeleton.{skeleton_of}
use Rattle.plc_logic.specs.declared.clause.Outline.{Outline}
use Rattle.plc_vocabulary.specs.Marks.{program_uses_marks}
use Rattle.plc_oblig.specs.Outlines.{OutlineHolds}
use Rattle.plc_cert.specs.declared.cert.Cert.{Cert}
use Rattle.plc_verify.specs.declared.fault.VerifyFault.{VerifyFault}
use Rattle.plc_verify.specs.declared.fault.VerifyFault.TheVariants.{Version, EnvCount, EnvAt, EntryAt, TypeAt, FlowAt}
use Rattle.plc_verify.specs.declared.fault.VerifyFault.TheVariants.{TreeCount, TreeAt, Memory}
use Rattle.plc_verify.specs.Environments.{completed, AreOther, IsTypingFault}
use Rattle.plc_verify.specs.Trees.{TreesClose, IsTreeFault}

-- the version of the certificates of a file, by whether it uses marks
abbrev pub certificate_version : Flow → Outline → ℕ
certificate_version flow outline = if program_uses_marks flow outline then 2 else 1

-- the version is that of the file, the environments are a typing, and there is one tree for each obligation, in order,
-- which closes its ground set
pub record IsValid (flow : Flow) (o : Observer) (outline : Outline) (cert : Cert) : Type 0 where
  pub version : cert.version ≡ certificate_version flow outline
  pub typing : IsTyping o (skeleton_of flow) (completed flow cert.env)
  pub trees : TreesClose flow outline cert.trees

-- another version than that of the file
abbrev pub IsVersionFault : Flow → Outline → Cert → VerifyFault → Type 0
IsVersionFault flow outline cert (Version have want) =
    AreOther have want cert.version (certificate_version flow outline)
IsVersionFault flow outline cert (EnvCount have want) = ⊥
IsVersionFault flow outline cert (EnvAt point) = ⊥
IsVersionFault flow outline cert (EntryAt op var) = ⊥
IsVersionFault flow outline cert (TypeAt step prim) = ⊥
IsVersionFault flow outline cert (FlowAt step var) = ⊥
IsVersionFault flow outline cert (TreeCount have want) = ⊥
IsVersionFault flow outline cert (TreeAt obligation node) = ⊥
IsVersionFault flow outline cert Memory = ⊥

-- the environments are judged after the version, where this is that of the file
pub record HasTypingFault (flow : Flow) (o : Observer) (outline : Outline) (cert : Cert)
    (fault : VerifyFault) : Type 0 where
  pub version : cert.version ≡ certificate_version flow outline
  pub is_fault : IsTypingFault o (skeleton_of flow) (completed flow cert.env) fault

-- and the trees after the environments, where these are a typing
pub record HasTreeFault (flow : Flow) (o : Observer) (outline : Outline) (cert : Cert)
    (fault : VerifyFault) : Type 0 where
  pub version : cert.version ≡ certificate_version flow outline
  pub typing : IsTyping o (skeleton_of flow) (completed flow cert.env)
  pub is_fault : IsTreeFault flow outline cert.trees fault

-- the first item that fails
abbrev pub IsFirstFault : Flow → Observer → Outline → Cert → VerifyFault → Type 0
IsFirstFault flow o outline cert fault =
    IsVersionFault flow outline cert fault ⊎ HasTypingFault flow o outline cert fault
    ⊎ HasTreeFault flow o outline cert fault

-- why a certificate is refused: the first item that fails, so that it isn't valid; memory may run out
abbrev pub IsRefused : Flow → Observer → Outline → Cert → VerifyFault → Type 0
IsRefused flow o outline cert Memory = Unit {0}
IsRefused flow o outline cert fault =
    IsFirstFault flow o outline cert fault × (IsValid flow o outline cert → ⊥)

-- a valid certificate shows that there is a typing, and that the outline holds
abbrev pub ValidCertificatesProve : Type 0
ValidCertificatesProve =
    (flow : Flow) (o : Observer) (outline : Outline) (cert : Cert) → IsValid flow o outline cert
    → HasTyping o (skeleton_of flow) × OutlineHolds flow outline
