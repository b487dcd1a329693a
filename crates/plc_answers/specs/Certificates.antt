-- A certificate as a line, and what is said of one: why its bytes are none, that it is valid, or its first item that
-- fails. Each line ends with a line feed.
use Rattle.std.specs.Prelude.{ℕ, List, [], ◌++◌, codes, decimal, slice_get}
use Rattle.plc_lang.specs.declared.syntax.Var.TheVariants as vars
use Rattle.plc_lang.specs.declared.syntax.File.{File}
use Rattle.plc_lang.specs.Names.{operation_name}
use Rattle.plc_flow.specs.declared.flow.Flow.{Flow}
use Rattle.plc_cert.specs.declared.cert.Cert.{Cert}
use Rattle.plc_cert.specs.declared.cert.CertField.TheVariants.{Root, Version, Env, Trees}
use Rattle.plc_cert.specs.declared.cert.CertFault.{CertFault}
use Rattle.plc_cert.specs.declared.cert.CertFault.TheVariants as cert
use Rattle.plc_cert.specs.Written as written
use Rattle.plc_verify.specs.declared.fault.Slot.{Slot}
use Rattle.plc_verify.specs.declared.fault.Slot.TheVariants.{W, Local}
use Rattle.plc_verify.specs.declared.fault.VerifyFault.{VerifyFault}
use Rattle.plc_verify.specs.declared.fault.VerifyFault.TheVariants as verify
use Rattle.plc_verify.specs.declared.fault.VerifyFault.TheVariants.{EnvCount, EnvAt, EntryAt, TypeAt, FlowAt}
use Rattle.plc_verify.specs.declared.fault.VerifyFault.TheVariants.{TreeCount, TreeAt, Memory}
use Rattle.plc_answers.specs.Counts.{counts_text}
use Rattle.plc_answers.specs.Names.{variable_in}
use Rattle.plc_answers.specs.Steps.{step_operation}

-- the certificate
abbrev pub certificate_line : Cert → List ℕ
certificate_line cert = written.text cert ++ codes "\n"

-- ---- bytes that are no certificate

-- refused certificate json; refused certificate field NAME, of each part; refused certificate version N; running out
-- of memory has no text
abbrev pub certificate_fault_text : CertFault → List ℕ
certificate_fault_text cert.NotJson = codes "refused certificate json\n"
certificate_fault_text (cert.Shape Root) = codes "refused certificate field root\n"
certificate_fault_text (cert.Shape Version) = codes "refused certificate field version\n"
certificate_fault_text (cert.Shape Env) = codes "refused certificate field env\n"
certificate_fault_text (cert.Shape Trees) = codes "refused certificate field trees\n"
certificate_fault_text (cert.Version n) = codes "refused certificate version " ++ decimal n ++ codes "\n"
certificate_fault_text cert.Memory = []

-- ---- certificates that are judged

-- verified points P steps S obligations O
abbrev pub verified_text : Flow → ℕ → List ℕ
verified_text flow obligations = codes "verified" ++ counts_text flow obligations ++ codes "\n"

-- VAR: W, or the name of the pointer local of an operation
abbrev pub slot_name : File → ℕ → Slot → List ℕ
slot_name file op W = codes "W"
slot_name file op (Local v) = variable_in file op (vars.Local v)

-- two numbers, each after words
abbrev pub pair_text : List ℕ → ℕ → List ℕ → ℕ → List ℕ
pair_text first a second b = first ++ decimal a ++ second ++ decimal b ++ codes "\n"

-- invalid version HAVE WANT; invalid envs HAVE WANT; invalid env P; invalid entry OP VAR; invalid type step S prim K;
-- invalid flow step S VAR; invalid trees HAVE WANT; invalid tree I node K; running out of memory has no text
abbrev pub invalid_text : Flow → VerifyFault → List ℕ
invalid_text flow (verify.Version have want) = pair_text (codes "invalid version ") have (codes " ") want
invalid_text flow (EnvCount have want) = pair_text (codes "invalid envs ") have (codes " ") want
invalid_text flow (EnvAt p) = codes "invalid env " ++ decimal p.0 ++ codes "\n"
invalid_text flow (EntryAt op var) =
    codes "invalid entry " ++ operation_name flow.file op ++ codes " " ++ slot_name flow.file op.0 var ++ codes "\n"
invalid_text flow (TypeAt k i) = pair_text (codes "invalid type step ") k.0 (codes " prim ") i
invalid_text flow (FlowAt k var) =
    codes "invalid flow step " ++ decimal k.0
    ++ codes " " ++ slot_name flow.file (step_operation (slice_get flow.steps k.0)) var ++ codes "\n"
invalid_text flow (TreeCount have want) = pair_text (codes "invalid trees ") have (codes " ") want
invalid_text flow (TreeAt i node) = pair_text (codes "invalid tree ") i (codes " node ") node
invalid_text flow Memory = []
