-- What is read of the text of a certificate: that certificate, where its guarantees are of the four sets, and else a
-- refusal.
use Rattle.std.specs.Prelude.{◌≡◌, ◌<◌, ◌^◌, [], map, Bool, true, if◌then◌else◌, Result, Ok, Err}
use Rattle.std.specs.List.{AllByRecursion, list_all}
use Rattle.plc_type.specs.Guarantees.{is_guarantee_set}
use Rattle.plc_type.specs.declared.env.PtrType.{PtrType}
use Rattle.plc_type.specs.declared.env.Env.{Env}
use Rattle.plc_ground.specs.declared.terms.Node.{Node}
use Rattle.plc_ground.specs.declared.terms.Node.TheVariants.{Split, Leaf}
use Rattle.plc_ground.specs.declared.terms.Tree.{Tree}
use Rattle.plc_cert.specs.declared.cert.Cert.{Cert}
use Rattle.plc_cert.specs.declared.cert.CertFault.{CertFault}
use Rattle.plc_cert.specs.declared.cert.CertFault.TheVariants as fault
use Rattle.plc_cert.specs.declared.cert.CertField.TheVariants as field
use Rattle.plc_cert.specs.Shape.{is_version}

-- numbers of 32 bits
abbrev pub NodeFits : Node → Type 0
NodeFits (Split c) = c < 2 ^ 32
NodeFits (Leaf a b) = (a < 2 ^ 32) × (b < 2 ^ 32)

-- each node of a tree
abbrev pub TreeFits : Tree → Type 0
TreeFits t = AllByRecursion NodeFits t.nodes

-- one of the four sets of guarantees, and a set of numbers below 8
abbrev pub PointerFits : PtrType → Type 0
PointerFits t = (is_guarantee_set t.g ≡ true) × (t.m < 256)

-- W and each type of a local
abbrev pub EnvFits : Env → Type 0
EnvFits e = (e.w < 256) × AllByRecursion PointerFits e.locals

-- the version is 1 or 2 and the guarantees are of the four sets; the other numbers are those that their types can hold
abbrev pub CertFits : Cert → Type 0
CertFits c = (is_version c.version ≡ true) × AllByRecursion EnvFits c.env × AllByRecursion TreeFits c.trees

-- the numbers of a type are those that a `PtrType` can hold: 8 bits for guarantees, and a set of numbers below 8
abbrev pub PointerIsInRange : PtrType → Type 0
PointerIsInRange t = (t.g.0 < 256) × (t.m < 256)

-- those of an environment
abbrev pub EnvIsInRange : Env → Type 0
EnvIsInRange e = (e.w < 256) × AllByRecursion PointerIsInRange e.locals

-- the numbers are those that a `Cert` can hold: so it is with every one that a program has
abbrev pub IsInRange : Cert → Type 0
IsInRange c = (c.version < 256) × AllByRecursion EnvIsInRange c.env × AllByRecursion TreeFits c.trees

-- the guarantees of each local are of the four sets
abbrev pub are_guarantees : Env → Bool
are_guarantees e = list_all (λ t. is_guarantee_set t.g) e.locals

-- an environment without the types of shared pointers
abbrev pub without_shared : Env → Env
without_shared e = record { shared = []; locals = e.locals; w = e.w }

-- what the text has of a certificate
abbrev pub stored : Cert → Cert
stored c = record { version = c.version; env = map without_shared c.env; trees = c.trees }

-- what the text has; or that `env` is no list of environments, where some local of some point has guarantees of no set
abbrev pub with_guarantees : Cert → Result Cert CertFault
with_guarantees c = if list_all are_guarantees c.env then Ok (stored c) else Err (fault.Shape field.Env)

-- what is read of a certificate's text: that there is no such version, or else this
abbrev pub read_back : Cert → Result Cert CertFault
read_back c = if is_version c.version then with_guarantees c else Err (fault.Version c.version)
