-- Which certificate a JSON value is, part by part, and which refusal comes first.
use Rattle.std.specs.Prelude.{◌≡◌, ◌≢◌, ℕ, ◌+◌, ◌^◌, ◌==◌, List, [], ◌∷◌}
use Rattle.std.specs.Prelude.{if◌then◌else◌, nat_lt, nat_le, codes, ◌&&◌, ◌||◌, Bool, bytes_eq}
use Rattle.std.specs.Prelude.{Option, Some, None, option_map, option_and_then, Result, Ok, Err}
use Rattle.std.specs.Str.{is_utf8}
use Rattle.serde_json.specs.Data.{Data, Items, no_items, item, Members, no_members, member}
use Rattle.serde_json.specs.Find.{as_number, as_array, as_object, as_u64}
use Rattle.serde_json.specs.Read.{read}
use Rattle.plc_base.specs.Mask.{no_members as nowhere, single, union}
use Rattle.plc_type.specs.Guarantees.{numbered, is_guarantee_set}
use Rattle.plc_type.specs.declared.guarantee.Guar.{Guar}
use Rattle.plc_type.specs.declared.env.PtrType.{PtrType}
use Rattle.plc_type.specs.declared.env.Env.{Env}
use Rattle.plc_ground.specs.declared.terms.Node.{Node}
use Rattle.plc_ground.specs.declared.terms.Node.TheVariants.{Split, Leaf}
use Rattle.plc_ground.specs.declared.terms.Tree.{Tree}
use Rattle.plc_cert.specs.declared.cert.Cert.{Cert}
use Rattle.plc_cert.specs.declared.cert.CertFault.{CertFault}
use Rattle.plc_cert.specs.declared.cert.CertFault.TheVariants as fault
use Rattle.plc_cert.specs.declared.cert.CertField.TheVariants as field

-- ---- numbers and lists

-- a whole number from 0 and below 2 ^ 64, written without a fraction or an exponent
abbrev pub whole_of : Data → Option ℕ
whole_of d = option_and_then as_u64 (as_number d)

-- a whole number below a bound
abbrev pub whole_below : ℕ → Data → Option ℕ
whole_below bound d = option_and_then (λ n. if nat_lt n bound then Some n else None) (whole_of d)

-- a number that names a clause or a term
abbrev pub index_of : Data → Option ℕ
index_of d = whole_below (2 ^ 32) d

-- each item by the same reading
abbrev pub each : {A : Type 0} → (Data → Option A) → Items → Option (List A)
each f no_items = Some []
each f (item d ds) = option_and_then (λ x. option_map (λ xs. x ∷ xs) (each f ds)) (f d)

-- an array of any length
abbrev pub list_of : {A : Type 0} → (Data → Option A) → Data → Option (List A)
list_of f d = option_and_then (each f) (as_array d)

-- ---- trees

-- [0,c]
abbrev pub split_of : Data → Data → Option Node
split_of kind c = option_and_then (λ k. if k == 0 then option_map Split (index_of c) else None) (index_of kind)

-- [1,a,b]
abbrev pub leaf_of : Data → Data → Data → Option Node
leaf_of kind a b =
    option_and_then
    (λ k. if k == 1 then option_and_then (λ x. option_map (Leaf x) (index_of b)) (index_of a) else None)
    (index_of kind)

-- two items are a split, three a leaf
abbrev pub node_from : Items → Option Node
node_from no_items = None
node_from (item k no_items) = None
node_from (item k (item a no_items)) = split_of k a
node_from (item k (item a (item b no_items))) = leaf_of k a b
node_from (item k (item a (item b (item e ds)))) = None

-- an array that is a node
abbrev pub node_of : Data → Option Node
node_of d = option_and_then node_from (as_array d)

-- a tree is the list of its nodes
abbrev pub tree_of : Data → Option Tree
tree_of d = option_map (λ ns. record { nodes = ns }) (list_of node_of d)

-- ---- environments

-- locations in ascending order, `least` or above
abbrev pub locations_from : ℕ → Items → Option ℕ
locations_from least no_items = Some nowhere
locations_from least (item d ds) =
    option_and_then
    (λ l. if nat_le least l then option_map (λ m. union (single l) m) (locations_from (l + 1) ds) else None)
    (whole_below 8 d)

-- a set of locations is the list of its members
abbrev pub mask_of : Data → Option ℕ
mask_of d = option_and_then (locations_from 0) (as_array d)

-- the set of a number that is one of the four
abbrev pub guarantee_from : ℕ → Option Guar
guarantee_from n = if is_guarantee_set (numbered n) then Some (numbered n) else None

-- one of the four sets of guarantees, as a number: 0, 1, 3 or 7
abbrev pub guarantee_of : Data → Option Guar
guarantee_of d = option_and_then guarantee_from (whole_of d)

-- two items are a pair
abbrev pub pair_from : Items → Option (Data × Data)
pair_from no_items = None
pair_from (item x no_items) = None
pair_from (item x (item y no_items)) = Some (x, y)
pair_from (item x (item y (item z ds))) = None

-- an array of two items
abbrev pub pair_of : Data → Option (Data × Data)
pair_of d = option_and_then pair_from (as_array d)

-- [G,[M]]
abbrev pub pointer_of : Data → Option PtrType
pointer_of d =
    option_and_then
    (λ p. option_and_then (λ g. option_map (λ m. record { g = g; m = m }) (mask_of p.1)) (guarantee_of p.0))
    (pair_of d)

-- [[W],[[G,[M]],..]]
abbrev pub env_of : Data → Option Env
env_of d =
    option_and_then
    (λ p. option_and_then
    (λ w. option_map (λ ts. record { shared = []; locals = ts; w = w }) (list_of pointer_of p.1)) (mask_of p.0))
    (pair_of d)

-- ---- the whole, with the refusals in their order

-- of the two lists the environments are judged first
abbrev pub with_lists : Option (List Env) → Option (List Tree) → ℕ → Result Cert CertFault
with_lists None ts version = Err (fault.Shape field.Env)
with_lists (Some es) None version = Err (fault.Shape field.Trees)
with_lists (Some es) (Some ts) version = Ok (record { version = version; env = es; trees = ts })

-- the two versions of the format
abbrev pub is_version : ℕ → Bool
is_version n = (n == 1) || (n == 2)

-- what comes of the rest, where the version is one of the two
abbrev pub with_version : {A : Type 0} → Option ℕ → (ℕ → Result A CertFault) → Result A CertFault
with_version None rest = Err (fault.Shape field.Version)
with_version (Some n) rest = if is_version n then rest n else Err (fault.Version n)

-- the members env, trees and version, and no other; a value has its members in the order of their names
abbrev pub root_from : Members → Option (Data × Data × Data)
root_from no_members = None
root_from (member k e no_members) = None
root_from (member k e (member l t no_members)) = None
root_from (member k e (member l t (member m v no_members))) =
    if bytes_eq k (codes "env") && (bytes_eq l (codes "trees") && bytes_eq m (codes "version"))
    then Some (e, t, v) else None
root_from (member k e (member l t (member m v (member n x ms)))) = None

-- an object with just these members
abbrev pub root_of : Data → Option (Data × Data × Data)
root_of d = option_and_then root_from (as_object d)

-- what comes of the members, where the value has them
abbrev pub with_root : Option (Data × Data × Data) → Result Cert CertFault
with_root None = Err (fault.Shape field.Root)
with_root (Some r) = with_version (whole_of r.2) (with_lists (list_of env_of r.0) (list_of tree_of r.1))

-- the certificate that a JSON value is
abbrev pub certificate_of : Data → Result Cert CertFault
certificate_of d = with_root (root_of d)

-- what comes of a value, where the bytes are one
abbrev pub with_json : Option Data → Result Cert CertFault
with_json None = Err fault.NotJson
with_json (Some d) = certificate_of d

-- the JSON value that bytes are
abbrev pub json_of : List ℕ → Option Data
json_of bytes = if is_utf8 bytes then read bytes else None

-- the certificate that bytes are
abbrev pub reading : List ℕ → Result Cert CertFault
reading bytes = with_json (json_of bytes)

-- memory ran out, or this is the answer
abbrev pub Answers : {A : Type 0} → Result A CertFault → Result A CertFault → Type 0
Answers result answer = result ≢ Err fault.Memory → result ≡ answer
