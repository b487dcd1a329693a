-- The JSON value that a certificate is written as, and its text.
use Rattle.std.specs.Prelude.{ℕ, List, [], ◌∷◌, filter, codes}
use Rattle.serde_json.specs.Data.{Data, number, unsigned, array, object, Items, no_items, item, no_members, member}
use Rattle.serde_json.specs.Written.{compact_text}
use Rattle.plc_base.specs.Mask.{has, numbers}
use Rattle.plc_type.specs.declared.env.PtrType.{PtrType}
use Rattle.plc_type.specs.declared.env.Env.{Env}
use Rattle.plc_ground.specs.declared.terms.Node.{Node}
use Rattle.plc_ground.specs.declared.terms.Node.TheVariants.{Split, Leaf}
use Rattle.plc_ground.specs.declared.terms.Tree.{Tree}
use Rattle.plc_cert.specs.declared.cert.Cert.{Cert}

-- a number without a fraction
abbrev pub whole : ℕ → Data
whole n = number (unsigned n)

-- the items of an array, in the order of a list
abbrev pub items : {A : Type 0} → (A → Data) → List A → Items
items f [] = no_items
items f (x ∷ xs) = item (f x) (items f xs)

-- a list is an array
abbrev pub list : {A : Type 0} → (A → Data) → List A → Data
list f xs = array (items f xs)

-- [0,clause] and [1,term,term]
abbrev pub node : Node → Data
node (Split c) = array (item (whole 0) (item (whole c) no_items))
node (Leaf a b) = array (item (whole 1) (item (whole a) (item (whole b) no_items)))

-- a tree is the list of its nodes
abbrev pub tree : Tree → Data
tree t = list node t.nodes

-- the locations in a set, ascending
abbrev pub members : ℕ → List ℕ
members m = filter (has m) numbers

-- a set is the array of its members
abbrev pub mask : ℕ → Data
mask m = list whole (members m)

-- [G,[M]]
abbrev pub pointer : PtrType → Data
pointer t = array (item (whole t.g.0) (item (mask t.m) no_items))

-- [[W],[[G,[M]],..]], with one pair for each pointer local; the types of shared pointers aren't written
abbrev pub env : Env → Data
env e = array (item (mask e.w) (item (list pointer e.locals) no_items))

-- {"env":[..],"trees":[..],"version":N}, N the certificate's own
abbrev pub cert : Cert → Data
cert c = object
    (member (codes "env") (list env c.env)
    (member (codes "trees") (list tree c.trees)
    (member (codes "version") (whole c.version) no_members)))

-- the text that is written, byte for byte: that value without white space
abbrev pub text : Cert → List ℕ
text c = compact_text (cert c)
