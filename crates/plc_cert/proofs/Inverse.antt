-- What is read as a part is the value that the part is written as.
use Rattle.std.proofs.Common.{◌≡◌, ℕ, ◌+◌, ◌<◌, ◌^◌, ◌==◌, List, [], ◌∷◌, Bool, true, false, if◌then◌else◌, nat_lt, nat_le, Option, Some, None, option_map, option_and_then, unwrap_or, Result, Ok, Err, codes, bytes_eq, refl, sym, ap, ap₂, ◌∙◌, subst, ltb-true, leb-true, eqb-true}
use Rattle.std.specs.List.{AllByRecursion}
use Rattle.std.specs.Result.{result_unwrap_or}
use Rattle.std.proofs.lemmas.Bool.{and_parts}
use Rattle.std.proofs.lemmas.Slice.Eq.{bytes_eq-Decides}
use Rattle.serde_json.specs.Data.{Num, unsigned, negative, float, Data, null, boolean, number, string, array, object, Items, no_items, item, Members, no_members, member}
use Rattle.serde_json.specs.Find.{as_array, as_u64, as_object}
use Rattle.plc_base.specs.Mask.{single, union}
use Rattle.plc_type.specs.Guarantees.{numbered, is_guarantee_set}
use Rattle.plc_type.specs.declared.guarantee.Guar.{Guar}
use Rattle.plc_type.specs.declared.env.PtrType.{PtrType}
use Rattle.plc_type.specs.declared.env.Env.{Env}
use Rattle.plc_ground.specs.declared.terms.Node.{Node}
use Rattle.plc_ground.specs.declared.terms.Node.TheVariants.{Split, Leaf}
use Rattle.plc_ground.specs.declared.terms.Tree.{Tree}
use Rattle.plc_cert.specs.declared.cert.Cert.{Cert}
use Rattle.plc_cert.specs.declared.cert.CertFault.{CertFault}
use Rattle.plc_cert.specs.declared.cert.CertFault.TheVariants as fault
use Rattle.plc_cert.specs.Shape as shape
use Rattle.plc_cert.specs.Written as written
use Rattle.plc_cert.specs.Written.{whole, items, list}
use Rattle.plc_cert.specs.Fits.{NodeFits, TreeFits, PointerFits, EnvFits, CertFits}
use Rattle.plc_cert.proofs.Back.{Ascends}
use Rattle.plc_cert.proofs.Members.{set_of, members-set_of, set_of-small}

-- ---- what a Some came from

some_is : {A : Type 0} (a b : A) → Some a ≡ Some b → a ≡ b
some_is a b e = ap (λ o. unwrap_or o a) e

pub from_next : {A B : Type 0} (f : A → Option B) (o : Option A) (b : B) → option_and_then f o ≡ Some b → (a : A) × (o ≡ Some a) × (f a ≡ Some b)
from_next f None b e = absurd cc
from_next f (Some a) b e = (a, refl, e)

from_map : {A B : Type 0} (f : A → B) (o : Option A) (b : B) → option_map f o ≡ Some b → (a : A) × (o ≡ Some a) × (f a ≡ b)
from_map f None b e = absurd cc
from_map f (Some a) b e = (a, refl, some_is _ _ e)

from_if : {A : Type 0} (t : Bool) (o : Option A) (a : A) → (if t then o else None) ≡ Some a → (t ≡ true) × (o ≡ Some a)
from_if true o a e = (refl, e)
from_if false o a e = absurd cc

-- ---- arrays and numbers

array_only : (d : Data) (ds : Items) → as_array d ≡ Some ds → d ≡ array ds
array_only null ds e = absurd cc
array_only (boolean b) ds e = absurd cc
array_only (number n) ds e = absurd cc
array_only (string s) ds e = absurd cc
array_only (array es) ds e = ap array (some_is _ _ e)
array_only (object ms) ds e = absurd cc

number_only : (n : Num) (k : ℕ) → as_u64 n ≡ Some k → n ≡ unsigned k
number_only (unsigned n) k e = ap unsigned (some_is _ _ e)
number_only (negative z) k e = absurd cc
number_only (float x) k e = absurd cc

whole_only : (d : Data) (k : ℕ) → shape.whole_of d ≡ Some k → d ≡ whole k
whole_only null k e = absurd cc
whole_only (boolean b) k e = absurd cc
whole_only (number n) k e = ap number (number_only n k e)
whole_only (string s) k e = absurd cc
whole_only (array ds) k e = absurd cc
whole_only (object ms) k e = absurd cc

below_only : (bound : ℕ) (d : Data) (k : ℕ) → shape.whole_below bound d ≡ Some k → (d ≡ whole k) × (k < bound)
below_only bound d k e =
    let n = from_next _ (shape.whole_of d) k e in
    let tested = from_if (nat_lt n.0 bound) (Some n.0) k n.2 in
    let same = some_is n.0 k tested.1 in
    (whole_only d k (n.1 ∙ ap Some same), subst (λ x. x < bound) same (ltb-true n.0 bound tested.0))

-- a list is read as the parts that its items are read as
each_only : {A : Type 0} (f : Data → Option A) (g : A → Data) (P : A → Type 0) → ((d : Data) (x : A) → f d ≡ Some x → (d ≡ g x) × P x) → (ds : Items) (xs : List A) → shape.each f ds ≡ Some xs → (ds ≡ items g xs) × AllByRecursion P xs
each_only f g P part no_items xs e = let none = some_is _ _ e in (ap (items g) none, subst (AllByRecursion P) none tt)
each_only f g P part (item d ds) xs e =
    let x = from_next _ (f d) xs e in
    let rest = from_map _ (shape.each f ds) xs x.2 in
    let one = part d x.0 x.1 in
    let more = each_only f g P part ds rest.0 rest.1 in
    (ap₂ item one.0 more.0 ∙ ap (items g) rest.2, subst (AllByRecursion P) rest.2 (one.1, more.1))

list_only : {A : Type 0} (f : Data → Option A) (g : A → Data) (P : A → Type 0) → ((d : Data) (x : A) → f d ≡ Some x → (d ≡ g x) × P x) → (d : Data) (xs : List A) → shape.list_of f d ≡ Some xs → (d ≡ list g xs) × AllByRecursion P xs
list_only f g P part d xs e =
    let ds = from_next _ (as_array d) xs e in
    let all = each_only f g P part ds.0 xs ds.2 in
    (array_only d ds.0 ds.1 ∙ ap array all.0, all.1)

-- ---- trees

index_only : (d : Data) (k : ℕ) → shape.index_of d ≡ Some k → (d ≡ whole k) × (k < 2 ^ 32)
index_only = below_only (2 ^ 32)

split_only : (k c : Data) (n : Node) → shape.split_of k c ≡ Some n → (array (item k (item c no_items)) ≡ written.node n) × NodeFits n
split_only k c n e =
    let kind = from_next _ (shape.index_of k) n e in
    let tested = from_if (kind.0 == 0) _ n kind.2 in
    let clause = from_map Split (shape.index_of c) n tested.1 in
    let zeroth = index_only k kind.0 kind.1 in
    let first = index_only c clause.0 clause.1 in
    let P : Node → Type 0 = λ m. (array (item k (item c no_items)) ≡ written.node m) × NodeFits m in
    subst P clause.2 (ap₂ (λ x y. array (item x (item y no_items))) (zeroth.0 ∙ ap whole (eqb-true kind.0 0 tested.0)) first.0, first.1)

leaf_only : (k a b : Data) (n : Node) → shape.leaf_of k a b ≡ Some n → (array (item k (item a (item b no_items))) ≡ written.node n) × NodeFits n
leaf_only k a b n e =
    let kind = from_next _ (shape.index_of k) n e in
    let tested = from_if (kind.0 == 1) _ n kind.2 in
    let left = from_next _ (shape.index_of a) n tested.1 in
    let right = from_map (Leaf left.0) (shape.index_of b) n left.2 in
    let zeroth = index_only k kind.0 kind.1 in
    let first = index_only a left.0 left.1 in
    let second = index_only b right.0 right.1 in
    let P : Node → Type 0 = λ m. (array (item k (item a (item b no_items))) ≡ written.node m) × NodeFits m in
    let parts : array (item k (item a (item b no_items))) ≡ written.node (Leaf left.0 right.0) =
    ap (λ x. array (item x (item a (item b no_items)))) (zeroth.0 ∙ ap whole (eqb-true kind.0 1 tested.0)) ∙ ap₂ (λ y z. array (item (whole 1) (item y (item z no_items)))) first.0 second.0 in
    subst P right.2 (parts, (first.1, second.1))

node_parts_only : (ds : Items) (n : Node) → shape.node_from ds ≡ Some n → (array ds ≡ written.node n) × NodeFits n
node_parts_only no_items n e = absurd cc
node_parts_only (item k no_items) n e = absurd cc
node_parts_only (item k (item a no_items)) n e = split_only k a n e
node_parts_only (item k (item a (item b no_items))) n e = leaf_only k a b n e
node_parts_only (item k (item a (item b (item x ds)))) n e = absurd cc

node_only : (d : Data) (n : Node) → shape.node_of d ≡ Some n → (d ≡ written.node n) × NodeFits n
node_only d n e =
    let ds = from_next _ (as_array d) n e in
    let all = node_parts_only ds.0 n ds.2 in
    (array_only d ds.0 ds.1 ∙ all.0, all.1)

tree_only : (d : Data) (t : Tree) → shape.tree_of d ≡ Some t → (d ≡ written.tree t) × TreeFits t
tree_only d t e =
    let ns = from_map _ (shape.list_of shape.node_of d) t e in
    let all = list_only shape.node_of written.node NodeFits node_only d ns.0 ns.1 in
    let P : Tree → Type 0 = λ u. (d ≡ written.tree u) × TreeFits u in
    subst P ns.2 all

-- ---- sets of locations

locations_only : (ds : Items) (least m : ℕ) → shape.locations_from least ds ≡ Some m → (ls : List ℕ) × (ds ≡ items whole ls) × Ascends least ls × (set_of ls ≡ m)
locations_only no_items least m e = ([], refl, tt, some_is _ _ e)
locations_only (item d ds) least m e =
    let l = from_next _ (shape.whole_below 8 d) m e in
    let tested = from_if (nat_le least l.0) _ m l.2 in
    let rest = from_map _ (shape.locations_from (l.0 + 1) ds) m tested.1 in
    let here = below_only 8 d l.0 l.1 in
    let more = locations_only ds (l.0 + 1) rest.0 rest.1 in
    (l.0 ∷ more.0, ap₂ item here.0 more.1, (leb-true least l.0 tested.0, here.1, more.2), ap (λ x. union (single l.0) x) more.3 ∙ rest.2)

mask_only : (d : Data) (m : ℕ) → shape.mask_of d ≡ Some m → (d ≡ written.mask m) × (m < 256)
mask_only d m e =
    let ds = from_next _ (as_array d) m e in
    let all = locations_only ds.0 0 m ds.2 in
    let P : ℕ → Type 0 = λ x. (d ≡ written.mask x) × (x < 256) in
    subst P all.3 (array_only d ds.0 ds.1 ∙ ap array (all.1 ∙ ap (items whole) (sym (members-set_of all.0 all.2))), set_of-small all.0 0 all.2)

-- ---- environments

guarantee_only : (d : Data) (g : Guar) → shape.guarantee_of d ≡ Some g → (d ≡ whole g.0) × (is_guarantee_set g ≡ true)
guarantee_only d g e =
    let n = from_next _ (shape.whole_of d) g e in
    let tested = from_if (is_guarantee_set (numbered n.0)) _ g n.2 in
    let P : Guar → Type 0 = λ x. (d ≡ whole x.0) × (is_guarantee_set x ≡ true) in
    subst P (some_is (numbered n.0) g tested.1) (whole_only d n.0 n.1, tested.0)

two_only : (ds : Items) (p : Data × Data) → shape.pair_from ds ≡ Some p → ds ≡ item p.0 (item p.1 no_items)
two_only no_items p e = absurd cc
two_only (item x no_items) p e = absurd cc
two_only (item x (item y no_items)) p e = ap (λ q. item q.0 (item q.1 no_items)) (some_is (x, y) p e)
two_only (item x (item y (item z ds))) p e = absurd cc

pair_only : (d : Data) (p : Data × Data) → shape.pair_of d ≡ Some p → d ≡ array (item p.0 (item p.1 no_items))
pair_only d p e = let ds = from_next _ (as_array d) p e in array_only d ds.0 ds.1 ∙ ap array (two_only ds.0 p ds.2)

pointer_only : (d : Data) (t : PtrType) → shape.pointer_of d ≡ Some t → (d ≡ written.pointer t) × PointerFits t
pointer_only d t e =
    let p = from_next _ (shape.pair_of d) t e in
    let g = from_next _ (shape.guarantee_of p.0.0) t p.2 in
    let m = from_map _ (shape.mask_of p.0.1) t g.2 in
    let first = guarantee_only p.0.0 g.0 g.1 in
    let second = mask_only p.0.1 m.0 m.1 in
    let P : PtrType → Type 0 = λ u. (d ≡ written.pointer u) × PointerFits u in
    subst P m.2 (pair_only d p.0 p.1 ∙ ap₂ (λ x y. array (item x (item y no_items))) first.0 second.0, (first.1, second.1))

env_only : (d : Data) (v : Env) → shape.env_of d ≡ Some v → (d ≡ written.env v) × EnvFits v
env_only d v e =
    let p = from_next _ (shape.pair_of d) v e in
    let w = from_next _ (shape.mask_of p.0.0) v p.2 in
    let ts = from_map _ (shape.list_of shape.pointer_of p.0.1) v w.2 in
    let first = mask_only p.0.0 w.0 w.1 in
    let second = list_only shape.pointer_of written.pointer PointerFits pointer_only p.0.1 ts.0 ts.1 in
    let P : Env → Type 0 = λ u. (d ≡ written.env u) × EnvFits u in
    subst P ts.2 (pair_only d p.0 p.1 ∙ ap₂ (λ x y. array (item x (item y no_items))) first.0 second.0, (first.1, second.1))

-- ---- certificates

abbrev fine : Cert → Result Cert CertFault
fine c = Ok c

ok_is : (a b : Cert) → fine a ≡ fine b → a ≡ b
ok_is a b e = ap (λ r. result_unwrap_or r a) e

lists_only : (es : Option (List Env)) (ts : Option (List Tree)) (version : ℕ) (c : Cert)
    → shape.with_lists es ts version ≡ Ok c → (es ≡ Some c.env) × (ts ≡ Some c.trees) × (version ≡ c.version)
lists_only None ts version c e = absurd cc
lists_only (Some es) None version c e = absurd cc
lists_only (Some es) (Some ts) version c e =
    let same = ok_is _ c e in (ap (λ x. Some x.env) same, ap (λ x. Some x.trees) same, ap (λ x. x.version) same)

tested_only : (t : Bool) (n : ℕ) (rest : Result Cert CertFault) (c : Cert)
    → (if t then rest else Err (fault.Version n)) ≡ Ok c → (t ≡ true) × (rest ≡ Ok c)
tested_only true n rest c e = (refl, e)
tested_only false n rest c e = absurd cc

version_only : (v : Option ℕ) (rest : ℕ → Result Cert CertFault) (c : Cert) → shape.with_version v rest ≡ Ok c
    → (n : ℕ) × (v ≡ Some n) × (shape.is_version n ≡ true) × (rest n ≡ Ok c)
version_only None rest c e = absurd cc
version_only (Some n) rest c e =
    let tested = tested_only (shape.is_version n) n (rest n) c e in (n, refl, tested.0, tested.1)

object_only : (d : Data) (ms : Members) → as_object d ≡ Some ms → d ≡ object ms
object_only null ms e = absurd cc
object_only (boolean b) ms e = absurd cc
object_only (number n) ms e = absurd cc
object_only (string s) ms e = absurd cc
object_only (array ds) ms e = absurd cc
object_only (object ns) ms e = ap object (some_is _ _ e)

abbrev top : Data × Data × Data → Members
top r = member (codes "env") r.0 (member (codes "trees") r.1 (member (codes "version") r.2 no_members))

same_key : (k l : List ℕ) → bytes_eq k l ≡ true → k ≡ l
same_key k l e = (bytes_eq-Decides k l).0 e

members_only : (ms : Members) (r : Data × Data × Data) → shape.root_from ms ≡ Some r → ms ≡ top r
members_only no_members r h = absurd cc
members_only (member k e no_members) r h = absurd cc
members_only (member k e (member l t no_members)) r h = absurd cc
members_only (member k e (member l t (member m v no_members))) r h =
    let tested = from_if _ (Some (e, t, v)) r h in
    let first = and_parts _ _ tested.0 in
    let second = and_parts _ _ first.1 in
    ap (λ x. member x e (member l t (member m v no_members))) (same_key k (codes "env") first.0)
    ∙ ap₂ (λ x y. member (codes "env") e (member x t (member y v no_members))) (same_key l (codes "trees") second.0) (same_key m (codes "version") second.1)
    ∙ ap top (some_is (e, t, v) r tested.1)
members_only (member k e (member l t (member m v (member n x ms)))) r h = absurd cc

root_only : (d : Data) (r : Data × Data × Data) → shape.root_of d ≡ Some r → d ≡ object (top r)
root_only d r e = let ms = from_next _ (as_object d) r e in object_only d ms.0 ms.1 ∙ ap object (members_only ms.0 r ms.2)

from_root_only : (o : Option (Data × Data × Data)) (c : Cert) → shape.with_root o ≡ Ok c
    → (r : Data × Data × Data) × (o ≡ Some r) × (shape.with_version (shape.whole_of r.2) (shape.with_lists (shape.list_of shape.env_of r.0) (shape.list_of shape.tree_of r.1)) ≡ Ok c)
from_root_only None c e = absurd cc
from_root_only (Some r) c e = (r, refl, e)

cert_only : (d : Data) (c : Cert) → shape.certificate_of d ≡ Ok c → (d ≡ written.cert c) × CertFits c
cert_only d c e =
    let r = from_root_only (shape.root_of d) c e in
    let v = version_only _ _ c r.2 in
    let all = lists_only _ _ v.0 c v.3 in
    let es = list_only shape.env_of written.env EnvFits env_only r.0.0 c.env all.0 in
    let ts = list_only shape.tree_of written.tree TreeFits tree_only r.0.1 c.trees all.1 in
    let version = whole_only r.0.2 v.0 v.1 ∙ ap whole all.2 in (
      root_only d r.0 r.1 ∙ ap₂ (λ x y. object (top (x, y, r.0.2))) es.0 ts.0
          ∙ ap (λ z. object (top (list written.env c.env, list written.tree c.trees, z))) version,
      (subst (λ n. shape.is_version n ≡ true) all.2 v.2, es.1, ts.1),
    )

json_only : (o : Option Data) (c : Cert) → shape.with_json o ≡ Ok c → (d : Data) × (o ≡ Some d) × (shape.certificate_of d ≡ Ok c)
json_only None c e = absurd cc
json_only (Some d) c e = (d, refl, e)

pub only_written_is_read : (bytes : List ℕ) (c : Cert) → shape.reading bytes ≡ Ok c → (shape.json_of bytes ≡ Some (written.cert c)) × CertFits c
only_written_is_read bytes c e =
    let d = json_only (shape.json_of bytes) c e in
    let all = cert_only d.0 c d.2 in
    (d.1 ∙ ap Some all.0, all.1)
