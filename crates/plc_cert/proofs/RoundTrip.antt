-- The laws: what is written is read as it was, or is refused.
use Rattle.std.proofs.Common.{◌++◌, Some, Ok, IsUtf8, ◌≡◌, ℕ, ◌<◌, ◌≤◌, ◌^◌, Bool, true, false, if◌then◌else◌, List, [], ◌∷◌, filter, refl, ap, ◌∙◌, arith}
use Rattle.std.specs.List.{AllByRecursion}
use Rattle.json.specs.Tree as tree
use Rattle.serde_json.specs.Data.{Data}
use Rattle.serde_json.specs.Read.{max_depth, read}
use Rattle.serde_json.specs.Written.{outline, items_outline}
use Rattle.plc_base.specs.Mask.{has, numbers}
use Rattle.plc_type.specs.declared.env.PtrType.{PtrType}
use Rattle.plc_type.specs.declared.env.Env.{Env}
use Rattle.plc_ground.specs.declared.terms.Node.{Node}
use Rattle.plc_ground.specs.declared.terms.Node.TheVariants.{Split, Leaf}
use Rattle.plc_ground.specs.declared.terms.Tree.{Tree}
use Rattle.plc_cert.specs.declared.cert.Cert.{Cert}
use Rattle.plc_cert.specs.Shape.{with_json, reading}
use Rattle.plc_cert.specs.Written.{whole, items, list, node, mask, members, pointer, env, cert, text}
use Rattle.plc_cert.specs.Written as written
use Rattle.plc_cert.specs.Fits.{NodeFits, TreeFits, CertFits, PointerIsInRange, EnvIsInRange, IsInRange, stored, read_back}
use Rattle.plc_cert.proofs.Shapes.{json_of-utf8}
use Rattle.plc_cert.proofs.Back.{cert_back, in_range, read_whole}
use Rattle.plc_cert.proofs.Text.{IsFlat, AreFlat, root_back, root_utf8}
use Rattle.plc_cert.proofs.Line.{line_back}
use Rattle.json.proofs.Printed.Utf8.{IsUtf8-are_ascii}
use Rattle.std.proofs.lemmas.Str.{IsUtf8-append}

-- ---- each part is an array of numbers, and nests no deeper than

list_flat : {A : Type 0} (f : A → Data) (P : A → Type 0) → ((x : A) → P x → IsFlat (f x)) → (xs : List A) → AllByRecursion P xs → AreFlat (items f xs)
list_flat f P part [] fits = tt
list_flat f P part (x ∷ xs) fits = (part x fits.0, list_flat f P part xs fits.1)

list_depth : {A : Type 0} (f : A → Data) (n : ℕ) → ((x : A) → tree.depth (outline (f x)) ≤ n) → (xs : List A) → tree.items_depth (items_outline (items f xs)) ≤ n
list_depth f n part [] = omega arith
list_depth f n part (x ∷ xs) = omega (arith, part x, list_depth f n part xs)

node_flat : (n : Node) → NodeFits n → IsFlat (node n)
node_flat (Split c) h = (omega arith, (omega (arith, h), tt))
node_flat (Leaf a b) h = (omega arith, (omega (arith, h.0), (omega (arith, h.1), tt)))

node_depth : (n : Node) → tree.depth (outline (node n)) ≤ 1
node_depth (Split c) = omega arith
node_depth (Leaf a b) = omega arith

tree_flat : (t : Tree) → TreeFits t → IsFlat (written.tree t)
tree_flat t h = list_flat node NodeFits node_flat t.nodes h

tree_depth : (t : Tree) → tree.depth (outline (written.tree t)) ≤ 2
tree_depth t = omega (arith, list_depth node 1 node_depth t.nodes)

abbrev Small : ℕ → Type 0
Small n = n < 2 ^ 64

if_small : (b : Bool) (l : ℕ) (ls : List ℕ) → Small l → AllByRecursion Small ls → AllByRecursion Small (if b then l ∷ ls else ls)
if_small true l ls h k = (h, k)
if_small false l ls h k = k

filter_small : (p : ℕ → Bool) (ls : List ℕ) → AllByRecursion Small ls → AllByRecursion Small (filter p ls)
filter_small p [] h = tt
filter_small p (l ∷ ls) h = if_small (p l) l (filter p ls) h.0 (filter_small p ls h.1)

numbers_small : AllByRecursion Small numbers
numbers_small = (omega arith, (omega arith, (omega arith, (omega arith, (omega arith, (omega arith, (omega arith, (omega arith, tt))))))))

mask_flat : (m : ℕ) → IsFlat (mask m)
mask_flat m = list_flat whole Small (λ n h. h) (members m) (filter_small (has m) numbers numbers_small)

mask_depth : (m : ℕ) → tree.depth (outline (mask m)) ≤ 1
mask_depth m = omega (arith, list_depth whole 0 (λ n. omega arith) (members m))

pointer_flat : (t : PtrType) → PointerIsInRange t → IsFlat (pointer t)
pointer_flat t h = (omega (arith, h.0), (mask_flat t.m, tt))

pointer_depth : (t : PtrType) → tree.depth (outline (pointer t)) ≤ 2
pointer_depth t = omega (arith, mask_depth t.m)

env_flat : (e : Env) → EnvIsInRange e → IsFlat (env e)
env_flat e h = (mask_flat e.w, (list_flat pointer PointerIsInRange pointer_flat e.locals h.1, tt))

env_depth : (e : Env) → tree.depth (outline (env e)) ≤ 4
env_depth e = omega (arith, mask_depth e.w, list_depth pointer 2 pointer_depth e.locals)

envs_flat : (c : Cert) → IsInRange c → IsFlat (list env c.env)
envs_flat c h = list_flat env EnvIsInRange env_flat c.env h.1

trees_flat : (c : Cert) → IsInRange c → IsFlat (list written.tree c.trees)
trees_flat c h = list_flat written.tree TreeFits tree_flat c.trees h.2

version_flat : (c : Cert) → IsInRange c → IsFlat (whole c.version)
version_flat c h = omega (arith, h.0)

text_back : (c : Cert) → IsInRange c → read (text c) ≡ Some (cert c)
text_back c h =
    let shallow : tree.depth (outline (cert c)) ≤ max_depth = omega (arith, list_depth env 4 env_depth c.env, list_depth written.tree 2 tree_depth c.trees) in
    root_back (list env c.env) (list written.tree c.trees) (whole c.version)
    (envs_flat c h) (trees_flat c h) (version_flat c h) shallow

text_utf8 : (c : Cert) → IsInRange c → IsUtf8 (text c)
text_utf8 c h =
    root_utf8 (list env c.env) (list written.tree c.trees) (whole c.version)
    (envs_flat c h) (trees_flat c h) (version_flat c h)

pub text_is_answered : (c : Cert) → IsInRange c → reading (text c) ≡ read_back c
text_is_answered c h = ap with_json (json_of-utf8 (text c) (text_utf8 c h) ∙ text_back c h) ∙ cert_back c h

pub line_is_answered : (c : Cert) → IsInRange c → reading (text c ++ 10 ∷ []) ≡ read_back c
line_is_answered c h =
    let same = line_back (list env c.env) (list written.tree c.trees) (whole c.version)
    (envs_flat c h) (trees_flat c h) (version_flat c h) in
    ap with_json (json_of-utf8 (text c ++ 10 ∷ []) (IsUtf8-append _ _ (text_utf8 c h) (IsUtf8-are_ascii _ refl)) ∙ same ∙ text_back c h) ∙ cert_back c h

pub written_is_read : (c : Cert) → CertFits c → reading (text c) ≡ Ok (stored c)
written_is_read c h = text_is_answered c (in_range c h) ∙ read_whole c h

pub line_is_read : (c : Cert) → CertFits c → reading (text c ++ 10 ∷ []) ≡ Ok (stored c)
line_is_read c h = line_is_answered c (in_range c h) ∙ read_whole c h
