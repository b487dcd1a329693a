-- The value that a part is written as is read as that part, or isn't where its guarantees are of no set.
use Rattle.std.proofs.Common.{◌≡◌, ℕ, ◌+◌, ◌<◌, ◌≤◌, ◌==◌, ◌&&◌, ◌^◌, List, [], ◌∷◌, map, filter, Bool, true, false, if◌then◌else◌, nat_lt, Some, None, Option, option_map, option_and_then, Ok, Err, inl, inr, refl, sym, ap, ◌∙◌, arith, lt-ltb, le-leb, ne_eqb, true≢false}
use Rattle.std.specs.List.{AllByRecursion, list_all}
use Rattle.std.proofs.lemmas.Bool.{cases_lt, and_from}
use Rattle.std.proofs.lemmas.List.{map-id}
use Rattle.std.specs.Prelude.{⊤}
use Rattle.serde_json.specs.Data.{Data}
use Rattle.plc_base.specs.Mask.{no_members, union, has, single_if, mask_of, numbers}
use Rattle.plc_base.proofs.MaskLemmas.{same_members, has-mask_of, has-small}
use Rattle.plc_type.specs.Guarantees.{numbered, is_guarantee_set}
use Rattle.plc_type.specs.declared.guarantee.Guar.{Guar}
use Rattle.plc_type.specs.declared.env.PtrType.{PtrType}
use Rattle.plc_type.specs.declared.env.Env.{Env}
use Rattle.plc_ground.specs.declared.terms.Node.{Node}
use Rattle.plc_ground.specs.declared.terms.Node.TheVariants.{Split, Leaf}
use Rattle.plc_ground.specs.declared.terms.Tree.{Tree}
use Rattle.plc_cert.specs.declared.cert.Cert.{Cert}
use Rattle.plc_cert.specs.declared.cert.CertFault.TheVariants as fault
use Rattle.plc_cert.specs.declared.cert.CertField.TheVariants as field
use Rattle.plc_cert.specs.Shape as shape
use Rattle.plc_cert.specs.Written as written
use Rattle.plc_cert.specs.Written.{whole, items}
use Rattle.plc_cert.specs.Fits.{NodeFits, TreeFits, PointerFits, EnvFits, CertFits, without_shared, stored}
use Rattle.plc_cert.specs.Fits.{PointerIsInRange, EnvIsInRange, IsInRange, are_guarantees, read_back}
use Rattle.plc_cert.proofs.Shapes.{union_none, union_empty}

-- the parts of a list are read in turn
both_parts : {B : Type 0} (a b : Bool) (x : B) (xs : List B) →
    option_and_then (λ y. option_map (λ ys. y ∷ ys) (if b then Some xs else None)) (if a then Some x else None) ≡ (if a && b then Some (x ∷ xs) else None)
both_parts true true x xs = refl
both_parts true false x xs = refl
both_parts false b x xs = refl

-- a list is read where each of its parts is
list_back : {A B : Type 0} (f : Data → Option B) (g : A → Data) (h : A → B) (test : A → Bool) (P : A → Type 0) → ((x : A) → P x → f (g x) ≡ (if test x then Some (h x) else None)) →
    (xs : List A) → AllByRecursion P xs → shape.each f (items g xs) ≡ (if list_all test xs then Some (map h xs) else None)
list_back f g h test P part [] fits = refl
list_back f g h test P part (x ∷ xs) fits =
    ap (λ o. option_and_then (λ y. option_map (λ ys. y ∷ ys) (shape.each f (items g xs))) o) (part x fits.0)
    ∙ ap (λ o. option_and_then (λ y. option_map (λ ys. y ∷ ys) o) (if test x then Some (h x) else None)) (list_back f g h test P part xs fits.1)
    ∙ both_parts (test x) (list_all test xs) (h x) (map h xs)

-- and it is, where there is no other part
whole_list_back : {A : Type 0} (f : Data → Option A) (g : A → Data) (P : A → Type 0) → ((x : A) → P x → f (g x) ≡ Some x) →
    (xs : List A) → AllByRecursion P xs → shape.each f (items g xs) ≡ Some xs
whole_list_back f g P part xs fits = list_back f g (λ x. x) (λ x. true) P part xs fits ∙ rw (all_pass xs, map-id) refl
  where
    all_pass : {A : Type 0} (xs : List A) → list_all (λ (x : A). true) xs ≡ true
    all_pass [] = refl
    all_pass (x ∷ xs) = all_pass xs

-- ---- trees

index_back : (n : ℕ) → n < 2 ^ 32 → shape.index_of (whole n) ≡ Some n
index_back n h = rw (lt-ltb n _ h) refl

node_back : (n : Node) → NodeFits n → shape.node_of (written.node n) ≡ Some n
node_back (Split c) h = rw (index_back c h) refl
node_back (Leaf a b) h = rw (index_back a h.0, index_back b h.1) refl

tree_back : (t : Tree) → TreeFits t → shape.tree_of (written.tree t) ≡ Some t
tree_back t h = rw (whole_list_back shape.node_of written.node NodeFits node_back t.nodes h) refl

-- ---- sets of locations

-- ascending, all below 8
abbrev pub Ascends : ℕ → List ℕ → Type 0
Ascends least [] = ⊤
Ascends least (l ∷ ls) = (least ≤ l) × (l < 8) × Ascends (l + 1) ls

pub from_less : (a b : ℕ) (ls : List ℕ) → b ≤ a → Ascends a ls → Ascends b ls
from_less a b [] h k = tt
from_less a b (l ∷ ls) h k = (omega (arith, k.0), k.1, k.2)

-- the set of those that pass a test
abbrev passing : (ℕ → Bool) → List ℕ → ℕ
passing p [] = no_members
passing p (l ∷ ls) = union (single_if (p l) l) (passing p ls)

one_back : (b : Bool) (least l rest : ℕ) (ds : List ℕ) → least ≤ l → l < 8 → shape.locations_from (l + 1) (items whole ds) ≡ Some rest → shape.locations_from least (items whole ds) ≡ Some rest
    → shape.locations_from least (items whole (if b then l ∷ ds else ds)) ≡ Some (union (single_if b l) rest)
one_back true least l rest ds above small next same = rw (lt-ltb l 8 small, le-leb least l above, next) refl
one_back false least l rest ds above small next same = same ∙ ap Some (sym (union_none rest))

locations_back : (p : ℕ → Bool) (least : ℕ) (ls : List ℕ) → Ascends least ls → shape.locations_from least (items whole (filter p ls)) ≡ Some (passing p ls)
locations_back p least [] h = refl
locations_back p least (l ∷ ls) h =
    one_back (p l) least l (passing p ls) (filter p ls) h.0 h.1 (locations_back p (l + 1) ls h.2) (locations_back p least ls (from_less (l + 1) least ls (omega (arith, h.0)) h.2))

passing_all : (p : ℕ → Bool) → passing p numbers ≡ mask_of p
unfolding mask_of
passing_all p =
    ap (λ x. union (single_if (p 0) 0) (union (single_if (p 1) 1) (union (single_if (p 2) 2) (union (single_if (p 3) 3) (union (single_if (p 4) 4) (union (single_if (p 5) 5) (union (single_if (p 6) 6) x)))))))
    (union_empty (single_if (p 7) 7))

both : (x y : Bool) → (y ≡ true → x ≡ true) → (x && y) ≡ y
both true y h = refl
both false true h = h refl
both false false h = refl

mask_same : (m : ℕ) → m < 256 → mask_of (has m) ≡ m
mask_same m h = same_members _ _ (λ l. has-mask_of (has m) l ∙ both (nat_lt l 8) (has m l) (λ e. lt-ltb l 8 (has-small m l h e)))

mask_back : (m : ℕ) → m < 256 → shape.mask_of (written.mask m) ≡ Some m
mask_back m h =
    let up : Ascends 0 numbers = (omega arith, omega arith, (omega arith, omega arith, (omega arith, omega arith, (omega arith, omega arith, (omega arith, omega arith, (omega arith, omega arith, (omega arith, omega arith, (omega arith, omega arith, tt)))))))) in
    locations_back (has m) 0 numbers up ∙ ap Some (passing_all (has m) ∙ mask_same m h)

-- ---- environments

pointer_back : (t : PtrType) → PointerIsInRange t → shape.pointer_of (written.pointer t) ≡ (if is_guarantee_set t.g then Some t else None)
pointer_back t h = by_test (is_guarantee_set t.g) refl
  where
    by_test : (b : Bool) → is_guarantee_set t.g ≡ b → shape.pointer_of (written.pointer t) ≡ (if b then Some t else None)
    by_test true e = rw (e, mask_back t.m h.1) refl
    by_test false e = rw e refl

env_back : (e : Env) → EnvIsInRange e → shape.env_of (written.env e) ≡ (if are_guarantees e then Some (without_shared e) else None)
env_back e h = rw (mask_back e.w h.0, list_back shape.pointer_of written.pointer (λ t. t) (λ t. is_guarantee_set t.g) PointerIsInRange pointer_back e.locals h.1, map-id) (by_test (are_guarantees e))
  where
    by_test : (b : Bool) → option_map (λ ts. record { shared = []; locals = ts; w = e.w }) (if b then Some e.locals else None) ≡ (if b then Some (without_shared e) else None)
    by_test true = refl
    by_test false = refl

-- ---- certificates

pub cert_back : (c : Cert) → IsInRange c → shape.certificate_of (written.cert c) ≡ read_back c
cert_back c h =
    let envs = list_back shape.env_of written.env without_shared are_guarantees EnvIsInRange env_back c.env h.1 in
    let trees = whole_list_back shape.tree_of written.tree TreeFits tree_back c.trees h.2 in
    let rest = by_test (list_all are_guarantees c.env) in
    rw (envs, trees) (ap (λ r. if shape.is_version c.version then r else Err (fault.Version c.version)) rest)
  where
    by_test : (b : Bool)
        → shape.with_lists (if b then Some (map without_shared c.env) else None) (Some c.trees) c.version
        ≡ (if b then Ok (stored c) else Err (fault.Shape field.Env))
    by_test true = refl
    by_test false = refl

-- ---- certificates whose guarantees are of the four sets

none_above : (n : ℕ) → 8 ≤ n → is_guarantee_set (numbered n) ≡ false
none_above n h =
    let other : (k : ℕ) → k < 8 → (n == k) ≡ false = λ k small. ne_eqb n k (λ e. omega arith) in
    rw (other 0 (omega arith), other 1 (omega arith), other 3 (omega arith), other 7 (omega arith)) refl

guarantee_small : (g : Guar) → is_guarantee_set g ≡ true → g.0 < 256
guarantee_small g h = elim (cases_lt g.0 8) [ inl small ↦ omega arith | inr big ↦ absurd (true≢false (sym h ∙ none_above g.0 big)) ]

each_weaker : {A : Type 0} (P Q : A → Type 0) → ((x : A) → P x → Q x) → (xs : List A) → AllByRecursion P xs → AllByRecursion Q xs
each_weaker P Q part [] h = tt
each_weaker P Q part (x ∷ xs) h = (part x h.0, each_weaker P Q part xs h.1)

each_passes : {A : Type 0} (P : A → Type 0) (test : A → Bool) → ((x : A) → P x → test x ≡ true) → (xs : List A) → AllByRecursion P xs → list_all test xs ≡ true
each_passes P test part [] h = refl
each_passes P test part (x ∷ xs) h = and_from (test x) (list_all test xs) (part x h.0) (each_passes P test part xs h.1)

env_in_range : (e : Env) → EnvFits e → EnvIsInRange e
env_in_range e h = (h.0, each_weaker PointerFits PointerIsInRange (λ t k. (guarantee_small t.g k.0, k.1)) e.locals h.1)

version_small : (n : ℕ) → shape.is_version n ≡ true → n < 256
version_small n h = elim (cases_lt n 256) [
  | inl small ↦ small
  | inr big ↦ absurd (true≢false (sym h ∙ rw (ne_eqb n 1 (λ e. omega arith), ne_eqb n 2 (λ e. omega arith)) refl))
]

pub in_range : (c : Cert) → CertFits c → IsInRange c
in_range c h = (version_small c.version h.0, each_weaker EnvFits EnvIsInRange env_in_range c.env h.1, h.2)

pub read_whole : (c : Cert) → CertFits c → read_back c ≡ Ok (stored c)
read_whole c h =
    let pointers = each_passes PointerFits (λ t. is_guarantee_set t.g) (λ t p. p.0) in
    let each = each_passes EnvFits are_guarantees (λ e k. pointers e.locals k.1) c.env h.1 in
    rw (h.0, each) refl
