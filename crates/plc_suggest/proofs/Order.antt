-- A claim leads below the environment that it is made in, so a step that begins with more claims leads lower, and
-- meets each condition that it meets with fewer.
use Rattle.std.proofs.Common.{◌≡◌, ℕ, zero, suc, ◌+◌, ◌≤◌, true, false, Bool, List, [], ◌∷◌, ◌++◌, length, None, Some}
use Rattle.std.proofs.Common.{refl, sym, subst, ◌∙◌, ap, inl, inr, arith}
use Rattle.std.specs.Prelude.{if◌then◌else◌}
use Rattle.std.proofs.lemmas.Bool.{and_from, le-leb, eqb-true}
use Rattle.plc_base.proofs.MaskLemmas.{within_self, meet_within_left}
use Rattle.plc_lang.specs.declared.syntax.Var.{Var}
use Rattle.plc_lang.specs.declared.syntax.Var.TheVariants.{Shared, Local}
use Rattle.plc_lang.specs.declared.syntax.Primitive.{Primitive}
use Rattle.plc_lang.specs.declared.syntax.Primitive.TheVariants.{Active, Ne}
use Rattle.plc_auto.specs.declared.observer.Observer.{Observer}
use Rattle.plc_auto.specs.Sets.{unretired}
use Rattle.plc_type.specs.declared.env.PtrType.{PtrType}
use Rattle.plc_type.specs.declared.env.Env.{Env}
use Rattle.plc_type.specs.Types.{type_below}
use Rattle.plc_type.specs.Environments.{types_below, env_below, SameShape}
use Rattle.plc_type.proofs.Ordered.{type_same, env_from, trans}
use Rattle.plc_xfer.specs.declared.fault.TypeFault.{TypeFault}
use Rattle.plc_xfer.specs.Rules.{type_of, is_variable, table, remade, env_after, env_after_all, effect, active_type}
use Rattle.plc_xfer.specs.Rules.{fault_of}
use Rattle.plc_xfer.specs.Typings.{fault_at}
use Rattle.plc_xfer.proofs.Rows.{after_ne}
use Rattle.plc_xfer.proofs.Keeps.{after_shape, after_below, after_all_below, at_sooner}
use Rattle.plc_suggest.proofs.Claims.{IsPart, AreClaims}

-- ---- one claim

same_variable : (v p : Var) → is_variable v p ≡ true → v ≡ p
same_variable (Shared i) (Shared j) h = ap Shared (eqb-true i j h)
same_variable (Local i) (Local j) h = ap Local (eqb-true i j h)
same_variable (Shared i) (Local j) h = absurd cc
same_variable (Local i) (Shared j) h = absurd cc

active_lower : (o : Observer) (t : PtrType) → type_below (active_type o t) t ≡ true
active_lower o t = and_from _ _ (le-leb t.g.0 (active_type o t).g.0 (omega arith)) (meet_within_left t.m (unretired o))

effect_lower : (o : Observer) (e : Env) (p v : Var) → type_below (effect o e (Active p) v) (type_of e v) ≡ true
effect_lower o e p v = go (is_variable v p) refl
  where
    go : (same : Bool) → is_variable v p ≡ same
        → type_below (if same then active_type o (type_of e p) else type_of e v) (type_of e v) ≡ true
    go true h =
        subst (λ (u : Var). type_below (active_type o (type_of e u)) (type_of e v) ≡ true) (same_variable v p h)
        (active_lower o (type_of e v))
    go false h = type_same (type_of e v)

table_lower : (i n : ℕ) (f g : ℕ → PtrType) → ((j : ℕ) → type_below (f j) (g j) ≡ true)
    → types_below (table i n f) (table i n g) ≡ true
table_lower i zero f g h = refl
table_lower i (suc n) f g h = and_from _ _ (h i) (table_lower (i + 1) n f g h)

-- below what a primitive leads to that changes nothing
below_unchanged : (o : Observer) (e : Env) (p : Var)
    → env_below (env_after o e (Active p)) (env_after o e (Ne p p)) ≡ true
unfolding env_after remade
below_unchanged o e p = env_from (env_after o e (Active p)) (env_after o e (Ne p p)) (within_self e.w)
    (table_lower 0 (length e.shared) (λ i. effect o e (Active p) (Shared i)) (λ i. type_of e (Shared i))
    (λ i. effect_lower o e p (Shared i)))
    (table_lower 0 (length e.locals) (λ i. effect o e (Active p) (Local i)) (λ i. type_of e (Local i))
    (λ i. effect_lower o e p (Local i)))

pub active_leads_below : (o : Observer) (e : Env) (p : Var) → env_below (env_after o e (Active p)) e ≡ true
active_leads_below o e p =
    subst (λ (a : Env). env_below (env_after o e (Active p)) a ≡ true) (sym (after_ne o e p p)) (below_unchanged o e p)

-- ---- claims in front of a step

-- two environments for the same pointers, the first below the second
abbrev pub IsLower : Env → Env → Type 0
IsLower a b = SameShape a b × (env_below a b ≡ true)

claimed_lower : (o : Observer) (a b : Env) (x : Primitive) → (v : Var) × (x ≡ Active v) → IsLower a b
    → IsLower (env_after o a x) b
claimed_lower o a b x (v, is) h =
    let s = after_shape o a x in
    let below : env_below (env_after o a x) a ≡ true =
    subst (λ (y : Primitive). env_below (env_after o a y) a ≡ true) (sym is) (active_leads_below o a v) in
    ((s.0 ∙ h.0.0, s.1 ∙ h.0.1), trans (env_after o a x) a b below h.1)

both_lower : (o : Observer) (a b : Env) (x y : Primitive) → x ≡ y → IsLower a b
    → IsLower (env_after o a x) (env_after o b y)
both_lower o a b x y same h =
    let s = after_shape o a x in
    let t = after_shape o b x in
    subst (λ (z : Primitive). IsLower (env_after o a x) (env_after o b z)) same
    ((s.0 ∙ h.0.0 ∙ sym t.0, s.1 ∙ h.0.1 ∙ sym t.1), after_below o a b x h.0 h.1)

-- more claims lead lower
pub claims_lead_lower : (o : Observer) (a b : Env) (ys xs prims : List Primitive) → IsPart ys xs → AreClaims xs
    → IsLower a b → env_below (env_after_all o a (xs ++ prims)) (env_after_all o b (ys ++ prims)) ≡ true
claims_lead_lower o a b [] [] prims part claims h = after_all_below o a b prims h.0 h.1
claims_lead_lower o a b [] (x ∷ xs) prims part claims h =
    claims_lead_lower o (env_after o a x) b [] xs prims tt claims.1 (claimed_lower o a b x claims.0 h)
claims_lead_lower o a b (y ∷ ys) [] prims part claims h = absurd part
claims_lead_lower o a b (y ∷ ys) (x ∷ xs) prims (inl part) claims h =
    claims_lead_lower o (env_after o a x) (env_after o b y) ys xs prims part.1 claims.1
    (both_lower o a b x y (sym part.0) h)
claims_lead_lower o a b (y ∷ ys) (x ∷ xs) prims (inr part) claims h =
    claims_lead_lower o (env_after o a x) b (y ∷ ys) xs prims part claims.1 (claimed_lower o a b x claims.0 h)

-- a claim asks nothing
claim_holds : (e : Env) (x : Primitive) → (v : Var) × (x ≡ Active v) → fault_of e x ≡ None
claim_holds e x (v, is) = subst (λ (y : Primitive). fault_of e y ≡ None) (sym is) refl

-- each condition of primitives holds as they are run from an environment
abbrev pub AllHold : Observer → Env → List Primitive → Type 0
AllHold o e prims = (i : ℕ) → fault_at o e prims i ≡ None

holds_first : (o : Observer) (e : Env) (x : Primitive) (xs : List Primitive) → fault_of e x ≡ None
    → AllHold o (env_after o e x) xs → AllHold o e (x ∷ xs)
holds_first o e x xs h k zero = h
holds_first o e x xs h k (suc i) = k i

-- after more claims the same conditions hold
pub claims_hold : (o : Observer) (a b : Env) (ys xs prims : List Primitive) → IsPart ys xs → AreClaims xs → IsLower a b
    → AllHold o b (ys ++ prims) → AllHold o a (xs ++ prims)
claims_hold o a b [] [] prims part claims h holds = λ i. at_sooner o a b prims i h.0 h.1 (holds i)
claims_hold o a b [] (x ∷ xs) prims part claims h holds =
    holds_first o a x (xs ++ prims) (claim_holds a x claims.0)
    (claims_hold o (env_after o a x) b [] xs prims tt claims.1 (claimed_lower o a b x claims.0 h) holds)
claims_hold o a b (y ∷ ys) [] prims part claims h holds = absurd part
claims_hold o a b (y ∷ ys) (x ∷ xs) prims (inl part) claims h holds =
    holds_first o a x (xs ++ prims) (claim_holds a x claims.0)
    (claims_hold o (env_after o a x) (env_after o b y) ys xs prims part.1 claims.1
    (both_lower o a b x y (sym part.0) h) (λ i. holds (suc i)))
claims_hold o a b (y ∷ ys) (x ∷ xs) prims (inr part) claims h holds =
    holds_first o a x (xs ++ prims) (claim_holds a x claims.0)
    (claims_hold o (env_after o a x) b (y ∷ ys) xs prims part claims.1 (claimed_lower o a b x claims.0 h) holds)

-- ---- faults after claims

-- where a condition fails it's after the claims
pub fault_past : (o : Observer) (e : Env) (claims prims : List Primitive) (i : ℕ) (fault : TypeFault) → AreClaims claims
    → fault_at o e (claims ++ prims) i ≡ Some fault → length claims ≤ i
fault_past o e [] prims i fault are failed = omega arith
fault_past o e (x ∷ xs) prims zero fault are failed = let holds = claim_holds e x are.0 in absurd cc
fault_past o e (x ∷ xs) prims (suc i) fault are failed =
    let rest = fault_past o (env_after o e x) xs prims i fault are.1 failed in omega arith
