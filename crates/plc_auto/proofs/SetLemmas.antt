-- Members of the sets of locations. What is proved of sets above this crate goes by these.
use Rattle.std.proofs.Common.{◌≡◌, ℕ, zero, suc, ◌<◌, Bool, true, false, not, ◌&&◌, Option, Some, None, is_none, refl, sym, ap, ◌∙◌, arith, inl, inr, ◌⊎◌}
use Rattle.std.specs.Prelude.{nat_lt, if◌then◌else◌}
use Rattle.std.proofs.lemmas.Bool.{and_parts, and_from, or_cases, or_left, or_right, cases_eq, ltb-true, lt-ltb, eqb-true, eq-eqb, both_ways}
use Rattle.plc_base.specs.Mask.{has, no_members, single, below, union, within, mask_of}
use Rattle.plc_base.proofs.MaskLemmas.{has-empty, has-single, has-union, has-mask_of, same_members, same_tests, within-has, has-within}
use Rattle.plc_auto.specs.declared.event.EvKind.{EvKind}
use Rattle.plc_auto.specs.declared.event.EvKind.TheVariants.{Free}
use Rattle.plc_auto.specs.declared.observer.Observer.{Observer}
use Rattle.plc_auto.specs.declared.observer.Observer.TheVariants.{Plain, Hazard, Epoch}
use Rattle.plc_auto.specs.Table.{count_of, step}
use Rattle.plc_auto.specs.Location.{is_retired_location}
use Rattle.plc_auto.specs.Sets.{is_location, leads_to, any_below_8, all_locations, unretired, safe, step_set}
use Rattle.plc_auto.proofs.Tables.{step_live}

pub count_small : (o : Observer) → count_of o < 8
count_small Plain = omega arith
count_small (Hazard f) = omega arith
count_small (Epoch e l) = omega arith

-- the sets as they are written
pub all_written : (o : Observer) → below (count_of o) ≡ all_locations o
unfolding all_locations mask_of union single below
all_written Plain = refl
all_written (Hazard f) = refl
all_written (Epoch e l) = refl

abbrev pub unretired_count : Observer → ℕ
unretired_count Plain = 1
unretired_count (Hazard f) = 3
unretired_count (Epoch e l) = 3

pub unretired_written : (o : Observer) → below (unretired_count o) ≡ unretired o
unfolding unretired mask_of union single below
unretired_written Plain = refl
unretired_written (Hazard f) = refl
unretired_written (Epoch e l) = refl

abbrev pub kept_too : Observer → ℕ → ℕ
kept_too Plain m = m
kept_too (Hazard f) m = union m (single 6)
kept_too (Epoch e l) m = union m (single 6)

pub safe_written : (o : Observer) → kept_too o (unretired o) ≡ safe o
unfolding unretired safe step mask_of union single
safe_written Plain = refl
safe_written (Hazard f) = refl
safe_written (Epoch e l) = refl

-- ---- one of eight

pub any_at : (p : ℕ → Bool) (l : ℕ) → l < 8 → p l ≡ true → any_below_8 p ≡ true
any_at p zero h e = grind (arith, or_left, or_right)
any_at p (suc zero) h e = grind (arith, or_left, or_right)
any_at p (suc (suc zero)) h e = grind (arith, or_left, or_right)
any_at p (suc (suc (suc zero))) h e = grind (arith, or_left, or_right)
any_at p (suc (suc (suc (suc zero)))) h e = grind (arith, or_left, or_right)
any_at p (suc (suc (suc (suc (suc zero))))) h e = grind (arith, or_left, or_right)
any_at p (suc (suc (suc (suc (suc (suc zero)))))) h e = grind (arith, or_left, or_right)
any_at p (suc (suc (suc (suc (suc (suc (suc zero))))))) h e = grind (arith, or_left, or_right)
any_at p (suc (suc (suc (suc (suc (suc (suc (suc n)))))))) h e = absurd (omega arith)

pub any_in : (p : ℕ → Bool) → any_below_8 p ≡ true → (l : ℕ) × (l < 8) × (p l ≡ true)
any_in p e = grind (arith, or_cases)

-- ---- which locations are members

below_8 : (l n : ℕ) (b : Bool) → n < 8 → (nat_lt l 8 && (nat_lt l n && b)) ≡ (nat_lt l n && b)
below_8 l n b s = same_tests _ _
    (λ h. (and_parts _ _ h).1)
    (λ h. let small = ltb-true l n (and_parts _ _ h).0 in and_from _ _ (lt-ltb l 8 (omega arith)) h)

below_8_alone : (l n : ℕ) → n < 8 → (nat_lt l 8 && nat_lt l n) ≡ nat_lt l n
below_8_alone l n s = same_tests _ _
    (λ h. (and_parts _ _ h).1)
    (λ h. let small = ltb-true l n h in and_from _ _ (lt-ltb l 8 (omega arith)) h)

pub has-all : (o : Observer) (l : ℕ) → has (all_locations o) l ≡ is_location o l
unfolding all_locations
has-all o l = has-mask_of (is_location o) l ∙ below_8_alone l (count_of o) (count_small o)

pub has-unretired : (o : Observer) (l : ℕ) → has (unretired o) l ≡ (is_location o l && not (is_retired_location o l))
unfolding unretired
has-unretired o l = has-mask_of (λ l. is_location o l && not (is_retired_location o l)) l ∙ below_8 l (count_of o) _ (count_small o)

pub has-safe : (o : Observer) (l : ℕ) → has (safe o) l ≡ (is_location o l && is_none (step o l Free false true))
unfolding safe
has-safe o l = has-mask_of (λ l. is_location o l && is_none (step o l Free false true)) l ∙ below_8 l (count_of o) _ (count_small o)

pub in_all : (o : Observer) (l : ℕ) → has (all_locations o) l ≡ true → l < count_of o
in_all o l h = ltb-true l (count_of o) (sym (has-all o l) ∙ h)

pub all_has : (o : Observer) (l : ℕ) → l < count_of o → has (all_locations o) l ≡ true
all_has o l h = has-all o l ∙ lt-ltb l (count_of o) h

-- the members of a set of locations are locations
pub member_live : (o : Observer) (m l : ℕ) → within m (all_locations o) ≡ true → has m l ≡ true → l < count_of o
member_live o m l w h = in_all o l (within-has m (all_locations o) w l h)

pub live_small : (o : Observer) (l : ℕ) → l < count_of o → l < 8
live_small o l h = let s = count_small o in omega arith

pub leads_is : (q : Option ℕ) (k : ℕ) → leads_to q k ≡ true → q ≡ Some k
leads_is None k h = cc
leads_is (Some l) k h = ap Some (eqb-true l k h)

is_leads : (q : Option ℕ) (k : ℕ) → q ≡ Some k → leads_to q k ≡ true
is_leads q k e = ap (λ q. leads_to q k) e ∙ eq-eqb k k refl

-- the step of a set: the locations to which members lead
pub record ComesFrom (o : Observer) (m : ℕ) (kind : EvKind) (by_own on_this : Bool) (k : ℕ) : Type 0 where
  pub from : ℕ
  pub member : has m from ≡ true
  pub leads : step o from kind by_own on_this ≡ Some k

pub in_step_set : (o : Observer) (m k : ℕ) (kind : EvKind) (by_own on_this : Bool) → has (step_set o m kind by_own on_this) k ≡ true → ComesFrom o m kind by_own on_this k
unfolding step_set
in_step_set o m k kind by_own on_this h =
    let test = (and_parts _ _ (sym (has-mask_of (λ k. any_below_8 (λ l. has m l && leads_to (step o l kind by_own on_this) k)) k) ∙ h)).1 in
    let found = any_in (λ l. has m l && leads_to (step o l kind by_own on_this) k) test in
    let both = and_parts _ _ found.2 in
    record { from = found.0; member = both.0; leads = leads_is _ k both.1 }

pub step_set_has : (o : Observer) (m l k : ℕ) (kind : EvKind) (by_own on_this : Bool) → has m l ≡ true → l < count_of o → step o l kind by_own on_this ≡ Some k → has (step_set o m kind by_own on_this) k ≡ true
unfolding step_set
step_set_has o m l k kind by_own on_this h small e =
    let live = live_small o k (step_live o l k kind by_own on_this small e) in
    has-mask_of (λ k. any_below_8 (λ l. has m l && leads_to (step o l kind by_own on_this) k)) k
    ∙ and_from _ _ (lt-ltb k 8 live) (any_at (λ l. has m l && leads_to (step o l kind by_own on_this) k) l (live_small o l small) (and_from _ _ h (is_leads _ k e)))

-- ---- one pass over the locations

abbrev pub with_arrival : ℕ → Option ℕ → ℕ
with_arrival m None = m
with_arrival m (Some k) = union m (single k)

-- where the members below n lead
abbrev pub stepped : Observer → ℕ → EvKind → Bool → Bool → ℕ → ℕ
stepped o m kind by_own on_this zero = no_members
stepped o m kind by_own on_this (suc n) = if has m n then with_arrival (stepped o m kind by_own on_this n) (step o n kind by_own on_this) else stepped o m kind by_own on_this n

in_with_arrival : (m k : ℕ) (q : Option ℕ) → has (with_arrival m q) k ≡ true → (has m k ≡ true) ⊎ (q ≡ Some k)
in_with_arrival m k None h = inl h
in_with_arrival m k (Some j) h = elim (or_cases _ _ (sym (has-union m (single j) k) ∙ h)) [
  | inl e ↦ inl e
  | inr e ↦ inr (ap Some (eqb-true j k (sym (has-single j k) ∙ e)))
]

with_arrival_keeps : (m k : ℕ) (q : Option ℕ) → has m k ≡ true → has (with_arrival m q) k ≡ true
with_arrival_keeps m k None h = h
with_arrival_keeps m k (Some j) h = has-union m (single j) k ∙ or_left _ _ h

with_arrival_has : (m k : ℕ) (q : Option ℕ) → q ≡ Some k → has (with_arrival m q) k ≡ true
with_arrival_has m k q e = ap (λ q. has (with_arrival m q) k) e ∙ has-union m (single k) k ∙ or_right _ _ (has-single k k ∙ eq-eqb k k refl)

pub in_stepped : (o : Observer) (m : ℕ) (kind : EvKind) (by_own on_this : Bool) (n k : ℕ) → has (stepped o m kind by_own on_this n) k ≡ true → ComesFrom o m kind by_own on_this k
in_stepped o m kind by_own on_this zero k h = absurd (both_ways _ (has-empty k) h)
in_stepped o m kind by_own on_this (suc n) k h = go (has m n) refl (in_stepped o m kind by_own on_this n k) h
  where
    go : (b : Bool) → has m n ≡ b → (has (stepped o m kind by_own on_this n) k ≡ true → ComesFrom o m kind by_own on_this k) → has (if b then with_arrival (stepped o m kind by_own on_this n) (step o n kind by_own on_this) else stepped o m kind by_own on_this n) k ≡ true → ComesFrom o m kind by_own on_this k
    go true e before g = elim (in_with_arrival _ k (step o n kind by_own on_this) g) [
      | inl old ↦ before old
      | inr leads ↦ record { from = n; member = e; leads = leads }
    ]
    go false e before g = before g

pub stepped_has : (o : Observer) (m : ℕ) (kind : EvKind) (by_own on_this : Bool) (n l k : ℕ) → l < n → has m l ≡ true → step o l kind by_own on_this ≡ Some k → has (stepped o m kind by_own on_this n) k ≡ true
stepped_has o m kind by_own on_this zero l k small h e = absurd (omega arith)
stepped_has o m kind by_own on_this (suc n) l k small h e = elim (cases_eq l n) [
  | inl is ↦ (let h' : has m n ≡ true = ap (has m) (sym is) ∙ h in
      rw h' (with_arrival_has (stepped o m kind by_own on_this n) k (step o n kind by_own on_this) (ap (λ l. step o l kind by_own on_this) (sym is) ∙ e)))
  | inr not_is ↦ keeps (has m n) (stepped_has o m kind by_own on_this n l k (omega arith) h e)
]
  where
    keeps : (b : Bool) → has (stepped o m kind by_own on_this n) k ≡ true → has (if b then with_arrival (stepped o m kind by_own on_this n) (step o n kind by_own on_this) else stepped o m kind by_own on_this n) k ≡ true
    keeps true g = with_arrival_keeps _ k (step o n kind by_own on_this) g
    keeps false g = g

pub stepped_all : (o : Observer) (m : ℕ) (kind : EvKind) (by_own on_this : Bool) → within m (all_locations o) ≡ true → stepped o m kind by_own on_this (count_of o) ≡ step_set o m kind by_own on_this
stepped_all o m kind by_own on_this w = same_members _ _ (λ k. same_tests _ _
    (λ h. let c = in_stepped o m kind by_own on_this (count_of o) k h in step_set_has o m c.from k kind by_own on_this c.member (member_live o m c.from w c.member) c.leads)
    (λ h. let c = in_step_set o m k kind by_own on_this h in stepped_has o m kind by_own on_this (count_of o) c.from k (member_live o m c.from w c.member) c.member c.leads))

-- where locations lead are locations
pub step_set_live : (o : Observer) (m : ℕ) (kind : EvKind) (by_own on_this : Bool) → within m (all_locations o) ≡ true → within (step_set o m kind by_own on_this) (all_locations o) ≡ true
step_set_live o m kind by_own on_this w = has-within _ _ (λ k h.
    let c = in_step_set o m k kind by_own on_this h in
    all_has o k (step_live o c.from k kind by_own on_this (member_live o m c.from w c.member) c.leads))

pub step_set_grows : (o : Observer) (m n k : ℕ) (kind : EvKind) (by_own on_this : Bool) → ((l : ℕ) → has m l ≡ true → has n l ≡ true) → has (step_set o m kind by_own on_this) k ≡ true → has (step_set o n kind by_own on_this) k ≡ true
unfolding step_set
step_set_grows o m n k kind by_own on_this w h =
    let from_m = λ (k : ℕ). any_below_8 (λ l. has m l && leads_to (step o l kind by_own on_this) k) in
    let from_n = λ (k : ℕ). any_below_8 (λ l. has n l && leads_to (step o l kind by_own on_this) k) in
    let test = and_parts _ _ (sym (has-mask_of from_m k) ∙ h) in
    let found = any_in (λ l. has m l && leads_to (step o l kind by_own on_this) k) test.1 in
    let both = and_parts _ _ found.2 in
    has-mask_of from_n k ∙ and_from _ _ test.0 (any_at (λ l. has n l && leads_to (step o l kind by_own on_this) k) found.0 found.1 (and_from _ _ (w found.0 both.0) both.1))
