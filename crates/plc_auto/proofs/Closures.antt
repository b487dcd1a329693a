-- Closures: the members of a closure, and that it is the least closed set. A thread's own calls and returns don't
-- matter here, so that what may happen is a retirement, a free, or nothing to a table.
use Rattle.std.proofs.Common.{◌≡◌, ℕ, ◌<◌, Bool, true, false, not, ◌&&◌, ◌||◌, ◌==◌, Option, Some, None, refl, sym, ap, ◌∙◌, subst, arith, inl, inr, ◌⊎◌}
use Rattle.std.specs.Prelude.{if◌then◌else◌}
use Rattle.std.proofs.lemmas.Bool.{and_parts, and_from, or_cases, or_left, or_right, ltb-true, lt-ltb, eqb-true, eq-eqb, both_ways}
use Rattle.plc_base.specs.Mask.{has, no_members, single, union, within}
use Rattle.plc_base.proofs.MaskLemmas.{has-empty, has-single, has-union, has-mask_of, same_members, same_tests, has-within}
use Rattle.plc_auto.specs.declared.event.EvKind.{EvKind}
use Rattle.plc_auto.specs.declared.event.EvKind.TheVariants.{Call, Done, Free}
use Rattle.plc_auto.specs.declared.observer.Observer.{Observer}
use Rattle.plc_auto.specs.declared.observer.Observer.TheVariants.{Plain, Hazard, Epoch}
use Rattle.plc_auto.specs.Table.{retires, frees, along, edges_of, count_of, step}
use Rattle.plc_base.specs.Functions.{retire, is_retire}
use Rattle.plc_auto.specs.Sets.{any_below_8, leads_to, all_locations, step_set, arrivals, reach, closure, happens, IsClosed, IsClosureOf, Within}
use Rattle.plc_auto.proofs.Tables.{all_below, below_all, each, each_at, implies, implied, heard_by, called, freed, step_live}
use Rattle.plc_auto.proofs.SetLemmas.{any_at, any_in, all_has, member_live, live_small, in_step_set, step_set_has, leads_is}

-- ---- what other threads' calls and returns do

abbrev pub same_target : Option ℕ → Option ℕ → Bool
same_target None None = true
same_target None (Some k) = false
same_target (Some j) None = false
same_target (Some j) (Some k) = j == k

target_is : (a b : Option ℕ) → same_target a b ≡ true → a ≡ b
target_is None None h = refl
target_is None (Some k) h = cc
target_is (Some j) None h = cc
target_is (Some j) (Some k) h = ap Some (eqb-true j k h)

-- of another thread's event a table sees a retirement or a free of the address alone
abbrev pub moved : Observer → ℕ → Bool → Bool → Option ℕ
moved o l retired free = if free then along freed false true l (edges_of o) else if retired then along (called false false true) false true l (edges_of o) else Some l

moved_table : (o : Observer) → each o (λ l x by_own on_this k. implies (not by_own) (same_target k (moved o l (x retires && on_this) (x frees && on_this)))) ≡ true
moved_table Plain = refl
moved_table (Hazard f) = refl
moved_table (Epoch e m) = refl

pub step_moved : (o : Observer) (l : ℕ) (kind : EvKind) (on_this : Bool) → l < count_of o → step o l kind false on_this ≡ moved o l (heard_by o kind retires && on_this) (heard_by o kind frees && on_this)
step_moved o l kind on_this h =
    target_is _ _ (implied _ _ (each_at o (λ l x by_own on_this k. implies (not by_own) (same_target k (moved o l (x retires && on_this) (x frees && on_this)))) (moved_table o) l kind false on_this h) refl)

pub step_retired : (o : Observer) (l : ℕ) → l < count_of o → step o l (Call retire) false true ≡ moved o l true false
step_retired o l h = step_moved o l (Call retire) true h

pub step_freed : (o : Observer) (l : ℕ) → l < count_of o → step o l Free false true ≡ moved o l false true
step_freed o l h = step_moved o l Free true h

-- ---- the row of one location

-- k is j, or where a retirement leads from j, or where a free leads from j
abbrev pub reaches : Observer → Bool → ℕ → ℕ → Bool
reaches o with_free j k = (j == k) || (leads_to (moved o j true false) k || (with_free && leads_to (moved o j false true) k))

abbrev pub goes : (ℕ → Bool) → Option ℕ → Bool
goes p None = true
goes p (Some k) = p k

-- what they lead to they lead no further
abbrev pub is_closed_row : Observer → Bool → ℕ → Bool
is_closed_row o with_free j = all_below (count_of o) (λ l. implies (reaches o with_free j l) (goes (reaches o with_free j) (moved o l true false) && implies with_free (goes (reaches o with_free j) (moved o l false true))))

rows_table : (o : Observer) (with_free : Bool) → all_below (count_of o) (is_closed_row o with_free) ≡ true
rows_table Plain true = refl
rows_table Plain false = refl
rows_table (Hazard f) true = refl
rows_table (Hazard f) false = refl
rows_table (Epoch e m) true = refl
rows_table (Epoch e m) false = refl

-- the three things that may move an address: none, a retirement, a free that is let happen
pub data Moves (o : Observer) (with_free : Bool) (l : ℕ) (k : ℕ) : Type 0 where
  stays : l ≡ k → Moves o with_free l k
  by_retirement : moved o l true false ≡ Some k → Moves o with_free l k
  by_free : with_free ≡ true → moved o l false true ≡ Some k → Moves o with_free l k

pub moves_by : (o : Observer) (with_free : Bool) (l k : ℕ) (kind : EvKind) (on_this : Bool) → l < count_of o → happens with_free kind on_this ≡ true → step o l kind false on_this ≡ Some k → Moves o with_free l k
moves_by o with_free l k (Call f) on_this h may e = go (is_retire f && on_this) (sym (step_moved o l (Call f) on_this h) ∙ e)
  where
    go : (b : Bool) → moved o l b false ≡ Some k → Moves o with_free l k
    go true e = by_retirement e
    go false e = stays (cc)
moves_by o with_free l k (Done f) on_this h may e = stays (let g : moved o l false false ≡ Some k = sym (step_moved o l (Done f) on_this h) ∙ e in cc)
moves_by o with_free l k Free true h may e = go with_free may
  where
    go : (b : Bool) → (b || false) ≡ true → Moves o b l k
    go true may = by_free refl (sym (step_moved o l Free true h) ∙ e)
    go false may = cc
moves_by o with_free l k Free false h may e = stays (let g : moved o l false false ≡ Some k = sym (step_moved o l Free false h) ∙ e in cc)

pub reaches_closed : (o : Observer) (with_free : Bool) (j l k : ℕ) → j < count_of o → l < count_of o → reaches o with_free j l ≡ true → Moves o with_free l k → reaches o with_free j k ≡ true
reaches_closed o with_free j l k small live r (stays e) = subst (λ k. reaches o with_free j k ≡ true) e r
reaches_closed o with_free j l k small live r (by_retirement e) =
    let both = and_parts _ _ (implied _ _ (below_all (count_of o) (λ l. implies (reaches o with_free j l) (goes (reaches o with_free j) (moved o l true false) && implies with_free (goes (reaches o with_free j) (moved o l false true)))) (below_all (count_of o) (is_closed_row o with_free) (rows_table o with_free) j small) l live) r) in
    subst (λ q. goes (reaches o with_free j) q ≡ true) e both.0
reaches_closed o with_free j l k small live r (by_free f e) =
    let both = and_parts _ _ (implied _ _ (below_all (count_of o) (λ l. implies (reaches o with_free j l) (goes (reaches o with_free j) (moved o l true false) && implies with_free (goes (reaches o with_free j) (moved o l false true)))) (below_all (count_of o) (is_closed_row o with_free) (rows_table o with_free) j small) l live) r) in
    subst (λ q. goes (reaches o with_free j) q ≡ true) e (implied _ _ both.1 f)

-- a row is what its location reaches
has-arrivals : (q : Option ℕ) (k : ℕ) → has (arrivals q) k ≡ leads_to q k
has-arrivals None k = has-empty k
has-arrivals (Some j) k = has-single j k

has-arrivals_if : (b : Bool) (q : Option ℕ) (k : ℕ) → has (if b then arrivals q else no_members) k ≡ (b && leads_to q k)
has-arrivals_if true q k = has-arrivals q k
has-arrivals_if false q k = has-empty k

pub has-reach : (o : Observer) (with_free : Bool) (j k : ℕ) → j < count_of o → has (reach o with_free j) k ≡ reaches o with_free j k
unfolding reach
has-reach o with_free j k small =
    has-union (single j) _ k
    ∙ ap (λ b. b || has (union (arrivals (step o j (Call retire) false true)) (if with_free then arrivals (step o j Free false true) else no_members)) k) (has-single j k)
    ∙ ap (λ b. (j == k) || b) (
    has-union _ _ k
    ∙ ap (λ b. b || has (if with_free then arrivals (step o j Free false true) else no_members) k) (has-arrivals _ k ∙ ap (λ q. leads_to q k) (step_retired o j small))
    ∙ ap (λ b. leads_to (moved o j true false) k || b) (has-arrivals_if with_free _ k ∙ ap (λ q. with_free && leads_to q k) (step_freed o j small)))

-- ---- members of a closure

pub record ReachedFrom (o : Observer) (with_free : Bool) (m : ℕ) (k : ℕ) : Type 0 where
  pub from : ℕ
  pub small : from < 8
  pub member : has m from ≡ true
  pub row : has (reach o with_free from) k ≡ true

pub in_closure : (o : Observer) (with_free : Bool) (m k : ℕ) → has (closure o with_free m) k ≡ true → (k < 8) × ReachedFrom o with_free m k
unfolding closure
in_closure o with_free m k h =
    let test = and_parts _ _ (sym (has-mask_of (λ k. any_below_8 (λ l. has m l && has (reach o with_free l) k)) k) ∙ h) in
    let found = any_in (λ l. has m l && has (reach o with_free l) k) test.1 in
    let both = and_parts _ _ found.2 in
    (ltb-true k 8 test.0, record { from = found.0; small = found.1; member = both.0; row = both.1 })

pub closure_has : (o : Observer) (with_free : Bool) (m l k : ℕ) → l < 8 → k < 8 → has m l ≡ true → has (reach o with_free l) k ≡ true → has (closure o with_free m) k ≡ true
unfolding closure
closure_has o with_free m l k small live h row =
    has-mask_of (λ k. any_below_8 (λ l. has m l && has (reach o with_free l) k)) k
    ∙ and_from _ _ (lt-ltb k 8 live) (any_at (λ l. has m l && has (reach o with_free l) k) l small (and_from _ _ h row))

-- a row holds its own location
pub row_itself : (o : Observer) (with_free : Bool) (l : ℕ) → has (reach o with_free l) l ≡ true
unfolding reach
row_itself o with_free l = has-union (single l) _ l ∙ or_left _ _ (has-single l l ∙ eq-eqb l l refl)

-- what locations reach are locations
pub reaches_live : (o : Observer) (with_free : Bool) (j k : ℕ) → j < count_of o → has (reach o with_free j) k ≡ true → k < count_of o
reaches_live o with_free j k small h = elim (or_cases _ _ (sym (has-reach o with_free j k small) ∙ h)) [
  | inl same ↦ (let e = eqb-true j k same in omega arith)
  | inr moves ↦ elim (or_cases _ _ moves) [
    | inl e ↦ step_live o j k (Call retire) false true small (step_retired o j small ∙ leads_is _ k e)
    | inr e ↦ step_live o j k Free false true small (step_freed o j small ∙ leads_is _ k (and_parts _ _ e).1)
  ]
]

pub closure_live : (o : Observer) (with_free : Bool) (m : ℕ) → within m (all_locations o) ≡ true → within (closure o with_free m) (all_locations o) ≡ true
closure_live o with_free m w = has-within _ _ (λ k h.
    let r = (in_closure o with_free m k h).1 in
    all_has o k (reaches_live o with_free r.from k (member_live o m r.from w r.member) r.row))

pub closure_holds : (o : Observer) (with_free : Bool) (m l : ℕ) → within m (all_locations o) ≡ true → has m l ≡ true → has (closure o with_free m) l ≡ true
closure_holds o with_free m l w h =
    let small = live_small o l (member_live o m l w h) in
    closure_has o with_free m l l small small h (row_itself o with_free l)

pub closure_closed : (o : Observer) (with_free : Bool) (m l k : ℕ) (kind : EvKind) (on_this : Bool) → within m (all_locations o) ≡ true → has (closure o with_free m) l ≡ true → happens with_free kind on_this ≡ true → step o l kind false on_this ≡ Some k → has (closure o with_free m) k ≡ true
closure_closed o with_free m l k kind on_this w h may e =
    let r = (in_closure o with_free m l h).1 in
    let start = member_live o m r.from w r.member in
    let live = reaches_live o with_free r.from l start r.row in
    let row : has (reach o with_free r.from) k ≡ true =
    has-reach o with_free r.from k start
    ∙ reaches_closed o with_free r.from l k start live (sym (has-reach o with_free r.from l start) ∙ r.row) (moves_by o with_free l k kind on_this live may e) in
    closure_has o with_free m r.from k r.small (live_small o k (step_live o l k kind false on_this live e)) r.member row

pub closure_least : (o : Observer) (with_free : Bool) (m d : ℕ) → within m (all_locations o) ≡ true → Within m d → IsClosed o with_free d → Within (closure o with_free m) d
closure_least o with_free m d w holds closed k h =
    let r = (in_closure o with_free m k h).1 in
    let start = member_live o m r.from w r.member in
    let inside = holds r.from r.member in
    elim (or_cases _ _ (sym (has-reach o with_free r.from k start) ∙ r.row)) [
      | inl same ↦ subst (λ k. has d k ≡ true) (eqb-true r.from k same) inside
      | inr moves ↦ elim (or_cases _ _ moves) [
        | inl e ↦ closed r.from k (Call retire) true inside refl (step_retired o r.from start ∙ leads_is _ k e)
        | inr e ↦ closed r.from k Free true inside (or_left with_free false (and_parts with_free _ e).0) (step_freed o r.from start ∙ leads_is _ k (and_parts with_free _ e).1)
      ]
    ]

pub closure_is : (o : Observer) (with_free : Bool) (m : ℕ) → within m (all_locations o) ≡ true → IsClosureOf o with_free m (closure o with_free m)
closure_is o with_free m w = record {
  holds = λ l h. closure_holds o with_free m l w h;
  closed = λ l k kind on_this h may e. closure_closed o with_free m l k kind on_this w h may e;
  least = λ d holds closed. closure_least o with_free m d w holds closed;
}

-- ---- a closure by two steps of the set

abbrev pub two_steps : Observer → Bool → ℕ → ℕ
two_steps o false m = union m (step_set o m (Call retire) false true)
two_steps o true m = union (union m (step_set o m (Call retire) false true)) (step_set o m Free false true)

in_two_steps : (o : Observer) (with_free : Bool) (m k : ℕ) → has (two_steps o with_free m) k ≡ true → (has m k ≡ true) ⊎ ((has (step_set o m (Call retire) false true) k ≡ true) ⊎ ((with_free ≡ true) × (has (step_set o m Free false true) k ≡ true)))
in_two_steps o false m k h = elim (or_cases _ _ (sym (has-union _ _ k) ∙ h)) [ inl e ↦ inl e | inr e ↦ inr (inl e) ]
in_two_steps o true m k h = elim (or_cases _ _ (sym (has-union _ _ k) ∙ h)) [
  | inl e ↦ elim (or_cases _ _ (sym (has-union _ _ k) ∙ e)) [ inl a ↦ inl a | inr b ↦ inr (inl b) ]
  | inr e ↦ inr (inr (refl, e))
]

two_steps_have : (o : Observer) (with_free : Bool) (m k : ℕ) → (has m k ≡ true) ⊎ ((has (step_set o m (Call retire) false true) k ≡ true) ⊎ ((with_free ≡ true) × (has (step_set o m Free false true) k ≡ true))) → has (two_steps o with_free m) k ≡ true
two_steps_have o false m k (inl e) = has-union _ _ k ∙ or_left _ _ e
two_steps_have o false m k (inr (inl e)) = has-union _ _ k ∙ or_right _ _ e
two_steps_have o false m k (inr (inr e)) = absurd (both_ways _ refl e.0)
two_steps_have o true m k (inl e) = has-union _ _ k ∙ or_left _ _ (has-union _ _ k ∙ or_left _ _ e)
two_steps_have o true m k (inr (inl e)) = has-union _ _ k ∙ or_left _ _ (has-union _ _ k ∙ or_right _ _ e)
two_steps_have o true m k (inr (inr e)) = has-union _ _ k ∙ or_right _ _ e.1

two_steps_reached : (o : Observer) (with_free : Bool) (m k : ℕ) → within m (all_locations o) ≡ true → (has m k ≡ true) ⊎ ((has (step_set o m (Call retire) false true) k ≡ true) ⊎ ((with_free ≡ true) × (has (step_set o m Free false true) k ≡ true))) → has (closure o with_free m) k ≡ true
two_steps_reached o with_free m k w (inl e) = closure_holds o with_free m k w e
two_steps_reached o with_free m k w (inr (inl e)) =
    let c = in_step_set o m k (Call retire) false true e in
    closure_closed o with_free m c.from k (Call retire) true w (closure_holds o with_free m c.from w c.member) refl c.leads
two_steps_reached o with_free m k w (inr (inr e)) =
    let c = in_step_set o m k Free false true e.1 in
    closure_closed o with_free m c.from k Free true w (closure_holds o with_free m c.from w c.member) (or_left with_free false e.0) c.leads

reached_by_two_steps : (o : Observer) (with_free : Bool) (m k : ℕ) → within m (all_locations o) ≡ true → has (closure o with_free m) k ≡ true → (has m k ≡ true) ⊎ ((has (step_set o m (Call retire) false true) k ≡ true) ⊎ ((with_free ≡ true) × (has (step_set o m Free false true) k ≡ true)))
reached_by_two_steps o with_free m k w h =
    let r = (in_closure o with_free m k h).1 in
    let start = member_live o m r.from w r.member in
    elim (or_cases _ _ (sym (has-reach o with_free r.from k start) ∙ r.row)) [
      | inl same ↦ inl (subst (λ k. has m k ≡ true) (eqb-true r.from k same) r.member)
      | inr moves ↦ elim (or_cases _ _ moves) [
        | inl e ↦ inr (inl (step_set_has o m r.from k (Call retire) false true r.member start (step_retired o r.from start ∙ leads_is _ k e)))
        | inr e ↦ (let both = and_parts _ _ e in inr (inr (both.0, step_set_has o m r.from k Free false true r.member start (step_freed o r.from start ∙ leads_is _ k both.1))))
      ]
    ]

pub closure_by_two_steps : (o : Observer) (with_free : Bool) (m : ℕ) → within m (all_locations o) ≡ true → two_steps o with_free m ≡ closure o with_free m
closure_by_two_steps o with_free m w = same_members _ _ (λ k. same_tests _ _
    (λ h. two_steps_reached o with_free m k w (in_two_steps o with_free m k h))
    (λ h. two_steps_have o with_free m k (reached_by_two_steps o with_free m k w h)))
