-- Facts on the three tables. Each is a test of every live location, of what an event may be to a table, and of own or
-- other and this or other; it computes for each observer, and `each_at` turns the test into the fact.
use Rattle.std.proofs.Common.{◌≡◌, ℕ, zero, suc, ◌<◌, Bool, true, false, not, ◌&&◌, ◌||◌, ◌==◌, Option, Some, None, is_none, refl, sym, ap, ◌∙◌, subst, arith, inl, inr}
use Rattle.std.specs.Prelude.{nat_lt, IfSome}
use Rattle.std.proofs.lemmas.Bool.{and_parts, and_from, cases_eq, ltb-true, eqb-true, eq-eqb, not-true, not_from_false, both_ways}
use Rattle.plc_base.specs.declared.ids.FuncId.{FuncId}
use Rattle.plc_base.specs.declared.ids.LocId.{LocId}
use Rattle.plc_auto.specs.declared.event.EvKind.{EvKind}
use Rattle.plc_auto.specs.declared.event.EvKind.TheVariants.{Call, Done, Free}
use Rattle.plc_auto.specs.declared.observer.Observer.{Observer}
use Rattle.plc_auto.specs.declared.observer.Observer.TheVariants.{Plain, Hazard, Epoch}
use Rattle.plc_auto.specs.Table.{Label, retires, asks, granted, gives_up, frees, bears, asks_by, gives_up_by, along, edges_of, count_of, step, target_of, is_well_formed}
use Rattle.plc_base.specs.Functions.{is_retire}
use Rattle.plc_auto.specs.Location.{is_retired_location}
use Rattle.plc_auto.specs.Laws.{is_free, is_retirement}

-- ---- tests over finitely many values

abbrev pub all_below : ℕ → (ℕ → Bool) → Bool
all_below zero p = true
all_below (suc n) p = p n && all_below n p

pub below_all : (n : ℕ) (p : ℕ → Bool) → all_below n p ≡ true → (k : ℕ) → k < n → p k ≡ true
below_all zero p e k h = absurd (omega arith)
below_all (suc n) p e k h =
    elim (cases_eq k n) [
      | inl is ↦ subst (λ j. p j ≡ true) (sym is) (and_parts _ _ e).0
      | inr not_is ↦ below_all n p (and_parts _ _ e).1 k (omega arith)
    ]

abbrev pub all_bools : (Bool → Bool) → Bool
all_bools p = p true && p false

pub bools_all : (p : Bool → Bool) → all_bools p ≡ true → (b : Bool) → p b ≡ true
bools_all p e true = (and_parts _ _ e).0
bools_all p e false = (and_parts _ _ e).1

abbrev pub implies : Bool → Bool → Bool
implies a b = not a || b

pub implied : (a b : Bool) → implies a b ≡ true → a ≡ true → b ≡ true
implied true b e h = e
implied false b e h = cc

-- ---- what an event may be to a table: a call with some of three labels, a return with one or none, or a free

abbrev pub heard : Bool → Bool → Bool → Bool → Bool → Label → Bool
heard a g u r f asks = a
heard a g u r f granted = g
heard a g u r f gives_up = u
heard a g u r f retires = r
heard a g u r f frees = f

abbrev pub called : Bool → Bool → Bool → Label → Bool
called a u r = heard a false u r false

abbrev pub returned : Bool → Label → Bool
returned g = heard false g false false false

abbrev pub freed : Label → Bool
freed = heard false false false false true

abbrev pub all_heard : ((Label → Bool) → Bool) → Bool
all_heard p = all_bools (λ a. all_bools (λ u. all_bools (λ r. p (called a u r)))) && (all_bools (λ g. p (returned g)) && p freed)

abbrev pub heard_by : Observer → EvKind → Label → Bool
heard_by o (Call f) = called (bears o (Call f) asks) (bears o (Call f) gives_up) (bears o (Call f) retires)
heard_by o (Done f) = returned (bears o (Done f) granted)
heard_by o Free = freed

pub heard_all : (p : (Label → Bool) → Bool) → all_heard p ≡ true → (o : Observer) (kind : EvKind) → p (heard_by o kind) ≡ true
heard_all p e o (Call f) =
    let calls = (and_parts _ _ e).0 in
    bools_all (λ r. p (called (bears o (Call f) asks) (bears o (Call f) gives_up) r))
    (bools_all (λ u. all_bools (λ r. p (called (bears o (Call f) asks) u r)))
    (bools_all (λ a. all_bools (λ u. all_bools (λ r. p (called a u r)))) calls (bears o (Call f) asks)) (bears o (Call f) gives_up)) (bears o (Call f) retires)
heard_all p e o (Done f) = bools_all (λ g. p (returned g)) (and_parts _ _ (and_parts _ _ e).1).0 (bears o (Done f) granted)
heard_all p e o Free = (and_parts _ _ (and_parts _ _ e).1).1

-- a table sees no more of an event than its labels
pub step_heard : (o : Observer) (l : ℕ) (kind : EvKind) (by_own on_this : Bool) → step o l kind by_own on_this ≡ along (heard_by o kind) by_own on_this l (edges_of o)
unfolding step
step_heard Plain l (Call g) by_own on_this = refl
step_heard Plain l (Done g) by_own on_this = refl
step_heard Plain l Free by_own on_this = refl
step_heard (Hazard f) l (Call g) by_own on_this = refl
step_heard (Hazard f) l (Done g) by_own on_this = refl
step_heard (Hazard f) l Free by_own on_this = refl
step_heard (Epoch e m) l (Call g) by_own on_this = refl
step_heard (Epoch e m) l (Done g) by_own on_this = refl
step_heard (Epoch e m) l Free by_own on_this = refl

-- a test of a location, of what is heard, of own and this, and of where it leads
abbrev pub Test : Type 0
Test = ℕ → (Label → Bool) → Bool → Bool → Option ℕ → Bool

abbrev pub each : Observer → Test → Bool
each o p = all_below (count_of o) (λ l. all_heard (λ x. all_bools (λ by_own. all_bools (λ on_this. p l x by_own on_this (along x by_own on_this l (edges_of o))))))

pub each_at : (o : Observer) (p : Test) → each o p ≡ true → (l : ℕ) (kind : EvKind) (by_own on_this : Bool) → l < count_of o → p l (heard_by o kind) by_own on_this (step o l kind by_own on_this) ≡ true
each_at o p e l kind by_own on_this h =
    let at_l = below_all (count_of o) (λ l. all_heard (λ x. all_bools (λ by_own. all_bools (λ on_this. p l x by_own on_this (along x by_own on_this l (edges_of o)))))) e l h in
    let at_kind = heard_all (λ x. all_bools (λ by_own. all_bools (λ on_this. p l x by_own on_this (along x by_own on_this l (edges_of o))))) at_l o kind in
    let at_own = bools_all (λ by_own. all_bools (λ on_this. p l (heard_by o kind) by_own on_this (along (heard_by o kind) by_own on_this l (edges_of o)))) at_kind by_own in
    let at_this = bools_all (λ on_this. p l (heard_by o kind) by_own on_this (along (heard_by o kind) by_own on_this l (edges_of o))) at_own on_this in
    subst (λ k. p l (heard_by o kind) by_own on_this k ≡ true) (sym (step_heard o l kind by_own on_this)) at_this

-- what holds of each of the three tables holds of the table of each observer
by_tables : (P : Observer → Type 0) → P Plain → ((f : FuncId) → P (Hazard f)) → ((e m : FuncId) → P (Epoch e m))
    → (o : Observer) → P o
by_tables P plain hazard epoch Plain = plain
by_tables P plain hazard epoch (Hazard f) = hazard f
by_tables P plain hazard epoch (Epoch e m) = epoch e m

-- ---- each edge leads to a live location or to `bad`

abbrev pub is_live : Observer → Option ℕ → Bool
is_live o None = true
is_live o (Some k) = nat_lt k (count_of o)

live_table : (o : Observer) → each o (λ l x by_own on_this k. is_live o k) ≡ true
live_table = by_tables (λ o. each o (λ l x by_own on_this k. is_live o k) ≡ true) refl (λ f. refl) (λ e m. refl)

pub step_live : (o : Observer) (l k : ℕ) (kind : EvKind) (by_own on_this : Bool) → l < count_of o → step o l kind by_own on_this ≡ Some k → k < count_of o
step_live o l k kind by_own on_this h e =
    ltb-true k (count_of o) (subst (λ j. is_live o j ≡ true) e (each_at o (λ l x by_own on_this k. is_live o k) (live_table o) l kind by_own on_this h))

-- the edges of an observer's table lead where its step leads
pub along_step : (o table : Observer) (l : ℕ) (kind : EvKind) (by_own on_this : Bool) {q : Option ℕ} → o ≡ table → q ≡ along (bears table kind) by_own on_this l (edges_of table) → q ≡ step o l kind by_own on_this
unfolding step
along_step o table l kind by_own on_this is e = e ∙ ap (λ o. along (bears o kind) by_own on_this l (edges_of o)) (sym is)

pub target_live : (o : Observer) (l : ℕ) (kind : EvKind) (by_own on_this : Bool) (q : Option LocId) → l < count_of o → target_of q ≡ step o l kind by_own on_this → IfSome q (λ k. k.0 < count_of o)
target_live o l kind by_own on_this None h e = tt
target_live o l kind by_own on_this (Some k) h e = step_live o l k.0 kind by_own on_this h (sym e)

-- ---- only a free of the address leads to `bad`

bad_table : (o : Observer) → each o (λ l x by_own on_this k. implies (is_none k) (x frees && on_this)) ≡ true
bad_table = by_tables (λ o. each o (λ l x by_own on_this k. implies (is_none k) (x frees && on_this)) ≡ true)
    refl (λ f. refl) (λ e m. refl)

pub heard_frees : (o : Observer) (kind : EvKind) → heard_by o kind frees ≡ is_free kind
heard_frees o (Call f) = refl
heard_frees o (Done f) = refl
heard_frees o Free = refl

pub bad_by_free : (o : Observer) (l : ℕ) (kind : EvKind) (by_own on_this : Bool) → l < count_of o → step o l kind by_own on_this ≡ None → (is_free kind && on_this) ≡ true
bad_by_free o l kind by_own on_this h e =
    ap (λ b. b && on_this) (sym (heard_frees o kind)) ∙ implied _ _ (each_at o (λ l x by_own on_this k. implies (is_none k) (x frees && on_this)) (bad_table o) l kind by_own on_this h) (ap (λ k. is_none k) e)

-- ---- the first letter of a location's name

abbrev pub has_letter : Observer → Bool → Option ℕ → Bool
has_letter o retired None = true
has_letter o true (Some k) = is_retired_location o k
has_letter o false (Some k) = not (is_retired_location o k)

-- from an unretired location what isn't a retirement of the address leads to an unretired one, a free of the address to `bad`
unretired_table : (o : Observer) → each o (λ l x by_own on_this k. implies (not (is_retired_location o l) && not (x retires && on_this)) (has_letter o false k && implies (x frees && on_this) (is_none k))) ≡ true
unretired_table = by_tables (λ o. each o (λ l x by_own on_this k. implies (not (is_retired_location o l) && not (x retires && on_this)) (has_letter o false k && implies (x frees && on_this) (is_none k))) ≡ true)
    refl (λ f. refl) (λ e m. refl)

-- from a retired location a free of the address leads to an unretired one, everything else to a retired one
retired_table : (o : Observer) → each o (λ l x by_own on_this k. implies (is_retired_location o l) (has_letter o (not (x frees && on_this)) k)) ≡ true
retired_table = by_tables (λ o. each o (λ l x by_own on_this k. implies (is_retired_location o l) (has_letter o (not (x frees && on_this)) k)) ≡ true)
    refl (λ f. refl) (λ e m. refl)

-- a retirement that is nothing else leads from an unretired location to a retired one
retirement_table : (o : Observer) → each o (λ l x by_own on_this k. implies (not (is_retired_location o l) && ((x retires && on_this) && not (x asks || x gives_up))) (has_letter o true k && not (is_none k))) ≡ true
retirement_table = by_tables (λ o. each o (λ l x by_own on_this k. implies (not (is_retired_location o l) && ((x retires && on_this) && not (x asks || x gives_up))) (has_letter o true k && not (is_none k))) ≡ true)
    refl (λ f. refl) (λ e m. refl)

pub heard_retires : (o : Observer) (kind : EvKind) → heard_by o kind retires ≡ is_retirement kind
heard_retires o (Call f) = refl
heard_retires o (Done f) = refl
heard_retires o Free = refl

letter_of : (o : Observer) (b : Bool) (q : Option ℕ) (k : ℕ) → q ≡ Some k → has_letter o b q ≡ true → is_retired_location o k ≡ b
letter_of o b None k e h = cc
letter_of o true (Some j) k e h = let same : j ≡ k = cc in ap (is_retired_location o) (sym same) ∙ h
letter_of o false (Some j) k e h = let same : j ≡ k = cc in ap (is_retired_location o) (sym same) ∙ not-true _ h

both_false : (r t : Bool) → r ≡ false → t ≡ false → (not r && not t) ≡ true
both_false false false e g = refl
both_false true t e g = cc
both_false false true e g = cc

unretired_row : (o : Observer) (l : ℕ) (kind : EvKind) (by_own on_this : Bool) → l < count_of o → is_retired_location o l ≡ false → (is_retirement kind && on_this) ≡ false → (has_letter o false (step o l kind by_own on_this) ≡ true) × (implies (is_free kind && on_this) (is_none (step o l kind by_own on_this)) ≡ true)
unretired_row o l kind by_own on_this h u r =
    let row = implied _ _ (each_at o (λ l x by_own on_this k. implies (not (is_retired_location o l) && not (x retires && on_this)) (has_letter o false k && implies (x frees && on_this) (is_none k))) (unretired_table o) l kind by_own on_this h) (both_false (is_retired_location o l) (heard_by o kind retires && on_this) u (ap (λ b. b && on_this) (heard_retires o kind) ∙ r)) in
    let both = and_parts _ _ row in
    (both.0, subst (λ b. implies (b && on_this) (is_none (step o l kind by_own on_this)) ≡ true) (heard_frees o kind) both.1)

-- what isn't a retirement of the address keeps it unretired
pub unretired_stays : (o : Observer) (l k : ℕ) (kind : EvKind) (by_own on_this : Bool) → l < count_of o → is_retired_location o l ≡ false → (is_retirement kind && on_this) ≡ false → step o l kind by_own on_this ≡ Some k → is_retired_location o k ≡ false
unretired_stays o l k kind by_own on_this h u r e = letter_of o false _ k e (unretired_row o l kind by_own on_this h u r).0

-- an unretired address isn't freed
pub unretired_kept : (o : Observer) (l : ℕ) (by_own : Bool) → l < count_of o → is_retired_location o l ≡ false → step o l Free by_own true ≡ None
unretired_kept o l by_own h u = none_is _ (unretired_row o l Free by_own true h u refl).1
  where
    none_is : (q : Option ℕ) → implies true (is_none q) ≡ true → q ≡ None
    none_is None e = refl
    none_is (Some k) e = cc

pub retired_turns : (o : Observer) (l k : ℕ) (kind : EvKind) (by_own on_this : Bool) → l < count_of o → is_retired_location o l ≡ true → step o l kind by_own on_this ≡ Some k → is_retired_location o k ≡ not (is_free kind && on_this)
retired_turns o l k kind by_own on_this h r e =
    let row = implied _ _ (each_at o (λ l x by_own on_this k. implies (is_retired_location o l) (has_letter o (not (x frees && on_this)) k)) (retired_table o) l kind by_own on_this h) r in
    letter_of o _ _ k e row ∙ ap (λ b. not (b && on_this)) (heard_frees o kind)

-- in a well-formed observer a retirement is no call of the scheme
apart : (a b c : ℕ) → (a == b) ≡ true → not (c == b) ≡ true → (a == c) ≡ true → ⊥
apart a b c e n g =
    let one = eqb-true a b e in
    let two = eqb-true a c g in
    let same : c ≡ b = omega arith in
    both_ways _ (not-true _ n) (eq-eqb c b same)

retirement_alone : (o : Observer) (f : FuncId) → is_well_formed o ≡ true → is_retire f ≡ true → not (asks_by o f || gives_up_by o f) ≡ true
retirement_alone Plain f w r = refl
retirement_alone (Hazard g) f w r = go (f.0 == g.0) refl
  where
    go : (b : Bool) → (f.0 == g.0) ≡ b → not (b || false) ≡ true
    go true e = absurd (apart f.0 0 g.0 r w e)
    go false e = refl
retirement_alone (Epoch e l) f w r = go (f.0 == e.0) (f.0 == l.0) refl refl
  where
    both : (not (is_retire e) ≡ true) × (not (is_retire l) ≡ true)
    both = and_parts _ _ w

    go : (a b : Bool) → (f.0 == e.0) ≡ a → (f.0 == l.0) ≡ b → not (a || b) ≡ true
    go true b is_e is_l = absurd (apart f.0 0 e.0 r both.0 is_e)
    go false true is_e is_l = absurd (apart f.0 0 l.0 r both.1 is_l)
    go false false is_e is_l = refl

pub retirement_turns : (o : Observer) (l k : ℕ) (kind : EvKind) (by_own on_this : Bool) → is_well_formed o ≡ true → l < count_of o → is_retired_location o l ≡ false → (is_retirement kind && on_this) ≡ true → step o l kind by_own on_this ≡ Some k → is_retired_location o k ≡ true
retirement_turns o l k (Call f) by_own on_this w h u r e =
    let parts = and_parts _ _ r in
    let alone = retirement_alone o f w parts.0 in
    let row = implied _ _ (each_at o (λ l x by_own on_this k. implies (not (is_retired_location o l) && ((x retires && on_this) && not (x asks || x gives_up))) (has_letter o true k && not (is_none k))) (retirement_table o) l (Call f) by_own on_this h)
    (and_from _ _ (not_from_false _ u) (and_from _ _ r alone)) in
    letter_of o true _ k e (and_parts _ _ row).0
retirement_turns o l k (Done f) by_own on_this w h u r e = cc
retirement_turns o l k Free by_own on_this w h u r e = cc
