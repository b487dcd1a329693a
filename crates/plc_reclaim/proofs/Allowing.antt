-- Where frees come directly after their picks no location comes to `bad`: what is picked waits, so that it is retired for each
-- thread, and no thread stands in `r.kept`; from every other retired location a free is allowed.
use Rattle.std.proofs.Common.{◌≡◌, ℕ, ◌<◌, Bool, true, false, not, cond, ◌&&◌, ◌||◌, ◌==◌, if◌then◌else◌, List, [], ◌∷◌, ◌++◌, Option, Some, None, is_none, refl, sym, ap, ◌∙◌, subst, arith, inl, inr, suc, zero}
use Rattle.std.specs.Prelude.{◌↔◌, fold, filter, find, Contains}
use Rattle.std.specs.List.{list_any}
use Rattle.std.proofs.lemmas.Bool.{and_from, cases_Bool, eqb-true, eq-eqb, not-true, both_ways, or_parts}
use Rattle.std.proofs.lemmas.List.Folds.{list_any-append, list_any_at}
use Rattle.std.proofs.lemmas.List.Sums.{fold-append}
use Rattle.std.proofs.lemmas.Map.Views.{any-filter_same}
use Rattle.plc_base.specs.Functions.{is_retire}
use Rattle.plc_auto.specs.declared.event.Event.{Event}
use Rattle.plc_auto.specs.declared.event.Event.TheVariants.{Call as Called, Done as Returned, Free as Freed}
use Rattle.plc_auto.specs.declared.event.EvKind.TheVariants.{Free}
use Rattle.plc_auto.specs.declared.observer.Observer.{Observer}
use Rattle.plc_auto.specs.declared.observer.Observer.TheVariants.{Plain, Hazard, Epoch}
use Rattle.plc_auto.specs.Table.{count_of, step, is_well_formed, r_kept}
use Rattle.plc_auto.specs.Location.{is_this, advance, location_from, location, Allowed, is_retired_location, stands_retired, is_retired_after}
use Rattle.plc_auto.specs.Waiting.{is_kept_at, waiting_after}
use Rattle.plc_auto.specs.Laws.{retired_by}
use Rattle.plc_auto.proofs.Tables.{implies, implied, each, each_at}
use Rattle.plc_auto.specs.Events.{kind_of}
use Rattle.plc_auto.proofs.Histories.{is_own, is_on, step_by_is, from_bad, location_longer, location_live, allowed_empty, allowed_last, allowed_spoken, allowed_free, step_by_live, initial_live, location_empty}
use Rattle.plc_auto.proofs.Ordered.{apart}
use Rattle.plc_auto.proofs.Letters.{retired_longer, initial_unretired}
use Rattle.plc_auto.specs.declared.scheme.Scheme.{Scheme}
use Rattle.plc_reclaim.specs.Rows.{ActsAs, first_waiting, threads_in, is_kept_by, is_kept_by_none, hazards, epochs, hazard_row, epoch_row}
use Rattle.plc_reclaim.specs.Meanings.{Meanings}
use Rattle.plc_reclaim.specs.Histories.{Happens, begins, hears, asks, frees, MakesAllowed}
use Rattle.plc_base.proofs.Booleans.{or_false, or_true}
use Rattle.plc_reclaim.proofs.Picks.{may_be_picked}

-- ---- the tables

-- from a retired location that isn't `r.kept` nothing leads to `bad`
freeable_table : (o : Observer) → each o (λ l x by_own on_this k. implies (is_retired_location o l && not (l == r_kept)) (not (is_none k))) ≡ true
freeable_table Plain = refl
freeable_table (Hazard f) = refl
freeable_table (Epoch e l) = refl

-- where an address is first retired
abbrev first_retired : Observer → ℕ
first_retired Plain = 1
first_retired (Hazard f) = 3
first_retired (Epoch e l) = 3

-- where a thread stands that did nothing itself
abbrev is_quiet : Observer → Option ℕ → Bool
is_quiet o None = true
is_quiet o (Some l) = (l == 0) || (l == first_retired o)

quiet_table : (o : Observer) → each o (λ l x by_own on_this k. implies (not by_own && is_quiet o (Some l)) (is_quiet o k)) ≡ true
quiet_table Plain = refl
quiet_table (Hazard f) = refl
quiet_table (Epoch e l) = refl

-- ---- a free of what is retired and not kept

freed_fine : (o : Observer) (h : List Event) (t a : ℕ) → is_retired_after o h t a ≡ true → is_kept_at (location o h t a) ≡ false → location o (h ++ Freed a ∷ []) t a ≡ None → ⊥
freed_fine o h t a retired free bad = go (location o h t a) refl retired free (sym (location_longer o h (Freed a) t a) ∙ bad)
  where
    go : (q : Option ℕ) → location o h t a ≡ q → stands_retired o q ≡ true → is_kept_at q ≡ false → advance o t a (Freed a) q ≡ None → ⊥
    go None is r k e = cc
    go (Some l) is r k e =
        let row = each_at o (λ l x by_own on_this k. implies (is_retired_location o l && not (l == r_kept)) (not (is_none k))) (freeable_table o) l Free false (is_this (Some a) a) (location_live o h t a l is) in
        let some : not (is_none (step o l Free false (is_this (Some a) a))) ≡ true = implied _ _ row (and_from _ _ r (ap not k)) in
        both_ways _ (not-true _ some) (ap (λ q. is_none q) e)

-- ---- threads that do nothing

abbrev is_in : List ℕ → ℕ → Bool
is_in xs a = list_any (λ b. b == a) xs

quiet_step : (o : Observer) (t a l : ℕ) (e : Event) → l < count_of o → is_own t e ≡ false → is_quiet o (Some l) ≡ true → is_quiet o (advance o t a e (Some l)) ≡ true
quiet_step o t a l e live other quiet =
    let row = each_at o (λ l x by_own on_this k. implies (not by_own && is_quiet o (Some l)) (is_quiet o k)) (quiet_table o) l (kind_of e) (is_own t e) (is_on a e) live in
    ap (is_quiet o) (step_by_is o t a e l) ∙ implied _ _ row (and_from _ _ (ap not other) quiet)

unheard : (t : ℕ) (e : Event) (h : List Event) → is_in (threads_in (e ∷ h)) t ≡ false → (is_own t e ≡ false) × (is_in (threads_in h) t ≡ false)
unheard t (Called u f b) h n = or_parts _ _ n
unheard t (Returned u f) h n = or_parts _ _ n
unheard t (Freed b) h n = (refl, n)

from_quiet : (o : Observer) (t a l : ℕ) (h : List Event) → l < count_of o → is_in (threads_in h) t ≡ false → is_quiet o (Some l) ≡ true → is_quiet o (location_from o t a (Some l) h) ≡ true
from_quiet o t a l [] live n quiet = quiet
from_quiet o t a l (e ∷ h) live n quiet =
    go (advance o t a e (Some l)) refl (quiet_step o t a l e live (unheard t e h n).0 quiet) (λ k small also. from_quiet o t a k h small (unheard t e h n).1 also)
  where
    go : (q : Option ℕ) → advance o t a e (Some l) ≡ q → is_quiet o q ≡ true → ((k : ℕ) → k < count_of o → is_quiet o (Some k) ≡ true → is_quiet o (location_from o t a (Some k) h) ≡ true) → is_quiet o (location_from o t a q h) ≡ true
    go None is also later = ap (is_quiet o) (from_bad o t a h)
    go (Some k) is also later = later k (step_by_live o t a e l k live is) also

quiet_is_free : (o : Observer) (q : Option ℕ) → is_quiet o q ≡ true → is_kept_at q ≡ false
quiet_is_free o None e = refl
quiet_is_free o (Some l) e = go (l == r_kept) refl
  where
    small : (o : Observer) → ((r_kept == 0) || (r_kept == first_retired o)) ≡ false
    small Plain = refl
    small (Hazard f) = refl
    small (Epoch e l) = refl

    go : (b : Bool) → (l == r_kept) ≡ b → b ≡ false
    go false is = refl
    go true is = absurd (both_ways _ (small o) (subst (λ k. is_quiet o (Some k) ≡ true) (eqb-true l r_kept is) e))

unheard_is_free : (o : Observer) (h : List Event) (t a : ℕ) → is_in (threads_in h) t ≡ false → is_kept_at (location o h t a) ≡ false
unfolding location
unheard_is_free o h t a n = quiet_is_free o (location_from o t a (Some 0) h) (from_quiet o t a 0 h (initial_live o) n refl)

-- ---- what no thread keeps

none_at : (p : ℕ → Bool) (xs : List ℕ) (t : ℕ) → is_in xs t ≡ true → list_any p xs ≡ false → p t ≡ false
none_at p [] t e n = cc
none_at p (x ∷ xs) t e n = go (x == t) refl e (λ later. none_at p xs t later (or_parts _ _ n).1)
  where
    go : (b : Bool) → (x == t) ≡ b → (b || is_in xs t) ≡ true → (is_in xs t ≡ true → p t ≡ false) → p t ≡ false
    go true is later rest = ap p (sym (eqb-true x t is)) ∙ (or_parts _ _ n).0
    go false is later rest = rest later

pub kept_of_none : (os : List Observer) (o : Observer) → Contains os o → (p : Observer → Bool) → list_any p os ≡ false → p o ≡ false
kept_of_none os o (k, small, is) p n = go (p o) refl
  where
    go : (b : Bool) → p o ≡ b → b ≡ false
    go false e = refl
    go true e = absurd (both_ways _ n (list_any_at p os k o small (ap p is ∙ e)))

kept_by_none : (o : Observer) (h : List Event) (a t : ℕ) → is_kept_by h a o ≡ false → is_kept_at (location o h t a) ≡ false
kept_by_none o h a t n = elim (cases_Bool (is_in (threads_in h) t)) [
  | inl heard ↦ none_at (λ t. is_kept_at (location o h t a)) (threads_in h) t heard n
  | inr none ↦ unheard_is_free o h t a none
]

-- a test of the threads that are named is one of every thread
pub every_thread : (o : Observer) (h : List Event) (a : ℕ) → (is_kept_by h a o ≡ false) ↔ ((t : ℕ) → is_kept_at (location o h t a) ≡ false)
every_thread o h a = (λ n t. kept_by_none o h a t n, λ free. all_free (λ t. is_kept_at (location o h t a)) free (threads_in h))
  where
    all_free : (p : ℕ → Bool) → ((t : ℕ) → p t ≡ false) → (xs : List ℕ) → list_any p xs ≡ false
    all_free p free [] = refl
    all_free p free (x ∷ xs) = ap (λ s. s || list_any p xs) (free x) ∙ all_free p free xs

-- ---- retired is waiting

waits_turn : (held : List ℕ) (e : Event) (a : ℕ) → 0 < a → is_in (waiting_after held e) a ≡ retired_by e a (is_in held a)
waits_turn held (Called t f None) a one = sym (no_turn (is_retire f))
  where
    no_turn : (r : Bool) → (if r && false then true else is_in held a) ≡ is_in held a
    no_turn true = refl
    no_turn false = refl
waits_turn held (Called t f (Some b)) a one = go (is_retire f) (b == a) (b == 0) (is_in held b) refl refl refl
  where
    added : (s : Bool) → (b == a) ≡ s → is_in (held ++ b ∷ []) a ≡ (is_in held a || (s || false))
    added s is = list_any-append (λ c. c == a) held (b ∷ []) ∙ ap (λ s. is_in held a || (s || false)) is

    go : (r s z i : Bool) → (b == a) ≡ s → (b == 0) ≡ z → is_in held b ≡ i → is_in (if r && not z && not i then held ++ b ∷ [] else held) a ≡ (if r && (s && not z) then true else is_in held a)
    go false s z i is_a is_0 is_held = refl
    go true true true i is_a is_0 is_held = absurd (let same : b ≡ a = eqb-true b a is_a in let null : b ≡ 0 = eqb-true b 0 is_0 in omega arith)
    go true false true i is_a is_0 is_held = refl
    go true true false true is_a is_0 is_held = ap (is_in held) (sym (eqb-true b a is_a)) ∙ is_held
    go true false false true is_a is_0 is_held = refl
    go true true false false is_a is_0 is_held = added true is_a ∙ or_true (is_in held a)
    go true false false false is_a is_0 is_held = added false is_a ∙ or_false (is_in held a)
waits_turn held (Returned t f) a one = refl
waits_turn held (Freed b) a one = go (b == a) (b == 0) refl refl
  where
    same_test : (k : ℕ) → (k == a) ≡ true → not (k == b) ≡ not (a == b)
    same_test k e = ap (λ k. not (k == b)) (eqb-true k a e)

    taken : is_in (filter (λ c. not (c == b)) held) a ≡ (not (a == b) && is_in held a)
    taken = any-filter_same (λ c. c == a) (λ c. not (c == b)) (not (a == b)) same_test held

    go : (s z : Bool) → (b == a) ≡ s → (b == 0) ≡ z → is_in (filter (λ c. not (c == b)) held) a ≡ (if s && not z then false else is_in held a)
    go true true is_a is_0 = absurd (let same : b ≡ a = eqb-true b a is_a in let null : b ≡ 0 = eqb-true b 0 is_0 in omega arith)
    go true false is_a is_0 = taken ∙ ap (λ s. not s && is_in held a) (eq-eqb a b (sym (eqb-true b a is_a)))
    go false z is_a is_0 = taken ∙ ap (λ s. not s && is_in held a) (apart b a is_a)

-- null never waits
fewer : (p : ℕ → Bool) (held : List ℕ) (a : ℕ) → is_in held a ≡ false → is_in (filter p held) a ≡ false
fewer p [] a n = refl
fewer p (b ∷ held) a n = go (p b) (fewer p held a (or_parts _ _ n).1)
  where
    go : (v : Bool) → is_in (filter p held) a ≡ false → is_in (cond v (b ∷ filter p held) (filter p held)) a ≡ false
    go true m = ap (λ x. x || is_in (filter p held) a) (or_parts _ _ n).0 ∙ m
    go false m = m

null_step : (held : List ℕ) (e : Event) → is_in held 0 ≡ false → is_in (waiting_after held e) 0 ≡ false
null_step held (Called t f None) n = n
null_step held (Called t f (Some b)) n = go (is_retire f) (b == 0) (is_in held b) refl
  where
    go : (r z i : Bool) → (b == 0) ≡ z → is_in (if r && not z && not i then held ++ b ∷ [] else held) 0 ≡ false
    go false z i is = n
    go true true i is = n
    go true false true is = n
    go true false false is = list_any-append (λ c. c == 0) held (b ∷ []) ∙ ap (λ x. x || ((b == 0) || false)) n ∙ ap (λ x. x || false) is
null_step held (Returned t f) n = n
null_step held (Freed b) n = fewer (λ c. not (c == b)) held 0 n

null_waits_never : (held : List ℕ) (h : List Event) → is_in held 0 ≡ false → is_in (fold waiting_after held h) 0 ≡ false
null_waits_never held [] n = n
null_waits_never held (e ∷ h) n = null_waits_never (waiting_after held e) h (null_step held e n)

waiting_above : (h : List Event) (a : ℕ) → is_in (fold waiting_after [] h) a ≡ true → 0 < a
waiting_above h zero e = absurd (both_ways _ (null_waits_never [] h refl) e)
waiting_above h (suc n) e = omega arith

-- ---- what is picked

found : (p : ℕ → Bool) (xs : List ℕ) (a : ℕ) → find p xs ≡ Some a → (p a ≡ true) × (is_in xs a ≡ true)
found p [] a e = cc
found p (x ∷ xs) a e = go (p x) refl e (λ later. found p xs a later)
  where
    go : (b : Bool) → p x ≡ b → cond b (Some x) (find p xs) ≡ Some a → (find p xs ≡ Some a → (p a ≡ true) × (is_in xs a ≡ true)) → (p a ≡ true) × (is_in (x ∷ xs) a ≡ true)
    go true is here later = let same : x ≡ a = cc in (ap p (sym same) ∙ is, ap (λ s. s || is_in xs a) (eq-eqb x a same))
    go false is there later = ((later there).0, ap (λ r. (x == a) || r) (later there).1 ∙ or_true (x == a))

-- ---- histories

-- what a row has to say of the address that it picks: it waits, and no thread keeps it
record IsCareful (o : Observer) (row : List Event → Option ℕ) : Type 0 where
  waits : (h : List Event) (a : ℕ) → row h ≡ Some a → is_in (fold waiting_after [] h) a ≡ true
  free : (h : List Event) (t a : ℕ) → row h ≡ Some a → is_kept_at (location o h t a) ≡ false

-- what holds after a history that a reclaimer made
record Stands (o : Observer) (threads : ℕ) (h : List Event) (held kept : List ℕ) : Type 0 where
  keeps : held ≡ kept
  allowed : Allowed o threads h
  retired : (t a : ℕ) → t < threads → 0 < a → is_retired_after o h t a ≡ is_in (fold waiting_after [] h) a

begun_stands : (o : Observer) (threads : ℕ) (held : List ℕ) → Stands o threads [] held held
begun_stands o threads held = record {
  keeps = refl;
  allowed = allowed_empty o threads;
  retired = λ t a small one. ap (stands_retired o) (location_empty o t a) ∙ initial_unretired o;
}

-- one event more, which is allowed
stands_longer : (o : Observer) → is_well_formed o ≡ true → (threads : ℕ) (after : List ℕ → Event → List ℕ) (first : List ℕ) (h : List Event) (held : List ℕ) (e : Event) →
    Stands o threads h held (fold after first h) → Allowed o threads (h ++ e ∷ []) → Stands o threads (h ++ e ∷ []) (after held e) (fold after first (h ++ e ∷ []))
stands_longer o w threads after first h held e s fine = record {
  keeps = ap (λ held. after held e) s.keeps ∙ sym (fold-append after first h (e ∷ []));
  allowed = fine;
  retired = λ t a small one.
      retired_longer o w h e t a (allowed_last o threads (h ++ e ∷ []) t a fine small one)
      ∙ ap (retired_by e a) (s.retired t a small one)
      ∙ sym (waits_turn (fold waiting_after [] h) e a one)
      ∙ ap (λ held. is_in held a) (sym (fold-append waiting_after [] h (e ∷ [])));
}

-- a free of an address that the row picks
picked_fine : (o : Observer) (row : List Event → Option ℕ) → IsCareful o row → (threads : ℕ) (h : List Event) (held kept : List ℕ) (a : ℕ) → row h ≡ Some a → Stands o threads h held kept → Allowed o threads (h ++ Freed a ∷ [])
picked_fine o row careful threads h held kept a e s = allowed_free o threads h a s.allowed (λ t small bad.
    freed_fine o h t a (s.retired t a small (waiting_above h a (careful.waits h a e)) ∙ careful.waits h a e) (careful.free h t a e) bad)

happens_stands : (o : Observer) → is_well_formed o ≡ true → (row : List Scheme → List Event → Option ℕ) (schemes : List Scheme) → IsCareful o (row schemes) →
    (m : Meanings) → ActsAs row m →
    (threads : ℕ) (h : List Event) (held : List ℕ) → Happens schemes m h held → Stands o threads h held (fold m.after (m.begun schemes) h)
happens_stands o w row schemes careful m acts threads _ _ begins = begun_stands o threads (m.begun schemes)
happens_stands o w row schemes careful m acts threads _ _ (hears h held e spoken before) =
    let s = happens_stands o w row schemes careful m acts threads h held before in
    stands_longer o w threads m.after (m.begun schemes) h held e s (allowed_spoken o threads h e spoken s.allowed)
happens_stands o w row schemes careful m acts threads _ _ (asks h held before) =
    let s = happens_stands o w row schemes careful m acts threads h held before in
    record { keeps = acts.keeps held ∙ s.keeps; allowed = s.allowed; retired = s.retired }
happens_stands o w row schemes careful m acts threads _ _ (frees h held a e before) =
    let s = happens_stands o w row schemes careful m acts threads h held before in
    let picks : row schemes h ≡ Some a = sym (acts.picks schemes h) ∙ ap m.pick_of (sym s.keeps) ∙ e in
    stands_longer o w threads m.after (m.begun schemes) h (m.picked held) (Freed a) (record { keeps = acts.keeps held ∙ s.keeps; allowed = s.allowed; retired = s.retired })
    (picked_fine o (row schemes) careful threads h held (fold m.after (m.begun schemes) h) a picks s)

-- ---- the rows

-- the first that waits and is kept by none of some observers
careful_kept : (os : List Observer) (o : Observer) → Contains os o → IsCareful o (λ h. first_waiting (is_kept_by_none os h) h)
careful_kept os o there = record {
  waits = λ h a e. (found (is_kept_by_none os h) (fold waiting_after [] h) a (may_be_picked (is_kept_by_none os h) h ∙ e)).1;
  free = λ h t a e. kept_by_none o h a t (kept_of_none os o there (is_kept_by h a) (not-true _ (found (is_kept_by_none os h) (fold waiting_after [] h) a (may_be_picked (is_kept_by_none os h) h ∙ e)).0));
}

-- `plain` has no `r.kept`
plain_is_free : (q : Option ℕ) → ((l : ℕ) → q ≡ Some l → l < count_of Plain) → is_kept_at q ≡ false
plain_is_free None live = refl
plain_is_free (Some l) live = go (l == r_kept) refl
  where
    go : (b : Bool) → (l == r_kept) ≡ b → b ≡ false
    go false is = refl
    go true is = absurd (let same : l ≡ r_kept = eqb-true l r_kept is in let small : l < 2 = live l refl in omega arith)

careful_plain : (os : List Observer) → IsCareful Plain (λ h. first_waiting (is_kept_by_none os h) h)
careful_plain os = record {
  waits = λ h a e. (found (is_kept_by_none os h) (fold waiting_after [] h) a (may_be_picked (is_kept_by_none os h) h ∙ e)).1;
  free = λ h t a e. plain_is_free (location Plain h t a) (λ l is. location_live Plain h t a l is);
}

pub hazards_allowed : (schemes : List Scheme) (m : Meanings) → ActsAs hazard_row m → MakesAllowed (hazards schemes) schemes m
hazards_allowed schemes m acts = record {
  plain = λ h held threads happens. (happens_stands Plain refl hazard_row schemes (careful_plain (hazards schemes)) m acts threads h held happens).allowed;
  each_scheme = λ h held threads happens o there w. (happens_stands o w hazard_row schemes (careful_kept (hazards schemes) o there) m acts threads h held happens).allowed;
}

pub epochs_allowed : (schemes : List Scheme) (m : Meanings) → ActsAs epoch_row m → MakesAllowed (epochs schemes) schemes m
epochs_allowed schemes m acts = record {
  plain = λ h held threads happens. (happens_stands Plain refl epoch_row schemes (careful_plain (epochs schemes)) m acts threads h held happens).allowed;
  each_scheme = λ h held threads happens o there w. (happens_stands o w epoch_row schemes (careful_kept (epochs schemes) o there) m acts threads h held happens).allowed;
}
