-- Threads that come as they are heard: for each observer the watchers are one of every thread that wasn't heard, and one
-- of each that was. So each of them stands where the observer says.
use Rattle.std.proofs.Common.{◌≡◌, ℕ, zero, suc, ◌+◌, ◌≤◌, Bool, true, false, ◌||◌, ◌==◌, inl, inr, List, [], ◌∷◌, ◌++◌, length, get_or, slice_get, map, take, Option, Some, None, refl, sym, ap, ◌∙◌, subst, arith, append_assoc}
use Rattle.std.specs.Prelude.{◌↔◌, fold, Contains}
use Rattle.std.specs.List.{list_any}
use Rattle.std.proofs.lemmas.Bool.{eqb-true, eq-eqb, ne_eqb, or_parts, both_ways, cases_Bool}
use Rattle.std.proofs.lemmas.List.{map-append, length-map, append-nil, take_at}
use Rattle.std.proofs.lemmas.List.Folds.{list_any-append}
use Rattle.std.proofs.lemmas.List.Sums.{fold-append}
use Rattle.std.proofs.lemmas.Option.{slice_get-map, slice_get-get_or}
use Rattle.std.specs.Option.{option_map}
use Rattle.plc_base.proofs.Booleans.{or_true, or_false}
use Rattle.plc_base.proofs.Lists.{slice_left, slice_right}
use Rattle.plc_auto.specs.declared.event.Event.{Event}
use Rattle.plc_auto.specs.declared.event.Event.TheVariants.{Call as Called, Done as Returned, Free as Freed}
use Rattle.plc_auto.specs.declared.observer.Observer.{Observer}
use Rattle.plc_auto.specs.declared.watcher.Watcher.{Watcher}
use Rattle.plc_auto.specs.Events.{thread_of}
use Rattle.plc_auto.specs.Location.{location}
use Rattle.plc_auto.specs.Waiting.{is_kept_at, waiting_after}
use Rattle.plc_auto.specs.Locations.{Locations, of_thread, of_unheard, owned, fresh, is_by, is_known, with_own, heard_by_known, locations_after, locations_after_all, row_of, stands, retired_addresses, is_kept, first_free}
use Rattle.plc_auto.specs.Following.{Watches, FollowsObservers}
use Rattle.plc_auto.proofs.Histories.{is_own}
use Rattle.plc_auto.proofs.Moving.{known_after, new_after, no_thread_after}
use Rattle.plc_auto.proofs.Ends.{end_of, ends, own_end, is_heard, silent_end, by_thread, Located, located_longer, located_wider}
use Rattle.plc_auto.proofs.Ordered.{AreOrdered, ordered_longer, ordered_wider, first_is}
use Rattle.plc_auto.proofs.Watched.{begun_located, row_ends, end_there}

abbrev is_in : List ℕ → ℕ → Bool
is_in ts t = list_any (λ u. u == t) ts

-- the watchers of these threads, as they came
abbrev of_all : List Observer → List ℕ → List Watcher
of_all os [] = []
of_all os (t ∷ ts) = map (of_thread t) os ++ of_all os ts

of_all_last : (os : List Observer) (ts : List ℕ) (t : ℕ) → of_all os (ts ++ t ∷ []) ≡ of_all os ts ++ map (of_thread t) os
of_all_last os [] t = append-nil (map (of_thread t) os)
of_all_last os (u ∷ ts) t = ap (λ ws. map (of_thread u) os ++ ws) (of_all_last os ts t) ∙ sym (append_assoc (map (of_thread u) os) (of_all os ts) (map (of_thread t) os))

abbrev all_watchers : List Observer → List ℕ → List Watcher
all_watchers os ts = map of_unheard os ++ of_all os ts

-- ---- which threads have watchers

abbrev is_of : ℕ → Watcher → Bool
is_of t w = is_by (Some t) w.thread

none_of_unheard : (os : List Observer) (t : ℕ) → list_any (is_of t) (map of_unheard os) ≡ false
none_of_unheard [] t = refl
none_of_unheard (o ∷ os) t = none_of_unheard os t

none_of_other : (os : List Observer) (t u : ℕ) → (t == u) ≡ false → list_any (is_of t) (map (of_thread u) os) ≡ false
none_of_other [] t u other = refl
none_of_other (o ∷ os) t u other = ap (λ b. b || list_any (is_of t) (map (of_thread u) os)) other ∙ none_of_other os t u other

turned : (t u : ℕ) (b : Bool) → (u == t) ≡ b → (t == u) ≡ b
turned t u true e = eq-eqb t u (sym (eqb-true u t e))
turned t u false e = ne_eqb t u (λ same. both_ways _ e (eq-eqb u t (sym same)))

all_in : (os : List Observer) (ts : List ℕ) (t : ℕ) → list_any (is_of t) (of_all os ts) ≡ true → is_in ts t ≡ true
all_in os [] t e = cc
all_in os (u ∷ ts) t e = go (u == t) refl (all_in os ts t)
  where
    go : (b : Bool) → (u == t) ≡ b → (list_any (is_of t) (of_all os ts) ≡ true → is_in ts t ≡ true) → (b || is_in ts t) ≡ true
    go true is later = refl
    go false is later = later (ap (λ b. b || list_any (is_of t) (of_all os ts)) (sym (none_of_other os t u (turned t u false is))) ∙ sym (list_any-append (is_of t) (map (of_thread u) os) (of_all os ts)) ∙ e)

known_in : (os : List Observer) (ts : List ℕ) (t : ℕ) → is_known (Some t) (all_watchers os ts) ≡ true → is_in ts t ≡ true
known_in os ts t e =
    all_in os ts t (ap (λ b. b || list_any (is_of t) (of_all os ts)) (sym (none_of_unheard os t)) ∙ sym (list_any-append (is_of t) (map of_unheard os) (of_all os ts)) ∙ e)

in_all : (o : Observer) (os : List Observer) (ts : List ℕ) (t : ℕ) → is_in ts t ≡ true → list_any (is_of t) (of_all (o ∷ os) ts) ≡ true
in_all o os [] t e = cc
in_all o os (u ∷ ts) t e = go (u == t) refl e (in_all o os ts t)
  where
    rest : Bool
    rest = list_any (is_of t) (map (of_thread u) os ++ of_all (o ∷ os) ts)

    go : (b : Bool) → (u == t) ≡ b → (b || is_in ts t) ≡ true → (is_in ts t ≡ true → list_any (is_of t) (of_all (o ∷ os) ts) ≡ true) → ((t == u) || rest) ≡ true
    go true is e later = ap (λ b. b || rest) (turned t u true is)
    go false is e later =
        ap (λ b. (t == u) || b) (list_any-append (is_of t) (map (of_thread u) os) (of_all (o ∷ os) ts) ∙ ap (λ b. list_any (is_of t) (map (of_thread u) os) || b) (later e) ∙ or_true (list_any (is_of t) (map (of_thread u) os)))
        ∙ or_true (t == u)

in_known : (o : Observer) (os : List Observer) (ts : List ℕ) (t : ℕ) → is_in ts t ≡ true → is_known (Some t) (all_watchers (o ∷ os) ts) ≡ true
in_known o os ts t e =
    list_any-append (is_of t) (map of_unheard (o ∷ os)) (of_all (o ∷ os) ts) ∙ ap (λ b. list_any (is_of t) (map of_unheard (o ∷ os)) || b) (in_all o os ts t e) ∙ or_true (list_any (is_of t) (map of_unheard (o ∷ os)))

-- ---- what holds after a history

record Holds (os : List Observer) (ts : List ℕ) (h : List Event) (l : Locations) : Type 0 where
  watchers : l.watchers ≡ all_watchers os ts
  unheard : l.unheard ≡ length os
  heard : (t : ℕ) → is_in ts t ≡ is_heard h t
  located : Located h l
  ordered : AreOrdered (fold waiting_after [] h) l.rows

waits_longer : (h : List Event) (e : Event) → waiting_after (fold waiting_after [] h) e ≡ fold waiting_after [] (h ++ e ∷ [])
waits_longer h e = sym (fold-append waiting_after [] h (e ∷ []))

heard_longer : (h : List Event) (e : Event) (t : ℕ) → is_heard (h ++ e ∷ []) t ≡ (is_heard h t || is_own t e)
heard_longer h e t = list_any-append (is_own t) h (e ∷ []) ∙ ap (λ b. is_heard h t || b) (or_false (is_own t e))

-- an event of a thread that is known, or of none
known_holds : (os : List Observer) (ts : List ℕ) (h : List Event) (e : Event) (l : Locations) → ((t : ℕ) → (is_in ts t || is_own t e) ≡ is_in ts t) → Holds os ts h l → Holds os ts (h ++ e ∷ []) (heard_by_known e l)
known_holds os ts h e l same so = record {
  watchers = so.watchers;
  unheard = so.unheard;
  heard = λ t. sym (same t) ∙ ap (λ b. b || is_own t e) (so.heard t) ∙ sym (heard_longer h e t);
  located = located_longer h e l so.located;
  ordered = subst (λ held. AreOrdered held (heard_by_known e l).rows) (waits_longer h e) (ordered_longer (fold waiting_after [] h) e l so.ordered);
}

-- a thread that wasn't heard
new_ends : (os : List Observer) (h : List Event) (a t : ℕ) → is_heard h t ≡ false → (some : List Observer) → ends h a (map (of_thread t) some) ≡ ends h a (map of_unheard some)
new_ends os h a t silent [] = refl
new_ends os h a t silent (o ∷ some) = λ i. sym (silent_end o t a h silent) i ∷ new_ends os h a t silent some i

own_of_unheard : (t : ℕ) (os : List Observer) → map (owned t) (map of_unheard os) ≡ map (of_thread t) os
own_of_unheard t [] = refl
own_of_unheard t (o ∷ os) = ap (λ ws. of_thread t o ∷ ws) (own_of_unheard t os)

first_unheard : (os : List Observer) (ts : List ℕ) (l : Locations) → l.watchers ≡ all_watchers os ts → l.unheard ≡ length os → take l.unheard l.watchers ≡ map of_unheard os
first_unheard os ts l ws many = (λ i. take (many i) (ws i)) ∙ take_at (map of_unheard os) (of_all os ts) (length os) (length-map os of_unheard)

silent : (os : List Observer) (ts : List ℕ) (h : List Event) (t a : ℕ) → ((t : ℕ) → is_in ts t ≡ is_heard h t) → is_known (Some t) (all_watchers os ts) ≡ false → ends h a (map (of_thread t) os) ≡ ends h a (map of_unheard os)
silent [] ts h t a heard new = refl
silent (o ∷ os) ts h t a heard new = new_ends (o ∷ os) h a t (go (is_in ts t) refl) (o ∷ os)
  where
    go : (b : Bool) → is_in ts t ≡ b → is_heard h t ≡ false
    go true is = absurd (both_ways _ new (in_known o os ts t is))
    go false is = sym (heard t) ∙ is

new_holds : (os : List Observer) (ts : List ℕ) (h : List Event) (e : Event) (t : ℕ) (l : Locations) → thread_of e ≡ Some t → is_known (Some t) l.watchers ≡ false → Holds os ts h l → Holds os (ts ++ t ∷ []) (h ++ e ∷ []) (heard_by_known e (with_own t l))
new_holds os ts h e t l by new so =
    let first = first_unheard os ts l so.watchers so.unheard in
    let more = ap (map (owned t)) first ∙ own_of_unheard t os in
    let located = located_wider h t l (λ a. ap (ends h a) more ∙ silent os ts h t a so.heard (ap (is_known (Some t)) (sym so.watchers) ∙ new) ∙ ap (ends h a) (sym first)) so.located in
    record {
      watchers = (λ i. so.watchers i ++ more i) ∙ append_assoc (map of_unheard os) (of_all os ts) (map (of_thread t) os) ∙ ap (λ ws. map of_unheard os ++ ws) (sym (of_all_last os ts t));
      unheard = so.unheard;
      heard = λ u.
          list_any-append (λ v. v == u) ts (t ∷ []) ∙ (λ i. so.heard u i || or_false (t == u) i)
          ∙ ap (λ b. is_heard h u || b) (ap (λ q. is_by q (Some u)) (sym by) ∙ by_thread e u) ∙ sym (heard_longer h e u);
      located = located_longer h e (with_own t l) located;
      ordered = subst (λ held. AreOrdered held (heard_by_known e (with_own t l)).rows) (waits_longer h e) (ordered_longer (fold waiting_after [] h) e (with_own t l) (ordered_wider (fold waiting_after [] h) l.unheard l.rows so.ordered));
    }

abbrev Some_hold : List Observer → List Event → Locations → Type 0
Some_hold os h l = (ts : List ℕ) × Holds os ts h l

one_more : (os : List Observer) (h : List Event) (e : Event) (l : Locations) → Some_hold os h l → Some_hold os (h ++ e ∷ []) (locations_after e l)
one_more os h e l (ts, so) = go (thread_of e) refl
  where
    known : (t : ℕ) → thread_of e ≡ Some t → is_known (Some t) l.watchers ≡ true → (u : ℕ) → (is_in ts u || is_own u e) ≡ is_in ts u
    known t by is u = ap (λ b. is_in ts u || b) (sym (by_thread e u) ∙ ap (λ q. is_by q (Some u)) by) ∙ own (t == u) refl
      where
        own : (b : Bool) → (t == u) ≡ b → (is_in ts u || b) ≡ is_in ts u
        own true same = or_true (is_in ts u) ∙ sym (ap (is_in ts) (sym (eqb-true t u same)) ∙ known_in os ts t (ap (is_known (Some t)) (sym so.watchers) ∙ is))
        own false same = or_false (is_in ts u)

    by_known : (t : ℕ) → thread_of e ≡ Some t → (b : Bool) → is_known (Some t) l.watchers ≡ b → Some_hold os (h ++ e ∷ []) (locations_after e l)
    by_known t by true is = (ts, subst (Holds os ts (h ++ e ∷ [])) (known_after e t l by is) (known_holds os ts h e l (known t by is) so))
    by_known t by false is = (ts ++ t ∷ [], subst (Holds os (ts ++ t ∷ []) (h ++ e ∷ [])) (new_after e t l by is) (new_holds os ts h e t l by is so))

    go : (q : Option ℕ) → thread_of e ≡ q → Some_hold os (h ++ e ∷ []) (locations_after e l)
    go None by =
        (ts, subst (Holds os ts (h ++ e ∷ [])) (no_thread_after e l by) (known_holds os ts h e l (λ t. ap (λ b. is_in ts t || b) (sym (by_thread e t) ∙ ap (λ q. is_by q (Some t)) by) ∙ or_false (is_in ts t)) so))
    go (Some t) by = by_known t by (is_known (Some t) l.watchers) refl

all_more : (os : List Observer) (h more : List Event) (l : Locations) → Some_hold os h l → Some_hold os (h ++ more) (locations_after_all l more)
all_more os h [] l so = subst (λ h. Some_hold os h l) (sym (append-nil h)) so
all_more os h (e ∷ more) l so = subst (λ h. Some_hold os h (locations_after_all (locations_after e l) more)) (append_assoc h (e ∷ []) more) (all_more os (h ++ e ∷ []) more (locations_after e l) (one_more os h e l so))

at_end : (os : List Observer) (h : List Event) → Some_hold os h (locations_after_all (fresh os) h)
unfolding fresh
at_end os h = all_more os [] h (fresh os) (
  [],
  record {
    watchers = sym (append-nil (map of_unheard os));
    unheard = refl;
    heard = λ t. refl;
    located = begun_located (length os) (map of_unheard os);
    ordered = record { distinct = tt; no_null = refl; waits = refl };
  },
)

-- ---- where watchers stand

any_at : (ls : List (Option ℕ)) (i : ℕ) → list_any is_kept_at ls ≡ false → is_kept_at (get_or ls i None) ≡ false
any_at [] i none = refl
any_at (l ∷ ls) zero none = (or_parts _ _ none).0
any_at (l ∷ ls) (suc i) none = any_at ls i (or_parts _ _ none).1

-- a thread that wasn't heard
above : List Event → ℕ
above [] = 0
above (Called t f b ∷ h) = suc t + above h
above (Returned t f ∷ h) = suc t + above h
above (Freed b ∷ h) = above h

not_heard : (h : List Event) (t : ℕ) → above h ≤ t → is_heard h t ≡ false
unfolding above
not_heard [] t le = refl
not_heard (Called u f b ∷ h) t le = ap (λ b. b || is_heard h t) (ne_eqb u t (λ same. omega (arith, le, same))) ∙ not_heard h t (omega (arith, le))
not_heard (Returned u f ∷ h) t le = ap (λ b. b || is_heard h t) (ne_eqb u t (λ same. omega (arith, le, same))) ∙ not_heard h t (omega (arith, le))
not_heard (Freed b ∷ h) t le = not_heard h t le

none_kept : (h : List Event) (a : ℕ) (watcher : Observer → Watcher) (os : List Observer) → ((o : Observer) → Contains os o → is_kept_at (end_of h a (watcher o)) ≡ false) → list_any is_kept_at (ends h a (map watcher os)) ≡ false
none_kept h a watcher [] each = refl
none_kept h a watcher (o ∷ os) each =
    (λ i. each o (0, omega arith, refl) i || list_any is_kept_at (ends h a (map watcher os)))
    ∙ none_kept h a watcher os (λ p (k, small, is). each p (suc k, omega (arith, small), is))

all_unkept : (h : List Event) (a : ℕ) (os : List Observer) (ts : List ℕ) → ((o : Observer) (t : ℕ) → Contains os o → is_kept_at (location o h t a) ≡ false) → list_any is_kept_at (ends h a (all_watchers os ts)) ≡ false
all_unkept h a os ts each =
    ap (list_any is_kept_at) (map-append (end_of h a) (map of_unheard os) (of_all os ts)) ∙ list_any-append is_kept_at (ends h a (map of_unheard os)) (ends h a (of_all os ts))
    ∙ (λ i. none_kept h a of_unheard os (λ o there. ap is_kept_at (silent_end o (above h) a h (not_heard h (above h) (omega arith)) ∙ own_end o (above h) a h) ∙ each o (above h) there) i || of_heard ts i)
  where
    of_heard : (ts : List ℕ) → list_any is_kept_at (ends h a (of_all os ts)) ≡ false
    of_heard [] = refl
    of_heard (t ∷ ts) =
        ap (list_any is_kept_at) (map-append (end_of h a) (map (of_thread t) os) (of_all os ts)) ∙ list_any-append is_kept_at (ends h a (map (of_thread t) os)) (ends h a (of_all os ts))
        ∙ (λ i. none_kept h a (of_thread t) os (λ o there. ap is_kept_at (own_end o t a h) ∙ each o t there) i || of_heard ts i)

-- where the watcher of a thread stands for an observer
all_there : (os : List Observer) (ts : List ℕ) (k t : ℕ) (o : Observer) → slice_get os k ≡ Some o → is_in ts t ≡ true → (i : ℕ) × (slice_get (of_all os ts) i ≡ Some (of_thread t o))
all_there os [] k t o at e = cc
all_there os (u ∷ ts) k t o at e = go (u == t) refl e (all_there os ts k t o at)
  where
    go : (b : Bool) → (u == t) ≡ b → (b || is_in ts t) ≡ true → (is_in ts t ≡ true → (i : ℕ) × (slice_get (of_all os ts) i ≡ Some (of_thread t o))) → (i : ℕ) × (slice_get (map (of_thread u) os ++ of_all os ts) i ≡ Some (of_thread t o))
    go true is e later =
        (k, slice_left (map (of_thread u) os) (of_all os ts) k (of_thread t o) (slice_get-map (of_thread u) os k ∙ ap (option_map (of_thread u)) at ∙ ap (λ u. Some (of_thread u o)) (eqb-true u t is)))
    go false is e later =
        let found = later e in
        (length (map (of_thread u) os) + found.0, slice_right (map (of_thread u) os) (of_all os ts) found.0 (length (map (of_thread u) os) + found.0) refl ∙ found.1)

-- no observer, no watcher
no_watchers : (ts : List ℕ) → of_all [] ts ≡ []
no_watchers [] = refl
no_watchers (t ∷ ts) = no_watchers ts

unknown_silent : (os : List Observer) (ts : List ℕ) (h : List Event) (l : Locations) (i t : ℕ) (w : Watcher) → Holds os ts h l → slice_get l.watchers i ≡ Some w → is_known (Some t) l.watchers ≡ false → is_heard h t ≡ false
unknown_silent [] ts h l i t w so there new = absurd (let none = ap (λ ws. slice_get ws i) (so.watchers ∙ no_watchers ts) in cc)
unknown_silent (o ∷ os) ts h l i t w so there new = go (is_in ts t) refl
  where
    go : (b : Bool) → is_in ts t ≡ b → is_heard h t ≡ false
    go true is = absurd (both_ways _ (ap (is_known (Some t)) (sym so.watchers) ∙ new) (in_known o os ts t is))
    go false is = sym (so.heard t) ∙ is

watch_end : (os : List Observer) (ts : List ℕ) (h : List Event) (l : Locations) (i t a : ℕ) (w : Watcher) → Holds os ts h l → slice_get l.watchers i ≡ Some w → Watches l.watchers t w → end_of h a w ≡ location w.observer h t a
watch_end os ts h l i t a w so there (inl own) = (λ j. end_of h a (record { observer = w.observer; thread = own j })) ∙ own_end w.observer t a h
watch_end os ts h l i t a w so there (inr (none, new)) =
    (λ j. end_of h a (record { observer = w.observer; thread = none j })) ∙ silent_end w.observer t a h (unknown_silent os ts h l i t w so there new) ∙ own_end w.observer t a h

stands_there : (os : List Observer) (ts : List ℕ) (h : List Event) (l : Locations) (i t a : ℕ) (w : Watcher) → Holds os ts h l → slice_get l.watchers i ≡ Some w → Watches l.watchers t w → stands l i a ≡ location w.observer h t a
unfolding stands
stands_there os ts h l i t a w so there watches =
    ap (λ at. get_or at i None) (row_ends h l a so.located) ∙ end_there h a i w l.watchers there ∙ watch_end os ts h l i t a w so there watches

abbrev IsWatched : List Watcher → Observer → ℕ → Type 0
IsWatched ws o t = (i : ℕ) × (w : Watcher) × (slice_get ws i ≡ Some w) × (w.observer ≡ o) × Watches ws t w

some_watch : (os : List Observer) (ts : List ℕ) (k t : ℕ) (o : Observer) → slice_get os k ≡ Some o → IsWatched (all_watchers os ts) o t
some_watch os ts k t o at = elim (cases_Bool (is_known (Some t) (all_watchers os ts))) [
  | inl is ↦
      let found = all_there os ts k t o at (known_in os ts t is) in
      (length (map of_unheard os) + found.0, of_thread t o, slice_right (map of_unheard os) (of_all os ts) found.0 (length (map of_unheard os) + found.0) refl ∙ found.1, refl, inl refl)
  | inr new ↦ (k, of_unheard o, slice_left (map of_unheard os) (of_all os ts) k (of_unheard o) (slice_get-map of_unheard os k ∙ ap (option_map of_unheard) at), refl, inr (refl, new))
]

each_watch : (os : List Observer) (ts : List ℕ) (h : List Event) (l : Locations) (o : Observer) (t : ℕ) → Holds os ts h l → Contains os o → IsWatched l.watchers o t
each_watch os ts h l o t so (k, small, is) = subst (λ ws. IsWatched ws o t) (sym so.watchers) (some_watch os ts k t o (slice_get-get_or os k o small ∙ ap Some is))

-- ---- the laws

kept_is : (os : List Observer) (ts : List ℕ) (h : List Event) (l : Locations) (a : ℕ) → Holds os ts h l → (is_kept l a ≡ false) ↔ ((o : Observer) (t : ℕ) → Contains os o → is_kept_at (location o h t a) ≡ false)
unfolding is_kept stands
kept_is os ts h l a so = (
  λ free o t there.
      let found = each_watch os ts h l o t so there in
      ap (λ o. is_kept_at (location o h t a)) (sym found.3) ∙ ap is_kept_at (sym (stands_there os ts h l found.0 t a found.1 so found.2 found.4)) ∙ any_at (row_of l.rows l.others a) found.0 free,
  λ each. ap (list_any is_kept_at) (row_ends h l a so.located ∙ ap (ends h a) so.watchers) ∙ all_unkept h a os ts each,
)

follow : (os : List Observer) (h : List Event) (l : Locations) → Some_hold os h l → FollowsObservers os h l
unfolding retired_addresses first_free is_kept
follow os h l (ts, so) = record {
  located = λ i t a w there watches. stands_there os ts h l i t a w so there watches;
  each_watched = λ o t there. each_watch os ts h l o t so there;
  kept = λ a. kept_is os ts h l a so;
  retired = so.ordered.waits;
  first = first_is l.others l.rows so.ordered.distinct;
}

pub observers_follow : (os : List Observer) (h : List Event) → FollowsObservers os h (locations_after_all (fresh os) h)
observers_follow os h = follow os h (locations_after_all (fresh os) h) (at_end os h)
