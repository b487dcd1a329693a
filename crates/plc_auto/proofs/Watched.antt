-- Which watchers there are after a history, for threads that are known from the beginning and for threads that come as
-- they are heard; so where each of them stands is where the observer says.
use Rattle.std.proofs.Common.{◌≡◌, ℕ, zero, suc, ◌<◌, Bool, true, false, ◌&&◌, if◌then◌else◌, inl, inr, List, [], ◌∷◌, ◌++◌, length, get_or, slice_get, map, replicate, Option, Some, None, is_some, refl, sym, ap, ◌∙◌, subst, arith, append_assoc}
use Rattle.std.proofs.lemmas.Bool.{cases_lt}
use Rattle.std.proofs.lemmas.List.{append-nil, length-append}
use Rattle.std.specs.Option.{option_map}
use Rattle.std.specs.Prelude.{◌↔◌}
use Rattle.std.specs.List.{list_all}
use Rattle.std.proofs.lemmas.Bool.{and_parts, and_from}
use Rattle.std.proofs.lemmas.List.Folds.{list_all-append}
use Rattle.std.proofs.lemmas.Option.{slice_get-map, get_or_from_slice_get}
use Rattle.plc_base.proofs.Lists.{slice_left, slice_right}
use Rattle.plc_auto.specs.declared.event.Event.{Event}
use Rattle.plc_auto.specs.declared.event.Event.TheVariants.{Free as Freed}
use Rattle.plc_auto.specs.declared.observer.Observer.{Observer}
use Rattle.plc_auto.specs.declared.watcher.Watcher.{Watcher}
use Rattle.plc_auto.specs.Events.{thread_of}
use Rattle.plc_auto.specs.Location.{advance, location}
use Rattle.plc_auto.specs.Locations.{Locations, of_thread, first_threads, begun, of_threads, is_known, with_own, with_thread, heard_by_known, locations_after, locations_after_all, is_named, moved, row_of, stands, all_bear_free, may_free}
use Rattle.plc_auto.specs.Following.{FollowsThreads}
use Rattle.plc_auto.proofs.Moving.{none_own}
use Rattle.plc_auto.proofs.Ends.{end_of, ends, own_moves, own_end, Located, row_is, located_longer}

-- ---- before every event

first_ends : (a : ℕ) (ws : List Watcher) → replicate (length ws) (Some 0) ≡ ends [] a ws
first_ends a [] = refl
first_ends a (w ∷ ws) = ap (λ at. Some 0 ∷ at) (first_ends a ws)

pub begun_located : (n : ℕ) (ws : List Watcher) → Located [] (begun n ws)
begun_located n ws = record { each = tt; rest = λ a none. first_ends a ws }

-- ---- where a watcher stands

pub row_ends : (h : List Event) (l : Locations) (a : ℕ) → Located h l → row_of l.rows l.others a ≡ ends h a l.watchers
row_ends h l a so = row_is h l.watchers l.others l.rows a so.each (so.rest a)

-- ---- threads that are known

record Known (o : Observer) (n : ℕ) (h : List Event) (l : Locations) : Type 0 where
  watchers : l.watchers ≡ first_threads o n
  none : l.unheard ≡ 0
  located : Located h l

same_threads : (q : Option ℕ) (l : Locations) → l.unheard ≡ 0 → with_thread q l ≡ l
same_threads None l none = refl
same_threads (Some t) l none = go (is_known (Some t) l.watchers)
  where
    go : (b : Bool) → (if b then l else with_own t l) ≡ l
    go true = refl
    go false = none_own t l none

known_next : (o : Observer) (n : ℕ) (h : List Event) (e : Event) (l : Locations) → Known o n h l → Known o n (h ++ e ∷ []) (locations_after e l)
unfolding locations_after
known_next o n h e l so =
    subst (λ (k : Locations). Known o n (h ++ e ∷ []) (heard_by_known e k)) (sym (same_threads (thread_of e) l so.none))
    (record { watchers = so.watchers; none = so.none; located = located_longer h e l so.located })

known_all : (o : Observer) (n : ℕ) (h more : List Event) (l : Locations) → Known o n h l → Known o n (h ++ more) (locations_after_all l more)
known_all o n h [] l so = subst (λ h. Known o n h l) (sym (append-nil h)) so
known_all o n h (e ∷ more) l so = subst (λ h. Known o n h (locations_after_all (locations_after e l) more)) (append_assoc h (e ∷ []) more) (known_all o n (h ++ e ∷ []) more (locations_after e l) (known_next o n h e l so))

known_end : (o : Observer) (n : ℕ) (h : List Event) → Known o n h (locations_after_all (of_threads o n) h)
unfolding of_threads
known_end o n h = known_all o n [] h (of_threads o n) (record { watchers = refl; none = refl; located = begun_located 0 (first_threads o n) })

threads_many : (o : Observer) (n : ℕ) → length (first_threads o n) ≡ n
threads_many o zero = refl
threads_many o (suc n) = simp (length-append, threads_many o n) (omega arith)

thread_there : (o : Observer) (n t : ℕ) → t < n → slice_get (first_threads o n) t ≡ Some (of_thread t o)
thread_there o zero t small = absurd (omega arith)
thread_there o (suc n) t small = elim (cases_lt t n) [
  | inl less ↦ slice_left (first_threads o n) (of_thread n o ∷ []) t (of_thread t o) (thread_there o n t less)
  | inr more ↦
      let last : t ≡ n = omega arith in
      slice_right (first_threads o n) (of_thread n o ∷ []) 0 t (omega (arith, threads_many o n)) ∙ ap (λ t. Some (of_thread t o)) (sym last)
]

pub end_there : (h : List Event) (a i : ℕ) (w : Watcher) (ws : List Watcher) → slice_get ws i ≡ Some w → get_or (ends h a ws) i None ≡ end_of h a w
end_there h a i w ws there = get_or_from_slice_get (ends h a ws) i (end_of h a w) None (slice_get-map (end_of h a) ws i ∙ ap (option_map (end_of h a)) there)

all_bear : (a : ℕ) (f : Watcher → Option ℕ) (ws : List Watcher) → all_bear_free a ws (map f ws) ≡ list_all (λ w. is_some (moved (Freed a) (is_named (Freed a) a) w (f w))) ws
all_bear a f [] = refl
all_bear a f (w ∷ ws) = ap (λ b. is_some (moved (Freed a) (is_named (Freed a) a) w (f w)) && b) (all_bear a f ws)

all_threads : (o : Observer) (n : ℕ) (p : Watcher → Bool) → (list_all p (first_threads o n) ≡ true) ↔ ((t : ℕ) → t < n → p (of_thread t o) ≡ true)
all_threads o n p = (forth n, back n)
  where
    forth : (n : ℕ) → list_all p (first_threads o n) ≡ true → (t : ℕ) → t < n → p (of_thread t o) ≡ true
    forth zero all t small = absurd (omega arith)
    forth (suc n) all t small =
        let parts = and_parts _ _ (sym (list_all-append p (first_threads o n) (of_thread n o ∷ [])) ∙ all) in
        elim (cases_lt t n) [
          | inl less ↦ forth n parts.0 t less
          | inr more ↦ let last : t ≡ n = omega arith in ap (λ t. p (of_thread t o)) last ∙ (and_parts _ _ parts.1).0
        ]

    back : (n : ℕ) → ((t : ℕ) → t < n → p (of_thread t o) ≡ true) → list_all p (first_threads o n) ≡ true
    back zero each = refl
    back (suc n) each = list_all-append p (first_threads o n) (of_thread n o ∷ []) ∙ and_from _ _ (back n (λ t small. each t (omega (arith, small)))) (and_from _ _ (each n (omega arith)) refl)

pub threads_follow : (o : Observer) (n : ℕ) → FollowsThreads o n
unfolding stands may_free
threads_follow o n = record {
  located = λ h t a small.
      let so = known_end o n h in
      ap (λ at. get_or at t None) (row_ends h _ a so.located ∙ ap (ends h a) so.watchers) ∙ end_there h a t (of_thread t o) (first_threads o n) (thread_there o n t small) ∙ own_end o t a h;
  frees = λ h a.
      let so = known_end o n h in
      let bears : may_free (locations_after_all (of_threads o n) h) a ≡ list_all (λ w. is_some (moved (Freed a) (is_named (Freed a) a) w (end_of h a w))) (first_threads o n) =
      (λ i. all_bear_free a (so.watchers i) ((row_ends h _ a so.located ∙ ap (ends h a) so.watchers) i)) ∙ all_bear a (end_of h a) (first_threads o n) in
      let each : (t : ℕ) → is_some (moved (Freed a) (is_named (Freed a) a) (of_thread t o) (end_of h a (of_thread t o))) ≡ is_some (advance o t a (Freed a) (location o h t a)) =
      λ t. ap is_some (own_moves o t a (Freed a) (end_of h a (of_thread t o)) ∙ ap (advance o t a (Freed a)) (own_end o t a h)) in
      let both = all_threads o n (λ w. is_some (moved (Freed a) (is_named (Freed a) a) w (end_of h a w))) in
      (λ may t small. sym (each t) ∙ both.0 (sym bears ∙ may) t small, λ all. bears ∙ both.1 (λ t small. each t ∙ all t small));
}
