-- What the functions of the code do to locations, against the whole lists of the definitions.
use Rattle.std.proofs.Common.{◌≡◌, ℕ, zero, suc, ◌+◌, ◌<◌, Bool, true, false, not, ◌&&◌, ◌||◌, ◌==◌, cond, if◌then◌else◌, List, [], ◌∷◌, ◌++◌, length, set, get_or, take, drop, map, replicate, Option, Some, None, is_some, refl, sym, ap, ◌∙◌, arith, add-one}
use Rattle.std.specs.Prelude.{nat_eq, filter}
use Rattle.std.specs.List.{count_by, list_any, remove, position, position_from}
use Rattle.std.proofs.Math.Seq.{drop-nil}
use Rattle.std.proofs.lemmas.Bool.{eqb-true, ne_eqb, or_parts}
use Rattle.std.proofs.lemmas.List.{map-set, map-append, take-map, length-map, get_or-map}
use Rattle.std.specs.Cmp.Lexicographic.{pointwise}
use Rattle.std.specs.Option.{option_eq}
use Rattle.std.proofs.lemmas.Iterator.Adapters.{position_from-zero}
use Rattle.std.proofs.lemmas.List.Quantifiers.{position-Some}
use Rattle.plc_base.proofs.Booleans.{and_false}
use Rattle.std.proofs.lemmas.List.Sums.{sum_by-set, length-filter}
use Rattle.plc_base.specs.declared.ids.LocId.{LocId}
use Rattle.plc_auto.specs.declared.event.Event.{Event}
use Rattle.plc_auto.specs.declared.event.Event.TheVariants.{Call as Called, Done as Returned, Free as Freed}
use Rattle.plc_auto.specs.declared.event.EvKind.{EvKind}
use Rattle.plc_auto.specs.declared.observer.Observer.{Observer}
use Rattle.plc_auto.specs.declared.watcher.Watcher.{Watcher}
use Rattle.plc_auto.specs.Events.{kind_of, thread_of, address_of}
use Rattle.plc_auto.specs.Table.{step, target_of}
use Rattle.plc_auto.specs.Location.{is_this}
use Rattle.plc_auto.specs.Waiting.{is_kept_at}
use Rattle.plc_auto.specs.Laws.{retired_by}
use Rattle.plc_base.specs.Functions.{is_retire}
use Rattle.plc_auto.specs.Locations.{Row, Locations, is_by, is_known, with_own, with_thread, heard_by_known, locations_after, with_first, wider, to_end, is_named, moved_by, moved, all_moved, row_after, same_locations, all_bear_free}
use Rattle.plc_auto.specs.Moves.{one_moved, with_one, with_all, named_after, one_elsewhere, all_elsewhere, widened}
use Rattle.plc_auto.proofs.Stays.{far_stays}

-- ---- watchers one after the other

-- the move of one
abbrev turn : Event → Bool → ℕ → Watcher → List (Option ℕ) → List (Option ℕ)
turn e on_this i w at = one_moved w.observer (kind_of e) (is_by (thread_of e) w.thread) on_this i at

all_more : (e : Event) (on_this : Bool) (ws : List Watcher) (at : List (Option ℕ)) (i : ℕ) (d : Watcher) → i < length ws
    → turn e on_this i (get_or ws i d) (all_moved e on_this (take i ws) at) ≡ all_moved e on_this (take (i + 1) ws) at
all_more e on_this ws at i d small = rw add-one (go ws at i small)
  where
    go : (ws : List Watcher) (at : List (Option ℕ)) (i : ℕ) → i < length ws
        → turn e on_this i (get_or ws i d) (all_moved e on_this (take i ws) at) ≡ all_moved e on_this (take (suc i) ws) at
    go [] at i small = absurd (omega arith)
    go (w ∷ ws) [] zero small = refl
    go (w ∷ ws) [] (suc i) small = refl
    go (w ∷ ws) (l ∷ at) zero small = refl
    go (w ∷ ws) (l ∷ at) (suc i) small = ap (λ at. moved e on_this w l ∷ at) (go ws at i (omega arith))

-- another thread's event on another address
moved_stays : (e : Event) (w : Watcher) (q : Option ℕ) → is_by (thread_of e) w.thread ≡ false → moved e false w q ≡ q
moved_stays e w None other = refl
moved_stays e w (Some l) other = ap (λ b. step w.observer l (kind_of e) b false) other ∙ far_stays w.observer l (kind_of e)

-- a watcher of another thread, which doesn't move
pub other_stays : (e : Event) (ws : List Watcher) (at : List (Option ℕ)) (i : ℕ) (d : Watcher) → i < length ws → is_by (thread_of e) (get_or ws i d).thread ≡ false
    → all_moved e false (take i ws) at ≡ all_moved e false (take (i + 1) ws) at
other_stays e ws at i d small other = rw add-one (go ws at i small other)
  where
    go : (ws : List Watcher) (at : List (Option ℕ)) (i : ℕ) → i < length ws → is_by (thread_of e) (get_or ws i d).thread ≡ false
        → all_moved e false (take i ws) at ≡ all_moved e false (take (suc i) ws) at
    go [] at i small other = absurd (omega arith)
    go (w ∷ ws) [] zero small other = refl
    go (w ∷ ws) [] (suc i) small other = refl
    go (w ∷ ws) (l ∷ at) zero small other = ap (λ l. l ∷ at) (sym (moved_stays e w l other))
    go (w ∷ ws) (l ∷ at) (suc i) small other = ap (λ at. moved e false w l ∷ at) (go ws at i (omega arith) other)

-- so in a row, with what the code knows of the event
pub row_more : (e : Event) (on_this : Bool) (ws : List Watcher) (r : Row) (i : ℕ) (d : Watcher) (kind : EvKind) (own : Bool) → i < length ws → kind ≡ kind_of e → own ≡ is_by (thread_of e) (get_or ws i d).thread
    → with_one (get_or ws i d).observer kind own on_this i (with_all e on_this (take i ws) r) ≡ with_all e on_this (take (i + 1) ws) r
row_more e on_this ws r i d kind own small is by =
    (λ j. with_one (get_or ws i d).observer (is j) (by j) on_this i (with_all e on_this (take i ws) r))
    ∙ (λ j. record { address = r.address; retired = r.retired; at = all_more e on_this ws r.at i d small j })

-- ---- one watcher of a row in code

pub placed : (o : Observer) (kind : EvKind) (own on_this : Bool) (ats : List (Option LocId)) (i : ℕ) (x r : Option LocId) → x ≡ get_or ats i x → target_of r ≡ moved_by o kind own on_this (target_of x)
    → map target_of (set ats i r) ≡ one_moved o kind own on_this i (map target_of ats)
placed o kind own on_this [] zero x r at is = refl
placed o kind own on_this [] (suc i) x r at is = refl
placed o kind own on_this (y ∷ ats) zero x r at is = ap (λ q. q ∷ map target_of ats) (is ∙ ap (λ q. moved_by o kind own on_this (target_of q)) at)
placed o kind own on_this (y ∷ ats) (suc i) x r at is = ap (λ qs. target_of y ∷ qs) (placed o kind own on_this ats i x r at is)

-- one that is kept counts
abbrev keeps : Option ℕ → ℕ
keeps l = cond (is_kept_at l) 1 0

pub recounted : (ats : List (Option LocId)) (i : ℕ) (x r : Option LocId) → i < length ats → x ≡ get_or ats i x
    → count_by is_kept_at (map target_of (set ats i r)) + keeps (target_of x) ≡ count_by is_kept_at (map target_of ats) + keeps (target_of r)
recounted ats i x r small at =
    let small_too : i < length (map target_of ats) = simp length-map small in
    ap (λ qs. count_by is_kept_at qs + keeps (target_of x)) (map-set target_of ats i r)
    ∙ ap (λ q. count_by is_kept_at (set (map target_of ats) i (target_of r)) + keeps q) (ap target_of at ∙ sym (get_or-map target_of ats i x None small))
    ∙ sum_by-set keeps (map target_of ats) i (target_of r) None small_too

pub counted : (ats : List (Option LocId)) (i : ℕ) (x : Option LocId) → i < length ats → x ≡ get_or ats i x → is_kept_at (target_of x) ≡ true → 0 < count_by is_kept_at (map target_of ats)
counted ats i x small at kept =
    let one : keeps (target_of x) ≡ 1 = ap (λ b. cond b 1 0) kept in
    let more = recounted ats i x None small at in
    omega arith

none_left : {A : Type 0} (p : A → Bool) (xs : List A) → nat_eq (length (filter p xs)) 0 ≡ not (list_any p xs)
none_left p [] = refl
none_left p (x ∷ xs) = go (p x) (none_left p xs)
  where
    go : (b : Bool) → nat_eq (length (filter p xs)) 0 ≡ not (list_any p xs) → nat_eq (length (cond b (x ∷ filter p xs) (filter p xs))) 0 ≡ not (b || list_any p xs)
    go true later = ne_eqb _ 0 (λ e. omega (arith, e))
    go false later = later

pub none_kept : {A : Type 0} (p : A → Bool) (xs : List A) → nat_eq (count_by p xs) 0 ≡ not (list_any p xs)
none_kept p xs = ap (λ n. nat_eq n 0) (sym (length-filter p xs)) ∙ none_left p xs

-- ---- two rows

-- place by place, as `==` compares them
pub same_by_place : (ats bts : List (Option LocId)) → pointwise (option_eq (λ (l k : LocId). l.0 == k.0)) ats bts ≡ same_locations (map target_of ats) (map target_of bts)
same_by_place [] [] = refl
same_by_place [] (k ∷ bts) = refl
same_by_place (l ∷ ats) [] = refl
same_by_place (None ∷ ats) (None ∷ bts) = same_by_place ats bts
same_by_place (None ∷ ats) (Some k ∷ bts) = refl
same_by_place (Some l ∷ ats) (None ∷ bts) = refl
same_by_place (Some l ∷ ats) (Some k ∷ bts) = ap (λ s. (l.0 == k.0) && s) (same_by_place ats bts)

-- ---- frees

bear_more : (a : ℕ) (ws : List Watcher) (at : List (Option ℕ)) (i : ℕ) (d : Watcher) → i < length ws
    → all_bear_free a (drop i ws) (drop i at) ≡ (is_some (moved (Freed a) (is_named (Freed a) a) (get_or ws i d) (get_or at i None)) && all_bear_free a (drop (i + 1) ws) (drop (i + 1) at))
bear_more a ws at i d small = rw add-one (go ws at i small)
  where
    go : (ws : List Watcher) (at : List (Option ℕ)) (i : ℕ) → i < length ws
        → all_bear_free a (drop i ws) (drop i at) ≡ (is_some (moved (Freed a) (is_named (Freed a) a) (get_or ws i d) (get_or at i None)) && all_bear_free a (drop (suc i) ws) (drop (suc i) at))
    go [] at i small = absurd (omega arith)
    go (w ∷ ws) [] zero small = refl
    go (w ∷ ws) [] (suc i) small = ap (λ at. all_bear_free a (drop i ws) at) (sym (drop-nil i)) ∙ go ws [] i (omega arith)
    go (w ∷ ws) (l ∷ at) zero small = refl
    go (w ∷ ws) (l ∷ at) (suc i) small = go ws at i (omega arith)

-- a watcher more that was asked
pub asked : (a : ℕ) (ws : List Watcher) (at : List (Option ℕ)) (i : ℕ) (d : Watcher) (q : Option ℕ) (b end : Bool) → i < length ws → q ≡ get_or at i None
    → b ≡ is_some (moved (Freed a) (is_named (Freed a) a) (get_or ws i d) q)
    → all_bear_free a (drop i ws) (drop i at) ≡ end → (b && all_bear_free a (drop (i + 1) ws) (drop (i + 1) at)) ≡ end
asked a ws at i d q b end small here is so =
    ap (λ v. v && all_bear_free a (drop (i + 1) ws) (drop (i + 1) at)) (is ∙ ap (λ q. is_some (moved (Freed a) (is_named (Freed a) a) (get_or ws i d) q)) here)
    ∙ sym (bear_more a ws at i d small) ∙ so

-- ---- rows

pub named_moved : (e : Event) (ws : List Watcher) (r : Row) (turned : Bool) → is_named e r.address ≡ true → turned ≡ retired_by e r.address r.retired
    → with_all e true ws (record { address = r.address; retired = turned; at = r.at }) ≡ named_after e ws r
named_moved e ws r turned is so =
    (λ i. record { address = r.address; retired = so i; at = all_moved e (sym is i) ws r.at }) ∙ sym (ap (λ b. if b then row_after e ws r else r) is)

pub named_stays : (e : Event) (ws : List Watcher) (r : Row) → is_named e r.address ≡ false → r ≡ named_after e ws r
named_stays e ws r is = sym (ap (λ b. if b then row_after e ws r else r) is)

-- an event of null names none
pub none_named : (e : Event) (ws : List Watcher) (rows : List Row) → address_of e ≡ 0 → rows ≡ map (named_after e ws) rows
none_named e ws [] null = refl
none_named e ws (r ∷ rows) null =
    λ i. named_stays e ws r ((λ j. (null j == r.address) && not (null j == 0)) ∙ and_false (0 == r.address)) i ∷ none_named e ws rows null i

pub elsewhere_moved : (o : Observer) (kind : EvKind) (a i : ℕ) (r : Row) → is_this (Some a) r.address ≡ false → with_one o kind true false i r ≡ one_elsewhere o kind a i r
elsewhere_moved o kind a i r is = sym (ap (λ b. if b then r else with_one o kind true false i r) is)

pub elsewhere_stays : (o : Observer) (kind : EvKind) (a i : ℕ) (r : Row) → is_this (Some a) r.address ≡ true → r ≡ one_elsewhere o kind a i r
elsewhere_stays o kind a i r is = sym (ap (λ b. if b then r else with_one o kind true false i r) is)

-- an event turns only what it names
not_turned : (e : Event) (a : ℕ) (b : Bool) → is_named e a ≡ false → retired_by e a b ≡ b
not_turned (Called t f None) a b other = go (is_retire f)
  where
    go : (s : Bool) → (if s && false then true else b) ≡ b
    go true = refl
    go false = refl
not_turned (Called t f (Some c)) a b other = ap (λ s. if is_retire f && s then true else b) other ∙ go (is_retire f)
  where
    go : (s : Bool) → (if s && false then true else b) ≡ b
    go true = refl
    go false = refl
not_turned (Returned t f) a b other = refl
not_turned (Freed c) a b other = ap (λ s. if s then false else b) other

pub row_moved : (e : Event) (ws : List Watcher) (r : Row) → all_elsewhere e ws (named_after e ws r) ≡ row_after e ws r
row_moved e ws r = go (is_named e r.address) refl
  where
    go : (b : Bool) → is_named e r.address ≡ b → all_elsewhere e ws (if b then row_after e ws r else r) ≡ row_after e ws r
    go true is = ap (λ b. if b then row_after e ws r else with_all e false ws (row_after e ws r)) is
    go false is =
        ap (λ b. if b then r else with_all e false ws r) is
        ∙ (λ i. record { address = r.address; retired = sym (not_turned e r.address r.retired is) i; at = all_moved e (sym is i) ws r.at })

pub rows_moved : (e : Event) (ws : List Watcher) (rows : List Row) → map (all_elsewhere e ws) (map (named_after e ws) rows) ≡ map (row_after e ws) rows
rows_moved e ws [] = refl
rows_moved e ws (r ∷ rows) = λ i. row_moved e ws r i ∷ rows_moved e ws rows i

-- one watcher more in all other rows
elsewhere_more : (e : Event) (ws vs : List Watcher) (i : ℕ) (o : Observer) → ((at : List (Option ℕ)) → one_moved o (kind_of e) true false i (all_moved e false ws at) ≡ all_moved e false vs at)
    → (r : Row) → one_elsewhere o (kind_of e) (address_of e) i (all_elsewhere e ws r) ≡ all_elsewhere e vs r
elsewhere_more e ws vs i o more r = go (is_named e r.address) refl
  where
    go : (b : Bool) → is_named e r.address ≡ b → one_elsewhere o (kind_of e) (address_of e) i (if b then r else with_all e false ws r) ≡ (if b then r else with_all e false vs r)
    go true is = ap (λ b. if b then r else with_one o (kind_of e) true false i r) is
    go false is =
        ap (λ b. if b then with_all e false ws r else with_one o (kind_of e) true false i (with_all e false ws r)) is
        ∙ (λ j. record { address = r.address; retired = r.retired; at = more r.at j })

watcher_moved : (e : Event) (ws : List Watcher) (i : ℕ) (d : Watcher) (rows : List Row) → i < length ws → is_by (thread_of e) (get_or ws i d).thread ≡ true
    → map (one_elsewhere (get_or ws i d).observer (kind_of e) (address_of e) i) (map (all_elsewhere e (take i ws)) rows) ≡ map (all_elsewhere e (take (i + 1) ws)) rows
watcher_moved e ws i d [] small own = refl
watcher_moved e ws i d (r ∷ rows) small own =
    λ j. elsewhere_more e (take i ws) (take (i + 1) ws) i (get_or ws i d).observer
    (λ at. (λ k. one_moved (get_or ws i d).observer (kind_of e) (sym own k) false i (all_moved e false (take i ws) at)) ∙ all_more e false ws at i d small) r j
    ∷ watcher_moved e ws i d rows small own j

pub watcher_more : (e : Event) (ws : List Watcher) (i : ℕ) (d : Watcher) (rows : List Row) (kind : EvKind) (named : ℕ) → i < length ws → is_by (thread_of e) (get_or ws i d).thread ≡ true → kind ≡ kind_of e → named ≡ address_of e
    → map (one_elsewhere (get_or ws i d).observer kind named i) (map (all_elsewhere e (take i ws)) rows) ≡ map (all_elsewhere e (take (i + 1) ws)) rows
watcher_more e ws i d rows kind named small own is so =
    (λ j. map (one_elsewhere (get_or ws i d).observer (is j) (so j) i) (map (all_elsewhere e (take i ws)) rows)) ∙ watcher_moved e ws i d rows small own

pub watcher_stays : (e : Event) (ws : List Watcher) (i : ℕ) (d : Watcher) (rows : List Row) → i < length ws → is_by (thread_of e) (get_or ws i d).thread ≡ false
    → map (all_elsewhere e (take i ws)) rows ≡ map (all_elsewhere e (take (i + 1) ws)) rows
watcher_stays e ws i d [] small other = refl
watcher_stays e ws i d (r ∷ rows) small other =
    λ j. (if is_named e r.address then r else record { address = r.address; retired = r.retired; at = other_stays e ws r.at i d small other j }) ∷ watcher_stays e ws i d rows small other j

-- no watcher has moved yet
pub none_moved : (e : Event) (rows : List Row) → map (all_elsewhere e []) rows ≡ rows
none_moved e [] = refl
none_moved e (r ∷ rows) = λ i. go (is_named e r.address) i ∷ none_moved e rows i
  where
    go : (b : Bool) → (if b then r else with_all e false [] r) ≡ r
    go true = refl
    go false = refl

-- ---- the row of an address put last

last_there : (a : ℕ) (rows : List Row) (i : ℕ) (d : Row) → i < length rows → ((k : ℕ) → k < i → ((get_or rows k d).address == a) ≡ false) → ((get_or rows i d).address == a) ≡ true
    → to_end a rows ≡ (if (get_or rows i d).retired then rows else remove rows i ++ get_or rows i d ∷ [])
last_there a [] i d small before here = absurd (omega arith)
last_there a (r ∷ rows) zero d small before here = ap (λ b. if b then (if r.retired then r ∷ rows else rows ++ r ∷ []) else r ∷ to_end a rows) here
last_there a (r ∷ rows) (suc i) d small before here =
    ap (λ b. if b then (if r.retired then r ∷ rows else rows ++ r ∷ []) else r ∷ to_end a rows) (before 0 (omega arith))
    ∙ ap (λ rows. r ∷ rows) (last_there a rows i d (omega arith) (λ k below. before (suc k) (omega arith)) here)
    ∙ go (get_or rows i d).retired
  where
    go : (b : Bool) → r ∷ (if b then rows else remove rows i ++ get_or rows i d ∷ []) ≡ (if b then r ∷ rows else remove (r ∷ rows) (suc i) ++ get_or rows i d ∷ [])
    go true = refl
    go false = refl

-- so where the row was found, by whether it is retired
pub placed_last : (a : ℕ) (rows : List Row) (i : ℕ) (d : Row) (b : Bool) → position (λ (r : Row). r.address == a) rows ≡ Some i → (get_or rows i d).retired ≡ b
    → (if b then rows else remove rows i ++ get_or rows i d ∷ []) ≡ to_end a rows
placed_last a rows i d b found is =
    let there = position-Some (λ (r : Row). r.address == a) rows i d found in
    sym (ap (λ b. if b then rows else remove rows i ++ get_or rows i d ∷ []) is) ∙ sym (last_there a rows i d there.0 there.2 there.1)

pub not_there : (a : ℕ) (rows : List Row) → list_any (λ r. r.address == a) rows ≡ false → to_end a rows ≡ rows
not_there a [] none = refl
not_there a (r ∷ rows) none =
    let parts = or_parts _ _ none in
    ap (λ b. if b then (if r.retired then r ∷ rows else rows ++ r ∷ []) else r ∷ to_end a rows) parts.0 ∙ ap (λ rows. r ∷ rows) (not_there a rows parts.1)

from_none : (p : Row → Bool) (k : ℕ) (rows : List Row) → position_from p k rows ≡ None → list_any p rows ≡ false
from_none p k [] none = refl
from_none p k (r ∷ rows) none = go (p r) (from_none p (k + 1) rows) none
  where
    go : (b : Bool) → (position_from p (k + 1) rows ≡ None → list_any p rows ≡ false) → cond b (Some k) (position_from p (k + 1) rows) ≡ None → (b || list_any p rows) ≡ false
    go true later none = cc
    go false later none = later none

pub nowhere : (a : ℕ) (rows : List Row) → position (λ r. r.address == a) rows ≡ None → to_end a rows ≡ rows
nowhere a rows none = not_there a rows (from_none (λ r. r.address == a) 0 rows (sym (position_from-zero (λ r. r.address == a) rows) ∙ none))

-- ---- copies

none_more : (at : List (Option ℕ)) → with_first 0 at ≡ at
none_more [] = refl
none_more (l ∷ at) = ap (λ at. l ∷ at) (none_more at)

none_wider : (rows : List Row) → map (wider 0) rows ≡ rows
none_wider [] = refl
none_wider (r ∷ rows) = λ i. record { address = r.address; retired = r.retired; at = none_more r.at i } ∷ none_wider rows i

no_watcher_more : (ws : List Watcher) → ws ++ [] ≡ ws
no_watcher_more [] = refl
no_watcher_more (w ∷ ws) = ap (λ ws. w ∷ ws) (no_watcher_more ws)

pub copied : (t : ℕ) (l : Locations) → widened 0 t l ≡ l
copied t l = λ i. record { unheard = l.unheard; watchers = no_watcher_more l.watchers i; others = none_more l.others i; rows = none_wider l.rows i }

-- ---- watchers in their first locations

pub all_first : (n : ℕ) → map target_of (replicate n (Some (record { 0 = 0 }))) ≡ replicate n (Some 0)
all_first zero = refl
all_first (suc n) = ap (λ at. Some 0 ∷ at) (all_first n)

-- ---- wider rows

pub first_mapped : (n : ℕ) (ats : List (Option LocId)) → map target_of (ats ++ take n ats) ≡ with_first n (map target_of ats)
first_mapped n ats = map-append target_of ats (take n ats) ∙ ap (λ at. map target_of ats ++ at) (sym (take-map target_of n ats))

-- ---- an event of a thread that is known, or isn't

-- where no watcher is of every thread
pub none_own : (t : ℕ) (l : Locations) → l.unheard ≡ 0 → with_own t l ≡ l
none_own t l none = ap (λ n. widened n t l) none ∙ copied t l

pub known_after : (e : Event) (t : ℕ) (l : Locations) → thread_of e ≡ Some t → is_known (Some t) l.watchers ≡ true → heard_by_known e l ≡ locations_after e l
unfolding locations_after
known_after e t l by known =
    ap (λ b. heard_by_known e (if b then l else with_own t l)) (sym known) ∙ ap (λ q. heard_by_known e (with_thread q l)) (sym by)

pub new_after : (e : Event) (t : ℕ) (l : Locations) → thread_of e ≡ Some t → is_known (Some t) l.watchers ≡ false → heard_by_known e (with_own t l) ≡ locations_after e l
unfolding locations_after
new_after e t l by known =
    ap (λ b. heard_by_known e (if b then l else with_own t l)) (sym known) ∙ ap (λ q. heard_by_known e (with_thread q l)) (sym by)

pub not_new_after : (e : Event) (t : ℕ) (l : Locations) → thread_of e ≡ Some t → (not (l.unheard == 0) && not (is_known (Some t) l.watchers)) ≡ false → heard_by_known e l ≡ locations_after e l
not_new_after e t l by old = go (l.unheard == 0) (is_known (Some t) l.watchers) refl refl old
  where
    go : (z k : Bool) → (l.unheard == 0) ≡ z → is_known (Some t) l.watchers ≡ k → (not z && not k) ≡ false → heard_by_known e l ≡ locations_after e l
    go z true none known old = known_after e t l by known
    go true false none known old = ap (heard_by_known e) (sym (none_own t l (eqb-true l.unheard 0 none))) ∙ new_after e t l by known
    go false false none known old = cc

pub no_thread_after : (e : Event) (l : Locations) → thread_of e ≡ None → heard_by_known e l ≡ locations_after e l
unfolding locations_after
no_thread_after e l by = ap (λ q. heard_by_known e (with_thread q l)) (sym by)
