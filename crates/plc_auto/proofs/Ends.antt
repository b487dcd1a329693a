-- Where each watcher comes to by a whole history, and that locations which heard the history have it so: a row for its
-- address, and the others for every address without a row.
use Rattle.std.proofs.Common.{◌≡◌, ℕ, Bool, true, false, not, ◌&&◌, ◌||◌, ◌==◌, cond, if◌then◌else◌, List, [], ◌∷◌, ◌++◌, map, take, Option, Some, None, refl, sym, ap, ◌∙◌}
use Rattle.std.specs.Prelude.{fold, filter}
use Rattle.std.specs.List.{list_any}
use Rattle.std.proofs.lemmas.Bool.{eqb-true, eq-eqb, and_parts, or_parts, both_ways}
use Rattle.std.proofs.lemmas.List.{map-append, take-map}
use Rattle.std.proofs.lemmas.List.Folds.{list_any-append}
use Rattle.std.proofs.lemmas.List.Sums.{fold-append}
use Rattle.plc_base.proofs.Tables.{any-map}
use Rattle.plc_auto.specs.declared.event.Event.{Event}
use Rattle.plc_auto.specs.declared.event.Event.TheVariants.{Call as Called, Done as Returned, Free as Freed}
use Rattle.plc_auto.specs.declared.observer.Observer.{Observer}
use Rattle.plc_auto.specs.declared.watcher.Watcher.{Watcher}
use Rattle.plc_auto.specs.Events.{kind_of, thread_of, address_of}
use Rattle.plc_auto.specs.Table.{step}
use Rattle.plc_auto.specs.Location.{advance, location_from, location}
use Rattle.plc_auto.specs.Laws.{is_retirement}
use Rattle.plc_auto.specs.Locations.{Row, Locations, of_thread, of_unheard, owned, is_by, with_first, wider, with_own, has_row, with_row, to_end, in_order, is_named, moved, all_moved, row_after, same_location, same_locations, is_needed, heard_by_known, row_of}
use Rattle.plc_auto.proofs.Histories.{is_own, is_on, step_by_is}
use Rattle.plc_base.proofs.Booleans.{and_false, or_true}

-- ---- where a watcher comes to

-- from a location on
abbrev pub end_from : Watcher → ℕ → Option ℕ → List Event → Option ℕ
end_from w a q h = fold (λ q e. moved e (is_named e a) w q) q h

-- from the first location on
abbrev pub end_of : List Event → ℕ → Watcher → Option ℕ
end_of h a w = end_from w a (Some 0) h

-- where they come to
abbrev pub ends : List Event → ℕ → List Watcher → List (Option ℕ)
ends h a ws = map (end_of h a) ws

pub end_longer : (h : List Event) (e : Event) (a : ℕ) (w : Watcher) → end_of (h ++ e ∷ []) a w ≡ moved e (is_named e a) w (end_of h a w)
end_longer h e a w = fold-append (λ q e. moved e (is_named e a) w q) (Some 0) h (e ∷ [])

pub ends_longer : (h : List Event) (e : Event) (a : ℕ) (ws : List Watcher) (on_this : Bool) → is_named e a ≡ on_this → all_moved e on_this ws (ends h a ws) ≡ ends (h ++ e ∷ []) a ws
ends_longer h e a [] on_this is = refl
ends_longer h e a (w ∷ ws) on_this is = λ i. (ap (λ b. moved e b w (end_of h a w)) (sym is) ∙ sym (end_longer h e a w)) i ∷ ends_longer h e a ws on_this is i

-- a thread's own watcher reads what the observer reads
is_named_is : (e : Event) (a : ℕ) → is_named e a ≡ is_on a e
is_named_is (Called t f None) a = and_false (0 == a)
is_named_is (Called t f (Some b)) a = refl
is_named_is (Returned t f) a = and_false (0 == a)
is_named_is (Freed b) a = refl

pub by_thread : (e : Event) (t : ℕ) → is_by (thread_of e) (Some t) ≡ is_own t e
by_thread (Called u f b) t = refl
by_thread (Returned u f) t = refl
by_thread (Freed b) t = refl

by_no_thread : (e : Event) → is_by (thread_of e) None ≡ false
by_no_thread (Called u f b) = refl
by_no_thread (Returned u f) = refl
by_no_thread (Freed b) = refl

pub own_moves : (o : Observer) (t a : ℕ) (e : Event) (q : Option ℕ) → moved e (is_named e a) (of_thread t o) q ≡ advance o t a e q
own_moves o t a e None = refl
own_moves o t a e (Some l) = (λ i. step o l (kind_of e) (by_thread e t i) (is_named_is e a i)) ∙ sym (step_by_is o t a e l)

own_from : (o : Observer) (t a : ℕ) (q : Option ℕ) (h : List Event) → end_from (of_thread t o) a q h ≡ location_from o t a q h
own_from o t a q [] = refl
own_from o t a q (e ∷ h) = ap (λ q. end_from (of_thread t o) a q h) (own_moves o t a e q) ∙ own_from o t a (advance o t a e q) h

pub own_end : (o : Observer) (t a : ℕ) (h : List Event) → end_of h a (of_thread t o) ≡ location o h t a
unfolding location
own_end o t a h = own_from o t a (Some 0) h

-- so does that of all threads which weren't heard, for each of these
abbrev pub is_heard : List Event → ℕ → Bool
is_heard h t = list_any (is_own t) h

silent_moves : (o : Observer) (t a : ℕ) (e : Event) (q : Option ℕ) → is_own t e ≡ false → moved e (is_named e a) (of_unheard o) q ≡ moved e (is_named e a) (of_thread t o) q
silent_moves o t a e None other = refl
silent_moves o t a e (Some l) other = ap (λ b. step o l (kind_of e) b (is_named e a)) (by_no_thread e ∙ sym (by_thread e t ∙ other))

silent_from : (o : Observer) (t a : ℕ) (q : Option ℕ) (h : List Event) → is_heard h t ≡ false → end_from (of_unheard o) a q h ≡ end_from (of_thread t o) a q h
silent_from o t a q [] silent = refl
silent_from o t a q (e ∷ h) silent =
    let parts = or_parts _ _ silent in
    ap (λ q. end_from (of_unheard o) a q h) (silent_moves o t a e q parts.0) ∙ silent_from o t a (moved e (is_named e a) (of_thread t o) q) h parts.1

pub silent_end : (o : Observer) (t a : ℕ) (h : List Event) → is_heard h t ≡ false → end_of h a (of_unheard o) ≡ end_of h a (of_thread t o)
silent_end o t a h silent = silent_from o t a (Some 0) h silent

-- ---- rows that have it so

abbrev pub is_row_of : ℕ → Row → Bool
is_row_of a r = r.address == a

-- each row has it so for its address
abbrev pub EachRow : List Event → List Watcher → List Row → Type 0
EachRow h ws [] = Unit {0}
EachRow h ws (r ∷ rows) = (r.at ≡ ends h r.address ws) × EachRow h ws rows

-- and the others for each address without a row
abbrev pub Rest : List Event → List Watcher → List (Option ℕ) → List Row → Type 0
Rest h ws others rows = (a : ℕ) → list_any (is_row_of a) rows ≡ false → others ≡ ends h a ws

pub record Located (h : List Event) (l : Locations) : Type 0 where
  pub each : EachRow h l.watchers l.rows
  pub rest : Rest h l.watchers l.others l.rows

-- the row of an address
pub row_is : (h : List Event) (ws : List Watcher) (others : List (Option ℕ)) (rows : List Row) (a : ℕ) → EachRow h ws rows → (list_any (is_row_of a) rows ≡ false → others ≡ ends h a ws) → row_of rows others a ≡ ends h a ws
row_is h ws others [] a each rest = rest refl
row_is h ws others (r ∷ rows) a each rest = go (r.address == a) refl rest (row_is h ws others rows a each.1)
  where
    go : (b : Bool) → (r.address == a) ≡ b → ((b || list_any (is_row_of a) rows) ≡ false → others ≡ ends h a ws) → ((list_any (is_row_of a) rows ≡ false → others ≡ ends h a ws) → row_of rows others a ≡ ends h a ws) → (if b then r.at else row_of rows others a) ≡ ends h a ws
    go true is rest later = each.0 ∙ ap (λ a. ends h a ws) (eqb-true r.address a is)
    go false is rest later = later rest

-- ---- a row more

each_append : (h : List Event) (ws : List Watcher) (rows more : List Row) → EachRow h ws rows → EachRow h ws more → EachRow h ws (rows ++ more)
each_append h ws [] more each also = also
each_append h ws (r ∷ rows) more each also = (each.0, each_append h ws rows more each.1 also)

record Ready (h : List Event) (ws : List Watcher) (others : List (Option ℕ)) (a : ℕ) (rows : List Row) : Type 0 where
  each : EachRow h ws rows
  rest : Rest h ws others rows
  has : has_row a rows ≡ true

has_last : (a : ℕ) (others : List (Option ℕ)) (rows : List Row) → has_row a (rows ++ record { address = a; retired = false; at = others } ∷ []) ≡ true
has_last a others rows =
    ap (λ x. (a == 0) || x) (list_any-append (is_row_of a) rows _ ∙ ap (λ x. list_any (is_row_of a) rows || (x || false)) (eq-eqb a a refl) ∙ or_true (list_any (is_row_of a) rows))
    ∙ or_true (a == 0)

-- then the address has one, or needs none
pub has_one : (a : ℕ) (others : List (Option ℕ)) (rows : List Row) → has_row a (with_row a others rows) ≡ true
has_one a others rows = go (has_row a rows) refl
  where
    go : (b : Bool) → has_row a rows ≡ b → has_row a (if b then rows else rows ++ record { address = a; retired = false; at = others } ∷ []) ≡ true
    go true is = is
    go false is = has_last a others rows

more_ready : (h : List Event) (ws : List Watcher) (others : List (Option ℕ)) (a : ℕ) (rows : List Row) → EachRow h ws rows → Rest h ws others rows → Ready h ws others a (with_row a others rows)
more_ready h ws others a rows each rest = go (has_row a rows) refl
  where
    more : Row
    more = record { address = a; retired = false; at = others }

    none : (x y : Bool) → (x || y) ≡ false → y ≡ false
    none true y e = cc
    none false y e = e

    fewer : (b : ℕ) → list_any (is_row_of b) (rows ++ more ∷ []) ≡ false → list_any (is_row_of b) rows ≡ false
    fewer b n = (or_parts _ _ (sym (list_any-append (is_row_of b) rows (more ∷ [])) ∙ n)).0

    go : (b : Bool) → has_row a rows ≡ b → Ready h ws others a (if b then rows else rows ++ more ∷ [])
    go true is = record { each = each; rest = rest; has = is }
    go false is = record {
      each = each_append h ws rows (more ∷ []) each (rest a (none (a == 0) _ is), tt);
      rest = λ b n. rest b (fewer b n);
      has = has_last a others rows;
    }

-- ---- the row that goes to the end

pub any_to_end : (p : Row → Bool) (a : ℕ) (rows : List Row) → list_any p (to_end a rows) ≡ list_any p rows
any_to_end p a [] = refl
any_to_end p a (r ∷ rows) = go (r.address == a) r.retired (any_to_end p a rows)
  where
    turned : (x y : Bool) → (x || (y || false)) ≡ (y || x)
    turned true true = refl
    turned true false = refl
    turned false true = refl
    turned false false = refl

    go : (b c : Bool) → list_any p (to_end a rows) ≡ list_any p rows → list_any p (if b then (if c then r ∷ rows else rows ++ r ∷ []) else r ∷ to_end a rows) ≡ (p r || list_any p rows)
    go true true later = refl
    go true false later = list_any-append p rows (r ∷ []) ∙ turned (list_any p rows) (p r)
    go false c later = ap (λ x. p r || x) later

each_to_end : (h : List Event) (ws : List Watcher) (a : ℕ) (rows : List Row) → EachRow h ws rows → EachRow h ws (to_end a rows)
each_to_end h ws a [] each = tt
each_to_end h ws a (r ∷ rows) each = go (r.address == a) r.retired (each_to_end h ws a rows each.1)
  where
    go : (b c : Bool) → EachRow h ws (to_end a rows) → EachRow h ws (if b then (if c then r ∷ rows else rows ++ r ∷ []) else r ∷ to_end a rows)
    go true true later = each
    go true false later = each_append h ws rows (r ∷ []) each.1 (each.0, tt)
    go false c later = (each.0, later)

order_ready : (h : List Event) (ws : List Watcher) (others : List (Option ℕ)) (e : Event) (rows : List Row) → Ready h ws others (address_of e) rows → Ready h ws others (address_of e) (in_order e rows)
order_ready h ws others e rows ready = go (is_retirement (kind_of e))
  where
    go : (b : Bool) → Ready h ws others (address_of e) (if b then to_end (address_of e) rows else rows)
    go true = record {
      each = each_to_end h ws (address_of e) rows ready.each;
      rest = λ b n. ready.rest b (sym (any_to_end (is_row_of b) (address_of e) rows) ∙ n);
      has = ap (λ x. (address_of e == 0) || x) (any_to_end (is_row_of (address_of e)) (address_of e) rows) ∙ ready.has;
    }
    go false = ready

-- ---- moves

each_moved : (h : List Event) (ws : List Watcher) (e : Event) (rows : List Row) → EachRow h ws rows → EachRow (h ++ e ∷ []) ws (map (row_after e ws) rows)
each_moved h ws e [] each = tt
each_moved h ws e (r ∷ rows) each =
    (ap (all_moved e (is_named e r.address) ws) each.0 ∙ ends_longer h e r.address ws (is_named e r.address) refl, each_moved h ws e rows each.1)

-- an address without a row isn't named
unnamed : (e : Event) (a : ℕ) (rows : List Row) → has_row (address_of e) rows ≡ true → list_any (is_row_of a) rows ≡ false → is_named e a ≡ false
unnamed e a rows has none = go (address_of e == a) (address_of e == 0) refl refl has
  where
    go : (x y : Bool) → (address_of e == a) ≡ x → (address_of e == 0) ≡ y → (y || list_any (is_row_of (address_of e)) rows) ≡ true → (x && not y) ≡ false
    go false y is null has = refl
    go true true is null has = refl
    go true false is null has = absurd (both_ways _ (ap (λ b. list_any (is_row_of b) rows) (eqb-true (address_of e) a is) ∙ none) has)

rest_moved : (h : List Event) (ws : List Watcher) (others : List (Option ℕ)) (e : Event) (rows : List Row) → Ready h ws others (address_of e) rows → Rest (h ++ e ∷ []) ws (all_moved e false ws others) (map (row_after e ws) rows)
rest_moved h ws others e rows ready = λ a n.
    let none = sym (any-map (λ (r : Row). r.address) (row_after e ws) (λ r. refl) rows a) ∙ n in
    ap (all_moved e false ws) (ready.rest a none) ∙ ends_longer h e a ws false (unnamed e a rows ready.has none)

-- ---- rows that are dropped

pub same_is : (x y : Option ℕ) → same_location x y ≡ true → x ≡ y
same_is None None e = refl
same_is None (Some k) e = cc
same_is (Some l) None e = cc
same_is (Some l) (Some k) e = ap (λ n. Some n) (eqb-true l k e)

all_same : (xs ys : List (Option ℕ)) → same_locations xs ys ≡ true → xs ≡ ys
all_same [] [] e = refl
all_same [] (y ∷ ys) e = cc
all_same (x ∷ xs) [] e = cc
all_same (x ∷ xs) (y ∷ ys) e = let parts = and_parts _ _ e in λ i. same_is x y parts.0 i ∷ all_same xs ys parts.1 i

each_kept : (h : List Event) (ws : List Watcher) (q : Row → Bool) (rows : List Row) → EachRow h ws rows → EachRow h ws (filter q rows)
each_kept h ws q [] each = tt
each_kept h ws q (r ∷ rows) each = go (q r) (each_kept h ws q rows each.1)
  where
    go : (b : Bool) → EachRow h ws (filter q rows) → EachRow h ws (cond b (r ∷ filter q rows) (filter q rows))
    go true later = (each.0, later)
    go false later = later

unneeded : (others : List (Option ℕ)) (r : Row) → is_needed others r ≡ false → r.at ≡ others
unneeded others r n = all_same r.at others (go (same_locations r.at others) (or_parts _ _ n).1)
  where
    go : (b : Bool) → not b ≡ false → b ≡ true
    go true e = refl
    go false e = cc

rest_kept : (h : List Event) (ws : List Watcher) (others : List (Option ℕ)) (rows : List Row) (a : ℕ) → EachRow h ws rows → (list_any (is_row_of a) rows ≡ false → others ≡ ends h a ws)
    → list_any (is_row_of a) (filter (is_needed others) rows) ≡ false → others ≡ ends h a ws
rest_kept h ws others [] a each rest n = rest refl
rest_kept h ws others (r ∷ rows) a each rest n = go (is_needed others r) (r.address == a) refl refl (rest_kept h ws others rows a each.1) rest n
  where
    go : (b c : Bool) → is_needed others r ≡ b → (r.address == a) ≡ c
        → ((list_any (is_row_of a) rows ≡ false → others ≡ ends h a ws) → list_any (is_row_of a) (filter (is_needed others) rows) ≡ false → others ≡ ends h a ws)
        → ((c || list_any (is_row_of a) rows) ≡ false → others ≡ ends h a ws)
        → list_any (is_row_of a) (cond b (r ∷ filter (is_needed others) rows) (filter (is_needed others) rows)) ≡ false → others ≡ ends h a ws
    go true true is here later rest n = absurd (both_ways _ (or_parts _ _ n).0 here)
    go true false is here later rest n = later rest (or_parts _ _ n).1
    go false true is here later rest n = sym (unneeded others r is) ∙ each.0 ∙ ap (λ a. ends h a ws) (eqb-true r.address a here)
    go false false is here later rest n = later rest n

-- ---- one event more

pub located_longer : (h : List Event) (e : Event) (l : Locations) → Located h l → Located (h ++ e ∷ []) (heard_by_known e l)
located_longer h e l so =
    let ready = order_ready h l.watchers l.others e (with_row (address_of e) l.others l.rows) (more_ready h l.watchers l.others (address_of e) l.rows so.each so.rest) in
    let rows = in_order e (with_row (address_of e) l.others l.rows) in
    let each = each_moved h l.watchers e rows ready.each in
    record {
      each = each_kept (h ++ e ∷ []) l.watchers (is_needed (all_moved e false l.watchers l.others)) (map (row_after e l.watchers) rows) each;
      rest = λ a. rest_kept (h ++ e ∷ []) l.watchers (all_moved e false l.watchers l.others) (map (row_after e l.watchers) rows) a each (rest_moved h l.watchers l.others e rows ready a);
    }

-- ---- watchers more

wider_ends : (h : List Event) (a n t : ℕ) (ws : List Watcher) → ends h a (map (owned t) (take n ws)) ≡ ends h a (take n ws) → with_first n (ends h a ws) ≡ ends h a (ws ++ map (owned t) (take n ws))
wider_ends h a n t ws same =
    ap (λ at. ends h a ws ++ at) (take-map (end_of h a) n ws ∙ sym same) ∙ sym (map-append (end_of h a) ws (map (owned t) (take n ws)))

each_wider : (h : List Event) (n t : ℕ) (ws : List Watcher) → ((a : ℕ) → ends h a (map (owned t) (take n ws)) ≡ ends h a (take n ws)) → (rows : List Row) → EachRow h ws rows → EachRow h (ws ++ map (owned t) (take n ws)) (map (wider n) rows)
each_wider h n t ws same [] each = tt
each_wider h n t ws same (r ∷ rows) each = (ap (with_first n) each.0 ∙ wider_ends h r.address n t ws (same r.address), each_wider h n t ws same rows each.1)

pub located_wider : (h : List Event) (t : ℕ) (l : Locations) → ((a : ℕ) → ends h a (map (owned t) (take l.unheard l.watchers)) ≡ ends h a (take l.unheard l.watchers)) → Located h l → Located h (with_own t l)
located_wider h t l same so = record {
  each = each_wider h l.unheard t l.watchers same l.rows so.each;
  rest = λ a n. ap (with_first l.unheard) (so.rest a (sym (any-map (λ (r : Row). r.address) (wider l.unheard) (λ r. refl) l.rows a) ∙ n)) ∙ wider_ends h a l.unheard t l.watchers (same a);
}
