-- The retired rows have the addresses that wait, in their order. Each address has one row, and null has none.
use Rattle.std.proofs.Common.{◌≡◌, ℕ, Bool, true, false, not, ◌&&◌, ◌||◌, ◌==◌, cond, if◌then◌else◌, List, [], ◌∷◌, ◌++◌, map, Option, Some, None, refl, sym, ap, ◌∙◌}
use Rattle.std.specs.Prelude.{filter, find}
use Rattle.std.specs.List.{list_any}
use Rattle.std.specs.Option.{option_map}
use Rattle.std.proofs.lemmas.Bool.{eqb-true, eq-eqb, or_parts, both_ways}
use Rattle.std.proofs.lemmas.List.{map-append, append-nil}
use Rattle.std.proofs.lemmas.List.Folds.{list_any-append}
use Rattle.plc_base.proofs.Tables.{any-map}
use Rattle.plc_base.specs.Functions.{is_retire}
use Rattle.plc_auto.specs.declared.event.Event.{Event}
use Rattle.plc_auto.specs.declared.event.Event.TheVariants.{Call as Called, Done as Returned, Free as Freed}
use Rattle.plc_auto.specs.declared.watcher.Watcher.{Watcher}
use Rattle.plc_auto.specs.Events.{kind_of, address_of}
use Rattle.plc_auto.specs.Waiting.{is_kept_at, waiting_after}
use Rattle.plc_auto.specs.Laws.{is_retirement, retired_by}
use Rattle.plc_auto.specs.Locations.{Row, Locations, with_first, wider, has_row, with_row, to_end, in_order, is_named, all_moved, row_after, is_needed, heard_by_known, row_of, is_free_row, first_free_of}
use Rattle.plc_base.proofs.Booleans.{and_false}
use Rattle.plc_auto.proofs.Moving.{not_there}
use Rattle.plc_auto.proofs.Ends.{is_row_of, any_to_end, has_one}

-- the addresses of the retired rows
abbrev pub waiting : List Row → List ℕ
waiting rows = map (λ (r : Row). r.address) (filter (λ (r : Row). r.retired) rows)

-- no two rows of one address
abbrev pub AreDistinct : List Row → Type 0
AreDistinct [] = Unit {0}
AreDistinct (r ∷ rows) = (list_any (is_row_of r.address) rows ≡ false) × AreDistinct rows

-- and none of null
pub record AreOrdered (held : List ℕ) (rows : List Row) : Type 0 where
  pub distinct : AreDistinct rows
  pub no_null : list_any (is_row_of 0) rows ≡ false
  pub waits : waiting rows ≡ held

-- the same either way round
pub apart : (a b : ℕ) → (a == b) ≡ false → (b == a) ≡ false
apart a b n = go (b == a) refl
  where
    go : (s : Bool) → (b == a) ≡ s → s ≡ false
    go false e = refl
    go true e = absurd (both_ways _ n (eq-eqb a b (sym (eqb-true b a e))))

-- ---- lists of rows

-- a row in front of those that wait, if it is retired
abbrev put : Bool → ℕ → List ℕ → List ℕ
put b a held = cond b (a ∷ held) held

waiting_cons : (r : Row) (rows : List Row) → waiting (r ∷ rows) ≡ put r.retired r.address (waiting rows)
waiting_cons r rows = go r.retired
  where
    go : (b : Bool) → map (λ (r : Row). r.address) (cond b (r ∷ filter (λ (r : Row). r.retired) rows) (filter (λ (r : Row). r.retired) rows)) ≡ put b r.address (waiting rows)
    go true = refl
    go false = refl

put_append : (b : Bool) (a : ℕ) (held more : List ℕ) → put b a (held ++ more) ≡ put b a held ++ more
put_append true a held more = refl
put_append false a held more = refl

waiting_last : (rows : List Row) (r : Row) → waiting (rows ++ r ∷ []) ≡ waiting rows ++ put r.retired r.address []
waiting_last [] r = waiting_cons r []
waiting_last (s ∷ rows) r =
    waiting_cons s (rows ++ r ∷ []) ∙ ap (put s.retired s.address) (waiting_last rows r)
    ∙ put_append s.retired s.address (waiting rows) (put r.retired r.address []) ∙ ap (λ held. held ++ put r.retired r.address []) (sym (waiting_cons s rows))

-- an address that waits has a row
abbrev is_in : List ℕ → ℕ → Bool
is_in held a = list_any (λ b. b == a) held

no_row_none : (a : ℕ) (rows : List Row) → list_any (is_row_of a) rows ≡ false → is_in (waiting rows) a ≡ false
no_row_none a [] n = refl
no_row_none a (r ∷ rows) n =
    let parts = or_parts _ _ n in
    ap (λ held. is_in held a) (waiting_cons r rows) ∙ go r.retired parts.0 (no_row_none a rows parts.1)
  where
    go : (b : Bool) → (r.address == a) ≡ false → is_in (waiting rows) a ≡ false → is_in (put b r.address (waiting rows)) a ≡ false
    go true other later = ap (λ x. x || is_in (waiting rows) a) other ∙ later
    go false other later = later

-- ---- a row more

distinct_last : (rows : List Row) (r : Row) → AreDistinct rows → list_any (is_row_of r.address) rows ≡ false → AreDistinct (rows ++ r ∷ [])
distinct_last [] r d n = (refl, tt)
distinct_last (s ∷ rows) r d n =
    let parts = or_parts _ _ n in
    (list_any-append (is_row_of s.address) rows (r ∷ []) ∙ both (list_any (is_row_of s.address) rows) (r.address == s.address) d.0 (apart s.address r.address parts.0), distinct_last rows r d.1 parts.1)
  where
    both : (x y : Bool) → x ≡ false → y ≡ false → (x || (y || false)) ≡ false
    both true y e f = cc
    both false true e f = cc
    both false false e f = refl

any_last : (a b : ℕ) (others : List (Option ℕ)) (rows : List Row) → list_any (is_row_of a) rows ≡ false → (b == a) ≡ false → list_any (is_row_of a) (rows ++ record { address = b; retired = false; at = others } ∷ []) ≡ false
any_last a b others rows n other = list_any-append (is_row_of a) rows _ ∙ (λ i. n i || (other i || false))

more_ordered : (held : List ℕ) (a : ℕ) (others : List (Option ℕ)) (rows : List Row) → AreOrdered held rows → AreOrdered held (with_row a others rows)
more_ordered held a others rows so = go (has_row a rows) refl
  where
    more : Row
    more = record { address = a; retired = false; at = others }

    go : (b : Bool) → has_row a rows ≡ b → AreOrdered held (if b then rows else rows ++ more ∷ [])
    go true is = so
    go false is =
        let parts = or_parts _ _ is in
        record {
          distinct = distinct_last rows more so.distinct parts.1;
          no_null = any_last 0 a others rows so.no_null parts.0;
          waits = waiting_last rows more ∙ append-nil (waiting rows) ∙ so.waits;
        }

-- ---- the row that goes to the end

distinct_to_end : (a : ℕ) (rows : List Row) → AreDistinct rows → AreDistinct (to_end a rows)
distinct_to_end a [] d = tt
distinct_to_end a (r ∷ rows) d = go (r.address == a) r.retired (distinct_to_end a rows d.1)
  where
    go : (b c : Bool) → AreDistinct (to_end a rows) → AreDistinct (if b then (if c then r ∷ rows else rows ++ r ∷ []) else r ∷ to_end a rows)
    go true true later = d
    go true false later = distinct_last rows r d.1 d.0
    go false c later = (any_to_end (is_row_of r.address) a rows ∙ d.0, later)

order_distinct : (e : Event) (rows : List Row) → AreDistinct rows → AreDistinct (in_order e rows)
order_distinct e rows d = go (is_retirement (kind_of e))
  where
    go : (b : Bool) → AreDistinct (if b then to_end (address_of e) rows else rows)
    go true = distinct_to_end (address_of e) rows d
    go false = d

any_in_order : (p : Row → Bool) (e : Event) (rows : List Row) → list_any p (in_order e rows) ≡ list_any p rows
any_in_order p e rows = go (is_retirement (kind_of e))
  where
    go : (b : Bool) → list_any p (if b then to_end (address_of e) rows else rows) ≡ list_any p rows
    go true = any_to_end p (address_of e) rows
    go false = refl

-- ---- which rows turn

-- rows after an event, as far as these lemmas read them
abbrev turned : (ℕ → Bool → Bool) → (Row → List (Option ℕ)) → Row → Row
turned turn at r = record { address = r.address; retired = turn r.address r.retired; at = at r }

-- none turns
waiting_same : (turn : ℕ → Bool → Bool) (at : Row → List (Option ℕ)) (rows : List Row) → ((a : ℕ) (b : Bool) → turn a b ≡ b) → waiting (map (turned turn at) rows) ≡ waiting rows
waiting_same turn at [] same = refl
waiting_same turn at (r ∷ rows) same =
    waiting_cons (turned turn at r) (map (turned turn at) rows) ∙ (λ i. put (same r.address r.retired i) r.address (waiting_same turn at rows same i)) ∙ sym (waiting_cons r rows)

-- none of these rows is that of the address
waiting_other : (turn : ℕ → Bool → Bool) (at : Row → List (Option ℕ)) (a : ℕ) (rows : List Row) → ((b : ℕ) (x : Bool) → (b == a) ≡ false → turn b x ≡ x) → list_any (is_row_of a) rows ≡ false → waiting (map (turned turn at) rows) ≡ waiting rows
waiting_other turn at a [] same n = refl
waiting_other turn at a (r ∷ rows) same n =
    let parts = or_parts _ _ n in
    waiting_cons (turned turn at r) (map (turned turn at) rows)
    ∙ (λ i. put (same r.address r.retired parts.0 i) r.address (waiting_other turn at a rows same parts.1 i)) ∙ sym (waiting_cons r rows)

-- a retirement
retires : (turn : ℕ → Bool → Bool) (at : Row → List (Option ℕ)) (a : ℕ) (rows : List Row) → ((b : ℕ) (x : Bool) → (b == a) ≡ false → turn b x ≡ x) → ((b : ℕ) (x : Bool) → (b == a) ≡ true → turn b x ≡ true)
    → AreDistinct rows → list_any (is_row_of a) rows ≡ true → waiting (map (turned turn at) (to_end a rows)) ≡ (if not (is_in (waiting rows) a) then waiting rows ++ a ∷ [] else waiting rows)
retires turn at a [] same turns d there = cc
retires turn at a (r ∷ rows) same turns d there = go (r.address == a) r.retired refl refl there (retires turn at a rows same turns d.1)
  where
    new : List Row → List ℕ
    new rows = waiting (map (turned turn at) rows)

    done : List ℕ → List ℕ
    done held = if not (is_in held a) then held ++ a ∷ [] else held

    held_is : (c : Bool) → r.retired ≡ c → put c r.address (waiting rows) ≡ waiting (r ∷ rows)
    held_is c is = ap (λ c. put c r.address (waiting rows)) (sym is) ∙ sym (waiting_cons r rows)

    absent : (r.address == a) ≡ true → list_any (is_row_of a) rows ≡ false
    absent here = ap (λ b. list_any (is_row_of b) rows) (sym (eqb-true r.address a here)) ∙ d.0

    first : (x y : Bool) → (x || y) ≡ true → x ≡ false → y ≡ true
    first true y e f = cc
    first false y e f = e

    further : (c : Bool) (held : List ℕ) → (r.address == a) ≡ false → put c r.address (if not (is_in held a) then held ++ a ∷ [] else held) ≡ (if not (is_in (put c r.address held) a) then put c r.address held ++ a ∷ [] else put c r.address held)
    further true held other = by (is_in held a) ∙ ap (λ x. if not (x || is_in held a) then (r.address ∷ held) ++ a ∷ [] else r.address ∷ held) (sym other)
      where
        by : (x : Bool) → r.address ∷ (if not x then held ++ a ∷ [] else held) ≡ (if not x then (r.address ∷ held) ++ a ∷ [] else r.address ∷ held)
        by true = refl
        by false = refl
    further false held other = refl

    go : (b c : Bool) → (r.address == a) ≡ b → r.retired ≡ c → (b || list_any (is_row_of a) rows) ≡ true
        → (list_any (is_row_of a) rows ≡ true → waiting (map (turned turn at) (to_end a rows)) ≡ (if not (is_in (waiting rows) a) then waiting rows ++ a ∷ [] else waiting rows))
        → waiting (map (turned turn at) (if b then (if c then r ∷ rows else rows ++ r ∷ []) else r ∷ to_end a rows)) ≡ (if not (is_in (waiting (r ∷ rows)) a) then waiting (r ∷ rows) ++ a ∷ [] else waiting (r ∷ rows))
    go true true here is there later =
        waiting_cons (turned turn at r) (map (turned turn at) rows)
        ∙ (λ i. put (turns r.address r.retired here i) r.address (waiting_other turn at a rows same (absent here) i))
        ∙ ap (λ x. if not (x || is_in (waiting rows) a) then (r.address ∷ waiting rows) ++ a ∷ [] else r.address ∷ waiting rows) (sym here)
        ∙ ap (λ held. if not (is_in held a) then held ++ a ∷ [] else held) (held_is true is)
    go true false here is there later =
        ap waiting (map-append (turned turn at) rows (r ∷ []))
        ∙ waiting_last (map (turned turn at) rows) (turned turn at r)
        ∙ (λ i. waiting_other turn at a rows same (absent here) i ++ put (turns r.address r.retired here i) (eqb-true r.address a here i) [])
        ∙ ap (λ x. if not x then waiting rows ++ a ∷ [] else waiting rows) (sym (no_row_none a rows (absent here)))
        ∙ ap (λ held. if not (is_in held a) then held ++ a ∷ [] else held) (held_is false is)
    go false c here is there later =
        waiting_cons (turned turn at r) (map (turned turn at) (to_end a rows))
        ∙ (λ i. put ((same r.address r.retired here ∙ is) i) r.address (later there i))
        ∙ further c (waiting rows) here
        ∙ ap (λ held. if not (is_in held a) then held ++ a ∷ [] else held) (held_is c is)

-- a free
frees : (turn : ℕ → Bool → Bool) (at : Row → List (Option ℕ)) (a : ℕ) (rows : List Row) → ((b : ℕ) (x : Bool) → (b == a) ≡ false → turn b x ≡ x) → ((b : ℕ) (x : Bool) → (b == a) ≡ true → turn b x ≡ false)
    → waiting (map (turned turn at) rows) ≡ filter (λ b. not (b == a)) (waiting rows)
frees turn at a [] same turns = refl
frees turn at a (r ∷ rows) same turns =
    waiting_cons (turned turn at r) (map (turned turn at) rows)
    ∙ ap (put (turn r.address r.retired) r.address) (frees turn at a rows same turns)
    ∙ go (r.address == a) r.retired refl
    ∙ ap (filter (λ b. not (b == a))) (sym (waiting_cons r rows))
  where
    go : (x c : Bool) → (r.address == a) ≡ x → put (turn r.address c) r.address (filter (λ b. not (b == a)) (waiting rows)) ≡ filter (λ b. not (b == a)) (put c r.address (waiting rows))
    go true true is =
        ap (λ t. put t r.address (filter (λ b. not (b == a)) (waiting rows))) (turns r.address true is)
        ∙ ap (λ x. cond (not x) (r.address ∷ filter (λ b. not (b == a)) (waiting rows)) (filter (λ b. not (b == a)) (waiting rows))) (sym is)
    go true false is = ap (λ t. put t r.address (filter (λ b. not (b == a)) (waiting rows))) (turns r.address false is)
    go false true is =
        ap (λ t. put t r.address (filter (λ b. not (b == a)) (waiting rows))) (same r.address true is)
        ∙ ap (λ x. cond (not x) (r.address ∷ filter (λ b. not (b == a)) (waiting rows)) (filter (λ b. not (b == a)) (waiting rows))) (sym is)
    go false false is = ap (λ t. put t r.address (filter (λ b. not (b == a)) (waiting rows))) (same r.address false is)

-- ---- one event

abbrev moved_at : Event → List Watcher → Row → List (Option ℕ)
moved_at e ws r = all_moved e (is_named e r.address) ws r.at

if_none : (c x : Bool) → (if c && false then true else x) ≡ x
if_none true x = refl
if_none false x = refl

-- what a free of null takes out
none_out : (held : List ℕ) → is_in held 0 ≡ false → filter (λ b. not (b == 0)) held ≡ held
none_out [] n = refl
none_out (b ∷ held) n =
    let parts = or_parts _ _ n in
    (λ i. cond (not (parts.0 i)) (b ∷ filter (λ b. not (b == 0)) held) (filter (λ b. not (b == 0)) held)) ∙ ap (λ held. b ∷ held) (none_out held parts.1)

waits_next : (e : Event) (ws : List Watcher) (rows : List Row) → AreDistinct rows → list_any (is_row_of 0) rows ≡ false → has_row (address_of e) rows ≡ true
    → waiting (map (row_after e ws) (in_order e rows)) ≡ waiting_after (waiting rows) e
waits_next (Called t f None) ws rows d no_null has = go (is_retire f)
  where
    e : Event
    e = Called t f None

    stay : waiting (map (row_after e ws) rows) ≡ waiting rows
    stay = waiting_same (retired_by e) (moved_at e ws) rows (λ a x. if_none (is_retire f) x)

    go : (c : Bool) → waiting (map (row_after e ws) (if c then to_end 0 rows else rows)) ≡ waiting rows
    go true = ap (λ rows. waiting (map (row_after e ws) rows)) (not_there 0 rows no_null) ∙ stay
    go false = stay
waits_next (Called t f (Some a)) ws rows d no_null has = go (is_retire f) (a == 0) refl refl has
  where
    e : Event
    e = Called t f (Some a)

    go : (c z : Bool) → is_retire f ≡ c → (a == 0) ≡ z → (z || list_any (is_row_of a) rows) ≡ true
        → waiting (map (row_after e ws) (if c then to_end a rows else rows)) ≡ (if c && not z && not (is_in (waiting rows) a) then waiting rows ++ a ∷ [] else waiting rows)
    go false z is null has = waiting_same (retired_by e) (moved_at e ws) rows (λ b x. ap (λ c. if c && ((a == b) && not (a == 0)) then true else x) is)
    go true true is null has =
        ap (λ rows. waiting (map (row_after e ws) rows)) (not_there a rows (ap (λ b. list_any (is_row_of b) rows) (eqb-true a 0 null) ∙ no_null))
        ∙ waiting_same (retired_by e) (moved_at e ws) rows (λ b x. ap (λ z. if is_retire f && ((a == b) && not z) then true else x) null ∙ ap (λ y. if is_retire f && y then true else x) (and_false (a == b)) ∙ if_none (is_retire f) x)
    go true false is null has =
        retires (retired_by e) (moved_at e ws) a rows
        (λ b x other. ap (λ y. if is_retire f && (y && not (a == 0)) then true else x) (apart b a other) ∙ if_none (is_retire f) x)
        (λ b x here. λ i. if is i && (eq-eqb a b (sym (eqb-true b a here)) i && not (null i)) then true else x)
        d has
waits_next (Returned t f) ws rows d no_null has = waiting_same (retired_by (Returned t f)) (moved_at (Returned t f) ws) rows (λ a b. refl)
waits_next (Freed a) ws rows d no_null has = go (a == 0) refl
  where
    e : Event
    e = Freed a

    go : (z : Bool) → (a == 0) ≡ z → waiting (map (row_after e ws) rows) ≡ filter (λ b. not (b == a)) (waiting rows)
    go true null =
        waiting_same (retired_by e) (moved_at e ws) rows (λ b x. ap (λ z. if (a == b) && not z then false else x) null ∙ ap (λ y. if y then false else x) (and_false (a == b)))
        ∙ sym (ap (λ c. filter (λ b. not (b == c)) (waiting rows)) (eqb-true a 0 null) ∙ none_out (waiting rows) (no_row_none 0 rows no_null))
    go false null =
        frees (retired_by e) (moved_at e ws) a rows
        (λ b x other. ap (λ y. if y && not (a == 0) then false else x) (apart b a other))
        (λ b x here. λ i. if eq-eqb a b (sym (eqb-true b a here)) i && not (null i) then false else x)

-- ---- rows that are dropped

waiting_kept : (others : List (Option ℕ)) (rows : List Row) → waiting (filter (is_needed others) rows) ≡ waiting rows
waiting_kept others [] = refl
waiting_kept others (r ∷ rows) = go r.retired (is_needed others r) refl refl (waiting_kept others rows) ∙ sym (waiting_cons r rows)
  where
    go : (c b : Bool) → r.retired ≡ c → is_needed others r ≡ b → waiting (filter (is_needed others) rows) ≡ waiting rows → waiting (cond b (r ∷ filter (is_needed others) rows) (filter (is_needed others) rows)) ≡ put c r.address (waiting rows)
    go c true is needed later = waiting_cons r (filter (is_needed others) rows) ∙ (λ i. put (is i) r.address (later i))
    go true false is needed later = absurd (both_ways _ (or_parts _ _ needed).0 is)
    go false false is needed later = later

any_filter : (p q : Row → Bool) (rows : List Row) → list_any p rows ≡ false → list_any p (filter q rows) ≡ false
any_filter p q [] n = refl
any_filter p q (r ∷ rows) n = let parts = or_parts _ _ n in go (q r) parts.0 (any_filter p q rows parts.1)
  where
    go : (b : Bool) → p r ≡ false → list_any p (filter q rows) ≡ false → list_any p (cond b (r ∷ filter q rows) (filter q rows)) ≡ false
    go true none later = ap (λ x. x || list_any p (filter q rows)) none ∙ later
    go false none later = later

distinct_kept : (q : Row → Bool) (rows : List Row) → AreDistinct rows → AreDistinct (filter q rows)
distinct_kept q [] d = tt
distinct_kept q (r ∷ rows) d = go (q r) (distinct_kept q rows d.1)
  where
    go : (b : Bool) → AreDistinct (filter q rows) → AreDistinct (cond b (r ∷ filter q rows) (filter q rows))
    go true later = (any_filter (is_row_of r.address) q rows d.0, later)
    go false later = later

distinct_map : (f : Row → Row) → ((r : Row) → (f r).address ≡ r.address) → (rows : List Row) → AreDistinct rows → AreDistinct (map f rows)
distinct_map f same [] d = tt
distinct_map f same (r ∷ rows) d =
    (any-map (λ (r : Row). r.address) f same rows (f r).address ∙ ap (λ a. list_any (is_row_of a) rows) (same r) ∙ d.0, distinct_map f same rows d.1)

pub ordered_longer : (held : List ℕ) (e : Event) (l : Locations) → AreOrdered held l.rows → AreOrdered (waiting_after held e) (heard_by_known e l).rows
ordered_longer held e l so =
    let first = more_ordered held (address_of e) l.others l.rows so in
    let rows = with_row (address_of e) l.others l.rows in
    let moved = map (row_after e l.watchers) (in_order e rows) in
    let others = all_moved e false l.watchers l.others in
    record {
      distinct = distinct_kept (is_needed others) moved (distinct_map (row_after e l.watchers) (λ r. refl) (in_order e rows) (order_distinct e rows first.distinct));
      no_null = any_filter (is_row_of 0) (is_needed others) moved (any-map (λ (r : Row). r.address) (row_after e l.watchers) (λ r. refl) (in_order e rows) 0 ∙ any_in_order (is_row_of 0) e rows ∙ first.no_null);
      waits = waiting_kept others moved ∙ waits_next e l.watchers rows first.distinct first.no_null (has_one (address_of e) l.others l.rows) ∙ ap (λ held. waiting_after held e) first.waits;
    }

pub ordered_wider : (held : List ℕ) (n : ℕ) (rows : List Row) → AreOrdered held rows → AreOrdered held (map (wider n) rows)
ordered_wider held n rows so = record {
  distinct = distinct_map (wider n) (λ r. refl) rows so.distinct;
  no_null = any-map (λ (r : Row). r.address) (wider n) (λ r. refl) rows 0 ∙ so.no_null;
  waits = waiting_same (λ a b. b) (λ r. with_first n r.at) rows (λ a b. refl) ∙ so.waits;
}

-- ---- the first that is free

-- each row is found by its address
abbrev Looks : (ℕ → List (Option ℕ)) → List Row → Type 0
Looks look [] = Unit {0}
Looks look (r ∷ rows) = (look r.address ≡ r.at) × Looks look rows

one_before : (r : Row) (rows : List Row) (others : List (Option ℕ)) (some : List Row) → list_any (is_row_of r.address) some ≡ false → Looks (row_of rows others) some → Looks (row_of (r ∷ rows) others) some
one_before r rows others [] n look = tt
one_before r rows others (s ∷ some) n look =
    let parts = or_parts _ _ n in
    (ap (λ b. if b then r.at else row_of rows others s.address) (apart s.address r.address parts.0) ∙ look.0, one_before r rows others some parts.1 look.1)

looks_are : (others : List (Option ℕ)) (rows : List Row) → AreDistinct rows → Looks (row_of rows others) rows
looks_are others [] d = tt
looks_are others (r ∷ rows) d =
    (ap (λ b. if b then r.at else row_of rows others r.address) (eq-eqb r.address r.address refl), one_before r rows others rows d.0 (looks_are others rows d.1))

first_found : (look : ℕ → List (Option ℕ)) (rows : List Row) → Looks look rows → first_free_of rows ≡ find (λ a. not (list_any is_kept_at (look a))) (waiting rows)
first_found look [] so = refl
first_found look (r ∷ rows) so = go r.retired (list_any is_kept_at r.at) refl (first_found look rows so.1) ∙ ap (find (λ a. not (list_any is_kept_at (look a)))) (sym (waiting_cons r rows))
  where
    rest : Option ℕ
    rest = find (λ a. not (list_any is_kept_at (look a))) (waiting rows)

    go : (c k : Bool) → list_any is_kept_at r.at ≡ k → first_free_of rows ≡ rest
        → option_map (λ (r : Row). r.address) (cond (c && not k) (Some r) (find is_free_row rows)) ≡ find (λ a. not (list_any is_kept_at (look a))) (put c r.address (waiting rows))
    go true true is later = later ∙ sym (ap (λ k. cond (not k) (Some r.address) rest) (ap (list_any is_kept_at) so.0 ∙ is))
    go true false is later = sym (ap (λ k. cond (not k) (Some r.address) rest) (ap (list_any is_kept_at) so.0 ∙ is))
    go false k is later = later

pub first_is : (others : List (Option ℕ)) (rows : List Row) → AreDistinct rows → first_free_of rows ≡ find (λ a. not (list_any is_kept_at (row_of rows others a))) (waiting rows)
first_is others rows d = first_found (row_of rows others) rows (looks_are others rows d)
