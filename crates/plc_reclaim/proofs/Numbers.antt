-- What a reclaimer keeps comes back from its numbers.
use Rattle.std.proofs.Common.{◌≡◌, ℕ, Bool, true, false, List, [], ◌∷◌, map, Option, Some, None, refl, ap, ◌∙◌, add-one}
use Rattle.plc_auto.specs.declared.event.Event.{Event}
use Rattle.plc_auto.specs.declared.observer.Observer.{Observer}
use Rattle.plc_auto.specs.declared.observer.Observer.TheVariants.{Plain, Hazard, Epoch}
use Rattle.plc_auto.specs.declared.watcher.Watcher.{Watcher}
use Rattle.plc_auto.specs.Locations.{Row, Locations, fresh, locations_after, first_free}
use Rattle.plc_reclaim.specs.Numbers.{row, rows, rows_of, into_first, option_number, option_at, mark_number, mark_at, observer_numbers, observer_at, watcher_numbers, watcher_at, row_numbers, row_at, numbers_of, locations_at, locations_of, begun_with, held_after, free_of}

-- a row comes back
row_back : (ns later : List ℕ) → rows_of (row ns later) ≡ ns ∷ rows_of later
row_back [] later = refl
row_back (n ∷ ns) later = ap rows_of (ap (λ m. m ∷ row ns later) (add-one n)) ∙ ap (into_first n) (row_back ns later)

rows_back : (nss : List (List ℕ)) → rows_of (rows nss) ≡ nss
rows_back [] = refl
rows_back (ns ∷ nss) = row_back ns (rows nss) ∙ ap (λ nss. ns ∷ nss) (rows_back nss)

-- so does what each stands for
all_back : {A : Type 0} (numbers : A → List ℕ) (at : List ℕ → A) → ((x : A) → at (numbers x) ≡ x) → (xs : List A) → map at (rows_of (rows (map numbers xs))) ≡ xs
all_back numbers at back xs = ap (map at) (rows_back (map numbers xs)) ∙ each xs
  where
    each : (xs : List _) → map at (map numbers xs) ≡ xs
    each [] = refl
    each (x ∷ xs) = λ i. back x i ∷ each xs i

option_back : (q : Option ℕ) → option_at (option_number q) ≡ q
option_back None = refl
option_back (Some n) = ap option_at (add-one n)

options_back : (qs : List (Option ℕ)) → map option_at (map option_number qs) ≡ qs
options_back [] = refl
options_back (q ∷ qs) = λ i. option_back q i ∷ options_back qs i

mark_back : (m : Bool) → mark_at (mark_number m) ≡ m
mark_back true = refl
mark_back false = refl

observer_back : (o : Observer) → observer_at (observer_numbers o) ≡ o
observer_back Plain = refl
observer_back (Hazard f) = refl
observer_back (Epoch e l) = refl

watcher_back : (w : Watcher) → watcher_at (watcher_numbers w) ≡ w
watcher_back w = λ i. record { observer = observer_back w.observer i; thread = option_back w.thread i }

row_of_back : (r : Row) → row_at (row_numbers r) ≡ r
row_of_back r = λ i. record { address = r.address; retired = mark_back r.retired i; at = options_back r.at i }

pub locations_back : (l : Locations) → locations_of (numbers_of l) ≡ l
unfolding numbers_of locations_of
locations_back l =
    ap locations_at (rows_back ((l.unheard ∷ []) ∷ map option_number l.others ∷ rows (map watcher_numbers l.watchers) ∷ rows (map row_numbers l.rows) ∷ []))
    ∙ (λ i. record {
      unheard = l.unheard;
      watchers = all_back watcher_numbers watcher_at watcher_back l.watchers i;
      others = options_back l.others i;
      rows = all_back row_numbers row_at row_of_back l.rows i;
    })

-- ---- the meanings of a reclaimer, at the numbers of what it keeps

pub begun_with_is : (os : List Observer) → begun_with os ≡ numbers_of (fresh os)
unfolding begun_with
begun_with_is os = refl

pub held_after_is : (l : Locations) (e : Event) → held_after (numbers_of l) e ≡ numbers_of (locations_after e l)
unfolding held_after
held_after_is l e = ap (λ l. numbers_of (locations_after e l)) (locations_back l)

pub free_of_is : (l : Locations) → free_of (numbers_of l) ≡ first_free l
unfolding free_of
free_of_is l = ap first_free (locations_back l)
