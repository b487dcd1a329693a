-- Where threads and addresses stand as a history grows, by induction over it. `bad` is never left, so that a history is
-- judged by its end; a location's letter is told by the event alone, so that it is the same for every thread.
use Rattle.std.proofs.Common.{◌≡◌, ℕ, ◌<◌, Bool, true, false, ◌&&◌, ◌==◌, List, [], ◌∷◌, ◌++◌, length, take, drop, Option, Some, None, refl, sym, ap, ◌∙◌, subst, arith}
use Rattle.std.proofs.lemmas.List.{take-append-drop}
use Rattle.std.proofs.Math.Seq.{take-length}
use Rattle.std.proofs.lemmas.Bool.{and_parts, eqb-true, ne_eqb}
use Rattle.plc_auto.specs.declared.event.Event.{Event}
use Rattle.plc_auto.specs.declared.event.Event.TheVariants.{Call as Called, Done as Returned, Free as Freed}
use Rattle.plc_auto.specs.declared.observer.Observer.{Observer}
use Rattle.plc_auto.specs.declared.observer.Observer.TheVariants.{Plain, Hazard, Epoch}
use Rattle.plc_auto.specs.Table.{count_of, step}
use Rattle.plc_auto.specs.Location.{is_this, step_by, advance, location_from, location, Allowed}
use Rattle.plc_auto.specs.Laws.{is_free, frees_one, LocationsFollowHistories, AllowedByTheLast, FarEventsMoveNothing}
use Rattle.plc_auto.proofs.Tables.{step_live, bad_by_free}
use Rattle.plc_auto.specs.Events.{kind_of, thread_of, address_of}
use Rattle.plc_auto.proofs.Stays.{far_stays}

-- ---- an event as a table hears it

abbrev pub is_own : ℕ → Event → Bool
is_own t (Called u f b) = u == t
is_own t (Returned u f) = u == t
is_own t (Freed b) = false

abbrev pub is_on : ℕ → Event → Bool
is_on a (Called u f b) = is_this b a
is_on a (Returned u f) = false
is_on a (Freed b) = is_this (Some b) a

pub step_by_is : (o : Observer) (t a : ℕ) (e : Event) (l : ℕ) → step_by o t a e l ≡ step o l (kind_of e) (is_own t e) (is_on a e)
step_by_is o t a (Called u f b) l = refl
step_by_is o t a (Returned u f) l = refl
step_by_is o t a (Freed b) l = refl

-- ---- one event more

pub from_append : (o : Observer) (t a : ℕ) (q : Option ℕ) (h more : List Event) → location_from o t a q (h ++ more) ≡ location_from o t a (location_from o t a q h) more
from_append o t a q [] more = refl
from_append o t a q (e ∷ h) more = from_append o t a (advance o t a e q) h more

pub location_append : (o : Observer) (h more : List Event) (t a : ℕ) → location o (h ++ more) t a ≡ location_from o t a (location o h t a) more
unfolding location
location_append o h more t a = from_append o t a (Some 0) h more

pub location_longer : (o : Observer) (h : List Event) (e : Event) (t a : ℕ) → location o (h ++ e ∷ []) t a ≡ advance o t a e (location o h t a)
location_longer o h e t a = location_append o h (e ∷ []) t a

pub location_empty : (o : Observer) (t a : ℕ) → location o [] t a ≡ Some 0
unfolding location
location_empty o t a = refl

pub from_bad : (o : Observer) (t a : ℕ) (h : List Event) → location_from o t a None h ≡ None
from_bad o t a [] = refl
from_bad o t a (e ∷ h) = from_bad o t a h

pub bad_stays : (o : Observer) (h more : List Event) (t a : ℕ) → location o h t a ≡ None → location o (h ++ more) t a ≡ None
bad_stays o h more t a e = location_append o h more t a ∙ ap (λ q. location_from o t a q more) e ∙ from_bad o t a more

-- ---- events of another thread on another address

not_own : (t : ℕ) (e : Event) → (thread_of e ≡ Some t → ⊥) → is_own t e ≡ false
not_own t (Called u f b) other = ne_eqb u t (λ same. other (ap (λ n. Some n) same))
not_own t (Returned u f) other = ne_eqb u t (λ same. other (ap (λ n. Some n) same))
not_own t (Freed b) other = refl

not_on : (a : ℕ) (e : Event) → is_this (Some (address_of e)) a ≡ false → is_on a e ≡ false
not_on a (Called u f None) other = refl
not_on a (Called u f (Some b)) other = other
not_on a (Returned u f) other = refl
not_on a (Freed b) other = other

pub far_moves_nothing : (o : Observer) → FarEventsMoveNothing o
far_moves_nothing o h e t a other_thread other_address = location_longer o h e t a ∙ stays (location o h t a)
  where
    stays : (q : Option ℕ) → advance o t a e q ≡ q
    stays None = refl
    stays (Some l) =
        step_by_is o t a e l
        ∙ (λ i. step o l (kind_of e) (not_own t e other_thread i) (not_on a e other_address i))
        ∙ far_stays o l (kind_of e)

-- ---- locations are live

pub initial_live : (o : Observer) → 0 < count_of o
initial_live Plain = omega arith
initial_live (Hazard f) = omega arith
initial_live (Epoch e l) = omega arith

pub step_by_live : (o : Observer) (t a : ℕ) (e : Event) (l k : ℕ) → l < count_of o → step_by o t a e l ≡ Some k → k < count_of o
step_by_live o t a e l k h to = step_live o l k (kind_of e) (is_own t e) (is_on a e) h (sym (step_by_is o t a e l) ∙ to)

from_live : (o : Observer) (t a l k : ℕ) (h : List Event) → l < count_of o → location_from o t a (Some l) h ≡ Some k → k < count_of o
from_live o t a l k [] live e = (let same : l ≡ k = cc in omega arith)
from_live o t a l k (e ∷ h) live to = go (step_by o t a e l) refl (λ j small. from_live o t a j k h small) to
  where
    go : (q : Option ℕ) → step_by o t a e l ≡ q → ((j : ℕ) → j < count_of o → location_from o t a (Some j) h ≡ Some k → k < count_of o) → location_from o t a q h ≡ Some k → k < count_of o
    go None is later to = (let contrary : None ≡ Some k = sym (from_bad o t a h) ∙ to in cc)
    go (Some j) is later to = later j (step_by_live o t a e l j live is) to

pub location_live : (o : Observer) (h : List Event) (t a k : ℕ) → location o h t a ≡ Some k → k < count_of o
unfolding location
location_live o h t a k e = from_live o t a 0 k h (initial_live o) e

pub follow : (o : Observer) → LocationsFollowHistories o
follow o = record {
  empty = location_empty o;
  longer = location_longer o;
  live = λ h t a l e. location_live o h t a l e;
  bad_stays = bad_stays o;
}

-- ---- allowed histories

pub allowed_by_last : (o : Observer) (threads : ℕ) (h : List Event) → ((t a : ℕ) → t < threads → 0 < a → location o h t a ≡ None → ⊥) → Allowed o threads h
allowed_by_last o threads h fine n t a small one e =
    fine t a small one (ap (λ h. location o h t a) (sym (take-append-drop n h)) ∙ bad_stays o (take n h) (drop n h) t a e)

pub allowed_last : (o : Observer) (threads : ℕ) (h : List Event) (t a : ℕ) → Allowed o threads h → t < threads → 0 < a → location o h t a ≡ None → ⊥
allowed_last o threads h t a fine small one e = fine (length h) t a small one (ap (λ h. location o h t a) (take-length h) ∙ e)

pub allowed_shorter : (o : Observer) (threads : ℕ) (h more : List Event) → Allowed o threads (h ++ more) → Allowed o threads h
allowed_shorter o threads h more fine = allowed_by_last o threads h (λ t a small one e. allowed_last o threads (h ++ more) t a fine small one (bad_stays o h more t a e))

pub allowed_prefix : (o : Observer) (threads : ℕ) (h : List Event) (n : ℕ) → Allowed o threads h → Allowed o threads (take n h)
allowed_prefix o threads h n fine = allowed_by_last o threads (take n h) (λ t a small one e. fine n t a small one e)

pub allowed_empty : (o : Observer) (threads : ℕ) → Allowed o threads []
allowed_empty o threads = allowed_by_last o threads [] (λ t a small one e. (let contrary : Some 0 ≡ None = sym (location_empty o t a) ∙ e in cc))

-- what leads to `bad` is a free of the address
pub advance_bad : (o : Observer) (t a : ℕ) (e : Event) (h : List Event) → (location o h t a ≡ None → ⊥) → location o (h ++ e ∷ []) t a ≡ None → (is_free (kind_of e) && is_on a e) ≡ true
advance_bad o t a e h fine bad = go (location o h t a) refl (sym (location_longer o h e t a) ∙ bad)
  where
    go : (q : Option ℕ) → location o h t a ≡ q → advance o t a e q ≡ None → (is_free (kind_of e) && is_on a e) ≡ true
    go None is to = absurd (fine is)
    go (Some l) is to = bad_by_free o l (kind_of e) (is_own t e) (is_on a e) (location_live o h t a l is) (sym (step_by_is o t a e l) ∙ to)

pub allowed_spoken : (o : Observer) (threads : ℕ) (h : List Event) (e : Event) → frees_one e ≡ false → Allowed o threads h → Allowed o threads (h ++ e ∷ [])
allowed_spoken o threads h (Called u f b) spoken fine = allowed_by_last o threads _ (λ t a small one bad. (let e = advance_bad o t a (Called u f b) h (allowed_last o threads h t a fine small one) bad in cc))
allowed_spoken o threads h (Returned u f) spoken fine = allowed_by_last o threads _ (λ t a small one bad. (let e = advance_bad o t a (Returned u f) h (allowed_last o threads h t a fine small one) bad in cc))
allowed_spoken o threads h (Freed b) spoken fine = cc

pub allowed_free : (o : Observer) (threads : ℕ) (h : List Event) (a : ℕ) → Allowed o threads h → ((t : ℕ) → t < threads → location o (h ++ Freed a ∷ []) t a ≡ None → ⊥) → Allowed o threads (h ++ Freed a ∷ [])
allowed_free o threads h a fine here = allowed_by_last o threads _ (λ t b small one bad.
    let e : is_this (Some a) b ≡ true = advance_bad o t b (Freed a) h (allowed_last o threads h t b fine small one) bad in
    let same : a ≡ b = eqb-true a b (and_parts _ _ e).0 in
    here t small (subst (λ b. location o (h ++ Freed a ∷ []) t b ≡ None) (sym same) bad))

pub by_the_last : (o : Observer) (threads : ℕ) → AllowedByTheLast o threads
by_the_last o threads = record {
  empty = allowed_empty o threads;
  prefix = allowed_prefix o threads;
  shorter = allowed_shorter o threads;
  by_last = allowed_by_last o threads;
  last = allowed_last o threads;
  call_or_return = allowed_spoken o threads;
  free = allowed_free o threads;
}
