-- After an allowed history a free is judged by its own address alone, for all threads.
use Rattle.std.proofs.Common.{◌≡◌, ℕ, zero, suc, ◌+◌, ◌<◌, Bool, true, false, List, [], ◌∷◌, ◌++◌, Option, Some, None, is_some, refl, sym, ◌∙◌, subst, arith, inl, inr}
use Rattle.std.proofs.lemmas.Bool.{and_parts, and_from, cases_eq}
use Rattle.plc_lang.specs.declared.syntax.Primitive.{Primitive}
use Rattle.plc_auto.specs.declared.event.Event.{Event}
use Rattle.plc_auto.specs.declared.event.Event.TheVariants.{Free as Freed}
use Rattle.plc_auto.specs.declared.observer.Observer.{Observer}
use Rattle.plc_auto.specs.Location.{location, advance, Allowed}
use Rattle.plc_auto.proofs.Histories.{location_longer, allowed_empty, allowed_free, allowed_last}
use Rattle.plc_flow.specs.declared.flow.Flow.{Flow}
use Rattle.plc_moves.specs.declared.words.Move.{Move}
use Rattle.plc_moves.specs.declared.words.Move.TheVariants.{Start, Step as Take, Return, Free}
use Rattle.plc_mem.specs.declared.cell.RaceKind.{RaceKind}
use Rattle.plc_mem.specs.State.{State}
use Rattle.plc_mem.specs.Primitives.{race_of, goes, after, event_of}
use Rattle.plc_run.specs.Run.{Ending, Fine, Stuck, Raced, turn, recorded, execute, Configuration, Moves, Run, begin, more, beginning, initialised, first_configuration}
use Rattle.plc_run.specs.Reach.{may_free}
use Rattle.plc_run.proofs.Observed.{recorded_allowed}

-- ---- a free

pub is_some_of : {A : Type 0} (q : Option A) → is_some q ≡ true → q ≡ None → ⊥
is_some_of None e n = cc
is_some_of (Some x) e n = cc

pub some_if : {A : Type 0} (q : Option A) → (q ≡ None → ⊥) → is_some q ≡ true
some_if None f = absurd (f refl)
some_if (Some x) f = refl

pub free_at : (o : Observer) (at : ℕ → Option ℕ) (a n t : ℕ) → may_free o at a n ≡ true → t < n → advance o t a (Freed a) (at t) ≡ None → ⊥
free_at o at a zero t may l bad = absurd (omega arith)
free_at o at a (suc n) t may l bad =
    let parts = and_parts (may_free o at a n) (is_some (advance o n a (Freed a) (at n))) may in
    elim (cases_eq t n) [
      | inl e ↦ is_some_of (advance o n a (Freed a) (at n)) parts.1 (subst (λ u. advance o u a (Freed a) (at u) ≡ None) e bad)
      | inr ne ↦ free_at o at a n t parts.0 (omega arith) bad
    ]

pub free_from : (o : Observer) (at : ℕ → Option ℕ) (a n : ℕ) → ((t : ℕ) → t < n → advance o t a (Freed a) (at t) ≡ None → ⊥) → may_free o at a n ≡ true
free_from o at a zero f = refl
free_from o at a (suc n) f =
    and_from (may_free o at a n) (is_some (advance o n a (Freed a) (at n))) (free_from o at a n (λ t l. f t (omega arith))) (some_if _ (f n (omega arith)))

pub judged_allowed : (o : Observer) (threads : ℕ) (h : List Event) (a : ℕ) → Allowed o threads h → may_free o (λ t. location o h t a) a threads ≡ true → Allowed o threads (h ++ Freed a ∷ [])
judged_allowed o threads h a fine may = allowed_free o threads h a fine (λ t small bad. free_at o (λ t. location o h t a) a threads t may small (sym (location_longer o h (Freed a) t a) ∙ bad))

pub judged_forbidden : (o : Observer) (threads : ℕ) (h : List Event) (a : ℕ) → 0 < a → may_free o (λ t. location o h t a) a threads ≡ false → Allowed o threads (h ++ Freed a ∷ []) → ⊥
judged_forbidden o threads h a pos may fine =
    let contrary : may_free o (λ t. location o h t a) a threads ≡ true = free_from o (λ t. location o h t a) a threads (λ t small bad. allowed_last o threads (h ++ Freed a ∷ []) t a fine small pos (location_longer o h (Freed a) t a ∙ bad)) in
    cc

-- ---- every history of a run is allowed

abbrev EndsAllowed : Observer → ℕ → Ending → Type 0
EndsAllowed o threads (Fine s h) = Allowed o threads h
EndsAllowed o threads Stuck = Unit {0}
EndsAllowed o threads (Raced kind k) = Unit {0}

execute_allowed : (o : Observer) (threads : ℕ) (s : State) (h : List Event) (t a k : ℕ) (ps : List Primitive) → Allowed o threads h → EndsAllowed o threads (execute s h t a k ps)
execute_allowed o threads s h t a k [] fine = fine
execute_allowed o threads s h t a k (p ∷ ps) fine =
    go (race_of s t p) (goes s t a p) (execute (after s t a p) (recorded h (event_of s t p)) t a (k + 1) ps) (execute_allowed o threads (after s t a p) (recorded h (event_of s t p)) t a (k + 1) ps (recorded_allowed o threads s h t p fine))
  where
    go : (r : Option RaceKind) (g : Bool) (rest : Ending) → EndsAllowed o threads rest → EndsAllowed o threads (turn r g k rest)
    go (Some kind) g rest j = tt
    go None true rest j = j
    go None false rest j = tt

move_allowed : (flow : Flow) (o : Observer) (threads : ℕ) (c d : Configuration) (move : Move) → Moves flow o threads c move d → Allowed o threads c.history → Allowed o threads d.history
move_allowed flow o threads c d (Start t op args) m fine = subst (λ (d : Configuration). Allowed o threads d.history) (sym m.7) fine
move_allowed flow o threads c d (Take t nth addr) m fine =
    subst (λ (d : Configuration). Allowed o threads d.history) (sym m.6) (subst (EndsAllowed o threads) m.5 (execute_allowed o threads c.state c.history t _ 0 m.1.prims fine))
move_allowed flow o threads c d (Return t) m fine = subst (λ (d : Configuration). Allowed o threads d.history) (sym m.6) fine
move_allowed flow o threads c d (Free a) m fine = subst (λ (d : Configuration). Allowed o threads d.history) (sym m.2) m.1

begun_allowed : (flow : Flow) (o : Observer) (threads : ℕ) (c : Configuration) → first_configuration flow threads ≡ Some c → Allowed o threads c.history
begun_allowed flow o threads c e = go (initialised flow threads) e (execute_allowed o threads _ [] 0 1 0 flow.file.init (allowed_empty o threads))
  where
    go : (end : Ending) → beginning threads end ≡ Some c → EndsAllowed o threads end → Allowed o threads c.history
    go (Fine s h) is fine = (let same : h ≡ c.history = cc in subst (Allowed o threads) same fine)
    go Stuck is fine = cc
    go (Raced kind k) is fine = cc

pub run_allowed : (flow : Flow) (o : Observer) (threads n : ℕ) (c : Configuration) → Run flow o threads n c → Allowed o threads c.history
run_allowed flow o threads n c (begin e) = begun_allowed flow o threads c e
run_allowed flow o threads n d (more {n = m} {c = c} run move moved) = move_allowed flow o threads c d move moved (run_allowed flow o threads m c run)
