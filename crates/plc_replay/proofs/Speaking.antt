-- A move that is no free is heard calling and returning alone, so that its history goes on without a free.
use Rattle.std.proofs.Common.{◌≡◌, ℕ, ◌+◌, Bool, true, false, List, [], ◌∷◌, ◌++◌, Option, Some, None, refl, sym, ap, ◌∙◌, subst, append_assoc}
use Rattle.std.proofs.lemmas.List.{append-nil}
use Rattle.plc_lang.specs.declared.syntax.Primitive.{Primitive}
use Rattle.plc_lang.specs.declared.syntax.Primitive.TheVariants.{Call, Done}
use Rattle.plc_auto.specs.declared.event.Event.{Event}
use Rattle.plc_auto.specs.declared.event.Event.TheVariants.{Free as Freed}
use Rattle.plc_auto.specs.declared.observer.Observer.{Observer}
use Rattle.plc_auto.specs.Laws.{frees_one}
use Rattle.plc_flow.specs.declared.flow.Flow.{Flow}
use Rattle.plc_moves.specs.declared.words.Move.{Move}
use Rattle.plc_moves.specs.declared.words.Move.TheVariants as moves
use Rattle.plc_mem.specs.declared.cell.RaceKind.{RaceKind}
use Rattle.plc_mem.specs.State.{State}
use Rattle.plc_mem.specs.Primitives.{race_of, goes, after, event_of}
use Rattle.plc_run.specs.Run.{Configuration, Moves, Ending, Fine, Stuck, Raced, recorded, turn, execute}

abbrev pub AllSpoken : List Event → Type 0
AllSpoken [] = Unit {0}
AllSpoken (e ∷ es) = (frees_one e ≡ false) × AllSpoken es

spoken_append : (es fs : List Event) → AllSpoken es → AllSpoken fs → AllSpoken (es ++ fs)
spoken_append [] fs p q = q
spoken_append (e ∷ es) fs p q = (p.0, spoken_append es fs p.1 q)

-- the history g goes on from h without a free
pub record GoesOn (h g : List Event) : Type 0 where
  pub events : List Event
  pub grown : g ≡ h ++ events
  pub spoken : AllSpoken events

goes_nowhere : (h : List Event) → GoesOn h h
goes_nowhere h = record { events = []; grown = sym (append-nil h); spoken = tt }

goes_further : (h g f : List Event) → GoesOn h g → GoesOn g f → GoesOn h f
goes_further h g f p q = record {
  events = p.events ++ q.events;
  grown = q.grown ∙ ap (λ g. g ++ q.events) p.grown ∙ append_assoc h p.events q.events;
  spoken = spoken_append p.events q.events p.spoken q.spoken;
}

goes_by : (h : List Event) (e : Event) → frees_one e ≡ false → GoesOn h (h ++ e ∷ [])
goes_by h e n = record { events = e ∷ []; grown = refl; spoken = (n, tt) }

primitive_goes : (s : State) (h : List Event) (t : ℕ) (k : Primitive) → GoesOn h (recorded h (event_of s t k))
primitive_goes s h t (Call f r) = goes_by h _ refl
primitive_goes s h t (Done f) = goes_by h _ refl
primitive_goes s h t k = goes_nowhere h

-- how a step ends, if it does
abbrev EndsOn : List Event → Ending → Type 0
EndsOn h (Fine s g) = GoesOn h g
EndsOn h Stuck = Unit {0}
EndsOn h (Raced kind k) = Unit {0}

ends_further : (h g : List Event) (end : Ending) → GoesOn h g → EndsOn g end → EndsOn h end
ends_further h g (Fine s f) p q = goes_further h g f p q
ends_further h g Stuck p q = tt
ends_further h g (Raced kind k) p q = tt

execute_goes : (s : State) (h : List Event) (t a k : ℕ) (ps : List Primitive) → EndsOn h (execute s h t a k ps)
execute_goes s h t a k [] = goes_nowhere h
execute_goes s h t a k (p ∷ ps) =
    go (race_of s t p) (goes s t a p) (execute (after s t a p) (recorded h (event_of s t p)) t a (k + 1) ps)
    (ends_further h (recorded h (event_of s t p)) _ (primitive_goes s h t p) (execute_goes (after s t a p) (recorded h (event_of s t p)) t a (k + 1) ps))
  where
    go : (r : Option RaceKind) (g : Bool) (rest : Ending) → EndsOn h rest → EndsOn h (turn r g k rest)
    go (Some kind) g rest j = tt
    go None true rest j = j
    go None false rest j = tt

-- ---- moves

pub start_goes : (flow : Flow) (o : Observer) (threads : ℕ) (c d : Configuration) (move : Move) (t : ℕ) (k : ℕ) (args : List ℕ) → move ≡ moves.Start t (record { 0 = k }) args → Moves flow o threads c move d → GoesOn c.history d.history
start_goes flow o threads c d move t k args e m =
    let moved = subst (λ (m : Move). Moves flow o threads c m d) e m in
    subst (λ h. GoesOn c.history h) (sym (ap (λ (d : Configuration). d.history) moved.7)) (goes_nowhere c.history)

pub step_goes : (flow : Flow) (o : Observer) (threads : ℕ) (c d : Configuration) (move : Move) (t nth : ℕ) (addr : Option ℕ) → move ≡ moves.Step t nth addr → Moves flow o threads c move d → GoesOn c.history d.history
step_goes flow o threads c d move t nth addr e m =
    let moved = subst (λ (m : Move). Moves flow o threads c m d) e m in
    subst (λ h. GoesOn c.history h) (sym (ap (λ (d : Configuration). d.history) moved.6)) (subst (EndsOn c.history) moved.5 (execute_goes c.state c.history t _ 0 moved.1.prims))

pub return_goes : (flow : Flow) (o : Observer) (threads : ℕ) (c d : Configuration) (move : Move) (t : ℕ) → move ≡ moves.Return t → Moves flow o threads c move d → GoesOn c.history d.history
return_goes flow o threads c d move t e m =
    let moved = subst (λ (m : Move). Moves flow o threads c m d) e m in
    subst (λ h. GoesOn c.history h) (sym (ap (λ (d : Configuration). d.history) moved.6)) (goes_nowhere c.history)

pub free_grows : (flow : Flow) (o : Observer) (threads : ℕ) (c d : Configuration) (move : Move) (a : ℕ) → move ≡ moves.Free a → Moves flow o threads c move d → d.history ≡ c.history ++ Freed a ∷ []
free_grows flow o threads c d move a e m =
    let moved = subst (λ (m : Move). Moves flow o threads c m d) e m in
    ap (λ (d : Configuration). d.history) moved.2
