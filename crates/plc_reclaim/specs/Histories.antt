-- Which histories a reclaimer makes of the calls and returns of threads, and which of them are allowed.
use Rattle.std.specs.Prelude.{◌≡◌, ℕ, true, false, List, [], ◌∷◌, ◌++◌, Contains, Some}
use Rattle.plc_auto.specs.declared.event.Event.{Event}
use Rattle.plc_auto.specs.declared.event.Event.TheVariants.{Free as Freed}
use Rattle.plc_auto.specs.declared.observer.Observer.{Observer}
use Rattle.plc_auto.specs.declared.observer.Observer.TheVariants.{Plain}
use Rattle.plc_auto.specs.Table.{is_well_formed}
use Rattle.plc_auto.specs.Location.{Allowed}
use Rattle.plc_auto.specs.Laws.{frees_one}
use Rattle.plc_auto.specs.declared.scheme.Scheme.{Scheme}
use Rattle.plc_reclaim.specs.Meanings.{Meanings}

-- a history, and what the reclaimer keeps after it: each event is handed to it, by any thread, and each free is
-- of the address that it picked just before
pub data Happens (schemes : List Scheme) (m : Meanings) : List Event → List ℕ → Type 0 where
  begins : Happens schemes m [] (m.begun schemes)
  hears : (h : List Event) (held : List ℕ) (e : Event) → frees_one e ≡ false
      → Happens schemes m h held → Happens schemes m (h ++ e ∷ []) (m.after held e)
  asks : (h : List Event) (held : List ℕ) → Happens schemes m h held → Happens schemes m h (m.picked held)
  frees : (h : List Event) (held : List ℕ) (a : ℕ) → m.pick_of held ≡ Some a
      → Happens schemes m h held → Happens schemes m (h ++ Freed a ∷ []) (m.after (m.picked held) (Freed a))

-- every history that it makes is allowed, for any number of threads, by `plain` and by each well-formed one of
-- these observers
pub record MakesAllowed (os : List Observer) (schemes : List Scheme) (m : Meanings) : Type 0 where
  pub plain : (h : List Event) (held : List ℕ) (threads : ℕ) → Happens schemes m h held → Allowed Plain threads h
  pub each_scheme : (h : List Event) (held : List ℕ) (threads : ℕ) → Happens schemes m h held
      → (o : Observer) → Contains os o → is_well_formed o ≡ true → Allowed o threads h
