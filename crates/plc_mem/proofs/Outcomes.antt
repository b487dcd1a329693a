-- The three ways in which a primitive ends.
use Rattle.std.proofs.Common.{◌≡◌, ℕ, Bool, true, false, Option, Some, None, refl, sym, ap, ◌∙◌}
use Rattle.plc_lang.specs.declared.syntax.Primitive.{Primitive}
use Rattle.plc_auto.specs.declared.event.Event.{Event}
use Rattle.plc_mem.specs.declared.cell.RaceKind.{RaceKind}
use Rattle.plc_mem.specs.declared.cell.Outcome.{Outcome}
use Rattle.plc_mem.specs.declared.cell.Outcome.TheVariants.{Next, Blocked, Race}
use Rattle.plc_mem.specs.State.{State}
use Rattle.plc_mem.specs.Primitives.{race_of, goes, after, event_of}
use Rattle.plc_mem.specs.Outcomes.{outcome, moved, outcome_of, next_of, Stays}

pub raced : (s : State) (t a : ℕ) (k : Primitive) (kind : RaceKind) → race_of s t k ≡ Some kind → Race kind ≡ outcome_of s t a k
unfolding outcome_of
raced s t a k kind e = sym (ap (λ r. outcome r (goes s t a k) (event_of s t k)) e)

pub blocked : (s : State) (t a : ℕ) (k : Primitive) → race_of s t k ≡ None → goes s t a k ≡ false → Blocked ≡ outcome_of s t a k
unfolding outcome_of
blocked s t a k e f = sym (ap (λ r. outcome r (goes s t a k) (event_of s t k)) e ∙ ap (λ g. outcome None g (event_of s t k)) f)

pub went : (s : State) (t a : ℕ) (k : Primitive) → race_of s t k ≡ None → goes s t a k ≡ true → Next (event_of s t k) ≡ outcome_of s t a k
unfolding outcome_of
went s t a k e f = sym (ap (λ r. outcome r (goes s t a k) (event_of s t k)) e ∙ ap (λ g. outcome None g (event_of s t k)) f)

-- a primitive that went
pub record Went (s : State) (t a : ℕ) (k : Primitive) (e : Option Event) : Type 0 where
  pub clear : race_of s t k ≡ None
  pub unblocked : goes s t a k ≡ true
  pub event : e ≡ event_of s t k
  pub next : after s t a k ≡ next_of s t a k

pub has_gone : (s : State) (t a : ℕ) (k : Primitive) (e : Option Event) → Next e ≡ outcome_of s t a k → Went s t a k e
unfolding outcome_of next_of
has_gone s t a k e out = go (race_of s t k) refl (goes s t a k) refl
  where
    go : (r : Option RaceKind) → race_of s t k ≡ r → (g : Bool) → goes s t a k ≡ g → Went s t a k e
    go (Some kind) i g j = absurd (let f : Next e ≡ outcome (Some kind) g (event_of s t k) = rw i at out in cc)
    go None i false j = absurd (let f : Next e ≡ outcome None false (event_of s t k) = rw (i, j) at out in cc)
    go None i true j = (let f : Next e ≡ outcome None true (event_of s t k) = rw (i, j) at out in record { clear = i; unblocked = j; event = (cc); next = rw (i, j) refl })

-- one that stayed
pub has_stayed : (s : State) (t a : ℕ) (k : Primitive) (o : Outcome) → Stays o → o ≡ outcome_of s t a k → s ≡ next_of s t a k
unfolding outcome_of next_of
has_stayed s t a k o stays out = go (race_of s t k) refl (goes s t a k) refl
  where
    go : (r : Option RaceKind) → race_of s t k ≡ r → (g : Bool) → goes s t a k ≡ g → s ≡ moved (race_of s t k) (goes s t a k) s (after s t a k)
    go (Some kind) i g j = rw i refl
    go None i false j = rw (i, j) refl
    go None i true j = absurd (let f : o ≡ outcome None true (event_of s t k) = rw (i, j) at out in (rw f at stays))
