-- What a type says of a pointer, and an environment of a thread.
use Rattle.std.specs.Prelude.{◌≡◌, ℕ, ◌<◌, Bool, true, false, List, Option, Some, None}
use Rattle.plc_base.specs.Mask.{has}
use Rattle.plc_lang.specs.declared.syntax.Var.{Var}
use Rattle.plc_auto.specs.declared.event.Event.{Event}
use Rattle.plc_auto.specs.declared.observer.Observer.{Observer}
use Rattle.plc_auto.specs.Location.{location}
use Rattle.plc_mem.specs.declared.cell.Cell.{Cell}
use Rattle.plc_mem.specs.State.{State, Place, at, place, is_retired}
use Rattle.plc_type.specs.declared.env.PtrType.{PtrType}
use Rattle.plc_type.specs.declared.env.Env.{Env}
use Rattle.plc_type.specs.Guarantees.{is_safe, is_active, is_local}
use Rattle.plc_xfer.specs.Rules.{type_of}

-- the location is in the set; `bad` is in none
abbrev pub stands : ℕ → Option ℕ → Bool
stands m None = false
stands m (Some l) = has m l

-- the pointer c, which isn't null and stands at the place p, is as the type says for thread t:
-- its address stands in one of the locations; with S it is valid; with A its address isn't retired;
-- with L no other valid place holds its address
pub record Fits (o : Observer) (h : List Event) (t : ℕ) (s : State) (p : Place) (c : Cell) (ty : PtrType) : Type 0 where
  pub somewhere : stands ty.m (location o h t c.number) ≡ true
  pub safe : is_safe ty.g ≡ true → c.valid ≡ true
  pub active : is_active ty.g ≡ true → is_retired s c.number ≡ false
  pub alone : is_local ty.g ≡ true → (q : Place) → (q ≡ p → ⊥) → (at s q).valid ≡ true
      → (at s q).number ≡ c.number → ⊥

-- what the place holds is as the type says; null meets every type
abbrev pub Meets : Observer → List Event → ℕ → State → Place → PtrType → Type 0
Meets o h t s p ty = ((at s p).number ≡ 0 → ⊥) → Fits o h t s p (at s p) ty

-- thread t meets the environment: each variable meets its type, and every address stands for the thread
-- where any may
pub record EnvMet (o : Observer) (h : List Event) (t : ℕ) (s : State) (e : Env) : Type 0 where
  pub pointers : (v : Var) → Meets o h t s (place t v) (type_of e v)
  pub addresses : (a : ℕ) → 0 < a → stands e.w (location o h t a) ≡ true
