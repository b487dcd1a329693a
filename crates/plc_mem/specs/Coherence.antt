-- What every state of a run has, whatever the program's types: a valid pointer leads to a used address, and what is
-- retired is used.
use Rattle.std.specs.Prelude.{◌≡◌, ℕ, ◌<◌, Bool, true, false, List, get_or, Some, None}
use Rattle.plc_lang.specs.declared.syntax.Primitive.{Primitive}
use Rattle.plc_lang.specs.declared.syntax.Op.{Op}
use Rattle.plc_mem.specs.declared.cell.Cell.{Cell}
use Rattle.plc_mem.specs.State.{State, Place, Locals, null_cell, is_null, at, is_used, is_retired, locals_of}
use Rattle.plc_mem.specs.State.{with_locals, freed, fresh_state, no_locals, starting}
use Rattle.plc_mem.specs.Primitives.{race_of, goes, after}
use Rattle.plc_mem.specs.Outcomes.{next_of}

-- a valid pointer that isn't null holds a used address, and null is valid
pub record CellCoherent (s : State) (c : Cell) : Type 0 where
  pub used : c.valid ≡ true → is_null c ≡ false → is_used s c.number ≡ true
  pub null : is_null c ≡ true → c.valid ≡ true

-- each pointer local is coherent
abbrev pub LocalsCoherent : State → Locals → Type 0
LocalsCoherent s l = (v : ℕ) → CellCoherent s (get_or l.pointers v null_cell)

-- each place is coherent; an address that isn't used isn't retired; null is no used address
pub record IsCoherent (s : State) : Type 0 where
  pub cells : (p : Place) → CellCoherent s (at s p)
  pub unretired : (a : ℕ) → is_used s a ≡ false → is_retired s a ≡ false
  pub null_unused : is_used s 0 ≡ false

-- the first state is coherent, and each change keeps it so
pub record CoherenceIsKept : Type 0 where
  pub first : (fields : List Bool) (shared threads : ℕ) → IsCoherent (fresh_state fields shared threads)
  pub by_primitive : (s : State) (t a : ℕ) (k : Primitive) → race_of s t k ≡ None → goes s t a k ≡ true → IsCoherent s
      → IsCoherent (after s t a k)
  pub by_any_primitive : (s : State) (t a : ℕ) (k : Primitive) → IsCoherent s → IsCoherent (next_of s t a k)
  pub by_free : (s : State) (a : ℕ) → 0 < a → IsCoherent s → IsCoherent (freed s a)
  pub by_give : (s : State) (t : ℕ) (l : Locals) → LocalsCoherent s l → IsCoherent s
      → IsCoherent (with_locals s t (Some l))
  pub by_take : (s : State) (t : ℕ) → IsCoherent s → IsCoherent (with_locals s t None)
  pub held : (s : State) (t : ℕ) → IsCoherent s → LocalsCoherent s (locals_of s t)
  pub begun : (s : State) (o : Op) (args : List ℕ) → LocalsCoherent s (starting o args)
  pub none : (s : State) → LocalsCoherent s no_locals
