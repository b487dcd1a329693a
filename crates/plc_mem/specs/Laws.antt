-- What each change of memory leaves at each place, and which addresses stay used and retired.
use Rattle.std.specs.Prelude.{◌≡◌, ℕ, Bool, true, false, not, ◌&&◌, ◌||◌, ◌==◌, ◌<◌, List, Option, Some, None, get_or}
use Rattle.std.specs.Option.{unwrap_or}
use Rattle.plc_lang.specs.declared.syntax.Primitive.{Primitive}
use Rattle.plc_lang.specs.declared.syntax.Var.{Var}
use Rattle.plc_lang.specs.Facts.{accessed, compared}
use Rattle.plc_lang.specs.WellSorted.{is_test, is_call}
use Rattle.plc_flow.specs.Sides.{opposite}
use Rattle.plc_mem.specs.declared.cell.Cell.{Cell}
use Rattle.plc_mem.specs.State.{State, Place, at_shared, at_local, at_field, Locals, null_cell, is_null, cut, at, put}
use Rattle.plc_mem.specs.State.{value_at, put_value, field_value, put_field_value, is_used, is_retired, with_node}
use Rattle.plc_mem.specs.State.{with_retired, with_locals, freed, fresh_state, no_locals}
use Rattle.plc_mem.specs.Primitives.{race_of, goes, after, event_of, access, comparison, cell_at}

-- a field is there where its address is used; other places are always there
abbrev pub is_there : State → Place → Bool
is_there s (at_shared i) = true
is_there s (at_local t v) = true
is_there s (at_field a f) = is_used s a

-- every pointer place holds what it held
abbrev pub SamePointers : State → State → Type 0
SamePointers s new = (q : Place) → at new q ≡ at s q

-- every data local and data field has the number that it had
pub record SameData (s new : State) : Type 0 where
  pub locals : (t x : ℕ) → value_at new t x ≡ value_at s t x
  pub fields : (a f : ℕ) → field_value new a f ≡ field_value s a f

-- the same addresses are used and retired
pub record SameAddresses (s new : State) : Type 0 where
  pub used : (a : ℕ) → is_used new a ≡ is_used s a
  pub retired : (a : ℕ) → is_retired new a ≡ is_retired s a

-- the cell was written at this place
pub record Wrote (s : State) (p : Place) (c : Cell) (new : State) : Type 0 where
  pub here : at new p ≡ c
  pub elsewhere : (q : Place) → (q ≡ p → ⊥) → at new q ≡ at s q
  pub data_kept : SameData s new
  pub addresses : SameAddresses s new

-- the number was written at one data place, which `read` reads by two numbers; the data that `other` reads stays
pub record WroteData (read other : State → ℕ → ℕ → ℕ) (s : State) (x y n : ℕ) (new : State) : Type 0 where
  pub here : read new x y ≡ n
  pub elsewhere : (u v : ℕ) → (((u ≡ x) × (v ≡ y)) → ⊥) → read new u v ≡ read s u v
  pub others : (u v : ℕ) → other new u v ≡ other s u v
  pub pointers : SamePointers s new
  pub addresses : SameAddresses s new

-- the number was written at data local x of thread t
abbrev pub WroteLocal : State → (t x n : ℕ) → State → Type 0
WroteLocal = WroteData value_at field_value

-- the number was written at data field f of the node at address a
abbrev pub WroteField : State → (a f n : ℕ) → State → Type 0
WroteField = WroteData field_value value_at

-- an unused address is used now; its pointer fields are null, its data fields 0, and no place is changed
pub record WasMade (s : State) (a : ℕ) (new : State) : Type 0 where
  pub null : (f : ℕ) → at new (at_field a f) ≡ null_cell
  pub nought : (f : ℕ) → field_value new a f ≡ 0
  pub pointers : SamePointers s new
  pub data_kept : SameData s new
  pub used : (b : ℕ) → is_used new b ≡ (is_used s b || a == b)
  pub retired : (b : ℕ) → is_retired new b ≡ is_retired s b

-- an address is retired now, and nothing else changed
pub record WasRetired (s : State) (a : ℕ) (new : State) : Type 0 where
  pub pointers : SamePointers s new
  pub data_kept : SameData s new
  pub used : (b : ℕ) → is_used new b ≡ is_used s b
  pub retired : (b : ℕ) → is_retired new b ≡ (is_retired s b || a == b)

-- numbers stay; invalid are now exactly the places that were so and those that hold the address; the fields of the
-- address are gone
pub record WasFreed (s : State) (a : ℕ) (new : State) : Type 0 where
  pub shared : (i : ℕ) → at new (at_shared i) ≡ cut a (at s (at_shared i))
  pub locals : (t v : ℕ) → at new (at_local t v) ≡ cut a (at s (at_local t v))
  pub fields : (b f : ℕ) → (b ≡ a → ⊥) → at new (at_field b f) ≡ cut a (at s (at_field b f))
  pub gone : (f : ℕ) → at new (at_field a f) ≡ null_cell
  pub values : (t x : ℕ) → value_at new t x ≡ value_at s t x
  pub field_values : (b f : ℕ) → (b ≡ a → ⊥) → field_value new b f ≡ field_value s b f
  pub used : (b : ℕ) → is_used new b ≡ (is_used s b && not (b == a))
  pub retired : (b : ℕ) → is_retired new b ≡ (is_retired s b && not (b == a))

-- thread t has these locals now, or none; all else stays
pub record HasLocals (s : State) (t : ℕ) (l : Option Locals) (new : State) : Type 0 where
  pub pointers : (v : ℕ) → at new (at_local t v) ≡ get_or (unwrap_or l no_locals).pointers v null_cell
  pub values : (x : ℕ) → value_at new t x ≡ get_or (unwrap_or l no_locals).values x 0
  pub shared : (i : ℕ) → at new (at_shared i) ≡ at s (at_shared i)
  pub fields : (a f : ℕ) → at new (at_field a f) ≡ at s (at_field a f)
  pub others : (u v : ℕ) → (u ≡ t → ⊥) → at new (at_local u v) ≡ at s (at_local u v)
  pub other_values : (u x : ℕ) → (u ≡ t → ⊥) → value_at new u x ≡ value_at s u x
  pub field_values : (a f : ℕ) → field_value new a f ≡ field_value s a f
  pub addresses : SameAddresses s new

-- before anything happened every place is null, and no address is used or retired
pub record IsFirst (s : State) : Type 0 where
  pub null : (p : Place) → at s p ≡ null_cell
  pub unused : (a : ℕ) → is_used s a ≡ false
  pub unretired : (a : ℕ) → is_retired s a ≡ false

-- the laws of memory: what is written is read, elsewhere nothing changes, and only a free makes a place invalid
pub record MemoryLaws : Type 0 where
  pub null_is_valid : null_cell.valid ≡ true
  pub writes : (s : State) (p : Place) (c : Cell) → is_there s p ≡ true → Wrote s p c (put s p c)
  pub writes_nothing : (s : State) (p : Place) (c : Cell) → is_there s p ≡ false → put s p c ≡ s
  pub writes_local : (s : State) (t x n : ℕ) → WroteLocal s t x n (put_value s t x n)
  pub writes_field : (s : State) (a f n : ℕ) → is_used s a ≡ true → WroteField s a f n (put_field_value s a f n)
  pub writes_no_field : (s : State) (a f n : ℕ) → is_used s a ≡ false → put_field_value s a f n ≡ s
  pub makes : (s : State) (a : ℕ) → is_used s a ≡ false → WasMade s a (with_node s a)
  pub retires : (s : State) (a : ℕ) → WasRetired s a (with_retired s a)
  pub frees : (s : State) (a : ℕ) → 0 < a → WasFreed s a (freed s a)
  pub gives : (s : State) (t : ℕ) (l : Option Locals) → HasLocals s t l (with_locals s t l)
  pub first : (fields : List Bool) (shared threads : ℕ) → IsFirst (fresh_state fields shared threads)

-- of a test and its opposite exactly one goes, and both are a race or neither is; a test changes nothing, and no
-- observer hears it
pub record TestHasAnOpposite (s : State) (t a : ℕ) (k : Primitive) : Type 0 where
  pub goes : goes s t a (opposite k) ≡ not (goes s t a k)
  pub race : race_of s t (opposite k) ≡ race_of s t k
  pub unchanged : after s t a k ≡ s
  pub silent : event_of s t k ≡ None

-- so it is with each test, in every state and whichever thread meets it
abbrev pub TestsHaveOpposites : Type 0
TestsHaveOpposites = (s : State) (t a : ℕ) (k : Primitive) → is_test k ≡ true → TestHasAnOpposite s t a k

-- a primitive that goes through this pointer is a race where an access through it is one, and is blocked where it is
-- null
pub record GoesThrough (s : State) (t a : ℕ) (k : Primitive) (q : Var) : Type 0 where
  pub race : race_of s t k ≡ access (cell_at s t q)
  pub null : is_null (cell_at s t q) ≡ true → goes s t a k ≡ false

-- a primitive is a race by the pointer that it goes through, or by those that it compares; else calls alone may be one
pub record AccessesAgree : Type 0 where
  pub through : (s : State) (t a : ℕ) (k : Primitive) (q : Var) → accessed k ≡ Some q → GoesThrough s t a k q
  pub compares : (s : State) (t : ℕ) (k : Primitive) (p q : Var) → compared k ≡ Some (p, q)
      → race_of s t k ≡ comparison (cell_at s t p) (cell_at s t q)
  pub others : (s : State) (t : ℕ) (k : Primitive) → accessed k ≡ None → compared k ≡ None → is_call k ≡ false
      → race_of s t k ≡ None
