-- Where every pointer is valid, a primitive leaves every pointer valid, and so do starts and returns.
use Rattle.std.proofs.Common.{◌≡◌, ℕ, Bool, true, false, List, Option, get_or, refl, ap, ◌∙◌, inl, inr}
use Rattle.std.proofs.lemmas.Bool.{cases_Bool, cases_eq, and_parts, not-true}
use Rattle.std.specs.Option.{unwrap_or}
use Rattle.plc_lang.specs.declared.syntax.Arg.{Arg}
use Rattle.plc_lang.specs.declared.syntax.Arg.TheVariants as args
use Rattle.plc_lang.specs.declared.syntax.Primitive.{Primitive}
use Rattle.plc_lang.specs.declared.syntax.Primitive.TheVariants.{Null, Copy, New, Load, Store, StoreNull, DataSet, DataLoad, DataStore, Eq, Ne, IsNull, NotNull, DataTest, Refresh, RefreshLoad, RefreshStore, Call, Done, Active, Ghost}
use Rattle.plc_lang.specs.declared.syntax.Primitive.TheVariants.{Mark, Unmark, MarkTest}
use Rattle.plc_base.specs.Functions.{is_retire}
use Rattle.plc_mem.specs.declared.cell.Cell.{Cell}
use Rattle.plc_mem.specs.State.{State, Place, at_shared, at_local, at_field, Locals, null_cell, fresh_cell, at, put, place, is_used, with_node, with_locals, put_value, put_field_value, fresh_state, no_locals}
use Rattle.plc_mem.specs.State.{marked_cell}
use Rattle.plc_mem.specs.Primitives.{cell_at, field_at, after_call, goes, after}
use Rattle.plc_mem.specs.Laws.{is_there}
use Rattle.plc_mem.proofs.Views.{cases_place, writes, writes_nothing, writes_local, writes_field, writes_no_field, makes, retires, gives, fresh_is_null}

-- every pointer is valid
abbrev pub AllValid : State → Type 0
AllValid s = (p : Place) → (at s p).valid ≡ true

is_valid : (c d : Cell) → c ≡ d → d.valid ≡ true → c.valid ≡ true
is_valid c d e v = ap (λ (c : Cell). c.valid) e ∙ v

put_valid : (s : State) (p : Place) (c : Cell) → AllValid s → c.valid ≡ true → AllValid (put s p c)
put_valid s p c all v q = elim (cases_Bool (is_there s p)) [
  | inl there ↦ (
      let w = writes s p c there in
      elim (cases_place q p) [
        | inl e ↦ is_valid (at (put s p c) q) c (ap (at (put s p c)) e ∙ w.here) v
        | inr ne ↦ is_valid (at (put s p c) q) (at s q) (w.elsewhere q ne) (all q)
      ]
      )
  | inr absent ↦ is_valid (at (put s p c) q) (at s q) (ap (λ s. at s q) (writes_nothing s p c absent)) (all q)
]

made_valid : (s : State) (a : ℕ) → AllValid s → is_used s a ≡ false → AllValid (with_node s a)
made_valid s a all unused q = is_valid (at (with_node s a) q) (at s q) ((makes s a unused).pointers q) (all q)

field_valid : (s : State) (a f n : ℕ) → AllValid s → AllValid (put_field_value s a f n)
field_valid s a f n all q = elim (cases_Bool (is_used s a)) [
  | inl used ↦ is_valid (at (put_field_value s a f n) q) (at s q) ((writes_field s a f n used).pointers q) (all q)
  | inr unused ↦ is_valid (at (put_field_value s a f n) q) (at s q) (ap (λ s. at s q) (writes_no_field s a f n unused)) (all q)
]

local_valid : (s : State) (t x n : ℕ) → AllValid s → AllValid (put_value s t x n)
local_valid s t x n all q = is_valid (at (put_value s t x n) q) (at s q) ((writes_local s t x n).pointers q) (all q)

-- so it stays where no place changes
call_valid : (s : State) (t : ℕ) (f : Bool) (r : Arg) → AllValid s → AllValid (after_call s t f r)
call_valid s t true (args.Var p) all q = is_valid _ _ ((retires s (cell_at s t p).number).pointers q) (all q)
call_valid s t true args.Null all q = all q
call_valid s t true args.None all q = all q
call_valid s t false r all q = all q

-- a primitive that isn't blocked leaves every pointer valid
pub after_valid : (s : State) (t a : ℕ) (k : Primitive) → AllValid s → goes s t a k ≡ true → AllValid (after s t a k)
after_valid s t a (Null p) all may = put_valid s (place t p) null_cell all refl
after_valid s t a (Copy p q) all may = put_valid s (place t p) (cell_at s t q) all (all (place t q))
after_valid s t a (New p) all may = put_valid (with_node s a) (place t p) (fresh_cell a) (made_valid s a all (not-true _ (and_parts _ _ may).1)) refl
after_valid s t a (Load p q f) all may = put_valid s (place t p) (field_at s t q f.0) all (all (at_field (cell_at s t q).number f.0))
after_valid s t a (Store p f q) all may = put_valid s (at_field (cell_at s t p).number f.0) (cell_at s t q) all (all (place t q))
after_valid s t a (StoreNull p f) all may = put_valid s (at_field (cell_at s t p).number f.0) null_cell all refl
after_valid s t a (DataSet x e) all may = local_valid s t x _ all
after_valid s t a (DataLoad x q f) all may = local_valid s t x _ all
after_valid s t a (DataStore p f e) all may = field_valid s (cell_at s t p).number f.0 _ all
after_valid s t a (Eq p q) all may = all
after_valid s t a (Ne p q) all may = all
after_valid s t a (IsNull p) all may = all
after_valid s t a (NotNull p) all may = all
after_valid s t a (DataTest r x e) all may = all
after_valid s t a (Refresh p q) all may = put_valid s (at_local t p) (cell_at s t q) all (all (place t q))
after_valid s t a (RefreshLoad p q f) all may = put_valid s (at_local t p) (field_at s t q f.0) all (all (at_field (cell_at s t q).number f.0))
after_valid s t a (RefreshStore p f q) all may = put_valid s (at_field (cell_at s t p).number f.0) (cell_at s t q) all (all (place t q))
after_valid s t a (Mark p q) all may =
    put_valid s (place t p) (marked_cell true (cell_at s t q)) all (all (place t q))
after_valid s t a (Unmark p q) all may =
    put_valid s (place t p) (marked_cell false (cell_at s t q)) all (all (place t q))
after_valid s t a (MarkTest p m) all may = all
after_valid s t a (Call f r) all may = call_valid s t (is_retire f) r all
after_valid s t a (Done f) all may = all
after_valid s t a (Active p) all may = all
after_valid s t a (Ghost p g v) all may = all

-- an operation is begun with null pointers, and left with none
pub given_valid : (s : State) (t : ℕ) (l : Option Locals) → AllValid s → ((v : ℕ) → (get_or (unwrap_or l no_locals).pointers v null_cell).valid ≡ true) → AllValid (with_locals s t l)
given_valid s t l all mine (at_shared i) = is_valid _ _ ((gives s t l).shared i) (all (at_shared i))
given_valid s t l all mine (at_field a f) = is_valid _ _ ((gives s t l).fields a f) (all (at_field a f))
given_valid s t l all mine (at_local u v) = elim (cases_eq u t) [
  | inl e ↦ is_valid (at (with_locals s t l) (at_local u v)) (get_or (unwrap_or l no_locals).pointers v null_cell) (ap (λ u. at (with_locals s t l) (at_local u v)) e ∙ (gives s t l).pointers v) (mine v)
  | inr other ↦ is_valid (at (with_locals s t l) (at_local u v)) (at s (at_local u v)) ((gives s t l).others u v other) (all (at_local u v))
]

pub first_valid : (fields : List Bool) (shared threads : ℕ) → AllValid (fresh_state fields shared threads)
first_valid fields shared threads p = is_valid (at (fresh_state fields shared threads) p) null_cell (fresh_is_null fields shared threads p) refl
