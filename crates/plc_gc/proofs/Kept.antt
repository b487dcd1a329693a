-- The words of a state over the lists that the code keeps.
use Rattle.std.proofs.Common.{◌≡◌, ℕ, zero, suc, ◌<◌, Bool, true, false, cond, List, [], ◌∷◌, ◌++◌, Option, Some, None, get_or, set, slice_get, length, refl, sym, ap, ◌∙◌, arith}
use Rattle.std.specs.Prelude.{nat_lt}
use Rattle.std.proofs.lemmas.Bool.{ltb-true, ltb-false}
use Rattle.std.proofs.lemmas.List.{get_or_past, get_or_default, length-replicate}
use Rattle.std.proofs.lemmas.Option.{slice_get_read, get_or_from_slice_get}
use Rattle.std.specs.Option.{unwrap_or}
use Rattle.plc_base.specs.Tables.{put_at}
use Rattle.plc_lang.specs.declared.syntax.Local.{Local as ALocal}
use Rattle.plc_gc.specs.declared.slot.Slot.TheVariants.{Data as in_data}
use Rattle.plc_gc.specs.declared.slot.Map.{Map}
use Rattle.plc_gc.specs.declared.slot.Pointer.{Pointer}
use Rattle.plc_gc.specs.declared.slot.Map.TheVariants.{Pointer as pointer_field, Mark as mark_field}
use Rattle.plc_gc.specs.declared.slot.Map.TheVariants.{Number as data_field, Auxiliary as auxiliary_field}
use Rattle.plc_gc.specs.declared.slot.Map.TheVariants.{Retirement as retirement}
use Rattle.plc_gc.specs.State.{GcState, Row, Locals, null_pointer, with_node, with_mark, no_row, fresh_row, row_entry}
use Rattle.plc_gc.specs.State.{row_with, locals_of, value, entry, no_locals}
use Rattle.plc_gc.specs.Clauses.{declared_value, declared_mark, local_value, local_mark_value}
use Rattle.plc_gc.specs.Named.{declared_local, named_local}
use Rattle.plc_gc.specs.Fit.{RowsFit, EntryIn, MapIn}
use Rattle.plc_base.proofs.Tables.{put_is_set, length_put}
use Rattle.plc_gc.proofs.Views.{no_entry}

-- ---- what is looked up

pub looked : {A : Type 0} (xs : List A) (i : ℕ) (x : A) → true ≡ nat_lt i (length xs) → x ≡ get_or xs i x → slice_get xs i ≡ Some x
looked xs i x small e = slice_get_read xs (length xs) i x refl (ltb-true i (length xs) (sym small)) e

-- ---- locals

pub locals_held : (g : GcState) (t : ℕ) (q : Option Locals) → q ≡ get_or g.locals t None → locals_of g t ≡ unwrap_or q no_locals
unfolding locals_of
locals_held g t q e = sym (ap (λ o. unwrap_or o no_locals) e)

pub pointer_held : (g : GcState) (t v : ℕ) (q : Option Locals) → q ≡ get_or g.locals t None
    → get_or (unwrap_or q no_locals).pointers v null_pointer ≡ get_or (locals_of g t).pointers v null_pointer
pointer_held g t v q e = sym (ap (λ (m : Locals). get_or m.pointers v null_pointer) (locals_held g t q e))

pub data_held : (g : GcState) (t x : ℕ) (q : Option Locals) → q ≡ get_or g.locals t None → get_or (unwrap_or q no_locals).values x 0 ≡ value g (in_data t x)
unfolding value
data_held g t x q e = sym (ap (λ (m : Locals). get_or m.values x 0) (locals_held g t q e))

-- what is read of a local by its name is what clauses call its value, and its mark
pub record IsRead (p : Pointer) (n m : ℕ) : Type 0 where
  pub number : p.node ≡ n
  pub mark : p.mark ≡ m

chosen : (b : Bool) (p q : Pointer) (n m k : ℕ) → IsRead p n m → IsRead q k 0 → IsRead (cond b p q) (cond b n k) (cond b m 0)
chosen true p q n m k one other = one
chosen false p q n m k one other = other

declared_read : (g : GcState) (t i : ℕ) (d : Option ALocal) → IsRead (declared_local (locals_of g t) i d)
    (declared_value g t (locals_of g t).declared i d) (declared_mark g t (locals_of g t).declared i d)
unfolding value
declared_read g t i None = record { number = refl; mark = refl }
declared_read g t i (Some d) = chosen d.pointer _ _ _ _ _ (record { number = refl; mark = refl }) (record { number = refl; mark = refl })

pub named_read : (g : GcState) (thread : Option ℕ) (i : ℕ)
    → IsRead (named_local g thread i) (local_value g thread i) (local_mark_value g thread i)
named_read g None i = record { number = refl; mark = refl }
named_read g (Some t) i = declared_read g t i (slice_get (locals_of g t).declared i)

-- a thread's local by its name is that of what it holds
pub named_held : (g : GcState) (t i : ℕ) (q : Option Locals) → q ≡ get_or g.locals t None
    → declared_local (unwrap_or q no_locals) i (slice_get (unwrap_or q no_locals).declared i) ≡ named_local g (Some t) i
named_held g t i q e = sym (ap (λ (l : Locals). declared_local l i (slice_get l.declared i)) (locals_held g t q e))

-- a thread that has a local is one of the list
pub pointer_below : (ls : List (Option Locals)) (t v : ℕ) → v < length (unwrap_or (get_or ls t None) no_locals).pointers → t < length ls
pointer_below [] t v h = absurd (omega (arith, h))
pointer_below (l ∷ ls) zero v h = omega arith
pointer_below (l ∷ ls) (suc t) v h = let small = pointer_below ls t v h in omega arith

pub value_below : (ls : List (Option Locals)) (t x : ℕ) → x < length (unwrap_or (get_or ls t None) no_locals).values → t < length ls
value_below [] t x h = absurd (omega (arith, h))
value_below (l ∷ ls) zero x h = omega arith
value_below (l ∷ ls) (suc t) x h = let small = value_below ls t x h in omega arith

-- locals that were written in their place
pub written_there : (ls : List (Option Locals)) (t : ℕ) (l : Locals) (q : Option Locals) (with_it : Locals → Locals) → t < length ls → q ≡ get_or ls t q → q ≡ Some l → set ls t (Some (with_it l)) ≡ put_at None ls t (Some (with_it (unwrap_or (get_or ls t None) no_locals)))
written_there ls t l q with_it small e is =
    let held : get_or ls t None ≡ Some l = get_or_default ls t None q small ∙ sym e ∙ is in
    rw held (sym (put_is_set None ls t (Some (with_it l)) small))

-- ---- rows

pub row_there : (g : GcState) (m : Map) (k : ℕ) (r : Row) → slice_get g.rows k ≡ Some r → row_entry r m ≡ entry g m k
unfolding entry
row_there g m k r there = ap (λ r. row_entry r m) (sym (get_or_from_slice_get g.rows k r no_row there))

pub row_past : (g : GcState) (m : Map) (k : ℕ) → false ≡ nat_lt k (length g.rows) → 0 ≡ entry g m k
unfolding entry
row_past g m k large = sym (ap (λ r. row_entry r m) (get_or_past g.rows k no_row (ltb-false k (length g.rows) (sym large))) ∙ no_entry m)

-- each row has an entry of each map of the state
pub entry_in : (fields ghosts : ℕ) (rs : List Row) (k : ℕ) (d : Row) → RowsFit fields ghosts rs → k < length rs → (length (get_or rs k d).pointers ≡ fields) × (length (get_or rs k d).values ≡ fields) × (length (get_or rs k d).auxiliary ≡ ghosts)
entry_in fields ghosts [] k d fit h = absurd (omega arith)
entry_in fields ghosts (r ∷ rs) zero d fit h = (fit.0, fit.1, fit.2)
entry_in fields ghosts (r ∷ rs) (suc k) d fit h = entry_in fields ghosts rs k d fit.3 (omega arith)

pub has_entry : (g : GcState) (r : Row) (m : Map) → length r.pointers ≡ length g.fields → length r.values ≡ length g.fields → length r.auxiliary ≡ g.ghosts → MapIn g m → EntryIn r m
has_entry g r (pointer_field f) p v a h = omega (arith, p, h)
has_entry g r (mark_field f) p v a h = omega (arith, p, h)
has_entry g r (data_field f) p v a h = omega (arith, v, h)
has_entry g r (auxiliary_field x) p v a h = omega (arith, a, h)
has_entry g r retirement p v a h = tt

-- a row with one entry changed has as many
record SameSizes (r s : Row) : Type 0 where
  pointers : length s.pointers ≡ length r.pointers
  values : length s.values ≡ length r.values
  auxiliary : length s.auxiliary ≡ length r.auxiliary

same_sizes : (r : Row) (m : Map) (n : ℕ) → EntryIn r m → SameSizes r (row_with r m n)
same_sizes r (pointer_field f) n h =
    record {
      pointers = length_put null_pointer r.pointers f (with_node (get_or r.pointers f null_pointer) n) h;
      values = refl;
      auxiliary = refl;
    }
same_sizes r (mark_field f) n h =
    record {
      pointers = length_put null_pointer r.pointers f (with_mark (get_or r.pointers f null_pointer) n) h;
      values = refl;
      auxiliary = refl;
    }
same_sizes r (data_field f) n h = record { pointers = refl; values = length_put 0 r.values f n h; auxiliary = refl }
same_sizes r (auxiliary_field x) n h = record { pointers = refl; values = refl; auxiliary = length_put 0 r.auxiliary x n h }
same_sizes r retirement n h = record { pointers = refl; values = refl; auxiliary = refl }

pub rows_fit_set : (fields ghosts : ℕ) (rs : List Row) (k : ℕ) (d : Row) (m : Map) (n : ℕ) → RowsFit fields ghosts rs → k < length rs → EntryIn (get_or rs k d) m → RowsFit fields ghosts (set rs k (row_with (get_or rs k d) m n))
rows_fit_set fields ghosts [] k d m n fit h e = tt
rows_fit_set fields ghosts (r ∷ rs) zero d m n fit h e = let s = same_sizes r m n e in (s.pointers ∙ fit.0, s.values ∙ fit.1, s.auxiliary ∙ fit.2, fit.3)
rows_fit_set fields ghosts (r ∷ rs) (suc k) d m n fit h e = (fit.0, fit.1, fit.2, rows_fit_set fields ghosts rs k d m n fit.3 (omega arith) e)

pub rows_fit_push : (fields ghosts : ℕ) (rs : List Row) → RowsFit fields ghosts rs → RowsFit fields ghosts (rs ++ fresh_row fields ghosts ∷ [])
rows_fit_push fields ghosts [] fit = (
  length-replicate {A = Pointer} fields null_pointer,
  length-replicate {A = ℕ} fields 0,
  length-replicate {A = ℕ} ghosts 0,
  tt,
)
rows_fit_push fields ghosts (r ∷ rs) fit = (fit.0, fit.1, fit.2, rows_fit_push fields ghosts rs fit.3)
