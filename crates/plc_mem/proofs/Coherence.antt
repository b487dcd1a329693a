-- Coherence through each change of the state, by the laws of memory alone.
use Rattle.std.proofs.Common.{get_or, Result, Ok, Err, IfOk, IfSome, length, set, ◌≡◌, ℕ, ◌<◌, Bool, true, false, not, ◌&&◌, ◌||◌, ◌==◌, List, Option, Some, None, refl, sym, ap, ◌∙◌, subst, arith, inl, inr}
use Rattle.std.proofs.lemmas.List.{get_or_default}
use Rattle.std.proofs.lemmas.Bool.{cases_Bool, cases_eq, and_parts, or_parts, not-true, eq-eqb, ne_eqb, eqb-true, false≢true}
use Rattle.std.specs.Option.{unwrap_or}
use Rattle.plc_lang.specs.declared.syntax.Arg.{Arg}
use Rattle.plc_lang.specs.declared.syntax.Arg.TheVariants as args
use Rattle.plc_lang.specs.declared.syntax.Op.{Op}
use Rattle.plc_lang.specs.declared.syntax.Primitive.{Primitive}
use Rattle.plc_lang.specs.declared.syntax.Primitive.TheVariants.{Null, Copy, New, Load, Store, StoreNull, DataSet, DataLoad, DataStore, Eq, Ne, IsNull, NotNull, DataTest, Refresh, RefreshLoad, RefreshStore, Call, Done, Active, Ghost}
use Rattle.plc_lang.specs.declared.syntax.Primitive.TheVariants.{Mark, Unmark, MarkTest}
use Rattle.plc_base.specs.Functions.{is_retire}
use Rattle.plc_mem.specs.declared.cell.Cell.{Cell}
use Rattle.plc_mem.specs.declared.cell.RaceKind.{RaceKind}
use Rattle.plc_mem.specs.State.{State, Place, at_shared, at_local, at_field, Locals, null_cell, fresh_cell, is_null, at, put, put_value, put_field_value, place, is_used, is_retired, with_node, with_retired, with_locals, locals_of, cut, freed, fresh_state, no_locals, starting}
use Rattle.plc_mem.specs.State.{marked_cell}
use Rattle.plc_mem.specs.Primitives.{cell_at, field_at, access, retirement, race_of_call, goes_call, after_call, race_of, goes, after}
use Rattle.plc_mem.specs.Outcomes.{moved, next_of}
use Rattle.plc_mem.specs.Laws.{is_there, SamePointers, SameAddresses}
use Rattle.plc_mem.specs.Coherence.{CellCoherent, LocalsCoherent, IsCoherent, CoherenceIsKept}
use Rattle.plc_base.specs.declared.memory.NoMemory.{NoMemory}
use Rattle.plc_base.proofs.Tables.{get-replicate, put_is_set}
use Rattle.plc_mem.proofs.Views.{cases_place, writes, writes_nothing, writes_local, writes_field, writes_no_field, makes, retires, frees, gives, fresh_is_null, fresh_is_unused, fresh_is_unretired}

-- ---- cells

null_coherent : (s : State) → CellCoherent s null_cell
null_coherent s = record { used = λ v n. cc; null = λ n. refl }

-- a cell stays coherent where no address of before is lost
cell_stays : {s new : State} {c : Cell} → ((a : ℕ) → is_used s a ≡ true → is_used new a ≡ true) → CellCoherent s c → CellCoherent new c
cell_stays {c = c} more k = record { used = λ v n. more c.number (k.used v n); null = k.null }

-- ---- changes that keep places and addresses

stays_coherent : (s new : State) → SamePointers s new → SameAddresses s new → IsCoherent s → IsCoherent new
stays_coherent s new pointers addresses k = record {
  cells = λ p. subst (CellCoherent new) (sym (pointers p)) (cell_stays (λ a u. addresses.used a ∙ u) (k.cells p));
  unretired = λ a u. addresses.retired a ∙ k.unretired a (sym (addresses.used a) ∙ u);
  null_unused = addresses.used 0 ∙ k.null_unused;
}

value_coherent : (s : State) (t x n : ℕ) → IsCoherent s → IsCoherent (put_value s t x n)
value_coherent s t x n k = let w = writes_local s t x n in stays_coherent s (put_value s t x n) w.pointers w.addresses k

field_value_coherent : (s : State) (a f n : ℕ) → IsCoherent s → IsCoherent (put_field_value s a f n)
field_value_coherent s a f n k = elim (cases_Bool (is_used s a)) [
  | inl used ↦ (let w = writes_field s a f n used in stays_coherent s (put_field_value s a f n) w.pointers w.addresses k)
  | inr unused ↦ subst IsCoherent (sym (writes_no_field s a f n unused)) k
]

-- ---- a write

put_coherent : (s : State) (p : Place) (c : Cell) → CellCoherent s c → IsCoherent s → IsCoherent (put s p c)
put_coherent s p c fine k = elim (cases_Bool (is_there s p)) [
  | inl there ↦ (
      let w = writes s p c there in
      record {
        cells = λ q. cell_stays (λ a u. w.addresses.used a ∙ u) (elim (cases_place q p) [
          | inl e ↦ subst (CellCoherent s) (sym (ap (at (put s p c)) e ∙ w.here)) fine
          | inr ne ↦ subst (CellCoherent s) (sym (w.elsewhere q ne)) (k.cells q)
        ]);
        unretired = λ a u. w.addresses.retired a ∙ k.unretired a (sym (w.addresses.used a) ∙ u);
        null_unused = w.addresses.used 0 ∙ k.null_unused;
      }
      )
  | inr absent ↦ subst IsCoherent (sym (writes_nothing s p c absent)) k
]

-- ---- an allocation

made_coherent : (s : State) (a : ℕ) → (a == 0) ≡ false → is_used s a ≡ false → IsCoherent s → IsCoherent (with_node s a)
made_coherent s a some unused k =
    let w = makes s a unused in
    record {
      cells = λ p. subst (CellCoherent (with_node s a)) (sym (w.pointers p)) (cell_stays (λ b u. w.used b ∙ ap (λ x. x || a == b) u) (k.cells p));
      unretired = λ b u. w.retired b ∙ k.unretired b (or_parts (is_used s b) (a == b) (sym (w.used b) ∙ u)).0;
      null_unused = w.used 0 ∙ rw (k.null_unused, some) refl;
    }

fresh_coherent : (s : State) (a : ℕ) → is_used s a ≡ false → CellCoherent (with_node s a) (fresh_cell a)
fresh_coherent s a unused = record { used = λ v n. (makes s a unused).used a ∙ or_true (is_used s a) (a == a) (eq-eqb a a refl); null = λ n. refl }
  where
    or_true : (x y : Bool) → y ≡ true → (x || y) ≡ true
    or_true true y e = refl
    or_true false y e = e

-- ---- a retirement

retired_coherent : (s : State) (c : Cell) → CellCoherent s c → c.valid ≡ true → is_null c ≡ false → IsCoherent s → IsCoherent (with_retired s c.number)
retired_coherent s c fine valid some k =
    let w = retires s c.number in
    record {
      cells = λ p. subst (CellCoherent (with_retired s c.number)) (sym (w.pointers p)) (cell_stays (λ b u. w.used b ∙ u) (k.cells p));
      unretired = λ b u. (
          let unused : is_used s b ≡ false = sym (w.used b) ∙ u in
          let other : (c.number ≡ b → ⊥) = λ e. false≢true (sym unused ∙ subst (λ x. is_used s x ≡ true) e (fine.used valid some)) in
          w.retired b ∙ rw (k.unretired b unused, ne_eqb c.number b other) refl
          );
      null_unused = w.used 0 ∙ k.null_unused;
    }

-- ---- a free

-- a cell that was cut is valid only where it was and doesn't hold the address
cut_coherent : (s new : State) (a : ℕ) (c : Cell) → 0 < a → ((b : ℕ) → is_used new b ≡ (is_used s b && not (b == a))) → CellCoherent s c → CellCoherent new (cut a c)
cut_coherent s new a c pos used k = record {
  used = λ v n. (
      let parts = and_parts c.valid (not (c.number == a)) v in
      used c.number ∙ rw (k.used parts.0 n, not-true _ parts.1) refl
      );
  null = λ n. (
      let e : c.number ≡ 0 = eqb-true c.number 0 n in
      let other : (c.number == a) ≡ false = ne_eqb c.number a (λ f. absurd (omega (arith, e, f))) in
      rw (k.null n, other) refl
      );
}

freed_coherent : (s : State) (a : ℕ) → 0 < a → IsCoherent s → IsCoherent (freed s a)
freed_coherent s a pos k =
    let w = frees s a pos in
    record {
      cells = elim [
        | at_shared i ↦ subst (CellCoherent (freed s a)) (sym (w.shared i)) (cut_coherent s (freed s a) a _ pos w.used (k.cells (at_shared i)))
        | at_local t v ↦ subst (CellCoherent (freed s a)) (sym (w.locals t v)) (cut_coherent s (freed s a) a _ pos w.used (k.cells (at_local t v)))
        | at_field b f ↦ elim (cases_eq b a) [
          | inl e ↦ subst (CellCoherent (freed s a)) (sym (ap (λ b. at (freed s a) (at_field b f)) e ∙ w.gone f)) (null_coherent (freed s a))
          | inr ne ↦ subst (CellCoherent (freed s a)) (sym (w.fields b f ne)) (cut_coherent s (freed s a) a _ pos w.used (k.cells (at_field b f)))
        ]
      ];
      unretired = λ b u. w.retired b ∙ both_gone (is_used s b) (is_retired s b) (not (b == a)) (k.unretired b) (sym (w.used b) ∙ u);
      null_unused = w.used 0 ∙ ap (λ x. x && not (0 == a)) k.null_unused;
    }
  where
    both_gone : (x y z : Bool) → (x ≡ false → y ≡ false) → (x && z) ≡ false → (y && z) ≡ false
    both_gone true y true f e = cc
    both_gone true true false f e = refl
    both_gone true false false f e = refl
    both_gone false y z f e = rw (f refl) refl

-- ---- locals that come and go

give_coherent : (s : State) (t : ℕ) (l : Option Locals) → LocalsCoherent s (unwrap_or l no_locals) → IsCoherent s → IsCoherent (with_locals s t l)
give_coherent s t l mine k =
    let g = gives s t l in
    let same : (c : Cell) → CellCoherent s c → CellCoherent (with_locals s t l) c = λ c fine. cell_stays (λ a u. g.addresses.used a ∙ u) fine in
    record {
      cells = elim [
        | at_shared i ↦ subst (CellCoherent (with_locals s t l)) (sym (g.shared i)) (same _ (k.cells (at_shared i)))
        | at_field a f ↦ subst (CellCoherent (with_locals s t l)) (sym (g.fields a f)) (same _ (k.cells (at_field a f)))
        | at_local u v ↦ elim (cases_eq u t) [
          | inl e ↦ subst (CellCoherent (with_locals s t l)) (sym (ap (λ u. at (with_locals s t l) (at_local u v)) e ∙ g.pointers v)) (same _ (mine v))
          | inr other ↦ subst (CellCoherent (with_locals s t l)) (sym (g.others u v other)) (same _ (k.cells (at_local u v)))
        ]
      ];
      unretired = λ a u. g.addresses.retired a ∙ k.unretired a (sym (g.addresses.used a) ∙ u);
      null_unused = g.addresses.used 0 ∙ k.null_unused;
    }

none_coherent : (s : State) → LocalsCoherent s no_locals
none_coherent s v = null_coherent s

begun_coherent : (s : State) (o : Op) (args : List ℕ) → LocalsCoherent s (starting o args)
begun_coherent s o args v = subst (CellCoherent s) (sym (get-replicate null_cell _ v)) (null_coherent s)

held_coherent : (s : State) (t : ℕ) → IsCoherent s → LocalsCoherent s (locals_of s t)
unfolding at
held_coherent s t k v = k.cells (at_local t v)

-- ---- primitives

pub valid_if : (c : Cell) → access c ≡ None → c.valid ≡ true
valid_if c e = go c.valid refl e
  where
    go : (b : Bool) → c.valid ≡ b → access c ≡ None → c.valid ≡ true
    go true is e = is
    go false is e = let contrary = rw is at e in cc

pub retired_if : (s : State) (c : Cell) → retirement s c ≡ None → c.valid ≡ true
retired_if s c e = go c.valid refl e
  where
    go : (b : Bool) → c.valid ≡ b → retirement s c ≡ None → c.valid ≡ true
    go true is e = is
    go false is e = let contrary = rw is at e in cc

call_coherent : (s : State) (t : ℕ) (b : Bool) (r : Arg) → race_of_call s t b r ≡ None → goes_call s t b r ≡ true → IsCoherent s → IsCoherent (after_call s t b r)
call_coherent s t true (args.Var p) fine may k = retired_coherent s (cell_at s t p) (k.cells (place t p)) (retired_if s (cell_at s t p) fine) (not-true _ may) k
call_coherent s t true args.Null fine may k = k
call_coherent s t true args.None fine may k = k
call_coherent s t false r fine may k = k

-- the mark says nothing of validity
marked_coherent : (s : State) (c : Cell) (m : Bool) → CellCoherent s c → CellCoherent s (marked_cell m c)
marked_coherent s c m k = record { used = k.used; null = k.null }

after_coherent : (s : State) (t a : ℕ) (k : Primitive) → race_of s t k ≡ None → goes s t a k ≡ true → IsCoherent s → IsCoherent (after s t a k)
after_coherent s t a (Null p) fine may k = put_coherent s (place t p) null_cell (null_coherent s) k
after_coherent s t a (Copy p q) fine may k = put_coherent s (place t p) (cell_at s t q) (k.cells (place t q)) k
after_coherent s t a (New p) fine may k =
    let parts = and_parts (not (a == 0)) (not (is_used s a)) may in
    let unused = not-true _ parts.1 in
    put_coherent (with_node s a) (place t p) (fresh_cell a) (fresh_coherent s a unused) (made_coherent s a (not-true _ parts.0) unused k)
after_coherent s t a (Load p q f) fine may k = put_coherent s (place t p) (field_at s t q f.0) (k.cells (at_field (cell_at s t q).number f.0)) k
after_coherent s t a (Store p f q) fine may k = put_coherent s (at_field (cell_at s t p).number f.0) (cell_at s t q) (k.cells (place t q)) k
after_coherent s t a (StoreNull p f) fine may k = put_coherent s (at_field (cell_at s t p).number f.0) null_cell (null_coherent s) k
after_coherent s t a (DataSet x e) fine may k = value_coherent s t x _ k
after_coherent s t a (DataLoad x q f) fine may k = value_coherent s t x _ k
after_coherent s t a (DataStore p f e) fine may k = field_value_coherent s (cell_at s t p).number f.0 _ k
after_coherent s t a (Eq p q) fine may k = k
after_coherent s t a (Ne p q) fine may k = k
after_coherent s t a (IsNull p) fine may k = k
after_coherent s t a (NotNull p) fine may k = k
after_coherent s t a (DataTest r x e) fine may k = k
after_coherent s t a (Refresh p q) fine may k = put_coherent s (at_local t p) (cell_at s t q) (k.cells (place t q)) k
after_coherent s t a (RefreshLoad p q f) fine may k = put_coherent s (at_local t p) (field_at s t q f.0) (k.cells (at_field (cell_at s t q).number f.0)) k
after_coherent s t a (RefreshStore p f q) fine may k = put_coherent s (at_field (cell_at s t p).number f.0) (cell_at s t q) (k.cells (place t q)) k
after_coherent s t a (Mark p q) fine may k =
    put_coherent s (place t p) _ (marked_coherent s (cell_at s t q) true (k.cells (place t q))) k
after_coherent s t a (Unmark p q) fine may k =
    put_coherent s (place t p) _ (marked_coherent s (cell_at s t q) false (k.cells (place t q))) k
after_coherent s t a (MarkTest p m) fine may k = k
after_coherent s t a (Call f r) fine may k = call_coherent s t (is_retire f) r fine may k
after_coherent s t a (Done f) fine may k = k
after_coherent s t a (Active p) fine may k = k
after_coherent s t a (Ghost p g v) fine may k = k

next_coherent : (s : State) (t a : ℕ) (k : Primitive) → IsCoherent s → IsCoherent (next_of s t a k)
unfolding next_of
next_coherent s t a k fine = go (race_of s t k) (goes s t a k) (λ r g. after_coherent s t a k r g fine)
  where
    go : (r : Option RaceKind) (g : Bool) → (r ≡ None → g ≡ true → IsCoherent (after s t a k)) → IsCoherent (moved r g s (after s t a k))
    go (Some kind) g next = fine
    go None true next = next refl refl
    go None false next = fine

first_coherent : (fields : List Bool) (shared threads : ℕ) → IsCoherent (fresh_state fields shared threads)
first_coherent fields shared threads = record {
  cells = λ p. subst (CellCoherent (fresh_state fields shared threads)) (sym (fresh_is_null fields shared threads p)) (null_coherent (fresh_state fields shared threads));
  unretired = λ a u. fresh_is_unretired fields shared threads a;
  null_unused = fresh_is_unused fields shared threads 0;
}

pub coherence : CoherenceIsKept
coherence = record {
  first = first_coherent;
  by_primitive = after_coherent;
  by_any_primitive = next_coherent;
  by_free = freed_coherent;
  by_give = λ s t l mine k. give_coherent s t (Some l) mine k;
  by_take = λ s t k. give_coherent s t None (none_coherent s) k;
  held = held_coherent;
  begun = begun_coherent;
  none = none_coherent;
}

-- ---- what the code hands out

-- a memory that is as the first one
pub new_coherent : (fields : List Bool) (shared threads : ℕ) (r : Result State NoMemory) → IfOk r (λ m. m ≡ fresh_state fields shared threads) → IfOk r (λ m. IsCoherent m)
new_coherent fields shared threads (Ok m) e = subst IsCoherent (sym e) (first_coherent fields shared threads)
new_coherent fields shared threads (Err x) e = tt

-- the locals of a thread that are taken out, and what is left
pub taken_coherent : (s : State) (t : ℕ) (d : Option Locals) → t < length s.locals → IsCoherent s → IsCoherent (record s { locals = set s.locals t None }) × IfSome (get_or s.locals t d) (λ l. LocalsCoherent (record s { locals = set s.locals t None }) l)
unfolding with_locals locals_of is_used
taken_coherent s t d h k =
    let left : with_locals s t None ≡ record s { locals = set s.locals t None } = ap (λ xs. record s { locals = xs }) (put_is_set None s.locals t None h) in (
      subst IsCoherent left (give_coherent s t None (none_coherent s) k),
      subst (λ o. IfSome o (λ l. LocalsCoherent (record s { locals = set s.locals t None }) l)) (get_or_default s.locals t None d h) (mine (get_or s.locals t None) (held_coherent s t k)),
    )
  where
    mine : (o : Option Locals) → LocalsCoherent s (unwrap_or o no_locals) → IfSome o (λ l. LocalsCoherent (record s { locals = set s.locals t None }) l)
    mine None fine = tt
    mine (Some l) fine = λ v. cell_stays (λ a u. u) (fine v)
