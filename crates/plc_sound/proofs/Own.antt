-- A primitive of the thread itself: what it leaves meets the effect of its row.
use Rattle.std.proofs.Common.{◌≡◌, ℕ, ◌<◌, Bool, true, false, not, ◌&&◌, ◌==◌, List, [], ◌∷◌, ◌++◌, Option, Some, None, min, max, refl, sym, ap, ◌∙◌, subst, arith, inl, inr, ◌⊎◌}
use Rattle.std.specs.Prelude.{if◌then◌else◌}
use Rattle.std.proofs.lemmas.Bool.{eq-eqb, eqb-true, ne_eqb, cases_Bool, and_parts, and_from, not-true, not_from_false, both_ways, leb-true, leb-false, le-leb}
use Rattle.plc_base.specs.declared.ids.FuncId.{FuncId}
use Rattle.plc_base.specs.declared.ids.FieldId.{FieldId}
use Rattle.plc_lang.specs.declared.syntax.Var.{Var}
use Rattle.plc_lang.specs.declared.syntax.Var.TheVariants.{Shared, Local}
use Rattle.plc_lang.specs.declared.syntax.Arg.TheVariants as args
use Rattle.plc_lang.specs.declared.syntax.Primitive.TheVariants.{Null, Copy, New, Load, Eq, IsNull, Refresh, Call, Active}
use Rattle.plc_auto.specs.declared.event.Event.{Event}
use Rattle.plc_auto.specs.declared.event.Event.TheVariants.{Call as Called, Done as Returned}
use Rattle.plc_auto.specs.declared.event.EvKind.{EvKind}
use Rattle.plc_auto.specs.declared.event.EvKind.TheVariants as events
use Rattle.plc_auto.specs.declared.observer.Observer.{Observer}
use Rattle.plc_auto.specs.Table.{step}
use Rattle.plc_base.specs.Functions.{is_retire}
use Rattle.plc_auto.specs.Location.{location, step_by, advance, is_this}
use Rattle.plc_auto.specs.Sets.{unretired, step_set}
use Rattle.plc_auto.proofs.Histories.{location_longer}
use Rattle.plc_mem.specs.declared.cell.Cell.{Cell}
use Rattle.plc_mem.specs.declared.cell.RaceKind.{RaceKind}
use Rattle.plc_mem.specs.declared.cell.RaceKind.TheVariants.{Compare}
use Rattle.plc_mem.specs.State.{State, Place, at_local, at_field, null_cell, fresh_cell, is_null, at, put, place, is_used, is_retired, with_node, with_retired}
use Rattle.plc_mem.specs.State.{marked_cell, same_pointer}
use Rattle.plc_mem.specs.Primitives.{cell_at, field_at, race_of, goes}
use Rattle.plc_mem.specs.Laws.{is_there}
use Rattle.plc_mem.proofs.Views.{cases_place, writes, makes, retires}
use Rattle.plc_run.specs.Observed.{IsObserved}
use Rattle.plc_type.specs.declared.guarantee.Guar.{Guar}
use Rattle.plc_type.specs.declared.env.PtrType.{PtrType}
use Rattle.plc_type.specs.declared.env.Env.{Env}
use Rattle.plc_type.specs.Guarantees.{is_safe, is_active, is_local, without_active as no_active, active_safe as active_guarantees, either}
use Rattle.plc_type.specs.Types.{bare, null_type}
use Rattle.plc_xfer.specs.Calls.{on_this, on_other, on_either, other_type, beside_retired}
use Rattle.plc_xfer.specs.Rules.{type_of, is_variable, effect, shared_type, new_type, equal_type, refreshed_type, placed_type, active_type}
use Rattle.plc_sound.specs.Meaning.{stands, Fits, Meets, EnvMet}
use Rattle.plc_sound.specs.Claims.{IsActive}
use Rattle.plc_sound.proofs.Sets.{Live, stands_meet, stands_left, stands_right, stands_unretired, stands_step}
use Rattle.plc_sound.proofs.Kept.{pick, pick_two, variable_cases, Writes, put_writes, kept, got, copied, bare_met, local_safe, local_active, without_not}

-- ---- guarantees

no_active_safe : (g : Guar) → is_safe (no_active g) ≡ true → is_safe g ≡ true
no_active_safe g h = let x = leb-true 1 (min g.0 1) h in le-leb 1 g.0 (omega arith)

no_active_not : (g : Guar) → is_active (no_active g) ≡ true → ⊥
no_active_not g h = let x = leb-true 3 (min g.0 1) h in omega arith

no_active_local : (g : Guar) → is_local (no_active g) ≡ true → ⊥
no_active_local g h = let x = leb-true 7 (min g.0 1) h in omega arith

either_active : (g k : Guar) → is_active (either g k) ≡ true → (is_active g ≡ true) ⊎ (is_active k ≡ true)
either_active g k a = elim (cases_Bool (is_active g)) [
  | inl x ↦ inl x
  | inr n ↦ (let small = leb-false 3 g.0 n in let large = leb-true 3 (max g.0 k.0) a in inr (le-leb 3 k.0 (omega arith)))
]

either_local : (g k : Guar) → is_local (either g k) ≡ true → (is_local g ≡ true) ⊎ (is_local k ≡ true)
either_local g k a = elim (cases_Bool (is_local g)) [
  | inl x ↦ inl x
  | inr n ↦ (let small = leb-false 7 g.0 n in let large = leb-true 7 (max g.0 k.0) a in inr (le-leb 7 k.0 (omega arith)))
]

claimed_local : (g : Guar) → is_local (either g active_guarantees) ≡ true → is_local g ≡ true
claimed_local g h = let x = leb-true 7 (max g.0 3) h in le-leb 7 g.0 (omega arith)

swapped : {A B : Type 0} → A ⊎ B → B ⊎ A
swapped (inl a) = inr a
swapped (inr b) = inl b

-- ---- places

pub variable_there : (s : State) (t : ℕ) (v : Var) → is_there s (place t v) ≡ true
variable_there s t (Shared i) = refl
variable_there s t (Local v) = refl

pub not_field : (t : ℕ) (v : Var) (a f : ℕ) → at_field a f ≡ place t v → ⊥
not_field t (Shared i) a f e = cc
not_field t (Local v) a f e = cc

-- what a row without a race says
pub valid_if : (b : Bool) (k : RaceKind) → (if b then None else Some k) ≡ None → b ≡ true
valid_if true k e = refl
valid_if false k e = cc

pub not_zero : (n : ℕ) → not (n == 0) ≡ true → n ≡ 0 → ⊥
not_zero n e z = both_ways (n == 0) (not-true (n == 0) e) (eq-eqb n 0 z)

-- one pointer has one number
pub same_number : (c d : Cell) → same_pointer c d ≡ true → c.number ≡ d.number
same_number c d e = eqb-true c.number d.number (and_parts _ _ e).0

pub is_not_null : (n : ℕ) → (n ≡ 0 → ⊥) → 0 < n
is_not_null n e = omega arith

-- a cell at a fresh node's address
pub new_writes : (s : State) (a : ℕ) (p : Place) → is_used s a ≡ false → is_there (with_node s a) p ≡ true → Writes s p (fresh_cell a) (put (with_node s a) p (fresh_cell a))
new_writes s a p unused there =
    let m = makes s a unused in
    let w = writes (with_node s a) p (fresh_cell a) there in
    record { here = w.here; elsewhere = λ q ne. w.elsewhere q ne ∙ m.pointers q; retired = λ b. w.addresses.retired b ∙ m.retired b }

-- a field of a node to which a valid pointer leads is there
pub field_there : {o : Observer} {threads : ℕ} {h : List Event} {s : State} → IsObserved o threads s h → (p : Place) (f : ℕ) → (at s p).valid ≡ true → not (is_null (at s p)) ≡ true → is_there s (at_field (at s p).number f) ≡ true
field_there seen p f valid some = (seen.coherent.cells p).used valid (not-true _ some)

-- thread t, which the run has, meets the environment in a state that is as the observer says
pub record Here (o : Observer) (threads : ℕ) (h : List Event) (t : ℕ) (s : State) (e : Env) : Type 0 where
  pub small : t < threads
  pub met : EnvMet o h t s e
  pub seen : IsObserved o threads s h

module _ {o : Observer} {threads : ℕ} {h : List Event} {t : ℕ} {s : State} {e : Env} (here : Here o threads h t s e) where
  pub stands_where : (a : ℕ) → 0 < a → Live o (location o h t a)
  stands_where a pos = here.seen.live t a here.small pos

  pub reads_unretired : (a : ℕ) → 0 < a → is_retired s a ≡ false → stands (unretired o) (location o h t a) ≡ true
  reads_unretired a pos r =
      stands_unretired o (location o h t a) (stands_where a pos) (sym (here.seen.retired t a here.small pos) ∙ r)

  -- what a type says of a cell it says whatever its mark
  any_mark : {p : Place} {c : Cell} {ty : PtrType} (m : Bool) → Fits o h t s p c ty
      → Fits o h t s p (marked_cell m c) ty
  any_mark m f = record { somewhere = f.somewhere; safe = f.safe; active = f.active; alone = f.alone }

  -- a variable other than those that were written: the new cell is that of a place r
  apart_from : (r : Place) (v : Var) → (r ≡ place t v → ⊥) → is_local (type_of e v).g ≡ true → ((at s (place t v)).number ≡ 0 → ⊥) → (at s r).valid ≡ true → (at s r).number ≡ (at s (place t v)).number → ⊥
  apart_from r v ne g nonnull valid same = (here.met.pointers v nonnull).alone g r ne valid same

  -- p := null
  pub own_null : (p v : Var) → Meets o h t (put s (place t p) null_cell) (place t v) (effect o e (Null p) v)
  own_null p v =
      let w = put_writes s (place t p) null_cell (variable_there s t p) in
      pick t v p (λ v ty. Meets o h t (put s (place t p) null_cell) (place t v) ty) null_type (type_of e v)
      (got w null_type (λ nonnull. absurd (nonnull refl)))
      (λ ne. kept w (place t v) (type_of e v) ne (here.met.pointers v) (λ g nonnull valid same. nonnull (sym same)))

  -- p := mark q and p := unmark q, which have the row of a copy
  pub own_mark : (m : Bool) (p q v : Var)
      → Meets o h t (put s (place t p) (marked_cell m (at s (place t q)))) (place t v) (effect o e (Copy p q) v)
  own_mark m p q v =
      let c = marked_cell m (at s (place t q)) in
      let w = put_writes s (place t p) c (variable_there s t p) in
      let ty = shared_type (type_of e q) in
      let at_p = got w ty (λ nonnull. any_mark m (copied (type_of e q) (here.met.pointers q nonnull))) in
      pick_two t v p q (λ v ty. Meets o h t (put s (place t p) c) (place t v) ty) ty (type_of e v)
      at_p
      (elim (variable_cases t q p) [
        | inl same ↦ subst (λ v. Meets o h t (put s (place t p) c) (place t v) ty) (sym same) at_p
        | inr ne ↦ kept w (place t q) ty ne.1 (λ nonnull. copied (type_of e q) (here.met.pointers q nonnull)) (λ g. absurd (without_not (type_of e q).g g))
      ])
      (λ ne ne'. kept w (place t v) (type_of e v) ne (here.met.pointers v) (apart_from (place t q) v (λ same. ne' (sym same))))

  -- p := q
  pub own_copy : (p q v : Var)
      → Meets o h t (put s (place t p) (at s (place t q))) (place t v) (effect o e (Copy p q) v)
  own_copy p q = own_mark (at s (place t q)).mark p q

  -- p := q.f
  pub own_load : (p q : Var) (f : FieldId) (v : Var) → Meets o h t (put s (place t p) (field_at s t q f.0)) (place t v) (effect o e (Load p q f) v)
  own_load p q f v =
      let r = at_field (at s (place t q)).number f.0 in
      let w = put_writes s (place t p) (at s r) (variable_there s t p) in
      pick t v p (λ v ty. Meets o h t (put s (place t p) (at s r)) (place t v) ty) (bare e.w) (type_of e v)
      (got w (bare e.w) (bare_met (place t p) (at s r) e.w here.met.addresses))
      (λ ne. kept w (place t v) (type_of e v) ne (here.met.pointers v) (apart_from r v (not_field t v (at s (place t q)).number f.0)))

  -- p := new
  pub own_new : (a : ℕ) (p v : Var) → goes s t a (New p) ≡ true → Meets o h t (put (with_node s a) (place t p) (fresh_cell a)) (place t v) (effect o e (New p) v)
  own_new a p v may =
      let parts = and_parts (not (a == 0)) (not (is_used s a)) may in
      let unused : is_used s a ≡ false = not-true (is_used s a) parts.1 in
      let pos : 0 < a = is_not_null a (not_zero a parts.0) in
      let w = new_writes s a (place t p) unused (variable_there (with_node s a) t p) in
      let none_has : (q : Place) → (at s q).valid ≡ true → (at s q).number ≡ a → ⊥ = λ q valid is.
      let some : is_null (at s q) ≡ false = ne_eqb (at s q).number 0 (λ z. not_zero a parts.0 (sym is ∙ z)) in
      both_ways (is_used s a) unused (subst (λ n. is_used s n ≡ true) is ((here.seen.coherent.cells q).used valid some)) in
      pick t v p (λ v ty. Meets o h t (put (with_node s a) (place t p) (fresh_cell a)) (place t v) ty) (new_type o e) (type_of e v)
      (got w (new_type o e) (λ nonnull. record {
        somewhere = stands_meet e.w (unretired o) (location o h t a) (here.met.addresses a pos) (reads_unretired a pos (here.seen.coherent.unretired a unused));
        safe = λ g. refl;
        active = λ g. here.seen.coherent.unretired a unused;
        alone = λ g q ne valid is. none_has q valid is;
      }))
      (λ ne. kept w (place t v) (type_of e v) ne (here.met.pointers v) (λ g nonnull valid is. none_has (place t v) ((here.met.pointers v nonnull).safe (local_safe (type_of e v).g g)) (sym is)))

  -- p.f := q
  pub own_store : (n f : ℕ) (q v : Var) → is_there s (at_field n f) ≡ true → Meets o h t (put s (at_field n f) (at s (place t q))) (place t v) (if is_variable v q then shared_type (type_of e q) else type_of e v)
  own_store n f q v there =
      let w = put_writes s (at_field n f) (at s (place t q)) there in
      let ty = shared_type (type_of e q) in
      pick t v q (λ v ty. Meets o h t (put s (at_field n f) (at s (place t q))) (place t v) ty) ty (type_of e v)
      (kept w (place t q) ty (λ e. not_field t q n f (sym e)) (λ nonnull. copied (type_of e q) (here.met.pointers q nonnull)) (λ g. absurd (without_not (type_of e q).g g)))
      (λ ne. kept w (place t v) (type_of e v) (λ e. not_field t v n f (sym e)) (here.met.pointers v) (apart_from (place t q) v (λ same. ne (sym same))))

  -- p.f := null
  pub own_store_null : (n f : ℕ) (v : Var) → is_there s (at_field n f) ≡ true → Meets o h t (put s (at_field n f) null_cell) (place t v) (type_of e v)
  own_store_null n f v there =
      let w = put_writes s (at_field n f) null_cell there in
      kept w (place t v) (type_of e v) (λ e. not_field t v n f (sym e)) (here.met.pointers v) (λ g nonnull valid same. nonnull (sym same))

  -- p ?= q, where the numbers are equal
  pub own_refresh : (p : ℕ) (q v : Var) → (at s (at_local t p)).number ≡ (at s (place t q)).number → Meets o h t (put s (at_local t p) (at s (place t q))) (place t v) (effect o e (Refresh p q) v)
  own_refresh p q v same =
      let w = put_writes s (at_local t p) (at s (place t q)) refl in
      let ty = refreshed_type (type_of e (Local p)) (type_of e q) in
      let fits : (r : Place) → ((at s (place t q)).number ≡ 0 → ⊥) → Fits o h t s r (at s (place t q)) ty = λ r nonnull.
      let fp = here.met.pointers (Local p) (λ z. nonnull (sym same ∙ z)) in
      let fq = copied {p = r} (type_of e q) (here.met.pointers q nonnull) in
      record {
        somewhere = stands_meet (type_of e (Local p)).m (type_of e q).m (location o h t (at s (place t q)).number) (subst (λ n. stands (type_of e (Local p)).m (location o h t n) ≡ true) same fp.somewhere) fq.somewhere;
        safe = fq.safe;
        active = fq.active;
        alone = fq.alone;
      } in
      let at_p = got w ty (fits (at_local t p)) in
      pick_two t v (Local p) q (λ v ty. Meets o h t (put s (at_local t p) (at s (place t q))) (place t v) ty) ty (type_of e v)
      at_p
      (elim (variable_cases t q (Local p)) [
        | inl same ↦ subst (λ v. Meets o h t (put s (at_local t p) (at s (place t q))) (place t v) ty) (sym same) at_p
        | inr ne ↦ kept w (place t q) ty ne.1 (fits (place t q)) (λ g. absurd (without_not (type_of e q).g g))
      ])
      (λ ne ne'. kept w (place t v) (type_of e v) ne (here.met.pointers v) (apart_from (place t q) v (λ same. ne' (sym same))))

  -- p ?= q.f, where the numbers are equal
  pub own_refresh_load : (p n f : ℕ) (v : Var) → (at s (at_local t p)).number ≡ (at s (at_field n f)).number → Meets o h t (put s (at_local t p) (at s (at_field n f))) (place t v) (if is_variable v (Local p) then placed_type (type_of e (Local p)) else type_of e v)
  own_refresh_load p n f v same =
      let r = at_field n f in
      let w = put_writes s (at_local t p) (at s r) refl in
      pick t v (Local p) (λ v ty. Meets o h t (put s (at_local t p) (at s r)) (place t v) ty) (placed_type (type_of e (Local p))) (type_of e v)
      (got w (placed_type (type_of e (Local p))) (λ nonnull. record {
        somewhere = subst (λ n. stands (type_of e (Local p)).m (location o h t n) ≡ true) same (here.met.pointers (Local p) (λ z. nonnull (sym same ∙ z))).somewhere;
        safe = λ g. cc;
        active = λ g. cc;
        alone = λ g. cc;
      }))
      (λ ne. kept w (place t v) (type_of e v) ne (here.met.pointers v) (apart_from r v (not_field t v n f)))

  -- p == q: one of two valid places with one number, the guarantees of which are joined
  eq_side : (x y : Place) (a b ty : PtrType) → (at s x).number ≡ (at s y).number → (at s x).valid ≡ true → (at s y).valid ≡ true
      → Meets o h t s x a → Meets o h t s y b
      → (is_active ty.g ≡ true → (is_active a.g ≡ true) ⊎ (is_active b.g ≡ true)) → (is_local ty.g ≡ true → (is_local a.g ≡ true) ⊎ (is_local b.g ≡ true))
      → ((l : Option ℕ) → stands a.m l ≡ true → stands b.m l ≡ true → stands ty.m l ≡ true) → Meets o h t s x ty
  eq_side x y a b ty same vx vy mx my a_of l_of m_of nonnull =
      let fx = mx nonnull in
      let fy = my (λ z. nonnull (same ∙ z)) in
      record {
        somewhere = m_of (location o h t (at s x).number) fx.somewhere (subst (λ n. stands b.m (location o h t n) ≡ true) (sym same) fy.somewhere);
        safe = λ g. vx;
        active = λ g. elim (a_of g) [ inl ga ↦ fx.active ga | inr gb ↦ subst (λ n. is_retired s n ≡ false) (sym same) (fy.active gb) ];
        alone = λ g r ne valid is. elim (l_of g) [
          | inl ga ↦ fx.alone ga r ne valid is
          | inr gb ↦ elim (cases_place r y) [
            | inl at_y ↦ fy.alone gb x (λ e. ne (at_y ∙ sym e)) vx same
            | inr ne' ↦ fy.alone gb r ne' valid (is ∙ same)
          ]
        ];
      }

  pub own_eq : (p q v : Var) (a : ℕ) → race_of s t (Eq p q) ≡ None → goes s t a (Eq p q) ≡ true → Meets o h t s (place t v) (effect o e (Eq p q) v)
  own_eq p q v a fine may =
      let same = same_number (at s (place t p)) (at s (place t q)) may in
      let valid = and_parts (at s (place t p)).valid (at s (place t q)).valid (valid_if ((at s (place t p)).valid && (at s (place t q)).valid) Compare fine) in
      let ty = equal_type (type_of e p) (type_of e q) in
      pick_two t v p q (λ v ty. Meets o h t s (place t v) ty) ty (type_of e v)
      (eq_side (place t p) (place t q) (type_of e p) (type_of e q) ty same valid.0 valid.1 (here.met.pointers p) (here.met.pointers q) (either_active (type_of e p).g (type_of e q).g) (either_local (type_of e p).g (type_of e q).g) (stands_meet (type_of e p).m (type_of e q).m))
      (eq_side (place t q) (place t p) (type_of e q) (type_of e p) ty (sym same) valid.1 valid.0 (here.met.pointers q) (here.met.pointers p) (λ g. swapped (either_active (type_of e p).g (type_of e q).g g)) (λ g. swapped (either_local (type_of e p).g (type_of e q).g g)) (λ l hb ha. stands_meet (type_of e p).m (type_of e q).m l ha hb))
      (λ ne ne'. here.met.pointers v)

  -- a test that holds of a null pointer
  pub own_is_null : (p v : Var) (a : ℕ) → goes s t a (IsNull p) ≡ true → Meets o h t s (place t v) (effect o e (IsNull p) v)
  own_is_null p v a may =
      pick t v p (λ v ty. Meets o h t s (place t v) ty) null_type (type_of e v)
      (λ nonnull. absurd (nonnull (eqb-true (at s (place t p)).number 0 may)))
      (λ ne. here.met.pointers v)

  -- active p, where the claim is true
  pub own_active : (p v : Var) → IsActive s (cell_at s t p) → Meets o h t s (place t v) (effect o e (Active p) v)
  own_active p v claim =
      pick t v p (λ v ty. Meets o h t s (place t v) ty) (active_type o (type_of e p)) (type_of e v)
      (λ nonnull. let f = here.met.pointers p nonnull in let n = (at s (place t p)).number in record {
        somewhere = stands_meet (type_of e p).m (unretired o) (location o h t n) f.somewhere (reads_unretired n (is_not_null n nonnull) (claim nonnull).1);
        safe = λ g. (claim nonnull).0;
        active = λ g. (claim nonnull).1;
        alone = λ g. f.alone (claimed_local (type_of e p).g g);
      })
      (λ ne. here.met.pointers v)

  -- an event of the thread itself: an address goes by its letter
  module _ (ev : Event) (live : (a : ℕ) → 0 < a → Live o (location o (h ++ ev ∷ []) t a)) (kind : EvKind) where
    pub stepped : (on_it : Bool) (m a : ℕ) → 0 < a → ((l : ℕ) → step_by o t a ev l ≡ step o l kind true on_it) → stands m (location o h t a) ≡ true → stands (step_set o m kind true on_it) (location o (h ++ ev ∷ []) t a) ≡ true
    stepped on_it m a pos reads h_in =
        let lv = stands_where a pos in
        let to : location o (h ++ ev ∷ []) t a ≡ step o lv.0 kind true on_it = location_longer o h ev t a ∙ ap (advance o t a ev) lv.1 ∙ reads lv.0 in
        stands_step o m lv.0 kind true on_it (location o (h ++ ev ∷ []) t a) lv.2 (sym (ap (stands m) lv.1) ∙ h_in) (sym to) (live a pos)

    -- it may be on this address or on another
    pub stepped_either : (b : Bool) (m a : ℕ) → 0 < a → ((l : ℕ) → step_by o t a ev l ≡ step o l kind true b) → stands m (location o h t a) ≡ true → stands (on_either o kind m) (location o (h ++ ev ∷ []) t a) ≡ true
    stepped_either true m a pos reads h_in = stands_left (on_this o kind m) (on_other o kind m) (location o (h ++ ev ∷ []) t a) (stepped true m a pos reads h_in)
    stepped_either false m a pos reads h_in = stands_right (on_this o kind m) (on_other o kind m) (location o (h ++ ev ∷ []) t a) (stepped false m a pos reads h_in)

    -- the memory and the guarantees stay
    pub moved : (p : Place) (ty : PtrType) (m : ℕ) → Meets o h t s p ty → (((at s p).number ≡ 0 → ⊥) → stands ty.m (location o h t (at s p).number) ≡ true → stands m (location o (h ++ ev ∷ []) t (at s p).number) ≡ true) → Meets o (h ++ ev ∷ []) t s p (record { g = ty.g; m = m })
    moved p ty m before leads nonnull =
        let f = before nonnull in
        record { somewhere = leads nonnull f.somewhere; safe = f.safe; active = f.active; alone = f.alone }

  -- how a call reads for an address
  pub reads_call : (f : FuncId) (b : Option ℕ) (a : ℕ) (on_it : Bool) → is_this b a ≡ on_it → (l : ℕ) → step_by o t a (Called t f b) l ≡ step o l (events.Call f) true on_it
  reads_call f b a on_it is l = rw (eq-eqb t t refl, is) refl

  pub reads_return : (f : FuncId) (a l : ℕ) → step_by o t a (Returned t f) l ≡ step o l (events.Done f) true false
  reads_return f a l = rw (eq-eqb t t refl) refl

  -- a call that names no address, and a return: every address reads other
  pub own_other : (ev : Event) (kind : EvKind) → ((a l : ℕ) → step_by o t a ev l ≡ step o l kind true false) → ((a : ℕ) → 0 < a → Live o (location o (h ++ ev ∷ []) t a)) → (v : Var) → Meets o (h ++ ev ∷ []) t s (place t v) (other_type o kind (type_of e v))
  own_other ev kind reads live v =
      moved ev live kind (place t v) (type_of e v) (on_other o kind (type_of e v).m) (here.met.pointers v) (λ nonnull h_in. stepped ev live kind false (type_of e v).m (at s (place t v)).number (is_not_null _ nonnull) (reads (at s (place t v)).number) h_in)

  pub own_other_anywhere : (ev : Event) (kind : EvKind) → ((a l : ℕ) → step_by o t a ev l ≡ step o l kind true false) → ((a : ℕ) → 0 < a → Live o (location o (h ++ ev ∷ []) t a)) → (a : ℕ) → 0 < a → stands (on_other o kind e.w) (location o (h ++ ev ∷ []) t a) ≡ true
  own_other_anywhere ev kind reads live a pos = stepped ev live kind false e.w a pos (reads a) (here.met.addresses a pos)

  pub own_call_anywhere : (f : FuncId) (n : ℕ) → ((a : ℕ) → 0 < a → Live o (location o (h ++ Called t f (Some n) ∷ []) t a)) → (a : ℕ) → 0 < a → stands (on_either o (events.Call f) e.w) (location o (h ++ Called t f (Some n) ∷ []) t a) ≡ true
  own_call_anywhere f n live a pos = stepped_either (Called t f (Some n)) live (events.Call f) (is_this (Some n) a) e.w a pos (reads_call f (Some n) a (is_this (Some n) a) refl) (here.met.addresses a pos)

  -- the address with which a function is called
  pub on_itself : (n : ℕ) → (n ≡ 0 → ⊥) → is_this (Some n) n ≡ true
  on_itself n nonnull = and_from _ _ (eq-eqb n n refl) (not_from_false _ (ne_eqb n 0 nonnull))

  -- a call of another function than `retire`
  pub own_call : (f : FuncId) (p v : Var) → is_retire f ≡ false → ((a : ℕ) → 0 < a → Live o (location o (h ++ Called t f (Some (at s (place t p)).number) ∷ []) t a)) → Meets o (h ++ Called t f (Some (at s (place t p)).number) ∷ []) t s (place t v) (effect o e (Call f (args.Var p)) v)
  own_call f p v other live =
      let n = (at s (place t p)).number in
      let ev = Called t f (Some n) in
      let kind = events.Call f in
      let mine : PtrType = record { g = (type_of e p).g; m = on_this o kind (type_of e p).m } in
      let beside : PtrType = record { g = (type_of e v).g; m = on_either o kind (type_of e v).m } in
      rw other (pick t v p (λ v ty. Meets o (h ++ ev ∷ []) t s (place t v) ty) mine beside
      (moved ev live kind (place t p) (type_of e p) (on_this o kind (type_of e p).m) (here.met.pointers p) (λ nonnull h_in. stepped ev live kind true (type_of e p).m n (is_not_null n nonnull) (reads_call f (Some n) n true (on_itself n nonnull)) h_in))
      (λ ne. moved ev live kind (place t v) (type_of e v) (on_either o kind (type_of e v).m) (here.met.pointers v) (λ nonnull h_in.
      let k = (at s (place t v)).number in
      stepped_either ev live kind (is_this (Some n) k) (type_of e v).m k (is_not_null k nonnull) (reads_call f (Some n) k (is_this (Some n) k) refl) h_in)))

  -- retire(p)
  pub own_retire : (f : FuncId) (p v : Var) → is_retire f ≡ true → (at s (place t p)).valid ≡ true → ((at s (place t p)).number ≡ 0 → ⊥)
      → IsObserved o threads (with_retired s (at s (place t p)).number) (h ++ Called t f (Some (at s (place t p)).number) ∷ [])
      → Meets o (h ++ Called t f (Some (at s (place t p)).number) ∷ []) t (with_retired s (at s (place t p)).number) (place t v) (effect o e (Call f (args.Var p)) v)
  own_retire f p v is_it valid nonnull seen' =
      let n = (at s (place t p)).number in
      let ev = Called t f (Some n) in
      let kind = events.Call f in
      let h' = h ++ ev ∷ [] in
      let s' = with_retired s n in
      let live : (a : ℕ) → 0 < a → Live o (location o h' t a) = λ a pos. seen'.live t a here.small pos in
      let was = retires s n in
      let same = was.pointers in
      let mine : PtrType = record { g = no_active (type_of e p).g; m = on_this o kind (type_of e p).m } in
      rw is_it (pick t v p (λ v ty. Meets o h' t s' (place t v) ty) mine (beside_retired o f (type_of e v))
      (λ _. let fp = here.met.pointers p nonnull in subst (λ c. Fits o h' t s' (place t p) c mine) (sym (same (place t p))) (record {
        somewhere = stepped ev live kind true (type_of e p).m n (is_not_null n nonnull) (reads_call f (Some n) n true (on_itself n nonnull)) fp.somewhere;
        safe = λ g. valid;
        active = λ g. absurd (no_active_not (type_of e p).g g);
        alone = λ g. absurd (no_active_local (type_of e p).g g);
      }))
      (λ ne nonnull'.
      let k = (at s (place t v)).number in
      let nonnull'' : k ≡ 0 → ⊥ = λ z. nonnull' (ap (λ (c : Cell). c.number) (same (place t v)) ∙ z) in
      let fv = here.met.pointers v nonnull'' in
      let pos = is_not_null k nonnull'' in
      let where_to = stepped_either ev live kind (is_this (Some n) k) (type_of e v).m k pos (reads_call f (Some n) k (is_this (Some n) k) refl) fv.somewhere in
      subst (λ c. Fits o h' t s' (place t v) c (beside_retired o f (type_of e v))) (sym (same (place t v)))
      (elim (cases_Bool (is_local (type_of e v).g)) [
        | inl is_l ↦
            let other : n ≡ k → ⊥ = λ is. fv.alone is_l (place t p) (λ x. ne (sym x)) valid is in
            let still : is_retired s' k ≡ false = was.retired k ∙ (rw (ne_eqb n k other, fv.active (local_active (type_of e v).g is_l)) refl) in
            rw is_l (record {
              somewhere = stands_meet (on_either o kind (type_of e v).m) (unretired o) (location o h' t k) where_to (stands_unretired o (location o h' t k) (live k pos) (sym (seen'.retired t k here.small pos) ∙ still));
              safe = fv.safe;
              active = λ g. still;
              alone = λ g r ne' vr is. fv.alone g r ne' (ap (λ (c : Cell). c.valid) (sym (same r)) ∙ vr) (ap (λ (c : Cell). c.number) (sym (same r)) ∙ is);
            })
        | inr no_l ↦ rw no_l (record {
          somewhere = where_to;
          safe = λ g. fv.safe (no_active_safe (type_of e v).g g);
          active = λ g. absurd (no_active_not (type_of e v).g g);
          alone = λ g. absurd (no_active_local (type_of e v).g g);
        })
      ])))
