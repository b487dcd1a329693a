-- What other threads and the reclaimer do: a calm environment stays met.
use Rattle.std.proofs.Common.{◌≡◌, ℕ, ◌+◌, ◌<◌, Bool, true, false, not, ◌&&◌, ◌||◌, ◌==◌, List, [], ◌∷◌, ◌++◌, Option, Some, None, refl, sym, ap, ◌∙◌, subst, subst₂, arith, inl, inr}
use Rattle.std.proofs.lemmas.Bool.{cases_eq, eq-eqb, ne_eqb, cases_Bool, and_parts, and_from, not-true, not_from_false, both_ways}
use Rattle.plc_base.specs.declared.ids.FuncId.{FuncId}
use Rattle.plc_base.proofs.MaskLemmas.{within-has}
use Rattle.plc_lang.specs.declared.syntax.Var.{Var}
use Rattle.plc_lang.specs.declared.syntax.Var.TheVariants.{Shared, Local}
use Rattle.plc_lang.specs.declared.syntax.Arg.{Arg}
use Rattle.plc_lang.specs.declared.syntax.Arg.TheVariants as args
use Rattle.plc_lang.specs.declared.syntax.Primitive.{Primitive}
use Rattle.plc_lang.specs.declared.syntax.Primitive.TheVariants.{Null, Copy, New, Load, Store, StoreNull, DataSet, DataLoad, DataStore, Refresh, RefreshLoad, RefreshStore, Call, Done}
use Rattle.plc_lang.specs.declared.syntax.Primitive.TheVariants.{Mark, Unmark}
use Rattle.plc_auto.specs.declared.event.Event.{Event}
use Rattle.plc_auto.specs.declared.event.Event.TheVariants.{Call as Called, Done as Returned, Free as Freed}
use Rattle.plc_auto.specs.declared.event.EvKind.{EvKind}
use Rattle.plc_auto.specs.declared.event.EvKind.TheVariants as events
use Rattle.plc_auto.specs.declared.observer.Observer.{Observer}
use Rattle.plc_auto.specs.Table.{step, is_well_formed}
use Rattle.plc_base.specs.Functions.{is_retire}
use Rattle.plc_auto.specs.Location.{location, step_by, advance, is_this}
use Rattle.plc_auto.specs.Sets.{safe, happens}
use Rattle.plc_auto.specs.Laws.{is_retirement}
use Rattle.plc_auto.proofs.Histories.{location_longer}
use Rattle.plc_auto.proofs.Letters.{safe_is_kept}
use Rattle.plc_mem.specs.declared.cell.Cell.{Cell}
use Rattle.plc_mem.specs.declared.cell.RaceKind.TheVariants.{Deref}
use Rattle.plc_mem.specs.State.{State, Place, at_shared, at_local, at_field, null_cell, fresh_cell, at, place, is_used, is_retired, with_node, with_retired, freed}
use Rattle.plc_mem.specs.State.{marked_cell}
use Rattle.plc_mem.specs.Primitives.{race_of_call, goes_call, after_call, address_of, race_of, goes, after, event_of}
use Rattle.plc_mem.specs.Laws.{WasFreed}
use Rattle.plc_mem.proofs.Views.{writes_local, writes_field, retires, frees}
use Rattle.plc_run.specs.Run.{Fine, recorded, execute}
use Rattle.plc_run.specs.Observed.{IsObserved}
use Rattle.plc_run.proofs.Observed.{observed}
use Rattle.plc_type.specs.declared.guarantee.Guar.{Guar}
use Rattle.plc_type.specs.declared.env.PtrType.{PtrType}
use Rattle.plc_type.specs.declared.env.Env.{Env}
use Rattle.plc_type.specs.Guarantees.{nothing, is_safe, is_local}
use Rattle.plc_type.specs.Types.{bare}
use Rattle.plc_xfer.specs.Rules.{type_of}
use Rattle.plc_sound.specs.Meaning.{stands, Fits, Meets, EnvMet}
use Rattle.plc_sound.specs.Calm.{TypeIsCalm, IsCalm, may_happen}
use Rattle.plc_sound.proofs.Sets.{Live}
use Rattle.plc_sound.proofs.Kept.{Writes, put_writes, kept, stayed, bare_met, local_safe}
use Rattle.plc_sound.proofs.Own.{Here, variable_there, new_writes, field_there, valid_if, not_zero, is_not_null}
use Rattle.plc_sound.proofs.Step.{retire_valid, and-false, fine_parts}

-- ---- what a primitive that succeeded did, for the threads that it isn't

-- a place that thread t may read or write: no local of another thread
abbrev pub Mine : ℕ → Place → Type 0
Mine t (at_local u v) = u ≡ t
Mine t (at_shared i) = Unit {0}
Mine t (at_field a f) = Unit {0}

mine : (t : ℕ) (v : Var) → Mine t (place t v)
mine t (Shared i) = tt
mine t (Local v) = refl

-- how thread u hears an event of thread t: as another's, and as no retirement of an address
pub record IsQuiet (o : Observer) (t : ℕ) (e : Event) : Type 0 where
  pub kind : EvKind
  pub on_it : ℕ → Bool
  pub reads : (u a l : ℕ) → (t ≡ u → ⊥) → step_by o u a e l ≡ step o l kind false (on_it a)
  pub happens_so : (b with_free : Bool) → happens with_free kind b ≡ true
  pub no_retirement : (a : ℕ) → (is_retirement kind && on_it a) ≡ false

-- each kind of change: a cell copied to a place, with a mark of its own, null put there, a fresh node, nothing, an
-- event that retires no address, a retirement
pub data Did (o : Observer) (t : ℕ) (s s' : State) (ev : Option Event) : Type 0 where
  wrote : (p r : Place) (m : Bool) → Mine t p → Mine t r → Writes s p (marked_cell m (at s r)) s' → ev ≡ None
      → Did o t s s' ev
  nulled : (p : Place) → Mine t p → Writes s p null_cell s' → ev ≡ None → Did o t s s' ev
  made : (p : Place) (a : ℕ) → Mine t p → is_used s a ≡ false → Writes s p (fresh_cell a) s' → ev ≡ None → Did o t s s' ev
  kept_all : ((q : Place) → at s' q ≡ at s q) → ((a : ℕ) → is_retired s' a ≡ is_retired s a) → ev ≡ None → Did o t s s' ev
  spoke : (e : Event) → IsQuiet o t e → s' ≡ s → ev ≡ Some e → Did o t s s' ev
  gave : (f : FuncId) (p : Place) → Mine t p → is_retire f ≡ true → (at s p).valid ≡ true → ((at s p).number ≡ 0 → ⊥) → s' ≡ with_retired s (at s p).number → ev ≡ Some (Called t f (Some (at s p).number)) → Did o t s s' ev

quiet_call : (o : Observer) (t : ℕ) (f : FuncId) (b : Option ℕ) → ((a : ℕ) → (is_retire f && is_this b a) ≡ false) → IsQuiet o t (Called t f b)
quiet_call o t f b spared = record {
  kind = events.Call f;
  on_it = λ a. is_this b a;
  reads = λ u a l ne. rw (ne_eqb t u ne) refl;
  happens_so = λ b with_free. refl;
  no_retirement = spared;
}

quiet_return : (o : Observer) (t : ℕ) (f : FuncId) → IsQuiet o t (Returned t f)
quiet_return o t f = record {
  kind = events.Done f;
  on_it = λ a. false;
  reads = λ u a l ne. rw (ne_eqb t u ne) refl;
  happens_so = λ b with_free. refl;
  no_retirement = λ a. refl;
}

module _ (o : Observer) (threads : ℕ) (h : List Event) (t : ℕ) (s : State) (seen : IsObserved o threads s h) where
  did_call : (f : FuncId) (r : Arg) (b : Bool) → is_retire f ≡ b → race_of_call s t b r ≡ None → goes_call s t b r ≡ true → Did o t s (after_call s t b r) (Some (Called t f (address_of s t r)))
  did_call f args.None true is fine may = spoke (Called t f None) (quiet_call o t f None (λ a. and-false (is_retire f))) refl refl
  did_call f args.Null true is fine may = spoke (Called t f (Some 0)) (quiet_call o t f (Some 0) (λ a. rw (and-false (0 == a)) (and-false (is_retire f)))) refl refl
  did_call f (args.Var p) true is fine may = gave f (place t p) (mine t p) is (retire_valid (at s (place t p)).valid (is_retired s (at s (place t p)).number) fine) (not_zero (at s (place t p)).number may) refl refl
  did_call f r false is fine may = spoke (Called t f (address_of s t r)) (quiet_call o t f (address_of s t r) (λ a. rw is refl)) refl refl

  did : (a : ℕ) (k : Primitive) → race_of s t k ≡ None → goes s t a k ≡ true → Did o t s (after s t a k) (event_of s t k)
  did a (Null p) fine may = nulled (place t p) (mine t p) (put_writes s (place t p) null_cell (variable_there s t p)) refl
  did a (Copy p q) fine may = wrote (place t p) (place t q) _ (mine t p) (mine t q) (put_writes s (place t p) (at s (place t q)) (variable_there s t p)) refl
  did a (New p) fine may =
      let unused = not-true (is_used s a) (and_parts (not (a == 0)) (not (is_used s a)) may).1 in
      made (place t p) a (mine t p) unused (new_writes s a (place t p) unused (variable_there (with_node s a) t p)) refl
  did a (Load p q f) fine may =
      let r = at_field (at s (place t q)).number f.0 in
      wrote (place t p) r _ (mine t p) tt (put_writes s (place t p) (at s r) (variable_there s t p)) refl
  did a (Store p f q) fine may =
      let x = at_field (at s (place t p)).number f.0 in
      wrote x (place t q) _ tt (mine t q) (put_writes s x (at s (place t q)) (field_there seen (place t p) f.0 (valid_if _ Deref fine) may)) refl
  did a (StoreNull p f) fine may =
      let x = at_field (at s (place t p)).number f.0 in
      nulled x tt (put_writes s x null_cell (field_there seen (place t p) f.0 (valid_if _ Deref fine) may)) refl
  did a (DataSet x n) fine may = let w = writes_local s t x _ in kept_all w.pointers w.addresses.retired refl
  did a (DataLoad x q f) fine may = let w = writes_local s t x _ in kept_all w.pointers w.addresses.retired refl
  did a (DataStore p f n) fine may = let w = writes_field s (at s (place t p)).number f.0 _ (field_there seen (place t p) f.0 (valid_if _ Deref fine) may) in kept_all w.pointers w.addresses.retired refl
  did a (Refresh p q) fine may = wrote (at_local t p) (place t q) _ refl (mine t q) (put_writes s (at_local t p) (at s (place t q)) refl) refl
  did a (RefreshLoad p q f) fine may =
      let r = at_field (at s (place t q)).number f.0 in
      wrote (at_local t p) r _ refl tt (put_writes s (at_local t p) (at s r) refl) refl
  did a (RefreshStore p f q) fine may =
      let x = at_field (at s (place t p)).number f.0 in
      wrote x (place t q) _ tt (mine t q) (put_writes s x (at s (place t q)) (field_there seen (place t p) f.0 (valid_if _ Deref fine) (and_parts _ _ may).0)) refl
  did a (Mark p q) fine may =
      wrote (place t p) (place t q) true (mine t p) (mine t q)
      (put_writes s (place t p) (marked_cell true (at s (place t q))) (variable_there s t p)) refl
  did a (Unmark p q) fine may =
      wrote (place t p) (place t q) false (mine t p) (mine t q)
      (put_writes s (place t p) (marked_cell false (at s (place t q))) (variable_there s t p)) refl
  did a (Call f r) fine may = did_call f r (is_retire f) refl fine may
  did a (Done f) fine may = spoke (Returned t f) (quiet_return o t f) refl refl
  did a k fine may = kept_all (λ q. refl) (λ a. refl) refl

-- ---- what it means for a calm environment of thread u

-- an event, heard as something that may happen, leaves an address in a calm set
pub stands_on : (o : Observer) (ty : PtrType) → TypeIsCalm o ty → (h : List Event) (u a : ℕ) (ev : Event) (kind : EvKind) (on_it : Bool) → ((l : ℕ) → step_by o u a ev l ≡ step o l kind false on_it)
    → may_happen ty.g kind on_it ≡ true → Live o (location o h u a) → Live o (location o (h ++ ev ∷ []) u a) → stands ty.m (location o h u a) ≡ true → stands ty.m (location o (h ++ ev ∷ []) u a) ≡ true
stands_on o ty calm h u a ev kind on_it reads may before after h_in =
    let to : step o before.0 kind false on_it ≡ Some after.0 = sym (location_longer o h ev u a ∙ ap (advance o u a ev) before.1 ∙ reads before.0) ∙ after.1 in
    ap (stands ty.m) after.1 ∙ calm.closed before.0 after.0 kind on_it (sym (ap (stands ty.m) before.1) ∙ h_in) may to

-- what a calm type allows of a call or a return
pub may_quietly : (g : Guar) (kind : EvKind) (on_it : Bool) → ((with_free : Bool) → happens with_free kind on_it ≡ true) → (is_local g ≡ true → (is_retirement kind && on_it) ≡ false) → may_happen g kind on_it ≡ true
may_quietly g kind on_it happens_so spared = and_from (happens (not (is_safe g)) kind on_it) (not (is_local g && (is_retirement kind && on_it))) (happens_so (not (is_safe g))) (go (is_local g) spared)
  where
    go : (l : Bool) → (l ≡ true → (is_retirement kind && on_it) ≡ false) → not (l && (is_retirement kind && on_it)) ≡ true
    go true f = not_from_false _ (f refl)
    go false f = refl

module _ (o : Observer) (threads : ℕ) (h : List Event) (t u : ℕ) (apart : t ≡ u → ⊥) (s s' : State) (e : Env) (calm : IsCalm o e) (here : Here o threads h u s e) where
  not_mine : (p : Place) (v : ℕ) → Mine t p → at_local u v ≡ p → ⊥
  not_mine (at_shared i) v m is = cc
  not_mine (at_field a f) v m is = cc
  not_mine (at_local w x) v m is = apart (let e : u ≡ w = cc in sym (e ∙ m))

  -- the environment is met where each local meets its type: of shared pointers it says nothing
  from_locals : (g : List Event) (z : State) → ((a : ℕ) → 0 < a → stands e.w (location o g u a) ≡ true) → ((v : ℕ) → Meets o g u z (at_local u v) (type_of e (Local v))) → EnvMet o g u z e
  from_locals g z all each = record {
    pointers = elim [
      | Shared i ↦ subst (λ ty. Meets o g u z (at_shared i) ty) (sym (calm.shared i)) (bare_met (at_shared i) (at z (at_shared i)) e.w all)
      | Local v ↦ each v
    ];
    addresses = all;
  }

  -- an event that retires no local node
  said : (x : Event) (kind : EvKind) (on_it : ℕ → Bool) → ((a l : ℕ) → step_by o u a x l ≡ step o l kind false (on_it a)) → ((b with_free : Bool) → happens with_free kind b ≡ true)
      → ((v : ℕ) → ((at s (at_local u v)).number ≡ 0 → ⊥) → is_local (type_of e (Local v)).g ≡ true → (is_retirement kind && on_it (at s (at_local u v)).number) ≡ false)
      → ((a : ℕ) → 0 < a → Live o (location o (h ++ x ∷ []) u a)) → EnvMet o (h ++ x ∷ []) u s e
  said x kind on_it reads happens_so spared live = from_locals (h ++ x ∷ []) s
      (λ a pos. stands_on o (bare e.w) calm.anywhere h u a x kind (on_it a) (reads a) (may_quietly nothing kind (on_it a) (happens_so (on_it a)) (λ g. cc)) (here.seen.live u a here.small pos) (live a pos) (here.met.addresses a pos))
      (λ v nonnull.
      let n = (at s (at_local u v)).number in
      let f = here.met.pointers (Local v) nonnull in
      let ty = type_of e (Local v) in
      let pos = is_not_null n nonnull in
      record {
        somewhere = stands_on o ty (calm.locals v) h u n x kind (on_it n) (reads n) (may_quietly ty.g kind (on_it n) (happens_so (on_it n)) (spared v nonnull)) (here.seen.live u n here.small pos) (live n pos) f.somewhere;
        safe = f.safe;
        active = f.active;
        alone = f.alone;
      })

  -- a retirement of another address changes no cell, and only the retired set
  retired_now : (n : ℕ) (g : List Event) → ((v : ℕ) → ((at s (at_local u v)).number ≡ 0 → ⊥) → is_local (type_of e (Local v)).g ≡ true → n ≡ (at s (at_local u v)).number → ⊥) → EnvMet o g u s e → EnvMet o g u (with_retired s n) e
  retired_now n g other now =
      let was = retires s n in
      let same = was.pointers in
      from_locals g (with_retired s n) now.addresses (λ v nonnull.
      let nonnull' : (at s (at_local u v)).number ≡ 0 → ⊥ = λ z. nonnull (ap (λ (c : Cell). c.number) (same (at_local u v)) ∙ z) in
      let f = now.pointers (Local v) nonnull' in
      let k = (at s (at_local u v)).number in
      subst (λ c. Fits o g u (with_retired s n) (at_local u v) c (type_of e (Local v))) (sym (same (at_local u v))) (record {
        somewhere = f.somewhere;
        safe = f.safe;
        active = λ g. was.retired k ∙ (rw (ne_eqb n k (other v nonnull' ((calm.locals v).active_local g)), f.active g) refl);
        alone = λ g r ne valid is. f.alone g r ne (ap (λ (c : Cell). c.valid) (sym (same r)) ∙ valid) (ap (λ (c : Cell). c.number) (sym (same r)) ∙ is);
      }))

  pub foreign_did : (ev : Option Event) → Did o t s s' ev → ((a : ℕ) → 0 < a → Live o (location o (recorded h ev) u a)) → EnvMet o (recorded h ev) u s' e
  foreign_did ev (wrote p r m mp mr w is) live = rw is (from_locals h s' here.met.addresses (λ v. kept w (at_local u v) (type_of e (Local v)) (not_mine p v mp) (here.met.pointers (Local v))
      (λ g nonnull valid same. (here.met.pointers (Local v) nonnull).alone g r (λ x. not_mine r v mr (sym x)) valid same)))
  foreign_did ev (nulled p mp w is) live = rw is (from_locals h s' here.met.addresses (λ v. kept w (at_local u v) (type_of e (Local v)) (not_mine p v mp) (here.met.pointers (Local v)) (λ g nonnull valid same. nonnull (sym same))))
  foreign_did ev (made p a mp unused w is) live = rw is (from_locals h s' here.met.addresses (λ v. kept w (at_local u v) (type_of e (Local v)) (not_mine p v mp) (here.met.pointers (Local v))
      (λ g nonnull valid same. both_ways (is_used s a) unused (subst (λ n. is_used s n ≡ true) (sym same) ((here.seen.coherent.cells (at_local u v)).used ((here.met.pointers (Local v) nonnull).safe (local_safe (type_of e (Local v)).g g)) (ne_eqb _ 0 nonnull))))))
  foreign_did ev (kept_all same retired is) live = rw is (from_locals h s' here.met.addresses (λ v. stayed same retired (at_local u v) (type_of e (Local v)) (here.met.pointers (Local v))))
  foreign_did ev (spoke x quiet is said_so) live = rw (is, said_so) (said x quiet.kind quiet.on_it (λ a l. quiet.reads u a l apart) quiet.happens_so (λ v nonnull g. quiet.no_retirement (at s (at_local u v)).number)
      (λ a pos. subst (λ h'. Live o (location o h' u a)) (ap (recorded h) said_so) (live a pos)))
  foreign_did ev (gave f p mp is_it valid nonnull is said_so) live =
      let n = (at s p).number in
      let x = Called t f (Some n) in
      let other : (v : ℕ) → ((at s (at_local u v)).number ≡ 0 → ⊥) → is_local (type_of e (Local v)).g ≡ true → n ≡ (at s (at_local u v)).number → ⊥ =
      λ v nonnull' g same. (here.met.pointers (Local v) nonnull').alone g p (λ y. not_mine p v mp (sym y)) valid same in
      rw (is, said_so) (retired_now n (h ++ x ∷ []) other (said x (events.Call f) (λ a. is_this (Some n) a) (λ a l. rw (ne_eqb t u apart) refl) (λ b with_free. refl)
      (λ v nonnull' g. rw (ne_eqb n (at s (at_local u v)).number (other v nonnull' g)) (and-false (is_retire f)))
      (λ a pos. subst (λ h'. Live o (location o h' u a)) (ap (recorded h) said_so) (live a pos))))

-- a whole step of another thread
pub foreign_step : (o : Observer) → is_well_formed o ≡ true → (threads t u a : ℕ) → (t ≡ u → ⊥) → (ks : List Primitive) (n : ℕ) (h : List Event) (s : State) (e : Env) → IsCalm o e → Here o threads h u s e → (s' : State) (h' : List Event) → execute s h t a n ks ≡ Fine s' h' → EnvMet o h' u s' e
foreign_step o w threads t u a apart [] n h s e calm here s' h' is =
    let se : s ≡ s' = cc in let he : h ≡ h' = cc in
    subst₂ (λ h s. EnvMet o h u s e) he se here.met
foreign_step o w threads t u a apart (k ∷ ks) n h s e calm here s' h' is =
    let parts = fine_parts (race_of s t k) (goes s t a k) n (execute (after s t a k) (recorded h (event_of s t k)) t a (n + 1) ks) s' h' is in
    let seen' = (observed o w threads).by_primitive s h t a k parts.0 parts.1 here.seen in
    let met' = foreign_did o threads h t u apart s (after s t a k) e calm here (event_of s t k) (did o threads h t s here.seen a k parts.0 parts.1) (λ a pos. seen'.live u a here.small pos) in
    foreign_step o w threads t u a apart ks (n + 1) (recorded h (event_of s t k)) (after s t a k) e calm (record { small = here.small; met = met'; seen = seen' }) s' h' parts.2

-- ---- frees

-- how a free is heard, and what a calm type allows of it
may_free : (g : Guar) (b : Bool) → (is_safe g ≡ true → b ≡ false) → may_happen g events.Free b ≡ true
may_free g b f = and_from (not (is_safe g) || not b) (not (is_local g && false)) (go (is_safe g) b f) (ap not (and-false (is_local g)))
  where
    go : (s b : Bool) → (s ≡ true → b ≡ false) → (not s || not b) ≡ true
    go false b f = refl
    go true b f = rw (f refl) refl

pub free_met : (o : Observer) (threads : ℕ) (h : List Event) (u : ℕ) (s : State) (a : ℕ) (e : Env) → 0 < a → IsCalm o e → Here o threads h u s e → ((b : ℕ) → 0 < b → Live o (location o (h ++ Freed a ∷ []) u b)) → EnvMet o (h ++ Freed a ∷ []) u (freed s a) e
free_met o threads h u s a e pos calm here live = record {
  pointers = elim [
    | Shared i ↦ subst (λ ty. Meets o h' u (freed s a) (at_shared i) ty) (sym (calm.shared i)) (bare_met (at_shared i) (at (freed s a) (at_shared i)) e.w all)
    | Local v ↦ local v
  ];
  addresses = all;
}
  where
    h' : List Event
    h' = h ++ Freed a ∷ []

    was : WasFreed s a (freed s a)
    was = frees s a pos

    all : (b : ℕ) → 0 < b → stands e.w (location o h' u b) ≡ true
    all b one = stands_on o (bare e.w) calm.anywhere h u b (Freed a) events.Free (is_this (Some a) b) (λ l. refl) (may_free nothing (is_this (Some a) b) (λ g. cc)) (here.seen.live u b here.small one) (live b one) (here.met.addresses b one)

    -- a place that is valid now was so, or is null
    valid_before : (q : Place) → (at (freed s a) q).valid ≡ true → (n : ℕ) → 0 < n → (at (freed s a) q).number ≡ n → ((at s q).valid ≡ true) × ((at s q).number ≡ n)
    valid_before (at_shared i) valid n one is = let c = was.shared i in ((and_parts _ _ (ap (λ (c : Cell). c.valid) (sym c) ∙ valid)).0, ap (λ (c : Cell). c.number) (sym c) ∙ is)
    valid_before (at_local t v) valid n one is = let c = was.locals t v in ((and_parts _ _ (ap (λ (c : Cell). c.valid) (sym c) ∙ valid)).0, ap (λ (c : Cell). c.number) (sym c) ∙ is)
    valid_before (at_field b f) valid n one is = elim (cases_eq b a) [
      | inl e ↦ (let z : 0 ≡ n = sym (ap (λ (c : Cell). c.number) (ap (λ b. at (freed s a) (at_field b f)) e ∙ was.gone f)) ∙ is in absurd (omega (arith, z)))
      | inr ne ↦ (let c = was.fields b f ne in ((and_parts _ _ (ap (λ (c : Cell). c.valid) (sym c) ∙ valid)).0, ap (λ (c : Cell). c.number) (sym c) ∙ is))
    ]

    local : (v : ℕ) → Meets o h' u (freed s a) (at_local u v) (type_of e (Local v))
    local v nonnull =
        let same = was.locals u v in
        let n = (at s (at_local u v)).number in
        let nonnull' : n ≡ 0 → ⊥ = λ z. nonnull (ap (λ (c : Cell). c.number) same ∙ z) in
        let one = is_not_null n nonnull' in
        let f = here.met.pointers (Local v) nonnull' in
        let ty = type_of e (Local v) in
        let before = here.seen.live u n here.small one in
        let after = live n one in
        let to : step o before.0 events.Free false (is_this (Some a) n) ≡ Some after.0 = sym (location_longer o h (Freed a) u n ∙ ap (advance o u n (Freed a)) before.1) ∙ after.1 in
        -- with S the address isn't this one, since the free would lead to `bad`
        let other : is_safe ty.g ≡ true → is_this (Some a) n ≡ false = λ g. elim (cases_Bool (is_this (Some a) n)) [
          | inl it ↦ (
              let in_safe = within-has ty.m (safe o) ((calm.locals v).kept g) before.0 (sym (ap (stands ty.m) before.1) ∙ f.somewhere) in
              let bad : None ≡ Some after.0 = sym (safe_is_kept o before.0 in_safe) ∙ subst (λ b. step o before.0 events.Free false b ≡ Some after.0) it to in
              cc
              )
          | inr away ↦ away
        ] in
        subst (λ c. Fits o h' u (freed s a) (at_local u v) c ty) (sym same) (record {
          somewhere = stands_on o ty (calm.locals v) h u n (Freed a) events.Free (is_this (Some a) n) (λ l. refl) (may_free ty.g (is_this (Some a) n) other) before after f.somewhere;
          safe = λ g. and_from (at s (at_local u v)).valid (not (n == a)) (f.safe g) (not_from_false _ (ne_eqb n a (λ z. both_ways (is_this (Some a) n) (other g) (and_from (a == n) (not (a == 0)) (eq-eqb a n (sym z)) (not_from_false _ (ne_eqb a 0 (λ z. omega (arith, z))))))));
          active = λ g. was.retired n ∙ (rw (f.active g) refl);
          alone = λ g q ne valid is. let b = valid_before q valid n one is in f.alone g q ne b.0 b.1;
        })
