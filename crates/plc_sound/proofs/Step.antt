-- Soundness of types for the thread itself: each primitive, and a whole step.
use Rattle.std.proofs.Common.{◌≡◌, ℕ, suc, ◌+◌, ◌<◌, Bool, true, false, ◌&&◌, ◌==◌, List, [], ◌∷◌, ◌++◌, Option, Some, None, refl, sym, ◌∙◌, subst, subst₂, inl, inr}
use Rattle.std.specs.Prelude.{if◌then◌else◌}
use Rattle.std.proofs.lemmas.Bool.{cases_eq, eq-eqb, and_parts}
use Rattle.plc_base.specs.declared.ids.FuncId.{FuncId}
use Rattle.plc_lang.specs.declared.syntax.Var.{Var}
use Rattle.plc_lang.specs.declared.syntax.Arg.{Arg}
use Rattle.plc_lang.specs.declared.syntax.Arg.TheVariants as args
use Rattle.plc_lang.specs.declared.syntax.Primitive.{Primitive}
use Rattle.plc_lang.specs.declared.syntax.Primitive.TheVariants.{Null, Copy, New, Load, Store, StoreNull, DataSet, DataLoad, DataStore, Eq, IsNull, Refresh, RefreshLoad, RefreshStore, Call, Done, Active}
use Rattle.plc_lang.specs.declared.syntax.Primitive.TheVariants.{Mark, Unmark}
use Rattle.plc_lang.specs.Facts.{accessed, compared, called}
use Rattle.plc_auto.specs.declared.event.Event.{Event}
use Rattle.plc_auto.specs.declared.event.Event.TheVariants.{Call as Called, Done as Returned}
use Rattle.plc_auto.specs.declared.event.EvKind.{EvKind}
use Rattle.plc_auto.specs.declared.event.EvKind.TheVariants as events
use Rattle.plc_auto.specs.declared.observer.Observer.{Observer}
use Rattle.plc_auto.specs.Table.{step, is_well_formed}
use Rattle.plc_base.specs.Functions.{is_retire}
use Rattle.plc_auto.specs.Location.{location, step_by}
use Rattle.plc_mem.specs.declared.cell.RaceKind.{RaceKind}
use Rattle.plc_mem.specs.declared.cell.RaceKind.TheVariants.{Deref, Pass, Double}
use Rattle.plc_mem.specs.State.{State, Place, at_local, at_field, at, place, is_retired, with_retired}
use Rattle.plc_mem.specs.Primitives.{cell_at, access, comparison, race_of_call, goes_call, after_call, race_of, goes, after, event_of}
use Rattle.plc_mem.proofs.Views.{writes_local, writes_field}
use Rattle.plc_run.specs.Run.{Ending, Fine, Raced, turn, recorded, execute}
use Rattle.plc_run.specs.Observed.{IsObserved}
use Rattle.plc_run.proofs.Observed.{observed}
use Rattle.plc_type.specs.declared.env.Env.{Env}
use Rattle.plc_type.specs.Guarantees.{is_safe, is_active}
use Rattle.plc_xfer.specs.declared.fault.TypeFault.{TypeFault}
use Rattle.plc_xfer.specs.Calls.{on_other, other_type}
use Rattle.plc_xfer.specs.Rules.{type_of, effect, effect_anywhere, env_after, env_after_all, remade, fault_of, access_fault, compare_fault, retire_fault, call_fault}
use Rattle.plc_xfer.specs.Typings.{fault_at}
use Rattle.plc_xfer.specs.Laws.{asked}
use Rattle.plc_xfer.proofs.ByFacts.{by_facts}
use Rattle.plc_sound.specs.Meaning.{EnvMet}
use Rattle.plc_sound.specs.Claims.{ClaimTrue, ClaimsTrue}
use Rattle.plc_sound.proofs.Sets.{Live}
use Rattle.plc_sound.proofs.Kept.{env_met, stayed, active_safe}
use Rattle.plc_sound.proofs.Own.{Here, own_null, own_copy, own_load, own_new, own_store, own_store_null, own_refresh, own_refresh_load, own_eq, own_is_null, own_active, own_other, own_other_anywhere, own_call, own_call_anywhere, own_retire, reads_call, reads_return, valid_if, not_zero, field_there}
use Rattle.plc_sound.proofs.Own.{own_mark, same_number}

-- ---- conditions that hold

safe_if : (b : Bool) (f : TypeFault) → (if b then None else Some f) ≡ None → b ≡ true
safe_if true f e = refl
safe_if false f e = cc

both_safe : (b c : Bool) (f g : TypeFault) → (if b then (if c then None else Some f) else Some g) ≡ None → (b ≡ true) × (c ≡ true)
both_safe true true f g e = (refl, refl)
both_safe true false f g e = cc
both_safe false c f g e = cc

pub retire_valid : (v r : Bool) → (if v then (if r then Some Double else None) else Some Pass) ≡ None → v ≡ true
retire_valid true r e = refl
retire_valid false r e = cc

pub and-false : (x : Bool) → (x && false) ≡ false
and-false true = refl
and-false false = refl

-- ---- which race a primitive may be

-- by the pointer that it goes through, else by the two that it compares, else by the function that it calls
abbrev raced : State → ℕ → Option Var → Option (Var × Var) → Option (FuncId × Arg) → Option RaceKind
raced s t (Some p) pair call = access (cell_at s t p)
raced s t None (Some pair) call = comparison (cell_at s t pair.0) (cell_at s t pair.1)
raced s t None None (Some call) = race_of_call s t (is_retire call.0) call.1
raced s t None None None = None

race_by_facts : (s : State) (t : ℕ) (k : Primitive) → race_of s t k ≡ raced s t (accessed k) (compared k) (called k)
race_by_facts s t (Null p) = refl
race_by_facts s t k = refl

module _ {o : Observer} {threads : ℕ} {h : List Event} {t : ℕ} {s : State} {e : Env} (here : Here o threads h t s e) where
  -- a pointer with S is valid, with A its number isn't retired, null or not
  is_valid : (v : Var) → is_safe (type_of e v).g ≡ true → (at s (place t v)).valid ≡ true
  is_valid v g = elim (cases_eq (at s (place t v)).number 0) [
    | inl z ↦ (here.seen.coherent.cells (place t v)).null (eq-eqb _ 0 z)
    | inr nonnull ↦ (here.met.pointers v nonnull).safe g
  ]

  isnt_retired : (v : Var) → is_active (type_of e v).g ≡ true → is_retired s (at s (place t v)).number ≡ false
  isnt_retired v g = elim (cases_eq (at s (place t v)).number 0) [
    | inl z ↦ subst (λ n. is_retired s n ≡ false) (sym z) (here.seen.coherent.unretired 0 here.seen.coherent.null_unused)
    | inr nonnull ↦ (here.met.pointers v nonnull).active g
  ]

  safe_access : (v : Var) → access_fault e v ≡ None → access (cell_at s t v) ≡ None
  safe_access v c = rw (is_valid v (safe_if _ _ c)) refl

  safe_comparison : (p q : Var) → compare_fault e p q ≡ None → comparison (cell_at s t p) (cell_at s t q) ≡ None
  safe_comparison p q c = let both = both_safe _ _ _ _ c in rw (is_valid p both.0, is_valid q both.1) refl

  safe_argument : (p : Var) (b : Bool) → (if b then retire_fault e p else None) ≡ None → race_of_call s t b (args.Var p) ≡ None
  safe_argument p true c = let g = safe_if _ _ c in rw (is_valid p (active_safe (type_of e p).g g), isnt_retired p g) refl
  safe_argument p false c = refl

  safe_call : (f : FuncId) (r : Arg) → call_fault e f r ≡ None → race_of_call s t (is_retire f) r ≡ None
  safe_call f (args.Var p) c = safe_argument p (is_retire f) c
  safe_call f args.None c = elim (is_retire f) as (λ b. race_of_call s t b args.None ≡ None) [ true ↦ refl | false ↦ refl ]
  safe_call f args.Null c = elim (is_retire f) as (λ b. race_of_call s t b args.Null ≡ None) [ true ↦ refl | false ↦ refl ]

  none_raced : (through : Option Var) (pair : Option (Var × Var)) (call : Option (FuncId × Arg)) → asked e through pair call ≡ None → raced s t through pair call ≡ None
  none_raced (Some p) pair call c = safe_access p c
  none_raced None (Some pair) call c = safe_comparison pair.0 pair.1 c
  none_raced None None (Some call) c = safe_call call.0 call.1 c
  none_raced None None None c = refl

  -- a primitive whose condition holds is no race
  pub no_race : (k : Primitive) → fault_of e k ≡ None → race_of s t k ≡ None
  no_race k c = race_by_facts s t k ∙ none_raced (accessed k) (compared k) (called k) (sym (by_facts e k) ∙ c)

  -- ---- what it leaves meets the effect

  -- a row without effect, where no place and no retirement changed
  unchanged : (s' : State) → ((q : Place) → at s' q ≡ at s q) → ((a : ℕ) → is_retired s' a ≡ is_retired s a) → EnvMet o h t s' (remade e (type_of e) e.w)
  unchanged s' same retired = env_met o h t s' e (type_of e) e.w (λ v. stayed same retired (place t v) (type_of e v) (here.met.pointers v)) here.met.addresses

  own_call_of : (f : FuncId) (p : Var) (b : Bool) → is_retire f ≡ b → race_of_call s t b (args.Var p) ≡ None → goes_call s t b (args.Var p) ≡ true
      → IsObserved o threads (after_call s t b (args.Var p)) (h ++ Called t f (Some (cell_at s t p).number) ∷ [])
      → EnvMet o (h ++ Called t f (Some (cell_at s t p).number) ∷ []) t (after_call s t b (args.Var p)) (remade e (effect o e (Call f (args.Var p))) (effect_anywhere o e (Call f (args.Var p))))
  own_call_of f p true is fine may seen' =
      let n = (at s (place t p)).number in
      env_met o (h ++ Called t f (Some n) ∷ []) t (with_retired s n) e (effect o e (Call f (args.Var p))) (effect_anywhere o e (Call f (args.Var p)))
      (λ v. own_retire here f p v is (retire_valid (at s (place t p)).valid (is_retired s n) fine) (not_zero n may) seen')
      (own_call_anywhere here f n (λ a pos. seen'.live t a here.small pos))
  own_call_of f p false is fine may seen' =
      let n = (at s (place t p)).number in
      env_met o (h ++ Called t f (Some n) ∷ []) t s e (effect o e (Call f (args.Var p))) (effect_anywhere o e (Call f (args.Var p)))
      (λ v. own_call here f p v is (λ a pos. seen'.live t a here.small pos))
      (own_call_anywhere here f n (λ a pos. seen'.live t a here.small pos))

  -- a call that names no address, and a return: every address reads other
  own_spoken : (ev : Event) (kind : EvKind) (s' : State) → s' ≡ s → ((a l : ℕ) → step_by o t a ev l ≡ step o l kind true false) → IsObserved o threads s' (h ++ ev ∷ []) → EnvMet o (h ++ ev ∷ []) t s' (remade e (λ v. other_type o kind (type_of e v)) (on_other o kind e.w))
  own_spoken ev kind s' same reads seen' =
      let live : (a : ℕ) → 0 < a → Live o (location o (h ++ ev ∷ []) t a) = λ a pos. seen'.live t a here.small pos in
      subst (λ s. EnvMet o (h ++ ev ∷ []) t s (remade e (λ v. other_type o kind (type_of e v)) (on_other o kind e.w))) (sym same)
      (env_met o (h ++ ev ∷ []) t s e (λ v. other_type o kind (type_of e v)) (on_other o kind e.w) (own_other here ev kind reads live) (own_other_anywhere here ev kind reads live))

  no_change : (b : Bool) → after_call s t b args.None ≡ s
  no_change = elim [ true ↦ refl | false ↦ refl ]

  null_changes_nothing : (b : Bool) → after_call s t b args.Null ≡ s
  null_changes_nothing = elim [ true ↦ refl | false ↦ refl ]

  pub own_primitive : (a : ℕ) (k : Primitive) → race_of s t k ≡ None → goes s t a k ≡ true → ClaimTrue s t k → IsObserved o threads (after s t a k) (recorded h (event_of s t k)) → EnvMet o (recorded h (event_of s t k)) t (after s t a k) (env_after o e k)
  unfolding env_after
  own_primitive a (Null p) fine may claim seen' = env_met o h t (after s t a (Null p)) e (effect o e (Null p)) e.w (own_null here p) here.met.addresses
  own_primitive a (Copy p q) fine may claim seen' = env_met o h t (after s t a (Copy p q)) e (effect o e (Copy p q)) e.w (own_copy here p q) here.met.addresses
  own_primitive a (New p) fine may claim seen' = env_met o h t (after s t a (New p)) e (effect o e (New p)) e.w (λ v. own_new here a p v may) here.met.addresses
  own_primitive a (Load p q f) fine may claim seen' = env_met o h t (after s t a (Load p q f)) e (effect o e (Load p q f)) e.w (own_load here p q f) here.met.addresses
  own_primitive a (Store p f q) fine may claim seen' = env_met o h t (after s t a (Store p f q)) e (effect o e (Store p f q)) e.w (λ v. own_store here (at s (place t p)).number f.0 q v (field_there here.seen (place t p) f.0 (valid_if _ Deref fine) may)) here.met.addresses
  own_primitive a (StoreNull p f) fine may claim seen' = env_met o h t (after s t a (StoreNull p f)) e (effect o e (StoreNull p f)) e.w (λ v. own_store_null here (at s (place t p)).number f.0 v (field_there here.seen (place t p) f.0 (valid_if _ Deref fine) may)) here.met.addresses
  own_primitive a (DataSet x n) fine may claim seen' = let w = writes_local s t x _ in unchanged (after s t a (DataSet x n)) w.pointers w.addresses.retired
  own_primitive a (DataLoad x q f) fine may claim seen' = let w = writes_local s t x _ in unchanged (after s t a (DataLoad x q f)) w.pointers w.addresses.retired
  own_primitive a (DataStore p f n) fine may claim seen' = let w = writes_field s (at s (place t p)).number f.0 _ (field_there here.seen (place t p) f.0 (valid_if _ Deref fine) may) in unchanged (after s t a (DataStore p f n)) w.pointers w.addresses.retired
  own_primitive a (Eq p q) fine may claim seen' = env_met o h t s e (effect o e (Eq p q)) e.w (λ v. own_eq here p q v a fine may) here.met.addresses
  own_primitive a (IsNull p) fine may claim seen' = env_met o h t s e (effect o e (IsNull p)) e.w (λ v. own_is_null here p v a may) here.met.addresses
  own_primitive a (Refresh p q) fine may claim seen' =
      let same = same_number (at s (at_local t p)) (at s (place t q)) may in
      env_met o h t (after s t a (Refresh p q)) e (effect o e (Refresh p q)) e.w (λ v. own_refresh here p q v same)
      here.met.addresses
  own_primitive a (RefreshLoad p q f) fine may claim seen' =
      let n = (at s (place t q)).number in
      let same = same_number (at s (at_local t p)) (at s (at_field n f.0)) (and_parts _ _ may).1 in
      env_met o h t (after s t a (RefreshLoad p q f)) e (effect o e (RefreshLoad p q f)) e.w
      (λ v. own_refresh_load here p n f.0 v same) here.met.addresses
  own_primitive a (RefreshStore p f q) fine may claim seen' = env_met o h t (after s t a (RefreshStore p f q)) e (effect o e (RefreshStore p f q)) e.w (λ v. own_store here (at s (place t p)).number f.0 q v (field_there here.seen (place t p) f.0 (valid_if _ Deref fine) (and_parts _ _ may).0)) here.met.addresses
  own_primitive a (Mark p q) fine may claim seen' =
      env_met o h t (after s t a (Mark p q)) e (effect o e (Mark p q)) e.w (own_mark here true p q) here.met.addresses
  own_primitive a (Unmark p q) fine may claim seen' =
      env_met o h t (after s t a (Unmark p q)) e (effect o e (Unmark p q)) e.w (own_mark here false p q)
      here.met.addresses
  own_primitive a (Call f args.None) fine may claim seen' = own_spoken (Called t f None) (events.Call f) _ (no_change (is_retire f)) (λ a. reads_call here f None a false refl) seen'
  own_primitive a (Call f args.Null) fine may claim seen' = own_spoken (Called t f (Some 0)) (events.Call f) _ (null_changes_nothing (is_retire f)) (λ a. reads_call here f (Some 0) a false (and-false (0 == a))) seen'
  own_primitive a (Call f (args.Var p)) fine may claim seen' = own_call_of f p (is_retire f) refl fine may seen'
  own_primitive a (Done f) fine may claim seen' = own_spoken (Returned t f) (events.Done f) s refl (reads_return here f) seen'
  own_primitive a (Active p) fine may claim seen' = env_met o h t s e (effect o e (Active p)) e.w (λ v. own_active here p v claim) here.met.addresses
  own_primitive a k fine may claim seen' = unchanged s (λ q. refl) (λ a. refl)

-- ---- a whole step

pub fine_parts : (r : Option RaceKind) (b : Bool) (n : ℕ) (next : Ending) (s' : State) (h' : List Event) → turn r b n next ≡ Fine s' h' → (r ≡ None) × (b ≡ true) × (next ≡ Fine s' h')
fine_parts None true n next s' h' e = (refl, refl, e)
fine_parts None false n next s' h' e = cc
fine_parts (Some k) b n next s' h' e = cc

raced_parts : (r : Option RaceKind) (b : Bool) (n : ℕ) (next : Ending) (kind : RaceKind) (j : ℕ) → r ≡ None → turn r b n next ≡ Raced kind j → (b ≡ true) × (next ≡ Raced kind j)
raced_parts None true n next kind j no_race e = (refl, e)
raced_parts None false n next kind j no_race e = cc
raced_parts (Some x) b n next kind j no_race e = cc

module _ (o : Observer) (w : is_well_formed o ≡ true) (threads t a : ℕ) where
  -- what a primitive leaves, for the next one
  next : {h : List Event} {s : State} {e : Env} (k : Primitive) → Here o threads h t s e → race_of s t k ≡ None → goes s t a k ≡ true → ClaimTrue s t k → Here o threads (recorded h (event_of s t k)) t (after s t a k) (env_after o e k)
  next {h} {s} {e} k here fine may claim =
      let seen' = (observed o w threads).by_primitive s h t a k fine may here.seen in
      record { small = here.small; met = own_primitive here a k fine may claim seen'; seen = seen' }

  -- what the primitives of a step leave meets their effects
  pub own_step : (ks : List Primitive) (n : ℕ) (h : List Event) (s : State) (e : Env) → Here o threads h t s e → ClaimsTrue s t a ks → (s' : State) (h' : List Event) → execute s h t a n ks ≡ Fine s' h' → Here o threads h' t s' (env_after_all o e ks)
  own_step [] n h s e here claims s' h' is =
      let se : s ≡ s' = cc in let he : h ≡ h' = cc in
      subst₂ (λ h s. Here o threads h t s e) he se here
  own_step (k ∷ ks) n h s e here claims s' h' is =
      let parts = fine_parts (race_of s t k) (goes s t a k) n (execute (after s t a k) (recorded h (event_of s t k)) t a (n + 1) ks) s' h' is in
      own_step ks (n + 1) (recorded h (event_of s t k)) (after s t a k) (env_after o e k) (next k here parts.0 parts.1 claims.0) (claims.1 parts.0 parts.1) s' h' parts.2

  -- no primitive whose condition holds is a race
  pub never_races : (ks : List Primitive) (n : ℕ) (h : List Event) (s : State) (e : Env) → Here o threads h t s e → ((i : ℕ) → fault_at o e ks i ≡ None) → ClaimsTrue s t a ks → (kind : RaceKind) (j : ℕ) → execute s h t a n ks ≡ Raced kind j → ⊥
  never_races [] n h s e here holds claims kind j is = cc
  never_races (k ∷ ks) n h s e here holds claims kind j is =
      let fine = no_race here k (holds 0) in
      let parts = raced_parts (race_of s t k) (goes s t a k) n (execute (after s t a k) (recorded h (event_of s t k)) t a (n + 1) ks) kind j fine is in
      never_races ks (n + 1) (recorded h (event_of s t k)) (after s t a k) (env_after o e k) (next k here fine parts.0 claims.0) (λ i. holds (suc i)) (claims.1 fine parts.0) kind j parts.1
