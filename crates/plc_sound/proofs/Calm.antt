-- What interference makes: it is met where what it was made of is, and it stays met whatever others do.
use Rattle.std.proofs.Common.{◌≡◌, ℕ, zero, suc, ◌<◌, Bool, true, false, not, ◌&&◌, List, [], ◌∷◌, get_or, map, replicate, Some, refl, sym, ap, ◌∙◌, subst, arith, inl, inr, ◌⊎◌}
use Rattle.std.specs.Prelude.{if◌then◌else◌}
use Rattle.std.proofs.lemmas.Bool.{and_parts, and_from, not-true, not_from_false, lt-ltb, ltb-true, both_ways}
use Rattle.plc_base.specs.Mask.{has, meet, within}
use Rattle.plc_base.proofs.MaskLemmas.{has-empty, has-meet, within_trans, meet_within_right, empty_within}
use Rattle.plc_lang.specs.declared.syntax.Var.TheVariants.{Shared, Local}
use Rattle.plc_auto.specs.declared.event.Event.{Event}
use Rattle.plc_auto.specs.declared.event.EvKind.{EvKind}
use Rattle.plc_auto.specs.declared.observer.Observer.{Observer}
use Rattle.plc_auto.specs.Table.{count_of, step}
use Rattle.plc_auto.specs.Location.{location}
use Rattle.plc_auto.specs.Sets.{all_locations, unretired, safe, closure, happens}
use Rattle.plc_auto.specs.Laws.{is_retirement}
use Rattle.plc_auto.proofs.Tables.{unretired_stays, step_live}
use Rattle.plc_auto.proofs.SetLemmas.{has-unretired, all_has, in_all}
use Rattle.plc_auto.proofs.Closures.{closure_closed}
use Rattle.plc_auto.proofs.Growth.{sets_of}
use Rattle.plc_mem.specs.State.{State, Place, at, place, at_shared}
use Rattle.plc_base.proofs.Tables.{get-replicate}
use Rattle.plc_run.specs.Observed.{IsObserved}
use Rattle.plc_type.specs.declared.guarantee.Guar.{Guar}
use Rattle.plc_type.specs.declared.env.PtrType.{PtrType}
use Rattle.plc_type.specs.declared.env.Env.{Env}
use Rattle.plc_type.specs.Guarantees.{nothing, safe_only, is_safe, is_local}
use Rattle.plc_type.specs.Types.{bare, null_type}
use Rattle.plc_type.specs.Environments.{entry}
use Rattle.plc_xfer.specs.Rules.{type_of, interfered, interfered_local, FitsObserver}
use Rattle.plc_xfer.proofs.Facts.{variable_within}
use Rattle.plc_sound.specs.Meaning.{stands, Fits, Meets, EnvMet}
use Rattle.plc_sound.specs.Calm.{TypeIsCalm, IsCalm}
use Rattle.plc_sound.proofs.Sets.{stands_meet, stands_closure, stands_unretired, stands_all}
use Rattle.plc_sound.proofs.Own.{Here}
use Rattle.plc_sound.proofs.Kept.{bare_met, local_safe, local_active}

-- ---- types

calm_bare : (o : Observer) (m : ℕ) → within m (all_locations o) ≡ true → TypeIsCalm o (bare (closure o true m))
calm_bare o m inside = record {
  closed = λ l k kind on_this h may to. closure_closed o true m l k kind on_this inside h (and_parts _ _ may).0 to;
  kept = λ g. cc;
  active_local = λ g. cc;
}

calm_safe : (o : Observer) (m : ℕ) → within m (all_locations o) ≡ true → within (closure o false m) (safe o) ≡ true → TypeIsCalm o (record { g = safe_only; m = closure o false m })
calm_safe o m inside kept = record {
  closed = λ l k kind on_this h may to. closure_closed o false m l k kind on_this inside h (and_parts _ _ may).0 to;
  kept = λ g. kept;
  active_local = λ g. cc;
}

-- unretired locations stay so, unless the address itself is retired
unretired_closed : (o : Observer) (l k : ℕ) (kind : EvKind) (on_this : Bool) → has (unretired o) l ≡ true → (is_retirement kind && on_this) ≡ false → step o l kind false on_this ≡ Some k → has (unretired o) k ≡ true
unretired_closed o l k kind on_this h n to =
    let both = and_parts _ _ (sym (has-unretired o l) ∙ h) in
    let small = ltb-true l (count_of o) both.0 in
    has-unretired o k ∙ and_from _ _ (lt-ltb k (count_of o) (step_live o l k kind false on_this small to)) (not_from_false _ (unretired_stays o l k kind false on_this small (not-true _ both.1) n to))

calm_local : (o : Observer) (g : Guar) (m : ℕ) → is_local g ≡ true → within m (all_locations o) ≡ true → TypeIsCalm o (record { g = g; m = meet (closure o false m) (unretired o) })
calm_local o g m is_l inside = record {
  closed = λ l k kind on_this h may to.
      let parts = and_parts (happens (not (is_safe g)) kind on_this) (not (is_local g && (is_retirement kind && on_this))) may in
      let both = and_parts _ _ (sym (has-meet (closure o false m) (unretired o) l) ∙ h) in
      let may' : happens false kind on_this ≡ true = subst (λ b. happens (not b) kind on_this ≡ true) (local_safe g is_l) parts.0 in
      let spared : (is_retirement kind && on_this) ≡ false = subst (λ b. (b && (is_retirement kind && on_this)) ≡ false) is_l (not-true _ parts.1) in
      has-meet (closure o false m) (unretired o) k ∙ and_from _ _ (closure_closed o false m l k kind on_this inside both.0 may' to) (unretired_closed o l k kind on_this both.1 spared to);
  kept = λ s. within_trans (meet (closure o false m) (unretired o)) (unretired o) (safe o) (meet_within_right (closure o false m) (unretired o)) (sets_of o).unretired_safe;
  active_local = λ a. is_l;
}

pub interfered_calm : (o : Observer) (ty : PtrType) → within ty.m (all_locations o) ≡ true → TypeIsCalm o (interfered_local o ty)
interfered_calm o ty inside = go (is_local ty.g) refl (is_safe ty.g && within (closure o false ty.m) (safe o)) refl
  where
    go : (l : Bool) → is_local ty.g ≡ l → (s : Bool) → (is_safe ty.g && within (closure o false ty.m) (safe o)) ≡ s
        → TypeIsCalm o (if l then record { g = ty.g; m = meet (closure o false ty.m) (unretired o) } else if s then record { g = safe_only; m = closure o false ty.m } else record { g = nothing; m = closure o true ty.m })
    go true is s e = calm_local o ty.g ty.m is inside
    go false is true e = calm_safe o ty.m inside (and_parts _ _ e).1
    go false is false e = calm_bare o ty.m inside

-- what was met is met as interference leaves it
pub interfered_met : (o : Observer) (threads : ℕ) (h : List Event) (t : ℕ) (s : State) → t < threads → IsObserved o threads s h → (p : Place) (ty : PtrType) → within ty.m (all_locations o) ≡ true → Meets o h t s p ty → Meets o h t s p (interfered_local o ty)
interfered_met o threads h t s small seen p ty inside met nonnull = go (is_local ty.g) refl (is_safe ty.g && within (closure o false ty.m) (safe o)) refl
  where
    n : ℕ
    n = (at s p).number

    f : Fits o h t s p (at s p) ty
    f = met nonnull

    pos : 0 < n
    pos = omega arith

    go : (l : Bool) → is_local ty.g ≡ l → (k : Bool) → (is_safe ty.g && within (closure o false ty.m) (safe o)) ≡ k
        → Fits o h t s p (at s p) (if l then record { g = ty.g; m = meet (closure o false ty.m) (unretired o) } else if k then record { g = safe_only; m = closure o false ty.m } else record { g = nothing; m = closure o true ty.m })
    go true is k e = record {
      somewhere = stands_meet (closure o false ty.m) (unretired o) (location o h t n) (stands_closure o false ty.m (location o h t n) inside f.somewhere) (stands_unretired o (location o h t n) (seen.live t n small pos) (sym (seen.retired t n small pos) ∙ f.active (local_active ty.g is)));
      safe = f.safe;
      active = f.active;
      alone = f.alone;
    }
    go false is true e = record {
      somewhere = stands_closure o false ty.m (location o h t n) inside f.somewhere;
      safe = λ g. f.safe (and_parts _ _ e).0;
      active = λ g. cc;
      alone = λ g. cc;
    }
    go false is false e = record {
      somewhere = stands_closure o true ty.m (location o h t n) inside f.somewhere;
      safe = λ g. cc;
      active = λ g. cc;
      alone = λ g. cc;
    }

-- ---- environments

get-mapped : (f : PtrType → PtrType) (xs : List PtrType) (i : ℕ) (d e : PtrType) → (get_or (map f xs) i d ≡ f (get_or xs i e)) ⊎ (get_or (map f xs) i d ≡ d)
get-mapped f [] i d e = inr refl
get-mapped f (x ∷ xs) zero d e = inl refl
get-mapped f (x ∷ xs) (suc i) d e = get-mapped f xs i d e

get-mapped_all : (u : PtrType) (xs : List PtrType) (i : ℕ) → get_or (map (λ (t : PtrType). u) xs) i u ≡ u
get-mapped_all u [] i = refl
get-mapped_all u (x ∷ xs) zero = refl
get-mapped_all u (x ∷ xs) (suc i) = get-mapped_all u xs i

pub interfered_shared : (o : Observer) (e : Env) (i : ℕ) → type_of (interfered o e) (Shared i) ≡ bare (closure o true e.w)
unfolding interfered type_of
interfered_shared o e i = get-mapped_all (bare (closure o true e.w)) e.shared i

pub interfered_locals : (o : Observer) (e : Env) (v : ℕ) → (type_of (interfered o e) (Local v) ≡ interfered_local o (type_of e (Local v))) ⊎ (type_of (interfered o e) (Local v) ≡ bare (closure o true e.w))
unfolding interfered type_of
interfered_locals o e v = get-mapped (interfered_local o) e.locals v (bare (closure o true e.w)) (bare e.w)

pub interfered_w : (o : Observer) (e : Env) → (interfered o e).w ≡ closure o true e.w
unfolding interfered
interfered_w o e = refl

pub interfered_is_calm : (o : Observer) (e : Env) → FitsObserver o e → IsCalm o (interfered o e)
interfered_is_calm o e fits =
    let anywhere = calm_bare o e.w fits.anywhere in
    let w_is = interfered_w o e in
    record {
      locals = λ v. elim (interfered_locals o e v) [
        | inl is ↦ subst (TypeIsCalm o) (sym is) (interfered_calm o (type_of e (Local v)) (variable_within o e fits (Local v)))
        | inr is ↦ subst (TypeIsCalm o) (sym is) anywhere
      ];
      shared = λ i. interfered_shared o e i ∙ ap bare (sym w_is);
      anywhere = subst (λ w. TypeIsCalm o (bare w)) (sym w_is) anywhere;
    }

-- the end of a step
pub interfered_env_met : (o : Observer) (threads : ℕ) (h : List Event) (t : ℕ) (s : State) (e : Env) → FitsObserver o e → Here o threads h t s e → EnvMet o h t s (interfered o e)
interfered_env_met o threads h t s e fits here =
    let met = here.met in
    let w = closure o true e.w in
    let all : (a : ℕ) → 0 < a → stands w (location o h t a) ≡ true = λ a pos. stands_closure o true e.w (location o h t a) fits.anywhere (met.addresses a pos) in
    record {
      pointers = elim [
        | Shared i ↦ subst (λ ty. Meets o h t s (place t (Shared i)) ty) (sym (interfered_shared o e i)) (bare_met (place t (Shared i)) (at s (place t (Shared i))) w all)
        | Local v ↦ elim (interfered_locals o e v) [
          | inl is ↦ subst (λ ty. Meets o h t s (place t (Local v)) ty) (sym is) (interfered_met o threads h t s here.small here.seen (place t (Local v)) (type_of e (Local v)) (variable_within o e fits (Local v)) (met.pointers (Local v)))
          | inr is ↦ subst (λ ty. Meets o h t s (place t (Local v)) ty) (sym is) (bare_met (place t (Local v)) (at s (place t (Local v))) w all)
        ]
      ];
      addresses = λ a pos. ap (λ w. stands w (location o h t a)) (interfered_w o e) ∙ all a pos;
    }

-- ---- the entry environment

get-repeated : (n : ℕ) (x d : PtrType) (i : ℕ) → (get_or (replicate n x) i d ≡ x) ⊎ (get_or (replicate n x) i d ≡ d)
get-repeated zero x d i = inr refl
get-repeated (suc n) x d zero = inl refl
get-repeated (suc n) x d (suc i) = get-repeated n x d i

calm_all : (o : Observer) → TypeIsCalm o (bare (all_locations o))
calm_all o = record {
  closed = λ l k kind on_this h may to. all_has o k (step_live o l k kind false on_this (in_all o l h) to);
  kept = λ g. cc;
  active_local = λ g. cc;
}

calm_null : (o : Observer) → TypeIsCalm o null_type
calm_null o = record {
  closed = λ l k kind on_this h may to. absurd (both_ways _ (has-empty l) h);
  kept = λ g. empty_within (safe o);
  active_local = λ g. refl;
}

pub entry_shared : (o : Observer) (n m i : ℕ) → type_of (entry n m (all_locations o)) (Shared i) ≡ bare (all_locations o)
unfolding type_of
entry_shared o n m i = get-replicate (bare (all_locations o)) n i

entry_locals : (o : Observer) (n m v : ℕ) → (type_of (entry n m (all_locations o)) (Local v) ≡ null_type) ⊎ (type_of (entry n m (all_locations o)) (Local v) ≡ bare (all_locations o))
unfolding type_of
entry_locals o n m v = get-repeated m null_type (bare (all_locations o)) v

pub entry_is_calm : (o : Observer) (n m : ℕ) → IsCalm o (entry n m (all_locations o))
entry_is_calm o n m = record {
  locals = λ v. elim (entry_locals o n m v) [
    | inl is ↦ subst (TypeIsCalm o) (sym is) (calm_null o)
    | inr is ↦ subst (TypeIsCalm o) (sym is) (calm_all o)
  ];
  shared = entry_shared o n m;
  anywhere = calm_all o;
}

-- a thread whose locals are null meets it
pub entry_met : (o : Observer) (threads : ℕ) (h : List Event) (t : ℕ) (s : State) (n m : ℕ) → t < threads → IsObserved o threads s h → ((v : ℕ) → (at s (place t (Local v))).number ≡ 0) → EnvMet o h t s (entry n m (all_locations o))
entry_met o threads h t s n m small seen null =
    let all : (a : ℕ) → 0 < a → stands (all_locations o) (location o h t a) ≡ true = λ a pos. stands_all o (location o h t a) (seen.live t a small pos) in
    record {
      pointers = elim [
        | Shared i ↦ subst (λ ty. Meets o h t s (at_shared i) ty) (sym (entry_shared o n m i)) (bare_met (at_shared i) (at s (at_shared i)) (all_locations o) all)
        | Local v ↦ λ nonnull. absurd (nonnull (null v))
      ];
      addresses = all;
    }
