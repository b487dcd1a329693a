-- A smaller environment leads to a smaller one, and meets each condition that a larger one meets.
use Rattle.std.proofs.Common.{◌≡◌, ℕ, zero, suc, ◌+◌, ◌≤◌, Bool, true, false, ◌&&◌, List, [], ◌∷◌, length, get_or, map, Option, Some, None, refl, sym, ◌∙◌, subst, arith}
use Rattle.std.specs.Prelude.{if◌then◌else◌}
use Rattle.std.proofs.lemmas.Bool.{and_parts, and_from, leb-true, both_ways, le-leb}
use Rattle.plc_base.specs.declared.ids.FuncId.{FuncId}
use Rattle.plc_base.specs.Mask.{within, meet}
use Rattle.plc_base.proofs.MaskLemmas.{within_self, within_trans, meet_within_left, meet_monotone}
use Rattle.plc_lang.specs.declared.syntax.Var.{Var}
use Rattle.plc_lang.specs.declared.syntax.Var.TheVariants.{Shared, Local}
use Rattle.plc_lang.specs.declared.syntax.Arg.{Arg}
use Rattle.plc_lang.specs.declared.syntax.Arg.TheVariants as args
use Rattle.plc_lang.specs.declared.syntax.Primitive.{Primitive}
use Rattle.plc_lang.specs.Facts.{accessed, compared, called}
use Rattle.plc_auto.specs.declared.event.EvKind.{EvKind}
use Rattle.plc_auto.specs.declared.event.EvKind.TheVariants as events
use Rattle.plc_auto.specs.declared.observer.Observer.{Observer}
use Rattle.plc_base.specs.Functions.{is_retire}
use Rattle.plc_auto.specs.Sets.{unretired, safe, closure}
use Rattle.plc_type.specs.declared.env.PtrType.{PtrType}
use Rattle.plc_type.specs.declared.env.Env.{Env}
use Rattle.plc_type.specs.Guarantees.{nothing, safe_only, is_safe, is_active, is_local, without_active}
use Rattle.plc_type.specs.Types.{bare, null_type, type_below}
use Rattle.plc_type.specs.Environments.{types_below, env_below, SameShape}
use Rattle.plc_type.proofs.Ordered.{type_same, env_parts, env_from}
use Rattle.plc_xfer.specs.declared.fault.TypeFault.{TypeFault}
use Rattle.plc_xfer.specs.declared.fault.TypeFault.TheVariants.{DerefNotSafe, CompareNotSafe, RetireNotActive}
use Rattle.plc_xfer.specs.Calls.{on_this, on_either, other_type, argument_type, beside_retired, beside_type}
use Rattle.plc_xfer.specs.Rules.{type_of, table, remade, env_after, env_after_all, effect, shared_type, new_type, equal_type, refreshed_type, placed_type, active_type, access_fault, compare_fault, retire_fault, call_fault, fault_of, interfered, interfered_local}
use Rattle.plc_xfer.specs.Typings.{fault_at}
use Rattle.plc_xfer.specs.Laws.{asked}
use Rattle.plc_xfer.proofs.ByFacts.{by_facts}
use Rattle.plc_xfer.proofs.Kept.{KeepsAnywhere, KeepsTypes, anywhere_kept, effect_kept}
use Rattle.plc_xfer.proofs.Locations.{closure_keeps, step_keeps, either_keeps}
use Rattle.plc_xfer.proofs.Facts.{table_length}
use Rattle.plc_auto.proofs.Growth.{closure_with_frees}

-- ---- types

below_from : (t u : PtrType) → u.g.0 ≤ t.g.0 → within t.m u.m ≡ true → type_below t u ≡ true
below_from t u g m = and_from _ _ (le-leb u.g.0 t.g.0 g) m

fewer : (t u : PtrType) → type_below t u ≡ true → u.g.0 ≤ t.g.0
fewer t u h = leb-true u.g.0 t.g.0 (and_parts _ _ h).0

inside : (t u : PtrType) → type_below t u ≡ true → within t.m u.m ≡ true
inside t u h = (and_parts _ _ h).1

bare_below : (v w : ℕ) → within v w ≡ true → type_below (bare v) (bare w) ≡ true
bare_below v w h = below_from (bare v) (bare w) (omega arith) h

shared_below : (t u : PtrType) → type_below t u ≡ true → type_below (shared_type t) (shared_type u) ≡ true
shared_below t u h = let g = fewer t u h in below_from (shared_type t) (shared_type u) (omega arith) (inside t u h)

equal_below : (t u x y : PtrType) → type_below t u ≡ true → type_below x y ≡ true → type_below (equal_type t x) (equal_type u y) ≡ true
equal_below t u x y h k =
    let g = fewer t u h in
    let f = fewer x y k in
    below_from (equal_type t x) (equal_type u y) (omega arith) (meet_monotone t.m x.m u.m y.m (inside t u h) (inside x y k))

refreshed_below : (t u x y : PtrType) → type_below t u ≡ true → type_below x y ≡ true → type_below (refreshed_type t x) (refreshed_type u y) ≡ true
refreshed_below t u x y h k =
    let f = fewer x y k in
    below_from (refreshed_type t x) (refreshed_type u y) (omega arith) (meet_monotone t.m x.m u.m y.m (inside t u h) (inside x y k))

active_below : (o : Observer) (t u : PtrType) → type_below t u ≡ true → type_below (active_type o t) (active_type o u) ≡ true
active_below o t u h =
    let g = fewer t u h in
    below_from (active_type o t) (active_type o u) (omega arith) (meet_monotone t.m (unretired o) u.m (unretired o) (inside t u h) (within_self (unretired o)))

new_below : (o : Observer) (a b : Env) → within a.w b.w ≡ true → type_below (new_type o a) (new_type o b) ≡ true
new_below o a b h = below_from (new_type o a) (new_type o b) (omega arith) (meet_monotone a.w (unretired o) b.w (unretired o) h (within_self (unretired o)))

if_below : (c : Bool) (t u x y : PtrType) → type_below t u ≡ true → type_below x y ≡ true → type_below (if c then t else x) (if c then u else y) ≡ true
if_below true t u x y h k = h
if_below false t u x y h k = k

-- ---- calls and returns

other_below : (o : Observer) (kind : EvKind) (t u : PtrType) → type_below t u ≡ true → type_below (other_type o kind t) (other_type o kind u) ≡ true
other_below o kind t u h = below_from (other_type o kind t) (other_type o kind u) (fewer t u h) (step_keeps o kind false t.m u.m (inside t u h))

argument_below : (o : Observer) (f : FuncId) (t u : PtrType) → type_below t u ≡ true → type_below (argument_type o f t) (argument_type o f u) ≡ true
argument_below o f t u h =
    let g = fewer t u h in
    let this = step_keeps o (events.Call f) true t.m u.m (inside t u h) in
    if_below (is_retire f) _ _ _ _
    (below_from (record { g = without_active t.g; m = on_this o (events.Call f) t.m }) (record { g = without_active u.g; m = on_this o (events.Call f) u.m }) (omega arith) this)
    (below_from (record { g = t.g; m = on_this o (events.Call f) t.m }) (record { g = u.g; m = on_this o (events.Call f) u.m }) g this)

retired_below : (o : Observer) (f : FuncId) (t u : PtrType) → type_below t u ≡ true → type_below (beside_retired o f t) (beside_retired o f u) ≡ true
retired_below o f t u h = go (is_local u.g) (is_local t.g) refl refl
  where
    g : u.g.0 ≤ t.g.0
    g = fewer t u h

    both : within (on_either o (events.Call f) t.m) (on_either o (events.Call f) u.m) ≡ true
    both = either_keeps o (events.Call f) t.m u.m (inside t u h)

    local_too : is_local u.g ≡ true → is_local t.g ≡ true
    local_too k = let x = leb-true 7 u.g.0 k in le-leb 7 t.g.0 (omega (arith, g))

    go : (local_u local_t : Bool) → is_local u.g ≡ local_u → is_local t.g ≡ local_t
        → type_below (if local_t then record { g = t.g; m = meet (on_either o (events.Call f) t.m) (unretired o) } else record { g = without_active t.g; m = on_either o (events.Call f) t.m })
        (if local_u then record { g = u.g; m = meet (on_either o (events.Call f) u.m) (unretired o) } else record { g = without_active u.g; m = on_either o (events.Call f) u.m }) ≡ true
    go true true a b = below_from _ _ g (meet_monotone _ _ _ _ both (within_self (unretired o)))
    go true false a b = absurd (both_ways _ b (local_too a))
    go false true a b = below_from _ _ (omega (arith, g)) (within_trans _ _ _ (meet_within_left _ (unretired o)) both)
    go false false a b = below_from _ _ (omega (arith, g)) both

beside_below : (o : Observer) (f : FuncId) (t u : PtrType) → type_below t u ≡ true → type_below (beside_type o f t) (beside_type o f u) ≡ true
beside_below o f t u h = if_below (is_retire f) _ _ _ _ (retired_below o f t u h)
    (below_from (record { g = t.g; m = on_either o (events.Call f) t.m }) (record { g = u.g; m = on_either o (events.Call f) u.m }) (fewer t u h) (either_keeps o (events.Call f) t.m u.m (inside t u h)))

-- ---- lists

get_below : (x y : List PtrType) (i : ℕ) (d e : PtrType) → length x ≡ length y → type_below d e ≡ true → types_below x y ≡ true → type_below (get_or x i d) (get_or y i e) ≡ true
get_below [] [] i d e s t h = t
get_below [] (u ∷ y) i d e s t h = absurd (omega arith)
get_below (a ∷ x) [] i d e s t h = absurd (omega arith)
get_below (a ∷ x) (b ∷ y) zero d e s t h = (and_parts _ _ h).0
get_below (a ∷ x) (b ∷ y) (suc i) d e s t h = get_below x y i d e (omega arith) t (and_parts _ _ h).1

table_below : (i n : ℕ) (f g : ℕ → PtrType) → ((j : ℕ) → type_below (f j) (g j) ≡ true) → types_below (table i n f) (table i n g) ≡ true
table_below i zero f g h = refl
table_below i (suc n) f g h = and_from _ _ (h i) (table_below (i + 1) n f g h)

map_below : (f g : PtrType → PtrType) (x y : List PtrType) → ((t u : PtrType) → type_below t u ≡ true → type_below (f t) (g u) ≡ true) → types_below x y ≡ true → types_below (map f x) (map g y) ≡ true
map_below f g [] y h k = refl
map_below f g (t ∷ x) [] h k = cc
map_below f g (t ∷ x) (u ∷ y) h k = let p = and_parts _ _ k in and_from _ _ (h t u p.0) (map_below f g x y h p.1)

-- ---- a primitive

pub variable_below : (a b : Env) → SameShape a b → env_below a b ≡ true → (v : Var) → type_below (type_of a v) (type_of b v) ≡ true
unfolding type_of
variable_below a b s h (Shared i) = let p = env_parts a b h in get_below a.shared b.shared i (bare a.w) (bare b.w) s.0 (bare_below a.w b.w p.0) p.1
variable_below a b s h (Local i) = let p = env_parts a b h in get_below a.locals b.locals i (bare a.w) (bare b.w) s.1 (bare_below a.w b.w p.0) p.2

abbrev IsSmaller : ℕ → ℕ → Type 0
IsSmaller v w = within v w ≡ true

abbrev IsBelow : ℕ → PtrType → ℕ → PtrType → Type 0
IsBelow v t w u = type_below t u ≡ true

anywhere_smaller : (o : Observer) → KeepsAnywhere o IsSmaller
anywhere_smaller o = record {
  other = λ kind v w h. step_keeps o kind false v w h;
  named = λ kind v w h. either_keeps o kind v w h;
}

types_stay_below : (o : Observer) → KeepsTypes o IsSmaller IsBelow
types_stay_below o = record {
  null = λ v w. type_same null_type;
  bare_one = λ v w h. bare_below v w h;
  new_one = λ a b h. new_below o a b h;
  shared = λ v w t u h. shared_below t u h;
  equal = λ v w t u x y h k. equal_below t u x y h k;
  refreshed = λ v w t u x y h k. refreshed_below t u x y h k;
  placed = λ v w t u h. below_from (placed_type t) (placed_type u) (omega arith) (inside t u h);
  active = λ v w t u h. active_below o t u h;
  other = λ kind v w t u h. other_below o kind t u h;
  argument = λ f v w t u h. argument_below o f t u h;
  beside = λ f v w t u h. beside_below o f t u h;
}

effect_below : (o : Observer) (a b : Env) (k : Primitive) → SameShape a b → env_below a b ≡ true → (v : Var) → type_below (effect o a k v) (effect o b k v) ≡ true
effect_below o a b k s h = effect_kept o IsSmaller IsBelow (types_stay_below o) a b k (env_parts a b h).0 (variable_below a b s h)

pub after_shape : (o : Observer) (e : Env) (k : Primitive) → SameShape (env_after o e k) e
unfolding env_after remade
after_shape o e k = (table_length 0 (length e.shared) (λ i. effect o e k (Shared i)), table_length 0 (length e.locals) (λ i. effect o e k (Local i)))

after_shapes : (o : Observer) (a b : Env) (k : Primitive) → SameShape a b → SameShape (env_after o a k) (env_after o b k)
after_shapes o a b k s =
    let x = after_shape o a k in
    let y = after_shape o b k in
    (x.0 ∙ s.0 ∙ sym y.0, x.1 ∙ s.1 ∙ sym y.1)

pub after_below : (o : Observer) (a b : Env) (k : Primitive) → SameShape a b → env_below a b ≡ true → env_below (env_after o a k) (env_after o b k) ≡ true
unfolding env_after remade
after_below o a b k s h =
    let below = effect_below o a b k s h in
    env_from (env_after o a k) (env_after o b k)
    (anywhere_kept o IsSmaller (anywhere_smaller o) a b k (env_parts a b h).0)
    (subst (λ (n : ℕ). types_below (table 0 (length a.shared) (λ i. effect o a k (Shared i))) (table 0 n (λ i. effect o b k (Shared i))) ≡ true) s.0 (table_below 0 (length a.shared) (λ i. effect o a k (Shared i)) (λ i. effect o b k (Shared i)) (λ j. below (Shared j))))
    (subst (λ (n : ℕ). types_below (table 0 (length a.locals) (λ i. effect o a k (Local i))) (table 0 n (λ i. effect o b k (Local i))) ≡ true) s.1 (table_below 0 (length a.locals) (λ i. effect o a k (Local i)) (λ i. effect o b k (Local i)) (λ j. below (Local j))))

pub after_all_shape : (o : Observer) (e : Env) (ks : List Primitive) → SameShape (env_after_all o e ks) e
after_all_shape o e [] = (refl, refl)
after_all_shape o e (k ∷ ks) =
    let x = after_all_shape o (env_after o e k) ks in
    let y = after_shape o e k in
    (x.0 ∙ y.0, x.1 ∙ y.1)

pub after_all_below : (o : Observer) (a b : Env) (ks : List Primitive) → SameShape a b → env_below a b ≡ true → env_below (env_after_all o a ks) (env_after_all o b ks) ≡ true
after_all_below o a b [] s h = h
after_all_below o a b (k ∷ ks) s h = after_all_below o (env_after o a k) (env_after o b k) ks (after_shapes o a b k s) (after_below o a b k s h)

-- ---- interference

-- the three types that a local may get
abbrev stays_local : Observer → PtrType → PtrType
stays_local o t = record { g = t.g; m = meet (closure o false t.m) (unretired o) }

abbrev stays_safe : Observer → PtrType → PtrType
stays_safe o t = record { g = safe_only; m = closure o false t.m }

abbrev keeps_none : Observer → PtrType → PtrType
keeps_none o t = record { g = nothing; m = closure o true t.m }

abbrev may_stay_safe : Observer → PtrType → Bool
may_stay_safe o t = is_safe t.g && within (closure o false t.m) (safe o)

local_below : (o : Observer) (t u : PtrType) → type_below t u ≡ true → type_below (interfered_local o t) (interfered_local o u) ≡ true
local_below o t u h = go (is_local u.g) (may_stay_safe o u) (is_local t.g) (may_stay_safe o t) refl refl refl refl
  where
    g : u.g.0 ≤ t.g.0
    g = fewer t u h

    kept : within (closure o false t.m) (closure o false u.m) ≡ true
    kept = closure_keeps o false t.m u.m (inside t u h)

    freed : within (closure o true t.m) (closure o true u.m) ≡ true
    freed = closure_keeps o true t.m u.m (inside t u h)

    more : within (closure o false t.m) (closure o true u.m) ≡ true
    more = within_trans _ _ _ (closure_with_frees o t.m) freed

    met : (c : ℕ) → within (closure o false t.m) c ≡ true → within (meet (closure o false t.m) (unretired o)) c ≡ true
    met c k = within_trans _ _ _ (meet_within_left (closure o false t.m) (unretired o)) k

    local_too : is_local u.g ≡ true → is_local t.g ≡ true
    local_too k = let x = leb-true 7 u.g.0 k in le-leb 7 t.g.0 (omega (arith, g))

    safe_too : may_stay_safe o u ≡ true → may_stay_safe o t ≡ true
    safe_too k =
        let p = and_parts _ _ k in
        let x = leb-true 1 u.g.0 p.0 in
        and_from _ _ (le-leb 1 t.g.0 (omega (arith, g))) (within_trans _ _ (safe o) kept p.1)

    go : (local_u safe_u local_t safe_t : Bool) → is_local u.g ≡ local_u → may_stay_safe o u ≡ safe_u → is_local t.g ≡ local_t → may_stay_safe o t ≡ safe_t
        → type_below (if local_t then stays_local o t else if safe_t then stays_safe o t else keeps_none o t) (if local_u then stays_local o u else if safe_u then stays_safe o u else keeps_none o u) ≡ true
    go true x true y a b c d = below_from (stays_local o t) (stays_local o u) g (meet_monotone _ _ _ _ kept (within_self (unretired o)))
    go true x false y a b c d = absurd (both_ways _ c (local_too a))
    go false true true y a b c d = let is = leb-true 7 t.g.0 c in below_from (stays_local o t) (stays_safe o u) (omega arith) (met (closure o false u.m) kept)
    go false true false true a b c d = below_from (stays_safe o t) (stays_safe o u) (omega arith) kept
    go false true false false a b c d = absurd (both_ways _ d (safe_too b))
    go false false true y a b c d = below_from (stays_local o t) (keeps_none o u) (omega arith) (met (closure o true u.m) more)
    go false false false true a b c d = below_from (stays_safe o t) (keeps_none o u) (omega arith) more
    go false false false false a b c d = below_from (keeps_none o t) (keeps_none o u) (omega arith) freed

pub interfered_below : (o : Observer) (a b : Env) → env_below a b ≡ true → env_below (interfered o a) (interfered o b) ≡ true
unfolding interfered
interfered_below o a b h =
    let p = env_parts a b h in
    let w = closure_keeps o true a.w b.w p.0 in
    env_from (interfered o a) (interfered o b) w
    (map_below (λ t. bare (closure o true a.w)) (λ t. bare (closure o true b.w)) a.shared b.shared (λ t u k. bare_below (closure o true a.w) (closure o true b.w) w) p.1)
    (map_below (interfered_local o) (interfered_local o) a.locals b.locals (local_below o) p.2)

-- ---- conditions

-- a test that no fault comes from
passed : (c : Bool) (f : TypeFault) → (if c then None else Some f) ≡ None → c ≡ true
passed true f e = refl
passed false f e = cc

safe_too : (a b : Env) → SameShape a b → env_below a b ≡ true → (v : Var) → is_safe (type_of b v).g ≡ true → is_safe (type_of a v).g ≡ true
safe_too a b s h v k =
    let g = fewer (type_of a v) (type_of b v) (variable_below a b s h v) in
    let more = leb-true 1 (type_of b v).g.0 k in
    le-leb 1 (type_of a v).g.0 (omega arith)

access_sooner : (a b : Env) → SameShape a b → env_below a b ≡ true → (v : Var) → access_fault b v ≡ None → access_fault a v ≡ None
access_sooner a b s h v k = rw (safe_too a b s h v (passed (is_safe (type_of b v).g) (DerefNotSafe v) k)) refl

compare_sooner : (a b : Env) → SameShape a b → env_below a b ≡ true → (p q : Var) → compare_fault b p q ≡ None → compare_fault a p q ≡ None
compare_sooner a b s h p q k =
    let both = passed_both (is_safe (type_of b p).g) (is_safe (type_of b q).g) k in
    rw (safe_too a b s h p both.0, safe_too a b s h q both.1) refl
  where
    passed_both : (c d : Bool) → (if c then (if d then None else Some (CompareNotSafe q)) else Some (CompareNotSafe p)) ≡ None → (c ≡ true) × (d ≡ true)
    passed_both true d e = (refl, passed d (CompareNotSafe q) e)
    passed_both false d e = cc

retire_sooner : (a b : Env) → SameShape a b → env_below a b ≡ true → (v : Var) → retire_fault b v ≡ None → retire_fault a v ≡ None
retire_sooner a b s h v k =
    let g = fewer (type_of a v) (type_of b v) (variable_below a b s h v) in
    let more = leb-true 3 (type_of b v).g.0 (passed (is_active (type_of b v).g) (RetireNotActive v) k) in
    let active_a : is_active (type_of a v).g ≡ true = le-leb 3 (type_of a v).g.0 (omega arith) in
    rw active_a refl

call_sooner : (a b : Env) (f : FuncId) (arg : Arg) → SameShape a b → env_below a b ≡ true → call_fault b f arg ≡ None → call_fault a f arg ≡ None
call_sooner a b f args.None s h e = refl
call_sooner a b f args.Null s h e = refl
call_sooner a b f (args.Var p) s h e = go (is_retire f) e
  where
    go : (r : Bool) → (if r then retire_fault b p else None) ≡ None → (if r then retire_fault a p else None) ≡ None
    go true e = retire_sooner a b s h p e
    go false e = refl

asked_sooner : (a b : Env) (through : Option Var) (pair : Option (Var × Var)) (call : Option (FuncId × Arg)) → SameShape a b → env_below a b ≡ true → asked b through pair call ≡ None → asked a through pair call ≡ None
asked_sooner a b (Some p) pair call s h e = access_sooner a b s h p e
asked_sooner a b None (Some pair) call s h e = compare_sooner a b s h pair.0 pair.1 e
asked_sooner a b None None (Some call) s h e = call_sooner a b call.0 call.1 s h e
asked_sooner a b None None None s h e = refl

pub fault_sooner : (a b : Env) (k : Primitive) → SameShape a b → env_below a b ≡ true → fault_of b k ≡ None → fault_of a k ≡ None
fault_sooner a b k s h e = by_facts a k ∙ asked_sooner a b (accessed k) (compared k) (called k) s h (sym (by_facts b k) ∙ e)

pub at_sooner : (o : Observer) (a b : Env) (ks : List Primitive) (i : ℕ) → SameShape a b → env_below a b ≡ true → fault_at o b ks i ≡ None → fault_at o a ks i ≡ None
at_sooner o a b [] i s h e = refl
at_sooner o a b (k ∷ ks) zero s h e = fault_sooner a b k s h e
at_sooner o a b (k ∷ ks) (suc i) s h e = at_sooner o (env_after o a k) (env_after o b k) ks i (after_shapes o a b k s) (after_below o a b k s h) e
