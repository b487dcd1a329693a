-- The facts on environments, which the rules and interference keep.
use Rattle.std.proofs.Common.{◌≡◌, ℕ, zero, suc, ◌+◌, Bool, true, false, ◌&&◌, List, [], ◌∷◌, length, get_or, map, replicate, refl, sym, ap, ◌∙◌, subst, arith, inl, inr, ◌⊎◌, min, max}
use Rattle.std.specs.Prelude.{if◌then◌else◌}
use Rattle.std.proofs.lemmas.Bool.{and_parts, and_from, leb-true, leb-false, or_cases, cases_Bool, eqb-true, le-leb}
use Rattle.plc_base.specs.declared.ids.FuncId.{FuncId}
use Rattle.plc_base.specs.Mask.{within, meet}
use Rattle.plc_base.proofs.MaskLemmas.{within_self, within_trans, empty_within, meet_within_left, meet_within_right, within_union_left, union_least}
use Rattle.plc_lang.specs.declared.syntax.Var.{Var}
use Rattle.plc_lang.specs.declared.syntax.Var.TheVariants.{Shared, Local}
use Rattle.plc_lang.specs.declared.syntax.Primitive.{Primitive}
use Rattle.plc_auto.specs.declared.event.EvKind.{EvKind}
use Rattle.plc_auto.specs.declared.event.EvKind.TheVariants.{Call}
use Rattle.plc_auto.specs.declared.observer.Observer.{Observer}
use Rattle.plc_base.specs.Functions.{is_retire}
use Rattle.plc_auto.specs.Sets.{all_locations, unretired, safe, closure}
use Rattle.plc_auto.specs.Laws.{is_retirement}
use Rattle.plc_auto.proofs.SetLemmas.{step_set_live}
use Rattle.plc_type.specs.declared.guarantee.Guar.{Guar}
use Rattle.plc_type.specs.declared.env.PtrType.{PtrType}
use Rattle.plc_type.specs.declared.env.Env.{Env}
use Rattle.plc_type.specs.Guarantees.{numbered, nothing, safe_only, active_safe, active_local_safe, is_guarantee_set, is_safe, is_active, is_local, without_local, without_active, either}
use Rattle.plc_type.specs.Types.{bare, null_type}
use Rattle.plc_xfer.specs.Calls.{on_this, on_other, on_either, other_type, argument_type, beside_type}
use Rattle.plc_xfer.specs.Rules.{type_of, table, remade, env_after, env_after_all, effect, effect_anywhere, shared_type, new_type, equal_type, refreshed_type, placed_type, active_type, interfered, interfered_local, all_within, FitsObserver}
use Rattle.plc_xfer.specs.Typings.{is_type, all_types, IsWellFormed}
use Rattle.plc_xfer.proofs.Kept.{KeepsAnywhere, KeepsTypes, anywhere_kept, effect_kept}
use Rattle.plc_xfer.proofs.Locations.{closure_keeps, step_keeps, either_keeps, either_in, step_unretired}
use Rattle.plc_auto.proofs.Growth.{closure_with_frees}
use Rattle.plc_auto.proofs.Closures.{closure_live}

and-false : (b : Bool) → (b && false) ≡ false
and-false true = refl
and-false false = refl

and-true : (b : Bool) → (b && true) ≡ b
and-true true = refl
and-true false = refl

-- what holds of both choices holds of the one that is made
pub if_holds : (P : PtrType → Type 0) (c : Bool) (t u : PtrType) → P t → P u → P (if c then t else u)
if_holds P true t u h k = h
if_holds P false t u h k = k

-- ---- lists

pub table_length : (i n : ℕ) (f : ℕ → PtrType) → length (table i n f) ≡ n
table_length i zero f = refl
table_length i (suc n) f = ap suc (table_length (i + 1) n f)

table_types : (o : Observer) (w i n : ℕ) (f : ℕ → PtrType) → ((j : ℕ) → is_type o w (f j) ≡ true) → all_types o w (table i n f) ≡ true
table_types o w i zero f h = refl
table_types o w i (suc n) f h = and_from _ _ (h i) (table_types o w (i + 1) n f h)

get_type : (o : Observer) (w : ℕ) (x : List PtrType) (i : ℕ) (d : PtrType) → all_types o w x ≡ true → is_type o w d ≡ true → is_type o w (get_or x i d) ≡ true
get_type o w [] i d h k = k
get_type o w (t ∷ x) zero d h k = (and_parts _ _ h).0
get_type o w (t ∷ x) (suc i) d h k = get_type o w x i d (and_parts _ _ h).1 k

table_within : (m i n : ℕ) (f : ℕ → PtrType) → ((j : ℕ) → within (f j).m m ≡ true) → all_within m (table i n f) ≡ true
table_within m i zero f h = refl
table_within m i (suc n) f h = and_from _ _ (h i) (table_within m (i + 1) n f h)

get_within : (m : ℕ) (x : List PtrType) (i : ℕ) (d : PtrType) → all_within m x ≡ true → within d.m m ≡ true → within (get_or x i d).m m ≡ true
get_within m [] i d h k = k
get_within m (t ∷ x) zero d h k = (and_parts _ _ h).0
get_within m (t ∷ x) (suc i) d h k = get_within m x i d (and_parts _ _ h).1 k

pub map_same : (t : PtrType) (x : List PtrType) → map (λ (u : PtrType). t) x ≡ replicate (length x) t
map_same t [] = refl
map_same t (u ∷ x) = ap (λ (y : List PtrType). t ∷ y) (map_same t x)

pub replicate_types : (o : Observer) (w n : ℕ) (t : PtrType) → is_type o w t ≡ true → all_types o w (replicate n t) ≡ true
replicate_types o w zero t h = refl
replicate_types o w (suc n) t h = and_from _ _ h (replicate_types o w n t h)

replicate_within : (m n : ℕ) (t : PtrType) → within t.m m ≡ true → all_within m (replicate n t) ≡ true
replicate_within m zero t h = refl
replicate_within m (suc n) t h = and_from _ _ h (replicate_within m n t h)

-- ---- types

-- a fact that each of the four sets has
pub guarantees_all : (P : Guar → Type 0) → P nothing → P safe_only → P active_safe → P active_local_safe → (g : Guar) → is_guarantee_set g ≡ true → P g
guarantees_all P a b c d g h = elim (or_cases _ _ h) [
  | inl x ↦ elim (or_cases _ _ x) [
    | inl y ↦ elim (or_cases _ _ y) [
      | inl z ↦ subst (λ (n : ℕ). P (numbered n)) (sym (eqb-true g.0 0 z)) a
      | inr z ↦ subst (λ (n : ℕ). P (numbered n)) (sym (eqb-true g.0 1 z)) b
    ]
    | inr y ↦ subst (λ (n : ℕ). P (numbered n)) (sym (eqb-true g.0 3 y)) c
  ]
  | inr x ↦ subst (λ (n : ℕ). P (numbered n)) (sym (eqb-true g.0 7 x)) d
]

-- what holds of each of the four
abbrev OfEach : (Guar → Type 0) → Type 0
OfEach P = P nothing × P safe_only × P active_safe × P active_local_safe

of_each : (P : Guar → Type 0) → OfEach P → (g : Guar) → is_guarantee_set g ≡ true → P g
of_each P e = guarantees_all P e.0 e.1 e.2 e.3

-- a fact that each two of the four sets have
pub pairs_all : (P : Guar → Guar → Type 0) → OfEach (P nothing) → OfEach (P safe_only) → OfEach (P active_safe) → OfEach (P active_local_safe) → (g : Guar) → is_guarantee_set g ≡ true → (h : Guar) → is_guarantee_set h ≡ true → P g h
pairs_all P a b c d = guarantees_all (λ g. (h : Guar) → is_guarantee_set h ≡ true → P g h) (of_each (P nothing) a) (of_each (P safe_only) b) (of_each (P active_safe) c) (of_each (P active_local_safe) d)

-- the facts on a type
pub record TypeFacts (o : Observer) (w : ℕ) (t : PtrType) : Type 0 where
  pub guarantees : is_guarantee_set t.g ≡ true
  pub inside : within t.m w ≡ true
  pub active : is_active t.g ≡ true → within t.m (unretired o) ≡ true

pub type_facts : (o : Observer) (w : ℕ) (t : PtrType) → is_type o w t ≡ true → TypeFacts o w t
type_facts o w t h =
    let x = and_parts _ _ h in
    let y = and_parts _ _ x.0 in
    record { guarantees = y.0; inside = y.1; active = chosen (is_active t.g) (within t.m (unretired o)) x.1 }
  where
    chosen : (c r : Bool) → (if c then r else true) ≡ true → c ≡ true → r ≡ true
    chosen true r h e = h
    chosen false r h e = cc

pub type_from : (o : Observer) (w : ℕ) (t : PtrType) → TypeFacts o w t → is_type o w t ≡ true
type_from o w t f = and_from _ _ (and_from _ _ f.guarantees f.inside) (choice (is_active t.g) (within t.m (unretired o)) f.active)
  where
    choice : (c r : Bool) → (c ≡ true → r ≡ true) → (if c then r else true) ≡ true
    choice true r h = h refl
    choice false r h = refl

pub null_is_type : (o : Observer) (w : ℕ) → is_type o w null_type ≡ true
null_is_type o w = type_from o w null_type (record { guarantees = refl; inside = empty_within w; active = λ h. empty_within (unretired o) })

pub bare_is_type : (o : Observer) (w : ℕ) → is_type o w (bare w) ≡ true
bare_is_type o w = type_from o w (bare w) (record { guarantees = refl; inside = within_self w; active = λ h. cc })

new_is_type : (o : Observer) (e : Env) → is_type o e.w (new_type o e) ≡ true
new_is_type o e = type_from o e.w (new_type o e) (record { guarantees = refl; inside = meet_within_left e.w (unretired o); active = λ h. meet_within_right e.w (unretired o) })

pub active_without : (g : Guar) → is_active (without_local g) ≡ true → is_active g ≡ true
active_without g h = grind (arith, leb-true 3 (min g.0 3) h)

local_removed : (g : Guar) → is_guarantee_set g ≡ true → is_guarantee_set (without_local g) ≡ true
local_removed = guarantees_all (λ g. is_guarantee_set (without_local g) ≡ true) refl refl refl refl

active_removed : (g : Guar) → is_guarantee_set g ≡ true → is_guarantee_set (without_active g) ≡ true
active_removed = guarantees_all (λ g. is_guarantee_set (without_active g) ≡ true) refl refl refl refl

not_active : (g : Guar) → is_active (without_active g) ≡ true → ⊥
not_active g h = let x = leb-true 3 (min g.0 1) h in omega arith

either_guarantees : (g : Guar) → is_guarantee_set g ≡ true → (h : Guar) → is_guarantee_set h ≡ true → is_guarantee_set (either g h) ≡ true
either_guarantees = pairs_all (λ g h. is_guarantee_set (either g h) ≡ true) (refl, refl, refl, refl) (refl, refl, refl, refl) (refl, refl, refl, refl) (refl, refl, refl, refl)

-- A of two sets together is A of one
active_of : (g h : Guar) → is_active (either g h) ≡ true → (is_active g ≡ true) ⊎ (is_active h ≡ true)
active_of g h a = elim (cases_Bool (is_active g)) [
  | inl x ↦ inl x
  | inr n ↦ (let small = leb-false 3 g.0 n in let large = leb-true 3 (max g.0 h.0) a in inr (le-leb 3 h.0 (omega arith)))
]

shared_is_type : (o : Observer) (w : ℕ) (t : PtrType) → is_type o w t ≡ true → is_type o w (shared_type t) ≡ true
shared_is_type o w t h = let f = type_facts o w t h in type_from o w (shared_type t) (record {
  guarantees = local_removed t.g f.guarantees;
  inside = f.inside;
  active = λ a. f.active (active_without t.g a);
})

equal_is_type : (o : Observer) (w : ℕ) (t u : PtrType) → is_type o w t ≡ true → is_type o w u ≡ true → is_type o w (equal_type t u) ≡ true
equal_is_type o w t u h k =
    let x = type_facts o w t h in
    let y = type_facts o w u k in
    type_from o w (equal_type t u) (record {
      guarantees = either_guarantees t.g x.guarantees u.g y.guarantees;
      inside = within_trans _ _ _ (meet_within_left t.m u.m) x.inside;
      active = λ a. elim (active_of t.g u.g a) [
        | inl p ↦ within_trans _ _ _ (meet_within_left t.m u.m) (x.active p)
        | inr q ↦ within_trans _ _ _ (meet_within_right t.m u.m) (y.active q)
      ];
    })

refreshed_is_type : (o : Observer) (w : ℕ) (t u : PtrType) → is_type o w t ≡ true → is_type o w u ≡ true → is_type o w (refreshed_type t u) ≡ true
refreshed_is_type o w t u h k =
    let x = type_facts o w t h in
    let y = type_facts o w u k in
    type_from o w (refreshed_type t u) (record {
      guarantees = local_removed u.g y.guarantees;
      inside = within_trans _ _ _ (meet_within_left t.m u.m) x.inside;
      active = λ a. within_trans _ _ _ (meet_within_right t.m u.m) (y.active (active_without u.g a));
    })

placed_is_type : (o : Observer) (w : ℕ) (t : PtrType) → is_type o w t ≡ true → is_type o w (placed_type t) ≡ true
placed_is_type o w t h = let f = type_facts o w t h in type_from o w (placed_type t) (record { guarantees = refl; inside = f.inside; active = λ a. cc })

active_is_type : (o : Observer) (w : ℕ) (t : PtrType) → is_type o w t ≡ true → is_type o w (active_type o t) ≡ true
active_is_type o w t h = let f = type_facts o w t h in type_from o w (active_type o t) (record {
  guarantees = either_guarantees t.g f.guarantees active_safe refl;
  inside = within_trans _ _ _ (meet_within_left t.m (unretired o)) f.inside;
  active = λ a. meet_within_right t.m (unretired o);
})

other_is_type : (o : Observer) (kind : EvKind) (w : ℕ) (t : PtrType) → is_type o w t ≡ true → is_type o (on_other o kind w) (other_type o kind t) ≡ true
other_is_type o kind w t h = let f = type_facts o w t h in type_from o (on_other o kind w) (other_type o kind t) (record {
  guarantees = f.guarantees;
  inside = step_keeps o kind false t.m w f.inside;
  active = λ a. step_unretired o kind false t.m (and-false (is_retirement kind)) (f.active a);
})

argument_is_type : (o : Observer) (f : FuncId) (w : ℕ) (t : PtrType) → is_type o w t ≡ true → is_type o (on_either o (Call f) w) (argument_type o f t) ≡ true
argument_is_type o f w t h = go (is_retire f) refl
  where
    x : TypeFacts o w t
    x = type_facts o w t h

    inside : within (on_this o (Call f) t.m) (on_either o (Call f) w) ≡ true
    inside = within_trans _ _ _ (step_keeps o (Call f) true t.m w x.inside) (within_union_left (on_this o (Call f) w) (on_other o (Call f) w))

    go : (r : Bool) → is_retire f ≡ r → is_type o (on_either o (Call f) w) (if r then record { g = without_active t.g; m = on_this o (Call f) t.m } else record { g = t.g; m = on_this o (Call f) t.m }) ≡ true
    go true r = type_from o _ _ (record { guarantees = active_removed t.g x.guarantees; inside = inside; active = λ a. absurd (not_active t.g a) })
    go false r = type_from o _ _ (record { guarantees = x.guarantees; inside = inside; active = λ a. step_unretired o (Call f) true t.m (and-true (is_retire f) ∙ r) (x.active a) })

beside_is_type : (o : Observer) (f : FuncId) (w : ℕ) (t : PtrType) → is_type o w t ≡ true → is_type o (on_either o (Call f) w) (beside_type o f t) ≡ true
beside_is_type o f w t h = go (is_retire f) (is_local t.g) refl
  where
    x : TypeFacts o w t
    x = type_facts o w t h

    inside : within (on_either o (Call f) t.m) (on_either o (Call f) w) ≡ true
    inside = either_keeps o (Call f) t.m w x.inside

    stays : is_retire f ≡ false → within t.m (unretired o) ≡ true → within (on_either o (Call f) t.m) (unretired o) ≡ true
    stays r u = union_least _ _ (unretired o) (step_unretired o (Call f) true t.m (and-true (is_retire f) ∙ r) u) (step_unretired o (Call f) false t.m (and-false (is_retire f)) u)

    go : (r l : Bool) → is_retire f ≡ r → is_type o (on_either o (Call f) w) (if r then (if l then record { g = t.g; m = meet (on_either o (Call f) t.m) (unretired o) } else record { g = without_active t.g; m = on_either o (Call f) t.m }) else record { g = t.g; m = on_either o (Call f) t.m }) ≡ true
    go true true r = type_from o (on_either o (Call f) w) (record { g = t.g; m = meet (on_either o (Call f) t.m) (unretired o) }) (record { guarantees = x.guarantees; inside = within_trans _ _ _ (meet_within_left (on_either o (Call f) t.m) (unretired o)) inside; active = λ a. meet_within_right (on_either o (Call f) t.m) (unretired o) })
    go true false r = type_from o (on_either o (Call f) w) (record { g = without_active t.g; m = on_either o (Call f) t.m }) (record { guarantees = active_removed t.g x.guarantees; inside = inside; active = λ a. absurd (not_active t.g a) })
    go false l r = type_from o (on_either o (Call f) w) (record { g = t.g; m = on_either o (Call f) t.m }) (record { guarantees = x.guarantees; inside = inside; active = λ a. stays r (x.active a) })

-- ---- the rules keep the facts

pub variable_is_type : (o : Observer) (e : Env) → IsWellFormed o e → (v : Var) → is_type o e.w (type_of e v) ≡ true
unfolding type_of
variable_is_type o e x (Shared i) = get_type o e.w e.shared i (bare e.w) x.shared_types (bare_is_type o e.w)
variable_is_type o e x (Local i) = get_type o e.w e.locals i (bare e.w) x.local_types (bare_is_type o e.w)

-- the locations of an environment, and a type beside where any address may stand
abbrev IsInside : Observer → ℕ → ℕ → Type 0
IsInside o v w = within v (all_locations o) ≡ true

abbrev IsType : Observer → ℕ → PtrType → ℕ → PtrType → Type 0
IsType o v t w u = is_type o v t ≡ true

anywhere_inside : (o : Observer) → KeepsAnywhere o (IsInside o)
anywhere_inside o = record {
  other = λ kind v w h. step_set_live o v kind true false h;
  named = λ kind v w h. either_in o kind v h;
}

types_are_types : (o : Observer) → KeepsTypes o (IsInside o) (IsType o)
types_are_types o = record {
  null = λ v w. null_is_type o v;
  bare_one = λ v w h. bare_is_type o v;
  new_one = λ a b h. new_is_type o a;
  shared = λ v w t u h. shared_is_type o v t h;
  equal = λ v w t u x y h k. equal_is_type o v t x h k;
  refreshed = λ v w t u x y h k. refreshed_is_type o v t x h k;
  placed = λ v w t u h. placed_is_type o v t h;
  active = λ v w t u h. active_is_type o v t h;
  other = λ kind v w t u h. other_is_type o kind v t h;
  argument = λ f v w t u h. argument_is_type o f v t h;
  beside = λ f v w t u h. beside_is_type o f v t h;
}

effect_is_type : (o : Observer) (e : Env) (k : Primitive) → IsWellFormed o e → (v : Var) → is_type o (effect_anywhere o e k) (effect o e k v) ≡ true
effect_is_type o e k x = effect_kept o (IsInside o) (IsType o) (types_are_types o) e e k x.anywhere (variable_is_type o e x)

after_anywhere : (o : Observer) (e : Env) (k : Primitive) → within e.w (all_locations o) ≡ true → within (effect_anywhere o e k) (all_locations o) ≡ true
after_anywhere o e k h = anywhere_kept o (IsInside o) (anywhere_inside o) e e k h

pub after_well_formed : (o : Observer) (e : Env) (k : Primitive) → IsWellFormed o e → IsWellFormed o (env_after o e k)
unfolding env_after remade
after_well_formed o e k x =
    let types = effect_is_type o e k x in
    record {
      anywhere = after_anywhere o e k x.anywhere;
      shared_types = table_types o (effect_anywhere o e k) 0 (length e.shared) (λ i. effect o e k (Shared i)) (λ j. types (Shared j));
      local_types = table_types o (effect_anywhere o e k) 0 (length e.locals) (λ i. effect o e k (Local i)) (λ j. types (Local j));
    }

pub after_all_well_formed : (o : Observer) (e : Env) (ks : List Primitive) → IsWellFormed o e → IsWellFormed o (env_after_all o e ks)
after_all_well_formed o e [] x = x
after_all_well_formed o e (k ∷ ks) x = after_all_well_formed o (env_after o e k) ks (after_well_formed o e k x)

-- a local after interference
pub interfered_is_type : (o : Observer) (w : ℕ) (t : PtrType) → is_type o w t ≡ true → is_type o (closure o true w) (interfered_local o t) ≡ true
interfered_is_type o w t h = go (is_local t.g) (is_safe t.g && within (closure o false t.m) (safe o))
  where
    f : TypeFacts o w t
    f = type_facts o w t h

    freed : within (closure o true t.m) (closure o true w) ≡ true
    freed = closure_keeps o true t.m w f.inside

    kept : within (closure o false t.m) (closure o true w) ≡ true
    kept = within_trans _ _ _ (closure_with_frees o t.m) freed

    go : (l s : Bool) → is_type o (closure o true w) (if l then record { g = t.g; m = meet (closure o false t.m) (unretired o) } else if s then record { g = safe_only; m = closure o false t.m } else record { g = nothing; m = closure o true t.m }) ≡ true
    go true s = type_from o (closure o true w) (record { g = t.g; m = meet (closure o false t.m) (unretired o) }) (record {
      guarantees = f.guarantees;
      inside = within_trans _ _ _ (meet_within_left (closure o false t.m) (unretired o)) kept;
      active = λ a. meet_within_right (closure o false t.m) (unretired o);
    })
    go false true = type_from o (closure o true w) (record { g = safe_only; m = closure o false t.m }) (record { guarantees = refl; inside = kept; active = λ a. cc })
    go false false = type_from o (closure o true w) (record { g = nothing; m = closure o true t.m }) (record { guarantees = refl; inside = freed; active = λ a. cc })

interfered_types : (o : Observer) (w : ℕ) (x : List PtrType) → all_types o w x ≡ true → all_types o (closure o true w) (map (interfered_local o) x) ≡ true
interfered_types o w [] h = refl
interfered_types o w (t ∷ x) h = let p = and_parts _ _ h in and_from _ _ (interfered_is_type o w t p.0) (interfered_types o w x p.1)

pub interfered_well_formed : (o : Observer) (e : Env) → IsWellFormed o e → IsWellFormed o (interfered o e)
unfolding interfered
interfered_well_formed o e x = record {
  anywhere = closure_live o true e.w x.anywhere;
  shared_types = rw (map_same (bare (closure o true e.w)) e.shared) (replicate_types o (closure o true e.w) (length e.shared) (bare (closure o true e.w)) (bare_is_type o (closure o true e.w)));
  local_types = interfered_types o e.w e.locals x.local_types;
}

-- ---- the locations stay the observer's

types_within : (o : Observer) (w : ℕ) (x : List PtrType) → within w (all_locations o) ≡ true → all_types o w x ≡ true → all_within (all_locations o) x ≡ true
types_within o w [] a h = refl
types_within o w (t ∷ x) a h = let p = and_parts _ _ h in and_from _ _ (within_trans _ _ _ (type_facts o w t p.0).inside a) (types_within o w x a p.1)

pub well_formed_fits : (o : Observer) (e : Env) → IsWellFormed o e → FitsObserver o e
well_formed_fits o e x = record {
  anywhere = x.anywhere;
  shared = types_within o e.w e.shared x.anywhere x.shared_types;
  locals = types_within o e.w e.locals x.anywhere x.local_types;
}

pub variable_within : (o : Observer) (e : Env) → FitsObserver o e → (v : Var) → within (type_of e v).m (all_locations o) ≡ true
unfolding type_of
variable_within o e x (Shared i) = get_within (all_locations o) e.shared i (bare e.w) x.shared x.anywhere
variable_within o e x (Local i) = get_within (all_locations o) e.locals i (bare e.w) x.locals x.anywhere

abbrev HasLocations : Observer → ℕ → PtrType → ℕ → PtrType → Type 0
HasLocations o v t w u = within t.m (all_locations o) ≡ true

argument_inside : (o : Observer) (f : FuncId) (t : PtrType) → within t.m (all_locations o) ≡ true → within (argument_type o f t).m (all_locations o) ≡ true
argument_inside o f t h = if_holds (λ u. within u.m (all_locations o) ≡ true) (is_retire f) _ _ this this
  where
    this : within (on_this o (Call f) t.m) (all_locations o) ≡ true
    this = step_set_live o t.m (Call f) true true h

beside_inside : (o : Observer) (f : FuncId) (t : PtrType) → within t.m (all_locations o) ≡ true → within (beside_type o f t).m (all_locations o) ≡ true
beside_inside o f t h =
    let P : PtrType → Type 0 = λ u. within u.m (all_locations o) ≡ true in
    let both = either_in o (Call f) t.m h in
    if_holds P (is_retire f) _ _ (if_holds P (is_local t.g) _ _ (within_trans _ _ _ (meet_within_left (on_either o (Call f) t.m) (unretired o)) both) both) both

types_inside : (o : Observer) → KeepsTypes o (IsInside o) (HasLocations o)
types_inside o = record {
  null = λ v w. empty_within (all_locations o);
  bare_one = λ v w h. h;
  new_one = λ a b h. within_trans _ _ _ (meet_within_left a.w (unretired o)) h;
  shared = λ v w t u h. h;
  equal = λ v w t u x y h k. within_trans _ _ _ (meet_within_left t.m x.m) h;
  refreshed = λ v w t u x y h k. within_trans _ _ _ (meet_within_left t.m x.m) h;
  placed = λ v w t u h. h;
  active = λ v w t u h. within_trans _ _ _ (meet_within_left t.m (unretired o)) h;
  other = λ kind v w t u h. step_set_live o t.m kind true false h;
  argument = λ f v w t u h. argument_inside o f t h;
  beside = λ f v w t u h. beside_inside o f t h;
}

effect_within : (o : Observer) (e : Env) (k : Primitive) → FitsObserver o e → (v : Var) → within (effect o e k v).m (all_locations o) ≡ true
effect_within o e k x = effect_kept o (IsInside o) (HasLocations o) (types_inside o) e e k x.anywhere (variable_within o e x)

pub after_fits : (o : Observer) (e : Env) (k : Primitive) → FitsObserver o e → FitsObserver o (env_after o e k)
unfolding env_after remade
after_fits o e k x = let inside = effect_within o e k x in record {
  anywhere = after_anywhere o e k x.anywhere;
  shared = table_within (all_locations o) 0 (length e.shared) (λ i. effect o e k (Shared i)) (λ j. inside (Shared j));
  locals = table_within (all_locations o) 0 (length e.locals) (λ i. effect o e k (Local i)) (λ j. inside (Local j));
}

interfered_inside : (o : Observer) (t : PtrType) → within t.m (all_locations o) ≡ true → within (interfered_local o t).m (all_locations o) ≡ true
interfered_inside o t h =
    let P : PtrType → Type 0 = λ u. within u.m (all_locations o) ≡ true in
    let kept = closure_live o false t.m h in
    if_holds P (is_local t.g) _ _ (within_trans _ _ _ (meet_within_left (closure o false t.m) (unretired o)) kept)
    (if_holds P (is_safe t.g && within (closure o false t.m) (safe o)) _ _ kept (closure_live o true t.m h))

interfered_within : (o : Observer) (x : List PtrType) → all_within (all_locations o) x ≡ true → all_within (all_locations o) (map (interfered_local o) x) ≡ true
interfered_within o [] h = refl
interfered_within o (t ∷ x) h = let p = and_parts _ _ h in and_from _ _ (interfered_inside o t p.0) (interfered_within o x p.1)

pub interfered_fits : (o : Observer) (e : Env) → FitsObserver o e → FitsObserver o (interfered o e)
unfolding interfered
interfered_fits o e x = let inside = closure_live o true e.w x.anywhere in record {
  anywhere = inside;
  shared = rw (map_same (bare (closure o true e.w)) e.shared) (replicate_within (all_locations o) (length e.shared) (bare (closure o true e.w)) inside);
  locals = interfered_within o e.locals x.locals;
}
