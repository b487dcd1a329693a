-- The rules keep the order of environments and the facts on them.
use Rattle.std.proofs.Common.{◌≡◌, ℕ, zero, suc, ◌<◌, true, List, [], ◌∷◌, length, replicate, refl, sym, ap, ◌∙◌, arith, min}
use Rattle.std.specs.Prelude.{nat_le}
use Rattle.std.proofs.lemmas.Bool.{and_parts, and_from, leb-true, lt-ltb, le-leb}
use Rattle.std.proofs.lemmas.List.{length-replicate}
use Rattle.plc_base.specs.Mask.{union, no_members}
use Rattle.plc_base.proofs.MaskLemmas.{within_self, empty_within, union_least, union_monotone, within_small, mask_of_small}
use Rattle.plc_lang.specs.declared.syntax.Primitive.{Primitive}
use Rattle.plc_auto.specs.declared.observer.Observer.{Observer}
use Rattle.plc_auto.specs.Sets.{all_locations, unretired, closure, is_location}
use Rattle.plc_type.specs.declared.guarantee.Guar.{Guar}
use Rattle.plc_type.specs.declared.env.PtrType.{PtrType}
use Rattle.plc_type.specs.declared.env.Env.{Env}
use Rattle.plc_type.specs.Guarantees.{common, is_guarantee_set}
use Rattle.plc_type.specs.Types.{bare, null_type, type_below, type_join}
use Rattle.plc_type.specs.Environments.{types_below, types_join, env_below, env_join, SameShape, bottom, entry}
use Rattle.plc_type.specs.Laws.{InRange, in_range, all_in_range}
use Rattle.plc_type.proofs.Ordered.{by_parts, env_from, types_length}
use Rattle.plc_xfer.specs.Rules.{env_after_all, interfered}
use Rattle.plc_xfer.specs.Typings.{is_type, all_types, IsEnvironment, IsWellFormed, led}
use Rattle.plc_xfer.specs.Laws.{RulesKeepOrder}
use Rattle.plc_xfer.proofs.Facts.{type_facts, type_from, guarantees_all, pairs_all, null_is_type, bare_is_type, replicate_types, map_same, after_all_well_formed, interfered_well_formed}
use Rattle.plc_xfer.proofs.Rows.{map_length}
use Rattle.plc_xfer.proofs.Keeps.{after_all_shape, after_all_below, interfered_below, at_sooner}
use Rattle.plc_auto.proofs.Closures.{closure_live}

-- ---- bottom and entry

pub replicate_below : (n : ℕ) (t u : PtrType) → type_below t u ≡ true → types_below (replicate n t) (replicate n u) ≡ true
replicate_below zero t u h = refl
replicate_below (suc n) t u h = and_from _ _ h (replicate_below n t u h)

small_guarantees : (g : Guar) → is_guarantee_set g ≡ true → nat_le g.0 7 ≡ true
small_guarantees = guarantees_all (λ g. nat_le g.0 7 ≡ true) refl refl refl refl

nulls_below : (o : Observer) (w m : ℕ) (y : List PtrType) → length y ≡ m → all_types o w y ≡ true → types_below (replicate m null_type) y ≡ true
nulls_below o w zero y e h = refl
nulls_below o w (suc m) [] e h = absurd (omega arith)
nulls_below o w (suc m) (t ∷ y) e h =
    let p = and_parts _ _ h in
    let f = type_facts o w t p.0 in
    and_from _ _ (and_from _ _ (small_guarantees t.g f.guarantees) (empty_within t.m)) (nulls_below o w m y (omega arith) p.1)

pub bottom_is : (o : Observer) (n m : ℕ) → IsEnvironment o n m (bottom n m)
bottom_is o n m = record {
  anywhere = empty_within (all_locations o);
  shared_types = refl;
  count = length-replicate m null_type;
  types = replicate_types o no_members m null_type (null_is_type o no_members);
}

pub bottom_least : (o : Observer) (n m : ℕ) (e : Env) → IsEnvironment o n m e → env_below (bottom n m) e ≡ true
bottom_least o n m e x = env_from (bottom n m) e (empty_within e.w)
    (rw x.shared_types (replicate_below n (bare no_members) (bare e.w) (empty_within e.w)))
    (nulls_below o e.w m e.locals x.count x.types)

pub entry_is : (o : Observer) (n m : ℕ) → IsEnvironment o n m (entry n m (all_locations o))
entry_is o n m = record {
  anywhere = within_self (all_locations o);
  shared_types = refl;
  count = length-replicate m null_type;
  types = replicate_types o (all_locations o) m null_type (null_is_type o (all_locations o));
}

-- ---- joins

common_guarantees : (g : Guar) → is_guarantee_set g ≡ true → (h : Guar) → is_guarantee_set h ≡ true → is_guarantee_set (common g h) ≡ true
common_guarantees = pairs_all (λ g h. is_guarantee_set (common g h) ≡ true) (refl, refl, refl, refl) (refl, refl, refl, refl) (refl, refl, refl, refl) (refl, refl, refl, refl)

join_is_type : (o : Observer) (v w : ℕ) (t u : PtrType) → is_type o v t ≡ true → is_type o w u ≡ true → is_type o (union v w) (type_join t u) ≡ true
join_is_type o v w t u h k =
    let x = type_facts o v t h in
    let y = type_facts o w u k in
    type_from o (union v w) (type_join t u) (record {
      guarantees = common_guarantees t.g x.guarantees u.g y.guarantees;
      inside = union_monotone t.m u.m v w x.inside y.inside;
      active = λ a. let least = leb-true 3 (min t.g.0 u.g.0) a in union_least t.m u.m (unretired o) (x.active (le-leb 3 t.g.0 (omega arith))) (y.active (le-leb 3 u.g.0 (omega arith)));
    })

join_types : (o : Observer) (v w : ℕ) (x y : List PtrType) → all_types o v x ≡ true → all_types o w y ≡ true → all_types o (union v w) (types_join x y) ≡ true
join_types o v w [] y h k = refl
join_types o v w (t ∷ x) [] h k = refl
join_types o v w (t ∷ x) (u ∷ y) h k = by_parts _ _ _ _ _ _ (join_is_type o v w t u) (join_types o v w x y) h k

join_bare : (n v w : ℕ) → types_join (replicate n (bare v)) (replicate n (bare w)) ≡ replicate n (bare (union v w))
join_bare zero v w = refl
join_bare (suc n) v w = ap (λ (x : List PtrType). bare (union v w) ∷ x) (join_bare n v w)

-- ---- ranges

all_small : (o : Observer) → all_locations o < 256
unfolding all_locations
all_small o = mask_of_small (is_location o)

type_in_range : (o : Observer) (w : ℕ) (t : PtrType) → w < 256 → is_type o w t ≡ true → in_range t ≡ true
type_in_range o w t s h = let f = type_facts o w t h in and_from _ _ (small_guarantees t.g f.guarantees) (lt-ltb _ _ (within_small t.m w f.inside s))

types_in_range : (o : Observer) (w : ℕ) (x : List PtrType) → w < 256 → all_types o w x ≡ true → all_in_range x ≡ true
types_in_range o w [] s h = refl
types_in_range o w (t ∷ x) s h = let p = and_parts _ _ h in and_from _ _ (type_in_range o w t s p.0) (types_in_range o w x s p.1)

-- an environment of a pre-typing is well formed, which is all that the rules ask of one
pub well_formed : (o : Observer) (n m : ℕ) (e : Env) → IsEnvironment o n m e → IsWellFormed o e
well_formed o n m e x = record {
  anywhere = x.anywhere;
  shared_types = rw x.shared_types (replicate_types o e.w n (bare e.w) (bare_is_type o e.w));
  local_types = x.types;
}

pub range : (o : Observer) (n m : ℕ) (e : Env) → IsEnvironment o n m e → InRange e
range o n m e x =
    let small = within_small e.w (all_locations o) x.anywhere (all_small o) in
    let y = well_formed o n m e x in
    (small, types_in_range o e.w e.shared small y.shared_types, types_in_range o e.w e.locals small y.local_types)

-- ---- steps

shared_count : (o : Observer) (n m : ℕ) (e : Env) → IsEnvironment o n m e → length e.shared ≡ n
shared_count o n m e x = ap length x.shared_types ∙ length-replicate n (bare e.w)

pub same_shape : (o : Observer) (n m : ℕ) (a b : Env) → IsEnvironment o n m a → IsEnvironment o n m b → SameShape a b
same_shape o n m a b x y = (shared_count o n m a x ∙ sym (shared_count o n m b y), x.count ∙ sym y.count)

pub led_is : (o : Observer) (n m : ℕ) (e : Env) (prims : List Primitive) → IsEnvironment o n m e → IsEnvironment o n m (led o e prims)
unfolding interfered
led_is o n m e prims x =
    let after = env_after_all o e prims in
    let y = after_all_well_formed o e prims (well_formed o n m e x) in
    let s = after_all_shape o e prims in
    let w = closure o true after.w in
    record {
      anywhere = closure_live o true after.w y.anywhere;
      shared_types = map_same (bare w) after.shared ∙ ap (λ (k : ℕ). replicate k (bare w)) (s.0 ∙ shared_count o n m e x);
      count = map_length _ after.locals ∙ s.1 ∙ x.count;
      types = (interfered_well_formed o after y).local_types;
    }

pub kept : RulesKeepOrder
unfolding env_join
kept = record {
  bottom_is = bottom_is;
  bottom_least = bottom_least;
  entry_is = entry_is;
  join_is = λ o n m a b x y. record {
    anywhere = union_least a.w b.w (all_locations o) x.anywhere y.anywhere;
    shared_types = rw (x.shared_types, y.shared_types) (join_bare n a.w b.w);
    count = types_length a.locals b.locals (x.count ∙ sym y.count) ∙ x.count;
    types = join_types o a.w b.w a.locals b.locals x.types y.types;
  };
  range = range;
  led_is = led_is;
  led_keeps = λ o n m a b prims x y h. interfered_below o (env_after_all o a prims) (env_after_all o b prims)
      (after_all_below o a b prims (same_shape o n m a b x y) h);
  sooner = λ o n m a b prims i x y h k. at_sooner o a b prims i (same_shape o n m a b x y) h k;
}
