-- A table of equalities that is extended and taken back.
use Rattle.std.proofs.Common.{◌≡◌, ◌≢◌, ◌<◌, ◌≤◌, ◌+◌, ◌-◌, ◌==◌, ℕ, suc, Bool, true, false, List, [], ◌∷◌, ◌++◌, length, take, drop, set, get_or, sum, Option, Some, None, ◌⊎◌, inl, inr, refl, sym, ◌∙◌, ap, subst, arith, append_assoc, below_more, drop-cons, Result, Ok, Err, if◌then◌else◌}
use Rattle.std.specs.Prelude.{OnOk, IfNone, is_some, Contains, slice_get, slice_index, slice_index_or}
use Rattle.std.proofs.lemmas.Grind.{common_steps}
use Rattle.std.proofs.lemmas.Bool.{cases_order}
use Rattle.std.proofs.lemmas.Option.{slice_get_within}
use Rattle.std.proofs.lemmas.List.{length-set, length-append, length-take-le, take-take, get_or-set_same, get_or-set_other, get_or-take, get_or_default, take_all, take-append-le, take-append-drop, drop_all, drop-append-le, append-nil, set_past}
use Rattle.std.proofs.lemmas.List.Elements.{Contains-push, Contains-append_left}
use Rattle.plc_ground.specs.declared.terms.Map.{Map}
use Rattle.plc_ground.specs.declared.terms.Lit.{Lit}
use Rattle.plc_ground.specs.declared.terms.GroundTerm.{GroundTerm}
use Rattle.plc_ground.specs.declared.terms.GroundTerm.TheVariants.{App}
use Rattle.plc_ground.specs.declared.equalities.Change.{Change}
use Rattle.plc_ground.specs.declared.equalities.Equalities.{Equalities}
use Rattle.plc_ground.specs.Model.{equation, IsCongruent}
use Rattle.plc_ground.specs.Equality.{back}
use Rattle.plc_ground.specs.Fit.{ArgumentsInRange, NoTermTwice}
use Rattle.plc_ground.specs.Classes.{Joins, IsMerged, IsClosure, IsClash, IsCoarser, AreLists, AreArguments, IsOfOneMap, AreApplications, IsApplication}
use Rattle.plc_ground.specs.Changes.{undone, Extends, HasArgumentIn, AgreeAt, IsAloneIn, IsClearOf, ClashOnlyIn, IsJoined, Settles, to_settle}
use Rattle.plc_ground.proofs.Joining.{sum-set_less, new_class, merged_joined, clash_same, closure_extended}
use Rattle.plc_ground.proofs.Listing.{one_application}

undone-append : (xs ys : List Change) (class : List ℕ) → undone (xs ++ ys) class ≡ undone xs (undone ys class)
undone-append [] ys class = refl
undone-append (x ∷ xs) ys class = ap (λ (c : List ℕ). set c x.term x.class) (undone-append xs ys class)

-- nothing was changed
pub extends_same : (old new : Equalities) → new.class ≡ old.class → new.trail ≡ old.trail → Extends old new
extends_same old new c t = record { changes = []; trail = t ∙ sym (append-nil old.trail); back = c }

-- one extension after another
pub extends_more : (a b c : Equalities) → Extends a b → Extends b c → Extends a c
extends_more a b c p q = record {
  changes = p.changes ++ q.changes;
  trail = q.trail ∙ ap (λ (t : List Change). t ++ q.changes) p.trail ∙ append_assoc a.trail p.changes q.changes;
  back = undone-append p.changes q.changes c.class ∙ ap (undone p.changes) q.back ∙ p.back;
}

-- what an extension changed is taken back at its mark
pub extends_back : (old new : Equalities) → Extends old new → undone (drop (length old.trail) new.trail) new.class ≡ old.class
extends_back old new e =
    let rest : drop (length old.trail) new.trail ≡ e.changes =
    ap (drop (length old.trail)) e.trail ∙ drop-append-le (length old.trail) old.trail e.changes (omega arith) ∙ ap (λ (t : List Change). t ++ e.changes) (drop_all (length old.trail) old.trail (omega arith)) in
    ap (λ (t : List Change). undone t new.class) rest ∙ e.back

pub extends_front : (old new : Equalities) → Extends old new → take (length old.trail) new.trail ≡ old.trail
extends_front old new e = ap (take (length old.trail)) e.trail ∙ take-append-le (length old.trail) old.trail e.changes (omega arith) ∙ take_all (length old.trail) old.trail (omega arith)

-- a few changes are taken back before the others
pub undone_from : (mark n : ℕ) (trail : List Change) (class : List ℕ) → mark ≤ n → n ≤ length trail →
    undone (drop mark trail) class ≡ undone (drop mark (take n trail)) (undone (drop n trail) class)
undone_from mark n trail class le within =
    let len : length (take n trail) ≡ n = length-take-le n trail within in
    let split : drop mark trail ≡ drop mark (take n trail) ++ drop n trail =
    ap (drop mark) (sym (take-append-drop n trail)) ∙ drop-append-le mark (take n trail) (drop n trail) (omega (arith, len, le)) in
    ap (λ (t : List Change). undone t class) split ∙ undone-append (drop mark (take n trail)) (drop n trail) class

-- terms before k have come from the class `high` to the class `low`
pub record MergedUpTo (old new : List ℕ) (low high k : ℕ) : Type 0 where
  pub one_each : length new ≡ length old
  pub moved : (i : ℕ) → i < k → slice_index old i ≡ high → slice_index new i ≡ low
  pub stayed : (i : ℕ) → i < k → slice_index old i ≢ high → slice_index new i ≡ slice_index old i
  pub left : (i : ℕ) → k ≤ i → slice_index new i ≡ slice_index old i
  pub no_more : sum new ≤ sum old
  pub less : (i : ℕ) → i < k → slice_index old i ≡ high → sum new < sum old

pub merged_first : (class : List ℕ) (low high : ℕ) → MergedUpTo class class low high 0
merged_first class low high = record {
  one_each = refl;
  moved = λ i lt. absurd (omega arith);
  stayed = λ i lt. absurd (omega arith);
  left = λ i le. refl;
  no_more = omega arith;
  less = λ i lt. absurd (omega arith);
}

pub merged_shifted : (old now new : List ℕ) (low high k : ℕ) → low < high → MergedUpTo old now low high k → k < length now → slice_index now k ≡ high → new ≡ set now k low →
    MergedUpTo old new low high (k + 1)
merged_shifted old now new low high k lh m kl e is =
    let less : sum (set now k low) < sum now = sum-set_less now k low kl (omega (arith, e, lh)) in
    let at : slice_index old k ≡ high = sym (m.left k (omega arith)) ∙ e in
    subst (λ (c : List ℕ). MergedUpTo old c low high (k + 1)) (sym is) (record {
      one_each = length-set now k low ∙ m.one_each;
      moved = below_more (λ i. slice_index old i ≡ high → slice_index (set now k low) i ≡ low) k
          (λ i il p. get_or-set_other now k i low 0 (λ ik. omega (arith, ik, il)) ∙ m.moved i il p) (λ p. get_or-set_same now k low 0 kl);
      stayed = below_more (λ i. slice_index old i ≢ high → slice_index (set now k low) i ≡ slice_index old i) k
          (λ i il p. get_or-set_other now k i low 0 (λ ik. omega (arith, ik, il)) ∙ m.stayed i il p) (λ p. absurd (p at));
      left = λ i le. get_or-set_other now k i low 0 (λ ik. omega (arith, ik, le)) ∙ m.left i (omega arith);
      no_more = omega (arith, less, m.no_more);
      less = λ i il p. omega (arith, less, m.no_more);
    })

pub merged_other : (old now : List ℕ) (low high k : ℕ) → MergedUpTo old now low high k → slice_index now k ≢ high → MergedUpTo old now low high (k + 1)
merged_other old now low high k m ne = record {
  one_each = m.one_each;
  moved = below_more (λ i. slice_index old i ≡ high → slice_index now i ≡ low) k m.moved (λ p. absurd (ne (m.left k (omega arith) ∙ p)));
  stayed = below_more (λ i. slice_index old i ≢ high → slice_index now i ≡ slice_index old i) k m.stayed (λ p. m.left k (omega arith));
  left = λ i le. m.left i (omega arith);
  no_more = m.no_more;
  less = below_more (λ i. slice_index old i ≡ high → sum now < sum old) k m.less (λ p. absurd (ne (m.left k (omega arith) ∙ p)));
}

pub merged_all : (old new : List ℕ) (low high k : ℕ) → MergedUpTo old new low high k → length old ≤ k → Joins old new low high
merged_all old new low high k m le i il = by_test (slice_index old i == high) refl
  where
    by_test : (b : Bool) → (slice_index old i == high) ≡ b → slice_index new i ≡ (if b then low else slice_index old i)
    by_test true t = m.moved i (omega arith) (grind (arith, common_steps))
    by_test false t = m.stayed i (omega arith) (λ p. grind (arith, common_steps))

module _ (old new : List ℕ) (low high : ℕ) (joins : Joins old new low high) where
  -- what was in one class still is
  pub coarser_joined : IsCoarser old new
  coarser_joined i j il jl e =
      elim (new_class old new low high joins i il) [
        | inl p ↦ elim (new_class old new low high joins j jl) [ inl q ↦ p.1 ∙ sym q.1 | inr q ↦ absurd (q.0 (sym e ∙ p.0)) ]
        | inr p ↦ elim (new_class old new low high joins j jl) [ inl q ↦ absurd (p.0 (e ∙ q.0)) | inr q ↦ p.1 ∙ e ∙ sym q.1 ]
      ]

  -- a new clash has its arguments in the class that was joined
  pub clashes_joined : (terms : List GroundTerm) (joined : List ℕ) → length terms ≤ length old → ArgumentsInRange terms →
      ClashOnlyIn terms old joined → ClashOnlyIn terms new (joined ++ low ∷ [])
  clashes_joined terms joined lens range before i j k =
      let il : i < length old = omega (arith, slice_get_within terms i _ k.first_is, lens) in
      let jl : j < length old = omega (arith, slice_get_within terms j _ k.second_is, lens) in
      let al : k.first < length old = omega (arith, range _ _ _ _ k.first_is, lens) in
      let bl : k.second < length old = omega (arith, range _ _ _ _ k.second_is, lens) in
      elim (new_class old new low high joins k.first al) [
        | inl p ↦ subst (Contains (joined ++ low ∷ [])) (sym p.1) (Contains-push joined low)
        | inr p ↦ elim (new_class old new low high joins k.second bl) [
          | inl q ↦ subst (Contains (joined ++ low ∷ [])) (sym (k.arguments ∙ q.1)) (Contains-push joined low)
          | inr q ↦
              let arguments = sym p.1 ∙ k.arguments ∙ q.1 in
              let differ : slice_index old i ≢ slice_index old j = λ e. k.differ (coarser_joined i j il jl e) in
              let was : IsClash terms old i j =
              record { map = k.map; version = k.version; first = k.first; second = k.second; first_is = k.first_is; second_is = k.second_is; arguments = arguments; differ = differ } in
              subst (Contains (joined ++ low ∷ [])) (sym p.1) (Contains-append_left joined (low ∷ []) _ (before i j was))
        ]
      ]

-- the class of x takes the terms of the class of y
joined_up : (old new : Equalities) (x y low high : ℕ) → low < high → slice_index old.class x ≡ low → slice_index old.class y ≡ high → x < length old.class → y < length old.class →
    Joins old.class new.class low high → length new.class ≡ length old.class → sum new.class < sum old.class →
    Extends old new → new.joined ≡ old.joined ++ low ∷ [] → IsJoined old new x y
joined_up old new x y low high lh xs ys xl yl joins len less extends js = record {
  one_each = len;
  kept = λ terms branch m e. merged_joined terms branch old.class new.class low high x y lh joins m xl yl xs ys len e;
  together = first_class ∙ sym second_class;
  coarser = coarser_joined old.class new.class low high joins;
  less = less;
  extends = extends;
  count = let e = ap length js in let long = length-append old.joined (low ∷ []) in omega (arith, e, long);
  left = λ terms lens range before. subst (ClashOnlyIn terms new.class) (sym js) (clashes_joined old.class new.class low high joins terms old.joined lens range before);
}
  where
    first_class : slice_index new.class x ≡ low
    first_class = elim (new_class old.class new.class low high joins x xl) [ inl p ↦ p.1 | inr p ↦ p.1 ∙ xs ]

    second_class : slice_index new.class y ≡ low
    second_class = elim (new_class old.class new.class low high joins y yl) [ inl p ↦ p.1 | inr p ↦ absurd (p.0 ys) ]

pub joined_answer : {T E : Type 0} (r : Result T E) (old new : Equalities) (x y low high : ℕ) → OnOk r (Joins old.class new.class low high) → OnOk r (length new.class ≡ length old.class) →
    OnOk r ((k : ℕ) → k < length old.class → slice_index old.class k ≡ high → sum new.class < sum old.class) → OnOk r (Extends old new) → OnOk r (new.joined ≡ old.joined ++ low ∷ []) →
    low < high → slice_index old.class x ≡ low → slice_index old.class y ≡ high → x < length old.class → y < length old.class → OnOk r (IsJoined old new x y)
joined_answer (Ok v) old new x y low high joins len less extends js lh xs ys xl yl = joined_up old new x y low high lh xs ys xl yl joins len (less y yl ys) extends js
joined_answer (Err e) old new x y low high joins len less extends js lh xs ys xl yl = tt

pub joined_other_way : (old new : Equalities) (x y : ℕ) → IsJoined old new y x → IsJoined old new x y
joined_other_way old new x y j = record {
  one_each = j.one_each;
  kept = λ terms branch m e. j.kept terms branch m (back x y e);
  together = sym j.together;
  coarser = j.coarser;
  less = j.less;
  extends = j.extends;
  count = j.count;
  left = j.left;
}

-- an application of a list, with its argument
argument_of : (terms : List GroundTerm) (class list : List ℕ) (m : Map) (v x k : ℕ) → AreApplications terms m v list → k < length list → HasArgumentIn terms class x (slice_index list k) →
    (a : ℕ) × (slice_get terms (slice_index list k) ≡ Some (App m v a)) × (slice_index class a ≡ x)
argument_of terms class list m v x k apps lt (n, w, a, is, at) =
    let app : IsApplication terms m v (slice_index list k) = apps.each k 0 lt in
    let one = one_application terms (slice_index list k) n m w v a (app.0) is (app.1) in
    (a, subst (λ u. slice_get terms (slice_index list k) ≡ Some (App m u a)) (one.1) (subst (λ o. slice_get terms (slice_index list k) ≡ Some (App o w a)) (one.0) is), at)

-- two of one list whose arguments share a class and which don't
pub clash_at : (terms : List GroundTerm) (class list : List ℕ) (x k n : ℕ) → IsOfOneMap terms list → k < length list → n < length list →
    HasArgumentIn terms class x (slice_index list k) → HasArgumentIn terms class x (slice_index list n) →
    slice_index class (slice_index list k) ≢ slice_index class (slice_index list n) → IsClash terms class (slice_index list k) (slice_index list n)
clash_at terms class list x k n (m, v, apps) kl nl hk hn ne =
    let p = argument_of terms class list m v x k apps kl hk in
    let q = argument_of terms class list m v x n apps nl hn in
    record { map = m; version = v; first = p.0; second = q.0; first_is = p.1; second_is = q.1; arguments = p.2 ∙ sym q.2; differ = ne }

-- what holds where there is none
pub none_of : {A : Type 0} {P : Type 0} (o : Option A) → is_some o ≡ false → IfNone o P → P
none_of None none p = p
none_of (Some a) none p = absurd (let f : true ≡ false = none in cc)

-- the one place of a list with a term of the class
pub alone_at : (class list : List ℕ) (x k : ℕ) → ((n : ℕ) → n < k → 0 ≤ n → slice_index class (slice_index list n) ≢ x) →
    ((n : ℕ) → n < length list → k + 1 ≤ n → slice_index class (slice_index list n) ≢ x) → IsAloneIn class x list
alone_at class list x k before after i j il jl ei ej = at i il ei ∙ sym (at j jl ej)
  where
    at : (n : ℕ) → n < length list → slice_index class (slice_index list n) ≡ x → n ≡ k
    at n nl e = elim (cases_order n k) [ inl same ↦ same | inr (inl lt) ↦ absurd (before n lt (omega arith) e) | inr (inr gt) ↦ absurd (after n nl (omega (arith, gt)) e) ]

-- where something is applied to one term of a class alone nothing clashes there
pub none_where_alone : (terms : List GroundTerm) (class list : List ℕ) (x : ℕ) → NoTermTwice terms → AreArguments terms list → IsAloneIn class x list →
    IsClearOf terms class x
none_where_alone terms class list x distinct arguments alone i j k at =
    let p = arguments.whole k.map k.version k.first i k.first_is in
    let q = arguments.whole k.map k.version k.second j k.second_is in
    let p_is : slice_index list (p.0) ≡ k.first = get_or_default list (p.0) 0 k.first (p.1) ∙ p.2 in
    let q_is : slice_index list (q.0) ≡ k.second = get_or_default list (q.0) 0 k.second (q.1) ∙ q.2 in
    let one : p.0 ≡ q.0 =
    alone (p.0) (q.0) (p.1) (q.1) (ap (slice_index class) p_is ∙ at) (ap (slice_index class) q_is ∙ sym k.arguments ∙ at) in
    let same : k.first ≡ k.second = sym p_is ∙ ap (slice_index list) one ∙ q_is in
    let first_is = subst (λ a. slice_get terms i ≡ Some (App k.map k.version a)) same k.first_is in
    k.differ (ap (slice_index class) (distinct (App k.map k.version k.second) i j first_is k.second_is))

-- lists in which nothing clashes at a class leave no clash there
pub none_from_lists : (terms : List GroundTerm) (class : List ℕ) (lists : List (List ℕ)) (x : ℕ) → AreLists terms lists →
    ((g : ℕ) → g < length lists → AgreeAt terms class x (slice_index_or lists g [])) → (i j : ℕ) (k : IsClash terms class i j) → slice_index class k.first ≢ x
none_from_lists terms class lists x table h i j k at =
    let listed = table.whole k.map k.version i (k.first, k.first_is) in
    let apps = subst (λ (l : List ℕ). AreApplications terms k.map k.version l) (sym (get_or_default lists (listed.0) [] (listed.1) (listed.2) ∙ listed.3)) (listed.4) in
    let first = apps.whole i (k.first, k.first_is) in
    let second = apps.whole j (k.second, k.second_is) in
    k.differ (agree (slice_index_or lists (listed.0) []) first second (h (listed.0) (listed.2)))
  where
    agree : (list : List ℕ) → Contains list i → Contains list j → AgreeAt terms class x list → slice_index class i ≡ slice_index class j
    agree list (n, nl, ne) (o, ol, oe) all =
        let p : slice_index list n ≡ i = get_or_default list n 0 i nl ∙ ne in
        let q : slice_index list o ≡ j = get_or_default list o 0 j ol ∙ oe in
        let hp : HasArgumentIn terms class x (slice_index list n) = subst (HasArgumentIn terms class x) (sym p) (k.map, k.version, k.first, k.first_is, at) in
        let hq : HasArgumentIn terms class x (slice_index list o) = subst (HasArgumentIn terms class x) (sym q) (k.map, k.version, k.second, k.second_is, sym k.arguments ∙ at) in
        ap (slice_index class) (sym p) ∙ all n o nl ol hp hq ∙ ap (slice_index class) q

-- a class without a clash is done with
pub clashes_dropped : (terms : List GroundTerm) (class joined : List ℕ) (x : ℕ) → 0 < length joined → slice_index joined (length joined - 1) ≡ x →
    ((i j : ℕ) (k : IsClash terms class i j) → slice_index class k.first ≢ x) → ClashOnlyIn terms class joined → ClashOnlyIn terms class (take (length joined - 1) joined)
clashes_dropped terms class joined x some newest none left i j k = earlier (slice_index class k.first) (none i j k) (left i j k)
  where
    earlier : (y : ℕ) → y ≢ x → Contains joined y → Contains (take (length joined - 1) joined) y
    earlier y ne (n, lt, e) =
        let before : n < length joined - 1 = elim (last n lt) [ inl h ↦ h | inr h ↦ absurd (ne (sym e ∙ get_or_default joined n y 0 lt ∙ ap (slice_index joined) h ∙ newest)) ] in
        (n, omega (arith, before, length-take-le (length joined - 1) joined (omega arith)), get_or-take (length joined - 1) joined n y before ∙ e)
      where
        last : (n : ℕ) → n < length joined → (n < length joined - 1) ⊎ (n ≡ length joined - 1)
        last n lt = grind arith

-- where no class is left nothing clashes
pub congruent_settled : (terms : List GroundTerm) (class joined : List ℕ) → length joined ≡ 0 → ClashOnlyIn terms class joined → IsCongruent terms (slice_index class)
congruent_settled terms class joined none left m v a b i j p q e = by_test (slice_index class i == slice_index class j) refl
  where
    by_test : (t : Bool) → (slice_index class i == slice_index class j) ≡ t → slice_index class i ≡ slice_index class j
    by_test true t = grind (arith, common_steps)
    by_test false t =
        let ne : slice_index class i ≢ slice_index class j = λ same. grind (arith, common_steps) in
        let there = left i j (record { map = m; version = v; first = a; second = b; first_is = p; second_is = q; arguments = e; differ = ne }) in
        absurd (omega (arith, there.1, none))

-- without joined classes nothing has to clash
pub clashes_of_congruent : (terms : List GroundTerm) (class joined : List ℕ) → IsCongruent terms (slice_index class) → ClashOnlyIn terms class joined
clashes_of_congruent terms class joined congruent i j k =
    absurd (k.differ (congruent k.map k.version k.first k.second i j k.first_is k.second_is k.arguments))

pub settles_first : (terms : List GroundTerm) (e : Equalities) → ClashOnlyIn terms e.class e.joined → Settles terms e e
settles_first terms e left = record {
  one_each = refl;
  kept = λ branch m. m;
  coarser = λ i j il jl p. p;
  no_more = omega arith;
  extends = extends_same e e refl refl;
  left = left;
}

pub settles_more : (terms : List GroundTerm) (a b c : Equalities) → Settles terms a b → Settles terms b c → Settles terms a c
settles_more terms a b c p q = record {
  one_each = q.one_each ∙ p.one_each;
  kept = λ branch m. q.kept branch (p.kept branch m);
  coarser = λ i j il jl e. q.coarser i j (omega (arith, il, p.one_each)) (omega (arith, jl, p.one_each)) (p.coarser i j il jl e);
  no_more = omega (arith, p.no_more, q.no_more);
  extends = extends_more a b c p.extends q.extends;
  left = q.left;
}

-- two that clash were joined
pub settles_joined : (terms : List GroundTerm) (old new : Equalities) (i j : ℕ) → ArgumentsInRange terms → length old.class ≡ length terms → IsClash terms old.class i j → ClashOnlyIn terms old.class old.joined →
    IsJoined old new i j → Settles terms old new × (to_settle new < to_settle old)
settles_joined terms old new i j range len k left h = (
  record {
    one_each = h.one_each;
    kept = λ branch m. h.kept terms branch m (clash_same terms branch old.class i j range m k);
    coarser = h.coarser;
    no_more = omega (arith, h.less);
    extends = h.extends;
    left = h.left terms (omega (arith, len)) range left;
  },
  omega (arith, h.less, h.count),
)

-- a class without a clash is done with
pub settles_dropped : (terms : List GroundTerm) (old new : Equalities) (x : ℕ) → 0 < length old.joined → slice_index old.joined (length old.joined - 1) ≡ x →
    ((i j : ℕ) (k : IsClash terms old.class i j) → slice_index old.class k.first ≢ x) → ClashOnlyIn terms old.class old.joined →
    new.class ≡ old.class → new.trail ≡ old.trail → new.joined ≡ take (length old.joined - 1) old.joined → Settles terms old new × (to_settle new < to_settle old)
settles_dropped terms old new x some newest none left c t js = (
  record {
    one_each = ap length c;
    kept = λ branch m. subst (IsMerged terms branch) (sym c) m;
    coarser = λ i j il jl e. ap (λ (k : List ℕ). slice_index k i) c ∙ e ∙ sym (ap (λ (k : List ℕ). slice_index k j) c);
    no_more = omega (arith, ap sum c);
    extends = extends_same old new c t;
    left = subst (λ (k : List ℕ). ClashOnlyIn terms k new.joined) (sym c) (subst (ClashOnlyIn terms old.class) (sym js) (clashes_dropped terms old.class old.joined x some newest none left));
  },
  let count = ap length js in let shorter = length-take-le (length old.joined - 1) old.joined (omega arith) in omega (arith, ap sum c, count, shorter, some),
)

-- the same where a call between changed nothing
pub settles_done : (terms : List GroundTerm) (old now new : Equalities) (x : ℕ) → 0 < length old.joined → slice_index old.joined (length old.joined - 1) ≡ x → now ≡ old →
    IsClearOf terms old.class x → ClashOnlyIn terms old.class old.joined →
    new.class ≡ now.class → new.trail ≡ now.trail → new.joined ≡ take (length now.joined - 1) now.joined → Settles terms old new × (to_settle new < to_settle old)
settles_done terms old now new x some newest same none left c t js =
    settles_dropped terms old new x some newest none left (c ∙ ap (λ (e : Equalities). e.class) same) (t ∙ ap (λ (e : Equalities). e.trail) same)
    (js ∙ ap (λ (e : Equalities). take (length e.joined - 1) e.joined) same)

-- the first lists were searched, and what clashed in them was joined
pub record Sweeps (terms : List GroundTerm) (lists : List (List ℕ)) (x n : ℕ) (old new : Equalities) (found : Bool) : Type 0 where
  pub settles : Settles terms old new
  pub no_more : to_settle new ≤ to_settle old
  pub some : found ≡ true → to_settle new < to_settle old
  pub none : found ≡ false → (new ≡ old) × ((g : ℕ) → g < n → AgreeAt terms old.class x (slice_index_or lists g []))

pub sweeps_first : (terms : List GroundTerm) (lists : List (List ℕ)) (x : ℕ) (e : Equalities) → ClashOnlyIn terms e.class e.joined → Sweeps terms lists x 0 e e false
sweeps_first terms lists x e left = record {
  settles = settles_first terms e left;
  no_more = omega arith;
  some = λ f. absurd (let t : false ≡ true = f in cc);
  none = λ _. (refl, λ g lt. absurd (omega arith));
}

module _ (terms : List GroundTerm) (lists : List (List ℕ)) (x n : ℕ) (old now new : Equalities) (found : Bool) (s : Sweeps terms lists x n old now found) where
  pub sweeps_joined : Settles terms now new → to_settle new < to_settle now → Sweeps terms lists x (n + 1) old new true
  sweeps_joined settles less = record {
    settles = settles_more terms old now new s.settles settles;
    no_more = omega (arith, less, s.no_more);
    some = λ _. omega (arith, less, s.no_more);
    none = λ f. absurd (let t : true ≡ false = f in cc);
  }

  pub sweeps_agreed : new ≡ now → AgreeAt terms now.class x (slice_index_or lists n []) → Sweeps terms lists x (n + 1) old new found
  sweeps_agreed same agree = subst (λ (e : Equalities). Sweeps terms lists x (n + 1) old e found) (sym same) (record {
    settles = s.settles;
    no_more = s.no_more;
    some = s.some;
    none = λ f.
        let h = s.none f in
        let here = subst (λ (e : Equalities). AgreeAt terms e.class x (slice_index_or lists n [])) (h.0) agree in
        (h.0, below_more (λ g. AgreeAt terms old.class x (slice_index_or lists g [])) n (h.1) here);
  })

-- the closure with one more equation
pub closure_put : (terms : List GroundTerm) (branch : List Lit) (old new : List ℕ) (x y : ℕ) → IsClosure terms branch old → IsMerged terms (branch ++ equation x y ∷ []) new → length new ≡ length old →
    slice_index new x ≡ slice_index new y → IsCoarser old new → IsCongruent terms (slice_index new) → IsClosure terms (branch ++ equation x y ∷ []) new
closure_put terms branch old new x y k m len xy coarser congruent =
    closure_extended terms branch old new x y k m len xy coarser (λ i j m v a b p q e. congruent m v a b i j p q e)

pub set_past_end : (class : List ℕ) (i v : ℕ) → length class ≤ i → class ≡ set class i v
set_past_end class i v le = sym (set_past class i v le)

pub last_dropped : (trail : List Change) (d : Change) → 0 < length trail → drop (length trail - 1) trail ≡ get_or trail (length trail - 1) d ∷ []
last_dropped trail d some =
    drop-cons trail (length trail - 1) d (omega arith) ∙ ap (λ (t : List Change). get_or trail (length trail - 1) d ∷ t) (drop_all (suc (length trail - 1)) trail (omega arith))

-- one change less
pub taken_back_more : (mark : ℕ) (old new : Equalities) → mark < length old.trail → new.trail ≡ take (length old.trail - 1) old.trail →
    new.class ≡ undone (drop (length old.trail - 1) old.trail) old.class →
    (undone (drop mark new.trail) new.class ≡ undone (drop mark old.trail) old.class) × (take mark new.trail ≡ take mark old.trail)
taken_back_more mark old new lt t c = (
  ap (λ (k : List ℕ). undone (drop mark new.trail) k) c ∙ ap (λ (u : List Change). undone (drop mark u) (undone (drop (length old.trail - 1) old.trail) old.class)) t
      ∙ sym (undone_from mark (length old.trail - 1) old.trail old.class (omega arith) (omega arith)),
  ap (take mark) t ∙ take-take mark (length old.trail - 1) old.trail (omega arith),
)

-- nothing is left to take back
pub taken_back_all : (mark : ℕ) (e : Equalities) → length e.trail ≤ mark → (undone (drop mark e.trail) e.class ≡ e.class) × (take mark e.trail ≡ e.trail)
taken_back_all mark e le = (ap (λ (t : List Change). undone t e.class) (drop_all mark e.trail le), take_all mark e.trail le)
