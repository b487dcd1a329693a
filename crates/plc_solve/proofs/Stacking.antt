-- The splits of the present branch of a search.
use Rattle.std.proofs.Common.{◌≡◌, ◌<◌, ◌≤◌, ◌+◌, ◌-◌, ◌*◌, ℕ, zero, suc, true, List, [], ◌∷◌, ◌++◌, length, map, take, get_or, Some, sum, append_assoc, refl, sym, ◌∙◌, ap, subst, arith}
use Rattle.std.specs.Prelude.{Contains, slice_get, sum_by}
use Rattle.std.proofs.lemmas.List.{take_more, take_all}
use Rattle.std.proofs.lemmas.List.Elements.{Contains-append_left, Contains-append_right}
use Rattle.std.proofs.lemmas.Option.{slice_get_within, get_or_from_slice_get, slice_get-get_or}
use Rattle.std.proofs.lemmas.List.Sums.{get_or-le-sum_by}
use Rattle.std.proofs.Math.Nat.{mul-le-mul, mul-le-mul_left, mul-le-mul_right}
use Rattle.plc_solve.specs.declared.frame.Step.TheVariants.{Closed, Deeper}
use Rattle.plc_solve.specs.declared.frame.Frame.{Frame}
use Rattle.plc_solve.specs.declared.place.Place.{Place}
use Rattle.plc_ground.specs.declared.terms.Lit.{Lit}
use Rattle.plc_ground.specs.declared.terms.Node.{Node}
use Rattle.plc_ground.specs.declared.terms.Node.TheVariants.{Split, Leaf}
use Rattle.plc_ground.specs.declared.terms.GroundSet.{GroundSet}
use Rattle.plc_ground.specs.Model.{equation, literals}
use Rattle.plc_ground.specs.Fit.{IsInRange}
use Rattle.plc_ground.specs.Trees.{Close, SplitsOnce}
use Rattle.plc_ground.proofs.Joining.{literal_is}
use Rattle.plc_solve.specs.Search.{OpenSplit, split_on, IsWithin, TakesCore, IsSound, IsOnce, IsNextChild, IsChildOf, IsStack, clauses_of, ClosesTop, TakesTree, StepGives}
use Rattle.plc_solve.specs.Measure.{power, weight, left, left_below, base_of}
use Rattle.plc_solve.proofs.Searching.{one_more_child}
use Rattle.plc_solve.proofs.Needing.{close_longer, children_more, child_more_core, core_used, without}

pub SplitsOnce-append : (s : GroundSet) (ds es : List (List ℕ)) (ns ms : List Node) → SplitsOnce s ds ns → SplitsOnce s es ms → SplitsOnce s (ds ++ es) (ns ++ ms)
SplitsOnce-append s [] es [] ms h k = k
SplitsOnce-append s [] es (n ∷ ns) ms h k = absurd h
SplitsOnce-append s (d ∷ ds) es [] ms h k = absurd h
SplitsOnce-append s (d ∷ ds) es (Split c ∷ ns) ms h k =
    (h.0, subst (λ (t : List (List ℕ)). SplitsOnce s t (ns ++ ms)) (append_assoc (map (λ l. c ∷ d) (literals s c)) ds es) (SplitsOnce-append s (map (λ l. c ∷ d) (literals s c) ++ ds) es ns ms (h.1) k))
SplitsOnce-append s (d ∷ ds) es (Leaf a b ∷ ns) ms h k = SplitsOnce-append s ds es ns ms h k

-- each list has only what its partner has
abbrev Within : List (List ℕ) → List (List ℕ) → Type 0
Within [] [] = Unit {0}
Within [] (d ∷ ds) = ⊥
Within (e ∷ es) [] = ⊥
Within (e ∷ es) (d ∷ ds) = ((c : ℕ) → Contains e c → Contains d c) × Within es ds

Contains-cons : (e d : List ℕ) (x : ℕ) → ((c : ℕ) → Contains e c → Contains d c) → (c : ℕ) → Contains (x ∷ e) c → Contains (x ∷ d) c
Contains-cons e d x h c (zero, lt, is) = (zero, omega arith, is)
Contains-cons e d x h c (suc k, lt, is) = let r = h c (k, omega arith, is) in (suc (r.0), omega (arith, r.1), r.2)

Within-children : (e d : List ℕ) (x : ℕ) (ls : List Lit) (es ds : List (List ℕ)) → ((c : ℕ) → Contains e c → Contains d c) → Within es ds →
    Within (map (λ l. x ∷ e) ls ++ es) (map (λ l. x ∷ d) ls ++ ds)
Within-children e d x [] es ds h w = w
Within-children e d x (l ∷ ls) es ds h w = (Contains-cons e d x h, Within-children e d x ls es ds h w)

-- fewer clauses above
SplitsOnce-fewer : (s : GroundSet) (es ds : List (List ℕ)) (ns : List Node) → Within es ds → SplitsOnce s ds ns → SplitsOnce s es ns
SplitsOnce-fewer s [] [] [] w h = tt
SplitsOnce-fewer s (e ∷ es) [] ns w h = absurd w
SplitsOnce-fewer s [] (d ∷ ds) ns w h = absurd w
SplitsOnce-fewer s [] [] (n ∷ ns) w h = absurd h
SplitsOnce-fewer s (e ∷ es) (d ∷ ds) [] w h = absurd h
SplitsOnce-fewer s (e ∷ es) (d ∷ ds) (Split c ∷ ns) w h =
    ((λ k. h.0 (w.0 c k)), SplitsOnce-fewer s (map (λ l. c ∷ e) (literals s c) ++ es) (map (λ l. c ∷ d) (literals s c) ++ ds) ns (Within-children e d c (literals s c) es ds (w.0) (w.1)) (h.1))
SplitsOnce-fewer s (e ∷ es) (d ∷ ds) (Leaf a b ∷ ns) w h = SplitsOnce-fewer s es ds ns (w.1) h

map-snoc : (f : Lit → List ℕ) (ls : List Lit) (l : Lit) → map f (ls ++ l ∷ []) ≡ map f ls ++ f l ∷ []
map-snoc f [] l = refl
map-snoc f (x ∷ ls) l = ap (λ (t : List (List ℕ)). f x ∷ t) (map-snoc f ls l)

once_more_child : (s : GroundSet) (d : List ℕ) (ls : List Lit) (next : ℕ) (l : Lit) (ns ms : List Node) → slice_get ls next ≡ Some l →
    SplitsOnce s (map (λ m. d) (take next ls)) ns → SplitsOnce s (d ∷ []) ms → SplitsOnce s (map (λ m. d) (take (next + 1) ls)) (ns ++ ms)
once_more_child s d ls next l ns ms at h k =
    let e : take (next + 1) ls ≡ take next ls ++ l ∷ [] = take_more ls next l (slice_get_within ls next l at) ∙ ap (λ (m : Lit). take next ls ++ m ∷ []) (get_or_from_slice_get ls next l l at) in
    subst (λ (t : List (List ℕ)). SplitsOnce s t (ns ++ ms)) (sym (ap (map (λ m. d)) e ∙ map-snoc (λ m. d) (take next ls) l))
    (SplitsOnce-append s (map (λ m. d) (take next ls)) (d ∷ []) ns ms h k)

-- a split with one more child closed
module _ (s : GroundSet) (f g : OpenSplit) (l : Lit) (ms : List Node) (at : slice_get (literals s f.clause) f.next ≡ Some l) (clause : g.clause ≡ f.clause) (branch : g.branch ≡ f.branch)
    (class : g.class ≡ f.class) (next : g.next ≡ f.next + 1) (nodes : g.nodes ≡ f.nodes ++ ms) where
  pub sound_more : (core : List Lit) → TakesCore f.core g.core l core → IsWithin core (f.branch ++ l ∷ []) → Close s ((core ++ l ∷ []) ∷ []) ms → IsSound s f → IsSound s g
  sound_more core t u k h = record {
    place = rw (branch, class) h.place;
    clause = rw clause h.clause;
    wrong = rw (class, clause) h.wrong;
    within = rw (next, clause) (omega (arith, slice_get_within (literals s f.clause) f.next l at));
    used = rw branch (core_used f.branch f.core g.core core l t h.used u);
    closed = rw (clause, next, nodes) (one_more_child s g.core (literals s f.clause) f.next l f.nodes ms at
        (children_more s f.core g.core (take f.next (literals s f.clause)) f.nodes t.kept h.closed) (child_more_core s f.core g.core core l ms t k));
  }

  pub once_more : (above : List ℕ) → IsOnce s above f → SplitsOnce s ((f.clause ∷ above) ∷ []) ms → IsOnce s above g
  once_more above h k = record {
    fresh = rw clause h.fresh;
    below = rw (clause, next, nodes) (once_more_child s (f.clause ∷ above) (literals s f.clause) f.next l f.nodes ms at h.below k);
  }

  pub child_more : (fs : List OpenSplit) → IsChildOf s f fs → IsChildOf s g fs
  child_more [] h = rw branch h
  child_more (p ∷ fs) h = record { literal = h.literal; is = h.is; equal = h.equal; longer = rw branch h.longer }

  pub left_more : (base : ℕ) (fs : List OpenSplit) → left s base (g ∷ fs) ≡ left_below s base (f ∷ fs)
  left_more base fs = rw (clause, next, class) refl

append-nil : {A : Type 0} (b : List A) → b ++ [] ≡ b
append-nil [] = refl
append-nil (x ∷ b) = ap (λ t. x ∷ t) (append-nil b)

-- a split whose children are all closed is a tree for its core
pub whole_closes : (s : GroundSet) (f : OpenSplit) → IsSound s f → f.next ≡ length (literals s f.clause) → Close s (f.core ∷ []) (Split f.clause ∷ f.nodes)
whole_closes s f h e =
    (h.clause, subst (λ (t : List (List Lit)). Close s t f.nodes) (ap (map (λ l. f.core ++ l ∷ [])) (take_all f.next (literals s f.clause) (omega (arith, e))) ∙ sym (append-nil (map (λ l. f.core ++ l ∷ []) (literals s f.clause)))) h.closed)

pub whole_once : (s : GroundSet) (above : List ℕ) (f : OpenSplit) → IsOnce s above f → f.next ≡ length (literals s f.clause) → SplitsOnce s (above ∷ []) (Split f.clause ∷ f.nodes)
whole_once s above f h e =
    (h.fresh, subst (λ (t : List (List ℕ)). SplitsOnce s t f.nodes) (ap (map (λ l. f.clause ∷ above)) (take_all f.next (literals s f.clause) (omega (arith, e))) ∙ sym (append-nil (map (λ l. f.clause ∷ above) (literals s f.clause)))) h.below)

-- what closes a frame's branch by a core closes the next child of the split above
pub closes_above : (s : GroundSet) (f : OpenSplit) (fs : List OpenSplit) (core : List Lit) (tree : List Node) → IsChildOf s f fs → IsWithin core f.branch → Close s (core ∷ []) tree →
    SplitsOnce s (clauses_of fs ∷ []) tree → ClosesTop s fs core tree
closes_above s f [] core tree h u k o = (close_longer s core [] tree (subst (λ (b : List Lit). IsWithin core b) h u) k, o)
closes_above s f (p ∷ fs) core tree h u k o = record { literal = h.literal; is = h.is; used = subst (λ (b : List Lit). IsWithin core b) h.longer u; close = k; once = o }

-- a complete split hands on its tree
pub complete_closes : (s : GroundSet) (f : OpenSplit) (fs : List OpenSplit) → IsStack s (f ∷ fs) → f.next ≡ length (literals s f.clause) → ClosesTop s fs f.core (Split f.clause ∷ f.nodes)
complete_closes s f fs h e = closes_above s f fs f.core (Split f.clause ∷ f.nodes) (h.2) h.0.used (whole_closes s f (h.0) e) (whole_once s (clauses_of fs) f (h.1) e)

Contains-later : (x : ℕ) (d : List ℕ) (c : ℕ) → Contains d c → Contains (x ∷ d) c
Contains-later x d c (k, lt, e) = (suc k, omega arith, e)

-- a tree whose core lacks the literal of the split's next child stands in place of the split
pub needless_goes : (s : GroundSet) (p : OpenSplit) (fs : List OpenSplit) (core : List Lit) (tree : List Node) → IsStack s (p ∷ fs) → ClosesTop s (p ∷ fs) core tree →
    ((l : Lit) → slice_get (literals s p.clause) p.next ≡ Some l → Contains core l → ⊥) → ClosesTop s fs core tree
needless_goes s p fs core tree h k lacks =
    closes_above s p fs core tree (h.2) (without p.branch core k.literal k.used (lacks k.literal k.is)) k.close
    (SplitsOnce-fewer s (clauses_of fs ∷ []) ((p.clause ∷ clauses_of fs) ∷ []) tree (Contains-later p.clause (clauses_of fs), tt) k.once)

-- the split takes the tree
pub tree_taken : (s : GroundSet) (b : List Lit) (c : List ℕ) (p g : Frame) (fs : List OpenSplit) (core : List Lit) (tree : List Node) → IsStack s (split_on b c p ∷ fs) → ClosesTop s (split_on b c p ∷ fs) core tree →
    (own : Lit) → slice_get (literals s p.clause) p.next ≡ Some own → TakesCore p.core.items g.core.items own core → TakesTree p g tree → IsStack s (split_on b c g ∷ fs)
tree_taken s b c p g fs core tree h k own is tc t = (
  sound_more s (split_on b c p) (split_on b c g) own tree is t.clause refl refl t.next t.nodes core tc (subst (λ (l : Lit). IsWithin core (b ++ l ∷ [])) same k.used)
      (close_longer s core (core ++ own ∷ []) tree (λ l m. Contains-append_left core (own ∷ []) l m) k.close) (h.0),
  once_more s (split_on b c p) (split_on b c g) own tree is t.clause refl refl t.next t.nodes (clauses_of fs) (h.1) k.once,
  child_more s (split_on b c p) (split_on b c g) own tree is t.clause refl refl t.next t.nodes fs (h.2),
  h.3,
)
  where
    same : k.literal ≡ own
    same = let x = k.is in cc

pub tree_left : (s : GroundSet) (b : List Lit) (c : List ℕ) (p g : Frame) (fs : List OpenSplit) (core : List Lit) (tree : List Node) → ClosesTop s (split_on b c p ∷ fs) core tree → TakesTree p g tree →
    (base : ℕ) → left s base (split_on b c g ∷ fs) ≡ left_below s base (split_on b c p ∷ fs)
tree_left s b c p g fs core tree k t base = left_more s (split_on b c p) (split_on b c g) k.literal tree k.is t.clause refl refl t.next t.nodes base fs

power_pos : (b n : ℕ) → 0 < b → 0 < power b n
power_pos b zero h = omega arith
power_pos b (suc n) h = let p : 1 * 1 ≤ b * power b n = mul-le-mul {n₁ = 1} {m₁ = 1} {n₂ = b} {m₂ = power b n} (omega (arith, h)) (omega (arith, power_pos b n h)) in omega (arith, p)

power_le : (b m n : ℕ) → 0 < b → m ≤ n → power b m ≤ power b n
power_le b zero n h le = omega (arith, power_pos b n h)
power_le b (suc m) zero h le = absurd (omega arith)
power_le b (suc m) (suc n) h le = mul-le-mul_left b (power_le b m n h (omega arith))

power_step : (b m n : ℕ) → 0 < b → m < n → b * power b m ≤ power b n
power_step b m zero h lt = absurd (omega arith)
power_step b m (suc n) h lt = mul-le-mul_left b (power_le b m n h (omega arith))

one_less : (x w r : ℕ) → 0 < w → 1 + x * w + r < 1 + (x + 1) * w + r
one_less x w r h = omega arith

split_less : (x w m v r : ℕ) → m * v + 2 ≤ w → 1 + m * v + (1 + x * w + r) < 1 + (x + 1) * w + r
split_less x w m v r h = omega arith

fits_above : (m v b w : ℕ) → 0 < v → m + 2 ≤ b → b * v ≤ w → m * v + 2 ≤ w
fits_above m v b w vp mb bw = let p : (m + 2) * v ≤ b * v = mul-le-mul_right v mb in omega arith

-- one child less is left
pub left_falls : (s : GroundSet) (base : ℕ) (f : OpenSplit) (fs : List OpenSplit) → 0 < base → f.next < length (literals s f.clause) → left_below s base (f ∷ fs) < left s base (f ∷ fs)
left_falls s base f fs h lt =
    let e : length (literals s f.clause) - f.next ≡ (length (literals s f.clause) - (f.next + 1)) + 1 = omega arith in
    rw e (one_less (length (literals s f.clause) - (f.next + 1)) (weight base f) (left_below s base fs) (power_pos base (sum f.class) h))

pub left_falls_deeper : (s : GroundSet) (base : ℕ) (f child : OpenSplit) (fs : List OpenSplit) → length (literals s child.clause) + 2 ≤ base → f.next < length (literals s f.clause) → child.next ≡ 0 →
    sum child.class < sum f.class → left s base (child ∷ f ∷ fs) < left s base (f ∷ fs)
left_falls_deeper s base f child fs big lt zero' less =
    let e : length (literals s f.clause) - f.next ≡ (length (literals s f.clause) - (f.next + 1)) + 1 = omega arith in
    let e' : length (literals s child.clause) - child.next ≡ length (literals s child.clause) = omega arith in
    rw (e, e') (split_less (length (literals s f.clause) - (f.next + 1)) (weight base f) (length (literals s child.clause)) (weight base child) (left_below s base fs)
    (fits_above (length (literals s child.clause)) (weight base child) base (weight base f) (power_pos base (sum child.class) (omega arith)) big (power_step base (sum child.class) (sum f.class) (omega arith) less)))

-- each clause fits below the base
pub base_fits : (s : GroundSet) (c : ℕ) → c < length s.clauses → length (literals s c) + 2 ≤ base_of s
base_fits s c lt =
    let b : length (get_or s.clauses c []) ≤ sum_by (λ (ls : List Lit). length ls) s.clauses = get_or-le-sum_by (λ (ls : List Lit). length ls) s.clauses c [] lt in
    omega (arith, b)

-- a leaf closes the next child
pub leaf_taken : (s : GroundSet) (old new : Place) (f g : Frame) (fs : List OpenSplit) → IsStack s (split_on old.branch.items old.equal.class f ∷ fs) → StepGives s old f g new Closed →
    IsStack s (split_on old.branch.items old.equal.class g ∷ fs)
    × (left s (base_of s) (split_on old.branch.items old.equal.class g ∷ fs) < left s (base_of s) (split_on old.branch.items old.equal.class f ∷ fs))
leaf_taken s old new f g fs h st =
    let t = st.1.2 in
    let was = split_on old.branch.items old.equal.class f in
    let now = split_on old.branch.items old.equal.class g in
    let within : f.next < length (literals s f.clause) = omega (arith, st.0.within, t.next, ap (λ c. length (literals s c)) t.clause) in
    let at : slice_get (literals s f.clause) f.next ≡ Some (get_or (literals s f.clause) f.next (equation 0 0)) = slice_get-get_or (literals s f.clause) f.next (equation 0 0) within in (
      (
        st.0,
        once_more s was now _ (Leaf st.1.0 st.1.1 ∷ []) at t.clause refl refl t.next t.nodes (clauses_of fs) (h.1) tt,
        child_more s was now _ (Leaf st.1.0 st.1.1 ∷ []) at t.clause refl refl t.next t.nodes fs (h.2),
        h.3,
      ),
      subst (λ n. n < left s (base_of s) (was ∷ fs)) (sym (left_more s was now _ (Leaf st.1.0 st.1.1 ∷ []) at t.clause refl refl t.next t.nodes (base_of s) fs)) (left_falls s (base_of s) was fs (omega arith) within),
    )

-- a split above has an equation on the branch that makes its clause true
has_equation : (s : GroundSet) (fs : List OpenSplit) (f g : OpenSplit) → IsStack s (f ∷ fs) → IsNextChild s f g → (c : ℕ) → Contains (clauses_of (f ∷ fs)) c →
    (k : ℕ) × (l : Lit) × (slice_get (literals s c) k ≡ Some l) × (l.equal ≡ true) × Contains g.branch l
has_equation s fs f g h n c (zero, lt, e) = (
  f.next,
  n.literal,
  subst (λ d. slice_get (literals s d) f.next ≡ Some n.literal) e n.is,
  n.equal,
  subst (λ (b : List Lit). Contains b n.literal) (sym n.longer) (Contains-append_right f.branch (n.literal ∷ []) n.literal (zero, omega arith, refl)),
)
has_equation s [] f g h n c (suc k, lt, e) = absurd (omega arith)
has_equation s (p ∷ ps) f g h n c (suc k, lt, e) =
    let r = has_equation s ps p f (h.3) (h.2) c (k, omega arith, e) in
    (r.0, r.1, r.2, r.3, subst (λ (b : List Lit). Contains b r.1) (sym n.longer) (Contains-append_left f.branch (n.literal ∷ []) r.1 (r.4)))

-- so a clause that is false is none of those
is_fresh : (s : GroundSet) (fs : List OpenSplit) (f g : OpenSplit) → IsStack s (f ∷ fs) → IsNextChild s f g → IsSound s g → Contains (clauses_of (f ∷ fs)) g.clause → ⊥
is_fresh s fs f g h n sound m =
    let r = has_equation s fs f g h n g.clause m in
    let fails = rw (r.3) at (sound.wrong (r.0) (r.1) (r.2)) in
    let on : Contains g.branch (equation r.1.left r.1.right) = subst (λ (l : Lit). Contains g.branch l) (sym (literal_is (r.1) (r.3))) (r.4) in
    let fit = sound.place.fit (on.0) (equation r.1.left r.1.right) (on.1) in
    let range = subst (λ (l : Lit). IsInRange s.terms l) (on.2) fit.range in
    let len = sound.place.closure.merged.one_each in
    fails (sound.place.closure.given r.1.left r.1.right (omega (arith, range.0, len)) (omega (arith, range.1, len)) on)

-- a child is split in turn
pub deeper_stacked : (s : GroundSet) (old new : Place) (f g child : Frame) (fs : List OpenSplit) → IsStack s (split_on old.branch.items old.equal.class f ∷ fs) → StepGives s old f g new (Deeper child) →
    IsStack s (split_on new.branch.items new.equal.class child ∷ split_on old.branch.items old.equal.class g ∷ fs)
    × (left s (base_of s) (split_on new.branch.items new.equal.class child ∷ split_on old.branch.items old.equal.class g ∷ fs) < left s (base_of s) (split_on old.branch.items old.equal.class f ∷ fs))
deeper_stacked s old new f g child fs h (same, fresh, n, less) =
    let was = split_on old.branch.items old.equal.class f in
    let next = split_on new.branch.items new.equal.class child in
    let once : IsOnce s (clauses_of (was ∷ fs)) next = record { fresh = is_fresh s fs was next h n fresh.sound; below = rw (fresh.first, fresh.none) tt } in
    subst (λ (x : Frame). IsStack s (next ∷ split_on old.branch.items old.equal.class x ∷ fs) × (left s (base_of s) (next ∷ split_on old.branch.items old.equal.class x ∷ fs) < left s (base_of s) (was ∷ fs))) (sym same)
    ((fresh.sound, once, n, h), left_falls_deeper s (base_of s) was next fs (base_fits s child.clause fresh.sound.clause) (slice_get_within (literals s f.clause) f.next n.literal n.is) fresh.first less)

-- the first split of all
pub first_stacked : (s : GroundSet) (f : OpenSplit) → IsSound s f → f.branch ≡ [] → f.next ≡ 0 → f.nodes ≡ [] → IsStack s (f ∷ [])
first_stacked s f h b n e = (h, record { fresh = λ (k, lt, is). absurd (omega arith); below = rw (n, e) tt }, b, tt)

pub left_falls_complete : (s : GroundSet) (base : ℕ) (f : OpenSplit) (fs : List OpenSplit) → left_below s base fs < left s base (f ∷ fs)
left_falls_complete s base f fs = omega arith
