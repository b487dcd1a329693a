-- A search for a tree that closes a set.
use Rattle.std.proofs.Common.{◌≡◌, ◌≢◌, ◌<◌, ◌≤◌, ◌+◌, ℕ, zero, suc, true, false, List, [], ◌∷◌, ◌++◌, length, map, take, get_or, Option, Some, None, below_more, append_assoc, inl, inr, ◌⊎◌, refl, sym, ◌∙◌, ap, subst, arith}
use Rattle.std.specs.Prelude.{All, Any, slice_get, slice_index, IfSome, IfNone}
use Rattle.std.proofs.lemmas.List.{take_more}
use Rattle.std.proofs.lemmas.List.Elements.{Contains-append_right, All-append}
use Rattle.std.proofs.lemmas.Option.{slice_get_within, get_or_from_slice_get, slice_get-get_or}
use Rattle.plc_ground.specs.declared.terms.Lit.{Lit}
use Rattle.plc_ground.specs.declared.terms.GroundTerm.TheVariants.{Const}
use Rattle.plc_ground.specs.declared.terms.GroundSet.{GroundSet}
use Rattle.plc_ground.specs.declared.terms.Node.{Node}
use Rattle.plc_ground.specs.declared.terms.Node.TheVariants.{Leaf}
use Rattle.plc_solve.specs.declared.frame.Frame.{Frame}
use Rattle.plc_solve.specs.declared.place.Place.{Place}
use Rattle.plc_solve.specs.declared.split.Descent.TheVariants.{Longer}
use Rattle.plc_solve.specs.declared.frame.Step.{Step}
use Rattle.plc_solve.specs.declared.frame.Step.TheVariants.{Open, Closed, Deeper, Complete}
use Rattle.plc_ground.specs.Model.{equation, inequation, HoldsIn, FailsIn, IsModel, literals}
use Rattle.plc_ground.specs.Fit.{IsWellFormed, IsInRange, LitFits}
use Rattle.plc_ground.specs.Classes.{IsClosure, AreApart}
use Rattle.plc_ground.specs.Equality.{Same, given, itself, back, along, applied}
use Rattle.plc_ground.specs.Trees.{Close, below}
use Rattle.plc_ground.proofs.Joining.{Same-longer}
use Rattle.plc_solve.specs.declared.choice.Choice.{Choice}
use Rattle.plc_solve.specs.Search.{IsPlace, IsConflict, Collide, Explains, IsSound, Descends, Enters, StepGives, split_on}

-- what a branch makes equal is of one sort
same_sort : (s : GroundSet) → IsWellFormed s → (branch : List Lit) → All (LitFits s) branch → (i j : ℕ) → Same s.terms branch i j →
    slice_get s.sorts i ≡ slice_get s.sorts j
same_sort s w branch fit _ _ (given a b (k, lt, e)) = let f : LitFits s (equation a b) = subst (λ (l : Lit). LitFits s l) e (fit k (equation a b) lt) in f.one_sort
same_sort s w branch fit _ _ (itself a) = refl
same_sort s w branch fit _ _ (back a b e) = sym (same_sort s w branch fit _ _ e)
same_sort s w branch fit _ _ (along a b c e f) = same_sort s w branch fit _ _ e ∙ same_sort s w branch fit _ _ f
same_sort s w branch fit _ _ (applied m v a b i j p q e) = w.map_sorts m v v a b i j p q

-- where each clause has a true literal the classes are a model
pub model_here : (s : GroundSet) → IsWellFormed s → (branch : List Lit) (class : List ℕ) → IsPlace s branch class →
    ((c : ℕ) → c < length s.clauses → Any (HoldsIn (slice_index class)) (literals s c)) → IsModel s class
model_here s w branch class p clauses = record {
  one_each = p.closure.merged.one_each;
  no_later = p.closure.merged.no_later;
  least = p.closure.merged.least;
  congruent = p.closure.congruent;
  apart = p.apart;
  clauses = clauses;
  sorts = λ i j il jl e. same_sort s w branch p.fit i j (p.closure.merged.sound i j il jl e);
}

-- the clause found so far, or the newest
pub found_is : (P : ℕ → Type 0) (best : Option Choice) (n : ℕ) (r : Choice) → IfSome best (λ b. P b.clause) → P n → (r.clause ≡ n) ⊎ (best ≡ Some r) → P r.clause
found_is P best n r h pn (inl e) = subst P (sym e) pn
found_is P best n r h pn (inr e) = rw e at h

pub none_more : {A : Type 0} (Q : ℕ → Type 0) (best : Option A) (n : ℕ) → IfNone best ((c : ℕ) → c < n → Q c) → Q n → IfNone best ((c : ℕ) → c < n + 1 → Q c)
none_more Q None n h q = below_more Q n h q
none_more Q (Some r) n h q = tt

-- trees of branches, one after another
pub Close-append : (s : GroundSet) (bs cs : List (List Lit)) (ns ms : List Node) → Close s bs ns → Close s cs ms → Close s (bs ++ cs) (ns ++ ms)
Close-append s [] cs [] ms h k = k
Close-append s [] cs (n ∷ ns) ms h k = absurd h
Close-append s (b ∷ bs) cs [] ms h k = absurd h
Close-append s (b ∷ bs) cs (n ∷ ns) ms h k =
    (h.0, subst (λ (t : List (List Lit)). Close s t (ns ++ ms)) (grouped (below s b n) bs cs) (Close-append s (below s b n ++ bs) cs ns ms (h.1) k))
  where
    grouped : (xs ys zs : List (List Lit)) → (xs ++ ys) ++ zs ≡ xs ++ (ys ++ zs)
    grouped xs ys zs = append_assoc xs ys zs

map-snoc : (f : Lit → List Lit) (ls : List Lit) (l : Lit) → map f (ls ++ l ∷ []) ≡ map f ls ++ f l ∷ []
map-snoc f [] l = refl
map-snoc f (x ∷ ls) l = ap (λ (t : List (List Lit)). f x ∷ t) (map-snoc f ls l)

-- one more child of a split, closed by its nodes
pub one_more_child : (s : GroundSet) (branch : List Lit) (ls : List Lit) (next : ℕ) (l : Lit) (ns ms : List Node) → slice_get ls next ≡ Some l →
    Close s (map (λ m. branch ++ m ∷ []) (take next ls)) ns → Close s ((branch ++ l ∷ []) ∷ []) ms → Close s (map (λ m. branch ++ m ∷ []) (take (next + 1) ls)) (ns ++ ms)
one_more_child s branch ls next l ns ms at h k =
    let e : take (next + 1) ls ≡ take next ls ++ l ∷ [] = take_more ls next l (slice_get_within ls next l at) ∙ ap (λ (m : Lit). take next ls ++ m ∷ []) (get_or_from_slice_get ls next l l at) in
    subst (λ (t : List (List Lit)). Close s t (ns ++ ms)) (sym (ap (map (λ m. branch ++ m ∷ [])) e ∙ map-snoc (λ m. branch ++ m ∷ []) (take next ls) l))
    (Close-append s (map (λ m. branch ++ m ∷ []) (take next ls)) ((branch ++ l ∷ []) ∷ []) ns ms h k)

-- the sides of a false inequation are equal on the branch
pub unequal_is_same : (s : GroundSet) (branch : List Lit) (class : List ℕ) → IsPlace s branch class → (l : Lit) → LitFits s l → l.equal ≡ false →
    FailsIn (slice_index class) l → Same s.terms branch l.left l.right
unequal_is_same s branch class p l fit no' fails =
    let one : slice_index class l.left ≡ slice_index class l.right = (rw no' at fails) in
    let len = p.closure.merged.one_each in
    p.closure.merged.sound l.left l.right (omega (arith, fit.range.0, len)) (omega (arith, fit.range.1, len)) one

-- so its child is closed at once, by what makes them equal
pub unequal_closes : (s : GroundSet) (branch core : List Lit) (l : Lit) → LitFits s l → l.equal ≡ false → Explains s branch l.left l.right core → Close s ((core ++ l ∷ []) ∷ []) (Leaf l.left l.right ∷ [])
unequal_closes s branch core l fit no' h = (
  (
    fit.range.0,
    fit.range.1,
    Same-longer s.terms core l l.left l.right h.same,
    inl (inl (Contains-append_right core (l ∷ []) _ (zero, omega arith, sym (inequation_is l no')))),
  ),
  tt,
)
  where
    inequation_is : (l : Lit) → l.equal ≡ false → inequation l.left l.right ≡ l
    inequation_is l e = ap (λ b. let r : Lit = record { left = l.left; right = l.right; equal = b } in r) (sym e)

-- two terms that must differ close a child, by what makes them equal
pub conflict_closes : (s : GroundSet) (branch core : List Lit) (l : Lit) (a b : ℕ) → Collide s branch a b → Explains s branch a b core → Close s ((core ++ l ∷ []) ∷ []) (Leaf a b ∷ [])
conflict_closes s branch core l a b d h = ((d.first, d.second, Same-longer s.terms core l a b h.same, inr d.differ), tt)

-- two terms of one class that must differ, on a branch
pub conflict_collides : (s : GroundSet) (branch : List Lit) (class : List ℕ) → IsClosure s.terms branch class → All (LitFits s) branch → (a b : ℕ) → IsConflict s class a b → Collide s branch a b
conflict_collides s branch class k fit a b h = record {
  first = h.first;
  second = h.second;
  same = k.merged.sound a b (omega (arith, h.first, k.merged.one_each)) (omega (arith, h.second, k.merged.one_each)) h.together;
  differ = h.differ;
  fit = fit;
}

-- one more literal that fits
pub fit_longer : (s : GroundSet) (branch : List Lit) (l : Lit) → All (LitFits s) branch → LitFits s l → All (LitFits s) (branch ++ l ∷ [])
fit_longer s branch l fit one = All-append (LitFits s) branch (l ∷ []) fit (only one)
  where
    only : LitFits s l → All (LitFits s) (l ∷ [])
    only h zero d lt = h
    only h (suc k) d lt = absurd (omega arith)

-- the longer branch with its classes
pub place_longer : (s : GroundSet) (branch : List Lit) (class : List ℕ) (l : Lit) → All (LitFits s) branch → LitFits s l → IsClosure s.terms (branch ++ l ∷ []) class →
    ((i j : ℕ) → AreApart s class i j) → IsPlace s (branch ++ l ∷ []) class
place_longer s branch class l fit one k apart = record { closure = k; fit = fit_longer s branch l fit one; apart = apart }

-- a literal of a clause fits
pub fit_of_literal : (s : GroundSet) → IsWellFormed s → (c k : ℕ) (l : Lit) → slice_get (literals s c) k ≡ Some l → LitFits s l
fit_of_literal s w c k l at =
    let lt = slice_get_within (literals s c) k l at in
    let e : get_or (literals s c) k l ≡ l = get_or_from_slice_get (literals s c) k l l at in
    record {
      range = subst (λ (m : Lit). IsInRange s.terms m) e (w.range c k l lt);
      one_sort = subst (λ (m : Lit). slice_get s.sorts m.left ≡ slice_get s.sorts m.right) e (w.sides c k l lt);
    }

-- the child on the longer branch, as a step of the split above
pub step_deeper : (s : GroundSet) (old new : Place) (f : Frame) (l : Lit) → slice_get (literals s f.clause) f.next ≡ Some l → l.equal ≡ true → IsSound s (split_on old.branch.items old.equal.class f) →
    Descends s old l new Longer → (r : Step) → Enters s new r → StepGives s old f f new r
step_deeper s old new f l at eq h d Open r = r
step_deeper s old new f l at eq h d Closed r = absurd r
step_deeper s old new f l at eq h d Complete r = absurd r
step_deeper s old new f l at eq h d (Deeper child) r =
    (refl, r, record { literal = l; is = at; equal = eq; longer = d.1 }, d.2 (rw eq at (h.wrong f.next l at)))

-- the first place, with nothing on the branch
pub place_alone : (s : GroundSet) → (class : List ℕ) → IsClosure s.terms [] class → ((i : ℕ) → i < length s.terms → slice_index class i ≡ i) → IsPlace s [] class
place_alone s class closure own = record {
  closure = closure;
  fit = λ k d lt. absurd (omega arith);
  apart = λ i j d e.
      let same : i ≡ j = sym (own i (slice_get_within s.terms i _ d.first_is)) ∙ e ∙ own j (slice_get_within s.terms j _ d.second_is) in
      let one : slice_get s.terms j ≡ Some (Const d.first) = subst (λ k. slice_get s.terms k ≡ Some (Const d.first)) same d.first_is in
      let two = d.second_is in
      let eq : d.first ≡ d.second = cc in d.differ eq;
}

-- the next literal of a split that isn't complete
pub next_literal : (s : GroundSet) (f : Frame) (ls : List Lit) (d : Lit) → ls ≡ literals s f.clause → f.next ≤ length (literals s f.clause) → f.next ≢ length ls → slice_get (literals s f.clause) f.next ≡ Some (get_or ls f.next d)
next_literal s f ls d e le ne =
    let lt : f.next < length ls = omega (arith, ap length e, le, ne) in
    subst (λ (t : List Lit). slice_get t f.next ≡ Some (get_or ls f.next d)) e (slice_get-get_or ls f.next d lt)
