-- The tree of a clause whose literals' opposites end a set closes the set, and no branch of it splits a clause twice.
use Rattle.std.proofs.Common.{◌≡◌, ℕ, suc, ◌+◌, ◌-◌, ◌<◌, ◌≤◌, Bool, true, false, not, List, [], ◌∷◌, ◌++◌, map, length, refl, sym, ap, ◌∙◌, subst, arith, inl, length-append}
use Rattle.std.specs.Prelude.{All, Contains, slice_index_or}
use Rattle.std.proofs.lemmas.List.{append-nil, append_assoc}
use Rattle.std.proofs.lemmas.List.Elements.{All-nil, All-cons, All-head, All-tail, All-weaker, All-contains, Contains-append_left, Contains-append_right}
use Rattle.plc_ground.specs.declared.terms.Lit.{Lit}
use Rattle.plc_ground.specs.declared.terms.Node.{Node}
use Rattle.plc_ground.specs.declared.terms.Node.TheVariants.{Split, Leaf}
use Rattle.plc_ground.specs.declared.terms.GroundSet.{GroundSet}
use Rattle.plc_ground.specs.Model.{literals}
use Rattle.plc_ground.specs.Equality.{Same, given, HoldsUnequal}
use Rattle.plc_ground.specs.Fit.{IsInRange, IsWellFormed}
use Rattle.plc_ground.specs.Trees.{IsRight, Close, Closes, SplitsOnce}
use Rattle.plc_oblig.specs.Direct.{opposite, opposites, splits, leaves, direct_nodes, IsRefuted}

at_head : {A : Type 0} (x : A) (xs : List A) → Contains (x ∷ xs) x
at_head x xs = (0, omega arith, refl)

-- clause d is the opposite of the first literal alone, and so on
abbrev AreOpposite : GroundSet → ℕ → List Lit → Type 0
AreOpposite s d [] = Unit {0}
AreOpposite s d (l ∷ ls) = (d < length s.clauses) × (literals s d ≡ opposite l ∷ []) × AreOpposite s (d + 1) ls

read_seam : {A : Type 0} (xs : List A) (y : A) (ys : List A) (d : A) → slice_index_or (xs ++ y ∷ ys) (length xs) d ≡ y
read_seam [] y ys d = refl
read_seam (x ∷ xs) y ys d = read_seam xs y ys d

at_end : (s : GroundSet) (before : List (List Lit)) (ls : List Lit) → s.clauses ≡ before ++ opposites ls → AreOpposite s (length before) ls
at_end s before [] is = tt
at_end s before (l ∷ ls) is =
    let more = ap length is ∙ length-append before (opposites (l ∷ ls)) in
    let next = ap (λ n. n) (length-append before ((opposite l ∷ []) ∷ [])) in (
      omega arith,
      ap (λ cs. slice_index_or cs (length before) []) is ∙ read_seam before (opposite l ∷ []) (opposites ls) [],
      subst (λ n. AreOpposite s n ls) next (at_end s (before ++ (opposite l ∷ []) ∷ []) ls (is ∙ sym (append_assoc before ((opposite l ∷ []) ∷ []) (opposites ls)))),
    )

module _ (s : GroundSet) where
  units_close : (d : ℕ) (ls branch : List Lit) (rest : List Node) → AreOpposite s d ls → Close s ((branch ++ map opposite ls) ∷ []) rest → Close s (branch ∷ []) (splits d (length ls) ++ rest)
  units_close d [] branch rest t h = subst (λ b. Close s (b ∷ []) rest) (append-nil branch) h
  units_close d (l ∷ ls) branch rest t h = (
    t.0,
    subst (λ c. Close s (map (λ k. branch ++ k ∷ []) c ++ []) (splits (d + 1) (length ls) ++ rest)) (sym t.1)
        (units_close (d + 1) ls (branch ++ opposite l ∷ []) rest t.2 (subst (λ b. Close s (b ∷ []) rest) (sym (append_assoc branch (opposite l ∷ []) (map opposite ls))) h)),
  )

  -- the branch holds a literal and its opposite
  differ : (a b : ℕ) (e : Bool) (branch : List Lit) → Contains branch (record { left = a; right = b; equal = e }) → Contains branch (record { left = a; right = b; equal = not e })
      → Same s.terms branch a b × HoldsUnequal branch a b
  differ a b true branch h k = (given a b h, inl k)
  differ a b false branch h k = (given a b k, inl h)

  leaf_right : (l : Lit) (branch : List Lit) → IsInRange s.terms l → Contains branch l → Contains branch (opposite l) → IsRight s branch (Leaf l.left l.right)
  leaf_right l branch range h k = let d = differ l.left l.right l.equal branch h k in (range.0, range.1, d.0, inl d.1)

  leaves_close : (ls branch : List Lit) → All (IsInRange s.terms) ls → All (λ l. Contains branch (opposite l)) ls → Close s (map (λ l. branch ++ l ∷ []) ls ++ []) (leaves ls)
  leaves_close [] branch range turns = tt
  leaves_close (l ∷ ls) branch range turns = (
    leaf_right l (branch ++ l ∷ []) (All-head (IsInRange s.terms) l ls range) (Contains-append_right branch (l ∷ []) l (at_head l []))
        (Contains-append_left branch (l ∷ []) (opposite l) (All-head (λ l. Contains branch (opposite l)) l ls turns)),
    leaves_close ls branch (All-tail (IsInRange s.terms) l ls range) (All-tail (λ l. Contains branch (opposite l)) l ls turns),
  )

  all_opposite : (ls : List Lit) → All (λ l. Contains (map opposite ls) (opposite l)) ls
  all_opposite [] = All-nil (λ l. Contains [] (opposite l))
  all_opposite (l ∷ ls) =
      All-cons (λ k. Contains (opposite l ∷ map opposite ls) (opposite k)) l ls (at_head (opposite l) (map opposite ls))
      (All-weaker (λ k. Contains (map opposite ls) (opposite k)) (λ k. Contains (opposite l ∷ map opposite ls) (opposite k))
      (λ k h. Contains-append_right (opposite l ∷ []) (map opposite ls) (opposite k) h) ls (all_opposite ls))

  tree_closes : (d c : ℕ) (ls : List Lit) → AreOpposite s d ls → c < length s.clauses → literals s c ≡ ls → All (IsInRange s.terms) ls → Closes s (splits d (length ls) ++ Split c ∷ leaves ls)
  tree_closes d c ls t less is range =
      units_close d ls [] (Split c ∷ leaves ls) t
      (less, subst (λ ks. Close s (map (λ l. map opposite ls ++ l ∷ []) ks ++ []) (leaves ls)) (sym is) (leaves_close ls (map opposite ls) range (all_opposite ls)))

  -- ---- no clause is split twice

  leaves_once : (ls : List Lit) (done : List ℕ) → SplitsOnce s (map (λ l. done) ls ++ []) (leaves ls)
  leaves_once [] done = tt
  leaves_once (l ∷ ls) done = leaves_once ls done

  record IsFrom (first d k : ℕ) : Type 0 where
    low : first ≤ k
    high : k < d

  units_once : (first d : ℕ) (ls : List Lit) (done : List ℕ) (rest : List Node) → AreOpposite s d ls → first ≤ d → All (IsFrom first d) done
      → ((end : ℕ) (all : List ℕ) → All (IsFrom first end) all → SplitsOnce s (all ∷ []) rest) → SplitsOnce s (done ∷ []) (splits d (length ls) ++ rest)
  units_once first d [] done rest t le bounds last = last d done bounds
  units_once first d (l ∷ ls) done rest t le bounds last = (
    (λ h. let b = All-contains (IsFrom first d) done d bounds h in let high = b.high in absurd (omega arith)),
    subst (λ c. SplitsOnce s (map (λ k. d ∷ done) c ++ []) (splits (d + 1) (length ls) ++ rest)) (sym t.1)
        (units_once first (d + 1) ls (d ∷ done) rest t.2 (omega arith)
        (All-cons (IsFrom first (d + 1)) d done (record { low = le; high = omega arith })
        (All-weaker (IsFrom first d) (IsFrom first (d + 1)) (λ k b. record { low = b.low; high = (let high = b.high in omega arith) }) done bounds)) last),
  )

  tree_splits_once : (d c : ℕ) (ls : List Lit) → AreOpposite s d ls → c < d → literals s c ≡ ls → SplitsOnce s ([] ∷ []) (splits d (length ls) ++ Split c ∷ leaves ls)
  tree_splits_once d c ls t less is =
      units_once d d ls [] (Split c ∷ leaves ls) t (omega arith) (All-nil (IsFrom d d))
      (λ end all bounds. (
        (λ h. let b = All-contains (IsFrom d end) all c bounds h in let low = b.low in absurd (omega arith)),
        subst (λ ks. SplitsOnce s (map (λ l. c ∷ all) ks ++ []) (leaves ls)) (sym is) (leaves_once ls (c ∷ all)),
      ))

-- ---- the whole

length_opposites : (ls : List Lit) → length (opposites ls) ≡ length ls
length_opposites [] = refl
length_opposites (l ∷ ls) = ap suc (length_opposites ls)

pub first_is : (s : GroundSet) (c : ℕ) (r : IsRefuted s c) → length s.clauses - length (literals s c) ≡ length r.before
first_is s c r =
    let more = ap length r.whole ∙ length-append r.before (opposites (literals s c)) in
    let same = length_opposites (literals s c) in
    omega arith

pub closes : (s : GroundSet) (c : ℕ) → IsWellFormed s → IsRefuted s c → Closes s (direct_nodes s c)
closes s c well r =
    let ls = literals s c in
    let more = ap length r.whole ∙ length-append r.before (opposites ls) in
    let earlier = r.earlier in
    subst (λ d. Closes s (splits d (length ls) ++ Split c ∷ leaves ls)) (sym (first_is s c r))
    (tree_closes s (length r.before) c ls (at_end s r.before ls r.whole) (omega arith) refl (well.range c))

pub splits_once : (s : GroundSet) (c : ℕ) → IsRefuted s c → SplitsOnce s ([] ∷ []) (direct_nodes s c)
splits_once s c r =
    let ls = literals s c in
    subst (λ d. SplitsOnce s ([] ∷ []) (splits d (length ls) ++ Split c ∷ leaves ls)) (sym (first_is s c r))
    (tree_splits_once s (length r.before) c ls (at_end s r.before ls r.whole) r.earlier refl)
