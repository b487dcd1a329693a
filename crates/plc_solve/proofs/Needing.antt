-- Cores: a longer branch makes more equal, so nodes that close a core close each branch that holds it.
use Rattle.std.proofs.Common.{◌≡◌, ◌≢◌, ◌<◌, ◌⊎◌, ℕ, zero, suc, true, List, [], ◌∷◌, ◌++◌, length, map, get_or, Some, inl, inr, refl, sym, ◌∙◌, ap, subst, arith}
use Rattle.std.specs.Prelude.{Contains, slice_get}
use Rattle.std.proofs.lemmas.List.Elements.{Contains-append_left, Contains-append_right, Contains-append_cases, Contains-get_or}
use Rattle.plc_ground.specs.declared.terms.Lit.{Lit}
use Rattle.plc_ground.specs.declared.terms.Node.{Node}
use Rattle.plc_ground.specs.declared.terms.Node.TheVariants.{Split, Leaf}
use Rattle.plc_ground.specs.declared.terms.GroundTerm.{GroundTerm}
use Rattle.plc_ground.specs.declared.terms.GroundSet.{GroundSet}
use Rattle.plc_ground.specs.Model.{literals}
use Rattle.plc_ground.specs.Equality.{Same, HoldsUnequal, given, itself, back, along, applied}
use Rattle.plc_ground.specs.Trees.{IsRight, Close}
use Rattle.plc_ground.specs.Classes.{IsClosure}
use Rattle.plc_ground.proofs.Joining.{literal_is}
use Rattle.plc_solve.specs.Search.{IsWithin, IsOfSome, TakesCore, PutsSome, Explains, Leads}

-- what a branch makes equal every longer one does
Same-more : (terms : List GroundTerm) (few many : List Lit) → IsWithin few many → (i j : ℕ) → Same terms few i j → Same terms many i j
Same-more terms few many w _ _ (given a b c) = given a b (w _ c)
Same-more terms few many w _ _ (itself a) = itself a
Same-more terms few many w _ _ (back a b e) = back a b (Same-more terms few many w _ _ e)
Same-more terms few many w _ _ (along a b c e f) = along a b c (Same-more terms few many w _ _ e) (Same-more terms few many w _ _ f)
Same-more terms few many w _ _ (applied m v a b i j p q e) = applied m v a b i j p q (Same-more terms few many w _ _ e)

unequal_more : (few many : List Lit) → IsWithin few many → (a b : ℕ) → HoldsUnequal few a b → HoldsUnequal many a b
unequal_more few many w a b (inl h) = inl (w _ h)
unequal_more few many w a b (inr h) = inr (w _ h)

pub right_more : (s : GroundSet) (few many : List Lit) (n : Node) → IsWithin few many → IsRight s few n → IsRight s many n
right_more s few many (Split c) w h = h
right_more s few many (Leaf a b) w h = (h.0, h.1, Same-more s.terms few many w a b (h.2), either (h.3))
  where
    either : {A : Type 0} → HoldsUnequal few a b ⊎ A → HoldsUnequal many a b ⊎ A
    either (inl u) = inl (unequal_more few many w a b u)
    either (inr d) = inr d

-- each branch is within its partner
abbrev AreWithin : List (List Lit) → List (List Lit) → Type 0
AreWithin [] [] = Unit {0}
AreWithin [] (c ∷ cs) = ⊥
AreWithin (b ∷ bs) [] = ⊥
AreWithin (b ∷ bs) (c ∷ cs) = IsWithin b c × AreWithin bs cs

within_child : (few many : List Lit) (l : Lit) → IsWithin few many → IsWithin (few ++ l ∷ []) (many ++ l ∷ [])
within_child few many l w m h = either (Contains-append_cases few (l ∷ []) m h)
  where
    either : Contains few m ⊎ Contains (l ∷ []) m → Contains (many ++ l ∷ []) m
    either (inl c) = Contains-append_left many (l ∷ []) m (w m c)
    either (inr c) = Contains-append_right many (l ∷ []) m c

within_children : (few many : List Lit) (ls : List Lit) (bs cs : List (List Lit)) → IsWithin few many → AreWithin bs cs →
    AreWithin (map (λ l. few ++ l ∷ []) ls ++ bs) (map (λ l. many ++ l ∷ []) ls ++ cs)
within_children few many [] bs cs w h = h
within_children few many (l ∷ ls) bs cs w h = (within_child few many l w, within_children few many ls bs cs w h)

-- nodes that close branches close longer ones
close_more : (s : GroundSet) (bs cs : List (List Lit)) (ns : List Node) → AreWithin bs cs → Close s bs ns → Close s cs ns
close_more s [] [] ns w h = h
close_more s [] (c ∷ cs) ns w h = absurd w
close_more s (b ∷ bs) [] ns w h = absurd w
close_more s (b ∷ bs) (c ∷ cs) [] w h = absurd h
close_more s (b ∷ bs) (c ∷ cs) (Split k ∷ ns) w h =
    (h.0, close_more s (map (λ l. b ++ l ∷ []) (literals s k) ++ bs) (map (λ l. c ++ l ∷ []) (literals s k) ++ cs) ns (within_children b c (literals s k) bs cs (w.0) (w.1)) (h.1))
close_more s (b ∷ bs) (c ∷ cs) (Leaf x y ∷ ns) w h = (right_more s b c (Leaf x y) (w.0) (h.0), close_more s bs cs ns (w.1) (h.1))

-- nodes that close a core close each branch that holds it
pub close_longer : (s : GroundSet) (few many : List Lit) (ns : List Node) → IsWithin few many → Close s (few ∷ []) ns → Close s (many ∷ []) ns
close_longer s few many ns w h = close_more s (few ∷ []) (many ∷ []) ns (w, tt) h

append-nil : (b : List (List Lit)) → b ++ [] ≡ b
append-nil [] = refl
append-nil (x ∷ b) = subst (λ (t : List (List Lit)). x ∷ (b ++ []) ≡ x ∷ t) (append-nil b) refl

-- the children that are closed stay so where their split's core grows
pub children_more : (s : GroundSet) (few many : List Lit) (ls : List Lit) (ns : List Node) → IsWithin few many →
    Close s (map (λ l. few ++ l ∷ []) ls) ns → Close s (map (λ l. many ++ l ∷ []) ls) ns
children_more s few many ls ns w h =
    close_more s (map (λ l. few ++ l ∷ []) ls) (map (λ l. many ++ l ∷ []) ls) ns
    (subst (λ (t : List (List Lit)). AreWithin t (map (λ l. many ++ l ∷ []) ls)) (append-nil (map (λ l. few ++ l ∷ []) ls))
    (subst (λ (t : List (List Lit)). AreWithin (map (λ l. few ++ l ∷ []) ls ++ []) t) (append-nil (map (λ l. many ++ l ∷ []) ls)) (within_children few many ls [] [] w tt))) h

-- a child's nodes close it by what its split took of their core
pub child_more_core : (s : GroundSet) (old new core : List Lit) (own : Lit) (ns : List Node) → TakesCore old new own core → Close s ((core ++ own ∷ []) ∷ []) ns → Close s ((new ++ own ∷ []) ∷ []) ns
child_more_core s old new core own ns t h = close_longer s (core ++ own ∷ []) (new ++ own ∷ []) ns covered h
  where
    covered : IsWithin (core ++ own ∷ []) (new ++ own ∷ [])
    covered m c = either (Contains-append_cases core (own ∷ []) m c)
      where
        either : Contains core m ⊎ Contains (own ∷ []) m → Contains (new ++ own ∷ []) m
        either (inl k) = t.covered m k
        either (inr k) = Contains-append_right new (own ∷ []) m k

only_that : (own l : Lit) → Contains (own ∷ []) l → own ≡ l
only_that own l (zero, lt, e) = e
only_that own l (suc k, lt, e) = absurd (omega arith)

-- what is on a child's branch and isn't its own literal is on the branch above
other_above : (branch : List Lit) (own l : Lit) → Contains (branch ++ own ∷ []) l → l ≢ own → Contains branch l
other_above branch own l c ne = either (Contains-append_cases branch (own ∷ []) l c)
  where
    either : Contains branch l ⊎ Contains (own ∷ []) l → Contains branch l
    either (inl k) = k
    either (inr k) = absurd (ne (sym (only_that own l k)))

-- a split's core stays on its branch
pub core_used : (branch old new core : List Lit) (own : Lit) → TakesCore old new own core → IsWithin old branch → IsWithin core (branch ++ own ∷ []) → IsWithin new branch
core_used branch old new core own t o u l c = either (t.within l c)
  where
    either : Contains old l ⊎ (Contains core l × (l ≢ own)) → Contains branch l
    either (inl k) = o l k
    either (inr (k, ne)) = other_above branch own l (u l k) ne

-- a core without the child's own literal is on the branch above
pub without : (branch core : List Lit) (own : Lit) → IsWithin core (branch ++ own ∷ []) → (Contains core own → ⊥) → IsWithin core branch
without branch core own u lacks l c = other_above branch own l (u l c) (λ e. lacks (subst (λ (m : Lit). Contains core m) e c))

-- one core after another
pub takes_more : (a b c : List Lit) (own l : Lit) (more : List Lit) → TakesCore a b own more → TakesCore b c own (l ∷ []) → TakesCore a c own (more ++ l ∷ [])
takes_more a b c own l more p q = record {
  kept = λ m h. q.kept m (p.kept m h);
  covered = λ m h. before m (Contains-append_cases more (l ∷ []) m h);
  within = λ m h. after m (q.within m h);
}
  where
    still : (m : Lit) → Contains b m ⊎ Contains (own ∷ []) m → Contains (c ++ own ∷ []) m
    still m (inl h) = Contains-append_left c (own ∷ []) m (q.kept m h)
    still m (inr h) = Contains-append_right c (own ∷ []) m h

    before : (m : Lit) → Contains more m ⊎ Contains (l ∷ []) m → Contains (c ++ own ∷ []) m
    before m (inl h) = still m (Contains-append_cases b (own ∷ []) m (p.covered m h))
    before m (inr h) = q.covered m h

    earlier : (m : Lit) → Contains a m ⊎ (Contains more m × (m ≢ own)) → Contains a m ⊎ (Contains (more ++ l ∷ []) m × (m ≢ own))
    earlier m (inl h) = inl h
    earlier m (inr (h, ne)) = inr (Contains-append_left more (l ∷ []) m h, ne)

    after : (m : Lit) → Contains b m ⊎ (Contains (l ∷ []) m × (m ≢ own)) → Contains a m ⊎ (Contains (more ++ l ∷ []) m × (m ≢ own))
    after m (inl h) = earlier m (p.within m h)
    after m (inr (h, ne)) = inr (Contains-append_right more (l ∷ []) m h, ne)

within_longer : (xs ys : List Lit) → IsWithin xs (xs ++ ys)
within_longer xs ys m h = Contains-append_left xs ys m h

one_of : (l m : Lit) (xs : List Lit) → Contains xs l → Contains (l ∷ []) m → Contains xs m
one_of l m xs h k = subst (λ (n : Lit). Contains xs n) (only_that l m k) h

-- the child's own literal isn't taken
pub takes_own : (core : List Lit) (own l : Lit) → l ≡ own → TakesCore core core own (l ∷ [])
takes_own core own l e = record {
  kept = λ m h. h;
  covered = λ m h. one_of l m (core ++ own ∷ []) (Contains-append_right core (own ∷ []) l (zero, omega arith, sym e)) h;
  within = λ m h. inl h;
}

-- nor one that is there
pub takes_known : (core : List Lit) (own l : Lit) → Contains core l → TakesCore core core own (l ∷ [])
takes_known core own l k = record {
  kept = λ m h. h;
  covered = λ m h. one_of l m (core ++ own ∷ []) (Contains-append_left core (own ∷ []) l k) h;
  within = λ m h. inl h;
}

-- another is added
pub takes_new : (core new : List Lit) (own l : Lit) → l ≢ own → new ≡ core ++ l ∷ [] → TakesCore core new own (l ∷ [])
takes_new core new own l ne e = record {
  kept = λ m h. subst (λ (t : List Lit). Contains t m) (sym e) (Contains-append_left core (l ∷ []) m h);
  covered = λ m h. Contains-append_left new (own ∷ []) m (subst (λ (t : List Lit). Contains t m) (sym e) (Contains-append_right core (l ∷ []) m h));
  within = λ m h. either m (Contains-append_cases core (l ∷ []) m (subst (λ (t : List Lit). Contains t m) e h));
}
  where
    either : (m : Lit) → Contains core m ⊎ Contains (l ∷ []) m → Contains core m ⊎ (Contains (l ∷ []) m × (m ≢ own))
    either m (inl h) = inl h
    either m (inr h) = inr (h, λ is. ne (only_that l m h ∙ is))

-- nothing is taken of nothing
pub takes_none : (core : List Lit) (own : Lit) → TakesCore core core own []
takes_none core own = record { kept = λ m h. h; covered = λ m (k, lt, e). absurd (omega arith); within = λ m h. inl h }

-- what stands at a place of a clause is one literal
pub lacks_own : (ls core : List Lit) (n : ℕ) (own : Lit) → slice_get ls n ≡ Some own → (Contains core own → ⊥) → (l : Lit) → slice_get ls n ≡ Some l → Contains core l → ⊥
lacks_own ls core n own is lacks l at h = lacks (subst (λ (m : Lit). Contains core m) (let same : l ≡ own = cc in same) h)

-- a term of a set has a class in its table
pub has_a_class : (s : GroundSet) (class found : List ℕ) (i : ℕ) → IsOfSome s class → found ≡ class → i < length s.terms → i < length found
has_a_class s class found i of same within = let lengths = ap length same in let each = of.1.merged.one_each in omega (arith, within, each, lengths)

-- the literals of a core that was put, with one more of the branch
pub puts_more : (s : GroundSet) (branch core new : List Lit) (class : List ℕ) (k : ℕ) (d : Lit) → k < length branch → IsWithin core branch → new ≡ core ++ get_or branch k d ∷ [] →
    IsClosure s.terms (core ++ get_or branch k d ∷ []) class → PutsSome s branch new class
puts_more s branch core new class k d lt w e h = record {
  within = λ l m. either l (Contains-append_cases core (get_or branch k d ∷ []) l (subst (λ (t : List Lit). Contains t l) e m));
  closure = subst (λ (t : List Lit). IsClosure s.terms t class) (sym e) h;
}
  where
    here : Contains branch (get_or branch k d)
    here = Contains-get_or branch k d lt

    either : (l : Lit) → Contains core l ⊎ Contains (get_or branch k d ∷ []) l → Contains branch l
    either l (inl m) = w l m
    either l (inr m) = subst (λ (t : Lit). Contains branch t) (only_that (get_or branch k d) l m) here

-- the whole branch explains what it makes equal
pub explained_by_all : (s : GroundSet) (branch list : List Lit) (a b : ℕ) → Same s.terms branch a b → list ≡ branch →
    Explains s branch a b list
explained_by_all s branch list a b h e = record {
  within = λ l m. subst (λ (t : List Lit). Contains t l) e m;
  same = subst (λ (t : List Lit). Same s.terms t a b) (sym e) h;
}

-- an equation leads from its left side to its right, and back
pub leads_right : (l : Lit) (at : ℕ) → l.equal ≡ true → l.left ≡ at → Leads l at l.right
leads_right l at e is = (
  (λ terms branch h. subst (λ n. Same terms branch n l.right) is (given l.left l.right (subst (λ (m : Lit). Contains branch m) (sym (literal_is l e)) h))),
  inr refl,
)

pub leads_left : (l : Lit) (at : ℕ) → l.equal ≡ true → l.right ≡ at → Leads l at l.left
leads_left l at e is = (
  (λ terms branch h. subst (λ n. Same terms branch n l.left) is (back l.left l.right (given l.left l.right (subst (λ (m : Lit). Contains branch m) (sym (literal_is l e)) h)))),
  inl refl,
)

-- one step back along a chain
pub chain_more : (s : GroundSet) (branch core new : List Lit) (at next b k : ℕ) (d : Lit) → k < length branch → Explains s branch at b core → Leads (get_or branch k d) at next →
    new ≡ core ++ get_or branch k d ∷ [] → Explains s branch next b new
chain_more s branch core new at next b k d lt h leads e = subst (λ (t : List Lit). Explains s branch next b t) (sym e) (record {
  within = λ l m. either l (Contains-append_cases core (get_or branch k d ∷ []) l m);
  same = along next at b (back at next (leads.0 s.terms (core ++ get_or branch k d ∷ []) (Contains-append_right core (get_or branch k d ∷ []) (get_or branch k d) (zero, omega arith, refl))))
      (Same-more s.terms core (core ++ get_or branch k d ∷ []) (λ l m. Contains-append_left core (get_or branch k d ∷ []) l m) at b h.same);
})
  where
    either : (l : Lit) → Contains core l ⊎ Contains (get_or branch k d ∷ []) l → Contains branch l
    either l (inl m) = h.within l m
    either l (inr m) = subst (λ (t : Lit). Contains branch t) (only_that (get_or branch k d) l m) (Contains-get_or branch k d lt)

-- a term is equal to itself whatever was found
pub chain_first : (s : GroundSet) (branch core : List Lit) (b : ℕ) → IsWithin core branch → Explains s branch b b core
chain_first s branch core b w = record { within = w; same = itself b }
