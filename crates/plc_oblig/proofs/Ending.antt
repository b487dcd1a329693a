-- What a set ends with, clause by clause, and the tree as it is written, node by node.
use Rattle.std.proofs.Common.{◌≡◌, ℕ, zero, suc, ◌+◌, ◌-◌, ◌<◌, ◌≤◌, ◌⊎◌, inl, inr, Bool, true, false, not, map, List, [], ◌∷◌, ◌++◌, length, get_or, take, drop, refl, sym, ap, ◌∙◌, arith, slice_get, Some, get_or-drop}
use Rattle.std.specs.Prelude.{slice_index_or}
use Rattle.std.proofs.Math.Seq.{drop-append_seam}
use Rattle.std.proofs.lemmas.List.{length-drop, take-append-drop, get_or-append-add, length-take-le}
use Rattle.std.proofs.lemmas.List.FromFn.{map-range_with_len_more}
use Rattle.std.proofs.lemmas.Option.{get_or_from_slice_get}
use Rattle.plc_ground.specs.declared.terms.Lit.{Lit}
use Rattle.plc_ground.specs.declared.terms.Node.TheVariants.{Split}
use Rattle.plc_ground.specs.declared.terms.GroundSet.{GroundSet}
use Rattle.plc_ground.specs.Model.{literals}
use Rattle.plc_oblig.specs.Direct.{opposite, opposites, splits, IsRefuted, IsRefutedByLast}
use Rattle.plc_oblig.proofs.UnitTrees.{first_is}

-- the clauses from a place on are the opposites of the first k literals
abbrev pub EndsSoFar : GroundSet → ℕ → List Lit → ℕ → Type 0
EndsSoFar s first ls k = (j : ℕ) (m : Lit) → j < k → slice_get ls j ≡ Some m → literals s (first + j) ≡ opposite m ∷ []

either : (j k : ℕ) → (j < k) ⊎ (k ≤ j)
either j zero = inr (omega arith)
either zero (suc k) = inl (omega arith)
either (suc j) (suc k) = elim (either j k) [
  | inl h ↦ inl (omega arith)
  | inr h ↦ inr (omega arith)
]

pub one_more : (s : GroundSet) (first : ℕ) (ls : List Lit) (k : ℕ) (d : Lit) → EndsSoFar s first ls k → literals s (first + k) ≡ opposite (get_or ls k d) ∷ [] → EndsSoFar s first ls (k + 1)
one_more s first ls k d so_far here j m less is = elim (either j k) [
  | inl h ↦ so_far j m h is
  | inr h ↦ (let same : j ≡ k = omega arith in
      ap (λ i. literals s (first + i)) same ∙ here ∙ ap (λ x. opposite x ∷ []) (ap (λ i. get_or ls i d) (sym same) ∙ get_or_from_slice_get ls j m d is))
]

same_list : (xs : List (List Lit)) (ls : List Lit) → length xs ≡ length ls
    → ((j : ℕ) (m : Lit) → j < length ls → slice_get ls j ≡ Some m → slice_index_or xs j [] ≡ opposite m ∷ []) → xs ≡ opposites ls
same_list [] [] same each = refl
same_list [] (l ∷ ls) same each = absurd (omega arith)
same_list (x ∷ xs) [] same each = absurd (omega arith)
same_list (x ∷ xs) (l ∷ ls) same each =
    ap (λ y. y ∷ xs) (each 0 l (omega arith) refl)
    ∙ ap (λ ys. (opposite l ∷ []) ∷ ys) (same_list xs ls (omega arith) (λ j m less is. each (suc j) m (omega arith) is))

-- where the last clauses are the opposites one by one
pub ends : (s : GroundSet) (c : ℕ) (ls : List Lit) (k : ℕ) → ls ≡ literals s c → length ls < length s.clauses - c → length ls ≤ k
    → EndsSoFar s (length s.clauses - length ls) ls k → IsRefuted s c
ends s c ls k same short whole each =
    let first = length s.clauses - length ls in
    let cut = length-drop first s.clauses in
    let taken = length-take-le first s.clauses (omega arith) in
    record {
      before = take first s.clauses;
      whole = sym (take-append-drop first s.clauses)
          ∙ ap (λ cs. take first s.clauses ++ cs) (same_list (drop first s.clauses) ls (omega arith)
          (λ j m less is. get_or-drop first s.clauses j [] ∙ each j m (omega arith) is))
          ∙ ap (λ xs. take first s.clauses ++ opposites xs) same;
      earlier = omega arith;
    }

read_opposites : (ls : List Lit) (j : ℕ) (d : Lit) → j < length ls → slice_index_or (opposites ls) j [] ≡ opposite (get_or ls j d) ∷ []
read_opposites [] j d less = absurd (omega arith)
read_opposites (l ∷ ls) zero d less = refl
read_opposites (l ∷ ls) (suc j) d less = read_opposites ls j d (omega arith)

-- each of the last clauses of a set that ends so
pub ends_at : (s : GroundSet) (c : ℕ) (ls : List Lit) (k : ℕ) (d : Lit) → ls ≡ literals s c → k < length ls → IsRefuted s c
    → literals s (length s.clauses - length ls + k) ≡ opposite (get_or ls k d) ∷ []
ends_at s c ls k d same less r =
    let count = ap length same in
    let e : length s.clauses - length ls ≡ length r.before = ap (λ n. length s.clauses - n) count ∙ first_is s c r in
    ap (λ n. literals s (n + k)) e
    ∙ ap (λ cs. slice_index_or cs (length r.before + k) []) r.whole
    ∙ get_or-append-add r.before (opposites (literals s c)) k []
    ∙ read_opposites (literals s c) k d (omega arith)
    ∙ ap (λ xs. opposite (get_or xs k d) ∷ []) (sym same)

-- the clause stands before as many as it has literals
pub ends_short : (s : GroundSet) (c : ℕ) → IsRefuted s c → length (literals s c) < length s.clauses - c
ends_short s c r =
    let e = first_is s c r in
    let earlier = r.earlier in
    omega arith

-- ---- clauses of the same opposites

turned_twice : (l : Lit) → opposite (opposite l) ≡ l
turned_twice l = ap (λ b. record { left = l.left; right = l.right; equal = b }) (not_not l.equal)
  where
    not_not : (b : Bool) → not (not b) ≡ b
    not_not true = refl
    not_not false = refl

no_lit : Lit
no_lit = record { left = 0; right = 0; equal = false }

turned_back : (ls : List Lit) → map (λ c. opposite (get_or c 0 no_lit)) (opposites ls) ≡ ls
turned_back [] = refl
turned_back (l ∷ ls) = ap (λ k. k ∷ map (λ c. opposite (get_or c 0 no_lit)) (opposites ls)) (turned_twice l) ∙ ap (λ ks. l ∷ ks) (turned_back ls)

last_are : (s : GroundSet) (n c : ℕ) → IsRefutedByLast s n c → drop (length s.clauses - n) s.clauses ≡ opposites (literals s c)
last_are s n c r =
    ap (λ m. drop (length s.clauses - m) s.clauses) (sym r.count)
    ∙ ap (λ m. drop m s.clauses) (first_is s c r.refuted)
    ∙ ap (drop (length r.refuted.before)) r.refuted.whole
    ∙ drop-append_seam r.refuted.before (opposites (literals s c))

-- two clauses of whose literals the last n clauses are the opposites have the same literals
pub one_clause : (s : GroundSet) (n c d : ℕ) → IsRefutedByLast s n c → IsRefutedByLast s n d → literals s c ≡ literals s d
one_clause s n c d r q =
    sym (turned_back (literals s c))
    ∙ ap (map (λ c. opposite (get_or c 0 no_lit))) (sym (last_are s n c r) ∙ last_are s n d q)
    ∙ turned_back (literals s d)

-- ---- the tree as it is written

-- one more split
pub splits_more : (first unit : ℕ) → first ≤ unit → splits first (unit + 1 - first) ≡ splits first (unit - first) ++ Split unit ∷ []
splits_more first unit le =
    let on : unit + 1 - first ≡ (unit - first) + 1 = omega arith in
    ap (splits first) on ∙ map-range_with_len_more Split first (unit - first) unit (omega arith)
