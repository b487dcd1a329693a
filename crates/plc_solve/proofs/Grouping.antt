-- Constants that must differ, in groups.
use Rattle.std.proofs.Common.{◌≡◌, ◌≢◌, ◌<◌, ◌≤◌, ◌+◌, ◌==◌, ℕ, Bool, true, false, List, [], length, set, Some, below_more, inl, inr, refl, sym, ◌∙◌, ap, subst, arith}
use Rattle.std.specs.Prelude.{Any, Contains, slice_get, slice_index, slice_index_or}
use Rattle.std.proofs.lemmas.Grind.{common_steps}
use Rattle.std.proofs.lemmas.List.{get_or-set_same, get_or-set_other, get_or_default}
use Rattle.std.proofs.lemmas.Option.{slice_get_within}
use Rattle.plc_ground.specs.declared.terms.Symbol.{Symbol}
use Rattle.plc_ground.specs.declared.terms.GroundTerm.TheVariants.{Const}
use Rattle.plc_ground.specs.declared.terms.GroundSet.{GroundSet}
use Rattle.plc_ground.specs.Model.{symbol_family, MustDiffer}
use Rattle.plc_ground.specs.Fit.{IsWellFormed}
use Rattle.plc_ground.specs.Classes.{AreApart, IsNoLater}
use Rattle.plc_solve.specs.Search.{IsConflict, IsOfGroup, IsGroup, AreGroups}

must_back : (s : GroundSet) (i j : ℕ) → MustDiffer s i j → MustDiffer s j i
must_back s i j d = record {
  first = d.second;
  second = d.first;
  first_is = d.second_is;
  second_is = d.first_is;
  one_family = sym d.one_family;
  distinguished = λ e. d.distinguished (d.one_family ∙ e);
  differ = λ e. d.differ (sym e);
  one_field = λ v. sym (d.one_field (d.one_family ∙ v));
}

never : (s : GroundSet) (i : ℕ) → MustDiffer s i i → ⊥
never s i d = d.differ (let x = d.first_is in let y = d.second_is in cc)

-- two that must differ from a third are one or must differ
must_along : (s : GroundSet) → IsWellFormed s → (a i j : ℕ) → MustDiffer s a i → MustDiffer s i j → IsOfGroup s a j
must_along s w a i j p q = by_test (a == j) refl
  where
    same : p.second ≡ q.first
    same = let x = p.second_is in let y = q.first_is in cc

    by_test : (b : Bool) → (a == j) ≡ b → IsOfGroup s a j
    by_test true t = inl (grind (arith, common_steps))
    by_test false t =
        let other : a ≢ j = λ e. grind (arith, common_steps) in
        inr (record {
          first = p.first;
          second = q.second;
          first_is = p.first_is;
          second_is = q.second_is;
          one_family = p.one_family ∙ ap symbol_family same ∙ q.one_family;
          distinguished = p.distinguished;
          differ = λ e. other (w.distinct (Const p.first) a j p.first_is (subst (λ (v : Symbol). slice_get s.terms j ≡ Some (Const v)) (sym e) q.second_is));
          one_field = λ v. p.one_field v ∙ q.one_field (sym (p.one_family ∙ ap symbol_family same) ∙ v);
        })

-- two of one group are one or must differ
of_one_group : (s : GroundSet) → IsWellFormed s → (list : List ℕ) → IsGroup s list → (i j : ℕ) → Contains list i → Contains list j → IsOfGroup s i j
of_one_group s w list (first, within, group) i j (k, kl, ke) (n, nl, ne) = both (subst (IsOfGroup s first) ke (group.each k i kl)) (subst (IsOfGroup s first) ne (group.each n j nl))
  where
    both : IsOfGroup s first i → IsOfGroup s first j → IsOfGroup s i j
    both (inl p) (inl q) = inl (sym p ∙ q)
    both (inl p) (inr q) = inr (subst (λ x. MustDiffer s x j) p q)
    both (inr p) (inl q) = inr (subst (λ x. MustDiffer s i x) q (must_back s first i p))
    both (inr p) (inr q) = must_along s w i first j (must_back s first i p) q

-- two that must differ stand in one group
pub apart_from_groups : (s : GroundSet) → IsWellFormed s → (class : List ℕ) (groups : List (List ℕ)) → AreGroups s groups →
    ((n : ℕ) → n < length groups → (i j : ℕ) → Contains (slice_index_or groups n []) i → Contains (slice_index_or groups n []) j → AreApart s class i j) → (i j : ℕ) → AreApart s class i j
apart_from_groups s w class groups g h i j d = here (g.whole i (d.first, d.first_is, d.distinguished))
  where
    here : Any (λ (x : List ℕ). Contains x i) groups → slice_index class i ≢ slice_index class j
    here (n, x, lt, e, (k, kl, ke)) =
        let group = subst (IsGroup s) e (g.each n x lt) in
        let at : slice_index_or groups n [] ≡ x = get_or_default groups n [] x lt ∙ e in
        let there : IsOfGroup s group.0 j = along group.0 (subst (IsOfGroup s group.0) ke (group.2.each k i kl)) in
        h n lt i j (subst (λ (l : List ℕ). Contains l i) (sym at) (k, kl, ke)) (subst (λ (l : List ℕ). Contains l j) (sym at) (group.2.whole j there)) d
      where
        along : (a : ℕ) → IsOfGroup s a i → IsOfGroup s a j
        along a (inl p) = inr (subst (λ y. MustDiffer s y j) (sym p) d)
        along a (inr p) = must_along s w a i j p d

-- the first constants of a group are apart, and each stands in the table at its class
pub record Passes (s : GroundSet) (group class last : List ℕ) (k : ℕ) : Type 0 where
  pub marked : (n : ℕ) → n < k → slice_index last (slice_index class (slice_index group n)) ≡ slice_index group n
  pub apart : (m n : ℕ) → m < k → n < k → AreApart s class (slice_index group m) (slice_index group n)

in_place : (list : List ℕ) (n : ℕ) → n < length list → Contains list (slice_index list n)
in_place list n lt = (n, lt, get_or_default list n (slice_index list n) 0 lt)

module _ (s : GroundSet) (w : IsWellFormed s) (group class last : List ℕ) (k : ℕ) (g : IsGroup s group) (p : Passes s group class last k) (kl : k < length group)
    (own : slice_index class (slice_index group k) < length last)
    (none : IsConflict s class (slice_index group k) (slice_index last (slice_index class (slice_index group k))) → ⊥) where
  -- one that shares the class with the next is the next
  shared : (n : ℕ) → n < k → slice_index class (slice_index group n) ≡ slice_index class (slice_index group k) → slice_index group k ≡ slice_index group n
  shared n nk e = one (of_one_group s w group g (slice_index group k) (slice_index group n) (in_place group k kl) (in_place group n (omega (arith, nk, kl))))
    where
      one : IsOfGroup s (slice_index group k) (slice_index group n) → slice_index group k ≡ slice_index group n
      one (inl same) = same
      one (inr d) =
          let at : slice_index last (slice_index class (slice_index group k)) ≡ slice_index group n = ap (slice_index last) (sym e) ∙ p.marked n nk in
          absurd (none (subst (IsConflict s class (slice_index group k)) (sym at) (record {
            first = slice_get_within s.terms (slice_index group k) _ d.first_is;
            second = slice_get_within s.terms (slice_index group n) _ d.second_is;
            differ = d;
            together = sym e;
          })))

  apart_next : (n : ℕ) → n < k → AreApart s class (slice_index group n) (slice_index group k)
  apart_next n nk d e = never s (slice_index group n) (subst (MustDiffer s (slice_index group n)) (shared n nk e) d)

  -- the next constant is put at its class
  pub passes_more : Passes s group class (set last (slice_index class (slice_index group k)) (slice_index group k)) (k + 1)
  passes_more = record {
    marked = below_more (λ n. slice_index (set last (slice_index class (slice_index group k)) (slice_index group k)) (slice_index class (slice_index group n)) ≡ slice_index group n) k
        (λ n nk. by_class n nk (slice_index class (slice_index group n) == slice_index class (slice_index group k)) refl)
        (get_or-set_same last (slice_index class (slice_index group k)) (slice_index group k) 0 own);
    apart = λ m n ml nl. below_more (λ m. (n : ℕ) → n < k + 1 → AreApart s class (slice_index group m) (slice_index group n)) k
        (λ m mk. below_more (λ n. AreApart s class (slice_index group m) (slice_index group n)) k (λ n nk. p.apart m n mk nk) (apart_next m mk))
        (below_more (λ n. AreApart s class (slice_index group k) (slice_index group n)) k (λ n nk d e. apart_next n nk (must_back s _ _ d) (sym e)) (λ d e. never s (slice_index group k) d))
        m ml n nl;
  }
    where
      by_class : (n : ℕ) → n < k → (b : Bool) → (slice_index class (slice_index group n) == slice_index class (slice_index group k)) ≡ b →
          slice_index (set last (slice_index class (slice_index group k)) (slice_index group k)) (slice_index class (slice_index group n)) ≡ slice_index group n
      by_class n nk true t =
          let e : slice_index class (slice_index group n) ≡ slice_index class (slice_index group k) = grind (arith, common_steps) in
          ap (slice_index (set last (slice_index class (slice_index group k)) (slice_index group k))) e ∙ get_or-set_same last (slice_index class (slice_index group k)) (slice_index group k) 0 own ∙ shared n nk e
      by_class n nk false t =
          get_or-set_other last (slice_index class (slice_index group k)) (slice_index class (slice_index group n)) (slice_index group k) 0 (λ e. grind (arith, common_steps)) ∙ p.marked n nk

-- what is of the group of the first in a group stands in it
pub joins_first : (s : GroundSet) → IsWellFormed s → (list : List ℕ) → IsGroup s list → 0 < length list → (i : ℕ) → IsOfGroup s (slice_index list 0) i → Contains list i
joins_first s w list (first, within, group) lt i is = group.whole i (along (group.each 0 0 lt) is)
  where
    along : IsOfGroup s first (slice_index list 0) → IsOfGroup s (slice_index list 0) i → IsOfGroup s first i
    along (inl p) q = subst (λ x. IsOfGroup s x i) (sym p) q
    along (inr p) (inl e) = subst (IsOfGroup s first) e (inr p)
    along (inr p) (inr q) = must_along s w first (slice_index list 0) i p q

-- so all of a group are
pub passes_all : (s : GroundSet) (group class last : List ℕ) (k : ℕ) → Passes s group class last k → length group ≤ k → (i j : ℕ) → Contains group i → Contains group j → AreApart s class i j
passes_all s group class last k p le i j (m, ml, me) (n, nl, ne) =
    let x : slice_index group m ≡ i = get_or_default group m 0 i ml ∙ me in
    let y : slice_index group n ≡ j = get_or_default group n 0 j nl ∙ ne in
    subst (λ a. AreApart s class a j) x (subst (AreApart s class (slice_index group m)) y (p.apart m n (omega (arith, ml, le)) (omega (arith, nl, le))))

-- what is of a group is a term
pub group_within : (s : GroundSet) (first i : ℕ) → first < length s.terms → IsOfGroup s first i → i < length s.terms
group_within s first i lt (inl e) = omega (arith, e, lt)
group_within s first i lt (inr d) = slice_get_within s.terms i _ d.second_is

-- what stands in a group is a term, and so is its class
pub term_at : (s : GroundSet) (group : List ℕ) → IsGroup s group → (k : ℕ) → k < length group → slice_index group k < length s.terms
term_at s group g k lt = group_within s g.0 (slice_index group k) g.1 (g.2.each k 0 lt)

pub class_at : (s : GroundSet) (group class : List ℕ) → IsGroup s group → length class ≡ length s.terms → IsNoLater class → (k : ℕ) → k < length group →
    slice_index class (slice_index group k) < length s.terms
class_at s group class g one_each no_later k lt =
    let within = term_at s group g k lt in
    let le = no_later (slice_index group k) (omega (arith, within, one_each)) in omega (arith, le, within)
