-- Going over the obligations with a tree for each.
use Rattle.std.proofs.Common.{◌≡◌, ℕ, zero, suc, ◌+◌, ◌<◌, ◌≤◌, List, [], ◌∷◌, length, drop, get_or, Some, None, sym, ap, subst, ◌∙◌, arith, below_more}
use Rattle.std.specs.Prelude.{slice_get, is_some, IfSome, Option, Bool, true, false, ◌==◌, ◌&&◌, ◌⊎◌, Contains}
use Rattle.std.specs.Bool.{Decides}
use Rattle.std.specs.Cmp.Lexicographic.{pointwise}
use Rattle.std.proofs.lemmas.Bool.{eqb-true, eq-eqb, and_parts, and_from, false≢true}
use Rattle.std.proofs.lemmas.Slice.Eq.{slice_eq-Decides}
use Rattle.std.proofs.lemmas.Option.{slice_get_within, slice_get-get_or}
use Rattle.plc_flow.specs.declared.flow.Flow.{Flow}
use Rattle.plc_logic.specs.declared.clause.Outline.{Outline}
use Rattle.plc_ground.specs.declared.terms.Tree.{Tree}
use Rattle.plc_ground.specs.declared.terms.GroundSet.{GroundSet}
use Rattle.plc_ground.specs.declared.terms.Node.{Node}
use Rattle.plc_ground.specs.declared.terms.Node.TheVariants.{Split, Leaf}
use Rattle.plc_ground.specs.Trees.{Closes, IsVerdict}
use Rattle.plc_oblig.specs.Alike.{IsNotedAs}
use Rattle.plc_oblig.proofs.OneSet.{more_noted}
use Rattle.plc_verify.specs.Tests.{NotedClose, IsVerdictAt}
use Rattle.plc_vocabulary.specs.declared.obligations.Obligation.{Obligation}
use Rattle.plc_oblig.specs.Obligations.{obligations}
use Rattle.plc_oblig.specs.GroundSets.{ground_set}
use Rattle.plc_verify.specs.Trees.{ClosesAt, TreesClose, FailsAtTree}

at_drop : {A : Type 0} (xs : List A) (i : ℕ) (x : A) (ys : List A) → drop i xs ≡ x ∷ ys → (slice_get xs i ≡ Some x) × (drop (suc i) xs ≡ ys)
at_drop [] zero x ys h = absurd cc
at_drop [] (suc i) x ys h = absurd cc
at_drop (y ∷ xs) zero x ys h = (let is : y ≡ x = cc in ap Some is, let rest : xs ≡ ys = cc in rest)
at_drop (y ∷ xs) (suc i) x ys h = at_drop xs i x ys h

none_left : {A : Type 0} (xs : List A) (i : ℕ) → drop i xs ≡ [] → i < length xs → ⊥
none_left [] i h small = absurd (omega arith)
none_left (x ∷ xs) zero h small = absurd cc
none_left (x ∷ xs) (suc i) h small = none_left xs i h (omega arith)

module _ (flow : Flow) (outline : Outline) (trees : List Tree) where
  -- the trees before number i close their sets, and the obligations from there on are left
  pub record IsAt (i : ℕ) (left : List Obligation) : Type 0 where
    pub rest : drop i (obligations flow outline) ≡ left
    pub closed : (j : ℕ) → j < i → ClosesAt flow outline trees j

  pub at_start : (left : List Obligation) → left ≡ obligations flow outline → IsAt 0 left
  at_start left is = record { rest = sym is; closed = λ j h. absurd (omega arith) }

  pub not_done : (i : ℕ) (left : List Obligation) → IsAt i left → left ≡ [] → length trees ≡ length (obligations flow outline) → i < length trees → ⊥
  not_done i left at empty same small = none_left (obligations flow outline) i (at.rest ∙ empty) (omega arith)

  module _ (i : ℕ) (left after : List Obligation) (o : Obligation) (t : Tree) (at : IsAt i left) (next : left ≡ o ∷ after) (is : slice_get trees i ≡ Some t) where
    here : (slice_get (obligations flow outline) i ≡ Some o) × (drop (suc i) (obligations flow outline) ≡ after)
    here = at_drop (obligations flow outline) i o after (at.rest ∙ next)

    goes_on : IsVerdict (ground_set flow outline o) [] t.nodes None → IsAt (i + 1) after
    goes_on closes = record {
      rest = let one : i + 1 ≡ suc i = omega arith in ap (λ (n : ℕ). drop n (obligations flow outline)) one ∙ here.1;
      closed = below_more (ClosesAt flow outline trees) i at.closed this;
    }
      where
        this : ClosesAt flow outline trees i
        this p u p_is u_is =
            let same_o : o ≡ p = let both : Some o ≡ Some p = sym here.0 ∙ p_is in cc in
            let same_t : t ≡ u = let both : Some t ≡ Some u = sym is ∙ u_is in cc in
            subst (λ (x : Tree). IsVerdict (ground_set flow outline p) [] x.nodes None) same_t
            (subst (λ (q : Obligation). IsVerdict (ground_set flow outline q) [] t.nodes None) same_o closes)

    fails_here : (k : ℕ) → IsVerdict (ground_set flow outline o) [] t.nodes (Some k) → length trees ≡ length (obligations flow outline) → FailsAtTree flow outline trees i k
    fails_here k bad same = record {
      one_each = same;
      before = at.closed;
      obligation = o;
      obligation_is = here.0;
      tree = t;
      tree_is = is;
      fails = bad;
    }

  -- a tree that stands nowhere
  abbrev no_tree : Tree
  no_tree = record { nodes = [] }

  module _ (i : ℕ) (left after : List Obligation) (o : Obligation) (at : IsAt i left) (next : left ≡ o ∷ after) (small : i < length trees) where
    abbrev this_tree : Tree
    this_tree = get_or trees i no_tree

    there : slice_get trees i ≡ Some this_tree
    there = slice_get-get_or trees i no_tree small

    verdict : (bad : Option ℕ) → IsVerdictAt flow outline trees i o bad → IsVerdict (ground_set flow outline o) [] this_tree.nodes bad
    verdict bad found = subst (λ (t : Option Tree). IfSome t (λ t. IsVerdict (ground_set flow outline o) [] t.nodes bad)) there found

    pub closed_here : IsVerdictAt flow outline trees i o None → IsAt (i + 1) after
    closed_here found = goes_on i left after o this_tree at next there (verdict None found)

    pub failed_here : (k : ℕ) → IsVerdictAt flow outline trees i o (Some k) → length trees ≡ length (obligations flow outline) → FailsAtTree flow outline trees i k
    failed_here k found same = fails_here i left after o this_tree at next there k (verdict (Some k) found) same

  pub all_close : (i : ℕ) (left : List Obligation) → IsAt i left → length trees ≤ i → length trees ≡ length (obligations flow outline) → TreesClose flow outline trees
  all_close i left at past same = record {
    one_each = same;
    closed = λ j o t o_is t_is. let small = slice_get_within trees j t t_is in at.closed j (omega arith) o t o_is t_is;
  }

-- ---- trees that were tried

nodes_same : (E : Node → Node → Bool) → ((c d : ℕ) → E (Split c) (Split d) ≡ (c == d))
    → ((c a b : ℕ) → E (Split c) (Leaf a b) ≡ false) → ((a b c : ℕ) → E (Leaf a b) (Split c) ≡ false)
    → ((a b c d : ℕ) → E (Leaf a b) (Leaf c d) ≡ ((a == c) && (b == d))) → (x y : Node) → Decides (E x y) (x ≡ y)
nodes_same E splits apart aside leaves (Split c) (Split d) = (
  λ h. ap Split (eqb-true c d (sym (splits c d) ∙ h)),
  λ h. splits c d ∙ (let same : c ≡ d = cc in eq-eqb c d same),
)
nodes_same E splits apart aside leaves (Split c) (Leaf a b) = (λ h. absurd (false≢true (sym (apart c a b) ∙ h)), λ h. absurd cc)
nodes_same E splits apart aside leaves (Leaf a b) (Split c) = (λ h. absurd (false≢true (sym (aside a b c) ∙ h)), λ h. absurd cc)
nodes_same E splits apart aside leaves (Leaf a b) (Leaf c d) = (
  λ h. let p = and_parts (a == c) (b == d) (sym (leaves a b c d) ∙ h) in
      let first = eqb-true a c p.0 in
      let second = eqb-true b d p.1 in
      cc,
  λ h. leaves a b c d ∙ (let first : a ≡ c = cc in let second : b ≡ d = cc in and_from (a == c) (b == d) (eq-eqb a c first) (eq-eqb b d second)),
)

pub same_nodes : (E : Node → Node → Bool) → ((c d : ℕ) → E (Split c) (Split d) ≡ (c == d))
    → ((c a b : ℕ) → E (Split c) (Leaf a b) ≡ false) → ((a b c : ℕ) → E (Leaf a b) (Split c) ≡ false)
    → ((a b c d : ℕ) → E (Leaf a b) (Leaf c d) ≡ ((a == c) && (b == d))) → (xs ys : List Node) (r : Bool)
    → r ≡ pointwise E xs ys → r ≡ true → xs ≡ ys
same_nodes E splits apart aside leaves xs ys r is = (slice_eq-Decides (nodes_same E splits apart aside leaves) xs ys r is).0

pub closes_if_none : (s : GroundSet) (nodes : List Node) (bad : Option ℕ) → IsVerdict s [] nodes bad → is_some bad ≡ false → Closes s nodes
closes_if_none s nodes None verdict h = verdict
closes_if_none s nodes (Some k) verdict h = absurd cc

pub verdict_at : (flow : Flow) (outline : Outline) (trees : List Tree) (at : ℕ) (o : Obligation) (t : Tree) (bad : Option ℕ) → slice_get trees at ≡ Some t
    → IsVerdict (ground_set flow outline o) [] t.nodes bad → IsVerdictAt flow outline trees at o bad
verdict_at flow outline trees at o t bad is verdict =
    subst (λ (u : Option Tree). IfSome u (λ t. IsVerdict (ground_set flow outline o) [] t.nodes bad)) (sym is) verdict

module _ (flow : Flow) (outline : Outline) (trees : List Tree) (tried : List (Obligation × ℕ)) (o : Obligation) (at : ℕ) (close : NotedClose flow outline trees tried) where
  pub tried_closes : IsNotedAs flow outline tried o at → (t : Tree) (nodes : List Node) → slice_get trees at ≡ Some t → t.nodes ≡ nodes
      → Closes (ground_set flow outline o) nodes
  tried_closes noted t nodes is same =
      let r = close (noted.0, at) noted.1 in
      let one : r.0 ≡ t = let both : Some r.0 ≡ Some t = sym r.1 ∙ is in cc in
      subst (λ (s : GroundSet). Closes s nodes) (sym noted.2)
      (subst (Closes (ground_set flow outline noted.0)) same (subst (λ (u : Tree). Closes (ground_set flow outline noted.0) u.nodes) one r.2))

  pub more_tried : (new : List (Obligation × ℕ)) (t : Tree) → slice_get trees at ≡ Some t → Closes (ground_set flow outline o) t.nodes
      → ((x : Obligation × ℕ) → Contains new x → Contains tried x ⊎ (x ≡ (o, at))) → NotedClose flow outline trees new
  more_tried new t is closes more =
      more_noted (λ (x : Obligation × ℕ). (t : Tree) × (slice_get trees x.1 ≡ Some t) × Closes (ground_set flow outline x.0) t.nodes)
      tried new (o, at) close (t, is, closes) more
