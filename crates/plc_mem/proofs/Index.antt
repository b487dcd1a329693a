-- The index from address to place beside the nodes: an address stands there where its node does.
use Rattle.std.proofs.Common.{◌≡◌, ℕ, Bool, true, false, not, ◌||◌, ◌==◌, cond, List, [], ◌∷◌, ◌++◌, map, filter, set, get_or, refl, sym, ap, ◌∙◌, inl, inr}
use Rattle.std.specs.List.{list_any, position}
use Rattle.std.proofs.lemmas.Bool.{cases_eq, eq-eqb, ne_eqb}
use Rattle.std.proofs.Math.Seq.{map-set_same}
use Rattle.std.proofs.lemmas.List.{map-append}
use Rattle.plc_base.proofs.Positions.{position-map}
use Rattle.plc_mem.specs.State.{Node, cut_node}
use Rattle.plc_mem.specs.Access.{addresses_of}

flipped : (a b : ℕ) → (a == b) ≡ (b == a)
flipped a b = elim (cases_eq a b) [ inl e ↦ eq-eqb a b e ∙ sym (eq-eqb b a (sym e)) | inr ne ↦ ne_eqb a b ne ∙ sym (ne_eqb b a (λ e. ne (sym e))) ]

pub place_of_node : (keys : List ℕ) (ns : List Node) (a : ℕ) → keys ≡ addresses_of ns → position (λ k. a == k) keys ≡ position (λ n. n.address == a) ns
place_of_node keys ns a e =
    ap (position (λ k. a == k)) e ∙ sym (position-map (λ k. a == k) (λ (n : Node). n.address) ns) ∙ ap (λ (test : Node → Bool). position test ns) (λ i n. flipped a n.address i)

any_address : (ns : List Node) (a : ℕ) → list_any (λ k. a == k) (addresses_of ns) ≡ list_any (λ n. n.address == a) ns
any_address [] a = refl
any_address (n ∷ ns) a = λ i. flipped a n.address i || any_address ns a i

pub is_indexed : (keys : List ℕ) (ns : List Node) (a : ℕ) → keys ≡ addresses_of ns → list_any (λ k. a == k) keys ≡ list_any (λ n. n.address == a) ns
is_indexed keys ns a e = ap (list_any (λ k. a == k)) e ∙ any_address ns a

pub index_with : (keys new : List ℕ) (ns : List Node) (a : ℕ) (r : Node) → keys ≡ addresses_of ns → list_any (λ n. n.address == a) ns ≡ false → r.address ≡ a
    → new ≡ cond (list_any (λ k. a == k) keys) keys (keys ++ a ∷ []) → new ≡ addresses_of (ns ++ r ∷ [])
index_with keys new ns a r e absent same is =
    is ∙ ap (λ b. cond b keys (keys ++ a ∷ [])) (is_indexed keys ns a e ∙ absent) ∙ (λ i. e i ++ sym same i ∷ []) ∙ sym (map-append (λ (n : Node). n.address) ns (r ∷ []))

-- a node that is written in place
pub index_kept : (keys : List ℕ) (ns new : List Node) (i : ℕ) (r d : Node) → keys ≡ addresses_of ns → new ≡ set ns i r → r.address ≡ (get_or ns i d).address → keys ≡ addresses_of new
index_kept keys ns new i r d e is same = e ∙ sym (ap addresses_of is ∙ map-set_same (λ (n : Node). n.address) ns i r d same)

addresses_without : (ns : List Node) (a : ℕ) → filter (λ x. not (x == a)) (addresses_of ns) ≡ addresses_of (filter (λ n. not (n.address == a)) ns)
addresses_without [] a = refl
addresses_without (n ∷ ns) a = go (n.address == a) (addresses_without ns a)
  where
    go : (b : Bool) → filter (λ x. not (x == a)) (addresses_of ns) ≡ addresses_of (filter (λ n. not (n.address == a)) ns)
        → cond (not b) (n.address ∷ filter (λ x. not (x == a)) (addresses_of ns)) (filter (λ x. not (x == a)) (addresses_of ns)) ≡ addresses_of (cond (not b) (n ∷ filter (λ n. not (n.address == a)) ns) (filter (λ n. not (n.address == a)) ns))
    go true rest = rest
    go false rest = ap (λ xs. n.address ∷ xs) rest

pub addresses_cut : (a : ℕ) (ns : List Node) → addresses_of (map (cut_node a) ns) ≡ addresses_of ns
addresses_cut a [] = refl
addresses_cut a (n ∷ ns) = ap (λ xs. n.address ∷ xs) (addresses_cut a ns)

pub index_without : (keys : List ℕ) (ns : List Node) (a : ℕ) → keys ≡ addresses_of ns → filter (λ x. not (x == a)) keys ≡ addresses_of (map (cut_node a) (filter (λ n. not (n.address == a)) ns))
index_without keys ns a e = ap (filter (λ x. not (x == a))) e ∙ addresses_without ns a ∙ sym (addresses_cut a _)
