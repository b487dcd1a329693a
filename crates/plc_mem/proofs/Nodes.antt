-- The list of nodes, looked up by address.
use Rattle.std.proofs.Common.{◌≡◌, ℕ, Bool, true, false, not, ◌||◌, ◌==◌, cond, List, [], ◌∷◌, ◌++◌, map, filter, refl, sym, ap, ◌∙◌}
use Rattle.std.specs.List.{list_any}
use Rattle.std.proofs.lemmas.Bool.{eq-eqb, ne_eqb, eqb-true, or_parts}
use Rattle.plc_mem.specs.State.{Node, node_of, put_node, empty_node, cut_node}

abbrev pub has_node : List Node → ℕ → Bool
has_node ns a = list_any (λ n. n.address == a) ns

pub address-node_of : (ns : List Node) (a : ℕ) → (node_of ns a).address ≡ a
address-node_of [] a = refl
address-node_of (n ∷ ns) a = go (address-node_of ns a) (n.address == a) refl
  where
    go : ((node_of ns a).address ≡ a) → (x : Bool) → (n.address == a) ≡ x → (cond (n.address == a) n (node_of ns a)).address ≡ a
    go rest true e = rw e (eqb-true n.address a e)
    go rest false e = rw e rest

pub node-put_same : (ns : List Node) (a : ℕ) (m : Node) → m.address ≡ a → has_node ns a ≡ true → node_of (put_node ns a m) a ≡ m
node-put_same [] a m same h = cc
node-put_same (n ∷ ns) a m same h = go (node-put_same ns a m same) (n.address == a) refl
  where
    go : (has_node ns a ≡ true → node_of (put_node ns a m) a ≡ m) → (x : Bool) → (n.address == a) ≡ x → node_of (cond (n.address == a) (m ∷ ns) (n ∷ put_node ns a m)) a ≡ m
    go rest true e = rw e (rw (eq-eqb m.address a same) refl)
    go rest false e = rw e (rw e (rest (rw e at h)))

pub node-put_other : (ns : List Node) (a : ℕ) (m : Node) (b : ℕ) → m.address ≡ a → (b ≡ a → ⊥) → node_of (put_node ns a m) b ≡ node_of ns b
node-put_other [] a m b same ne = refl
node-put_other (n ∷ ns) a m b same ne = go (node-put_other ns a m b same ne) (n.address == a) refl (n.address == b) refl
  where
    go : (node_of (put_node ns a m) b ≡ node_of ns b) → (x : Bool) → (n.address == a) ≡ x → (y : Bool) → (n.address == b) ≡ y → node_of (cond (n.address == a) (m ∷ ns) (n ∷ put_node ns a m)) b ≡ cond (n.address == b) n (node_of ns b)
    go rest true e true f = absurd (ne (sym (eqb-true n.address b f) ∙ eqb-true n.address a e))
    go rest true e false f = rw (e, f) (rw (ne_eqb m.address b (λ i. ne (sym i ∙ same))) refl)
    go rest false e true f = rw e (rw f refl)
    go rest false e false f = rw e (rw f rest)

pub has-put : (ns : List Node) (a : ℕ) (m : Node) (b : ℕ) → m.address ≡ a → has_node (put_node ns a m) b ≡ has_node ns b
has-put [] a m b same = refl
has-put (n ∷ ns) a m b same = go (has-put ns a m b same) (n.address == a) refl
  where
    go : (has_node (put_node ns a m) b ≡ has_node ns b) → (x : Bool) → (n.address == a) ≡ x → has_node (cond (n.address == a) (m ∷ ns) (n ∷ put_node ns a m)) b ≡ (n.address == b || has_node ns b)
    go rest true e = rw e (ap (λ z. (z == b) || has_node ns b) (same ∙ sym (eqb-true n.address a e)))
    go rest false e = rw e (ap (λ z. (n.address == b) || z) rest)

-- a write to a node that isn't there changes nothing
pub put-absent : (ns : List Node) (a : ℕ) (m : Node) → has_node ns a ≡ false → put_node ns a m ≡ ns
put-absent [] a m h = refl
put-absent (n ∷ ns) a m h =
    let parts = or_parts (n.address == a) (has_node ns a) h in
    rw parts.0 (ap (λ z. n ∷ z) (put-absent ns a m parts.1))

pub node-absent : (ns : List Node) (a : ℕ) → has_node ns a ≡ false → node_of ns a ≡ empty_node a
node-absent [] a h = refl
node-absent (n ∷ ns) a h =
    let parts = or_parts (n.address == a) (has_node ns a) h in
    rw parts.0 (node-absent ns a parts.1)

pub node-push_same : (ns : List Node) (m : Node) (a : ℕ) → m.address ≡ a → has_node ns a ≡ false → node_of (ns ++ m ∷ []) a ≡ m
node-push_same [] m a same h = rw (eq-eqb m.address a same) refl
node-push_same (n ∷ ns) m a same h =
    let parts = or_parts (n.address == a) (has_node ns a) h in
    rw parts.0 (node-push_same ns m a same parts.1)

pub node-push_other : (ns : List Node) (m : Node) (b : ℕ) → (m.address ≡ b → ⊥) → node_of (ns ++ m ∷ []) b ≡ node_of ns b
node-push_other [] m b ne = rw (ne_eqb m.address b ne) refl
node-push_other (n ∷ ns) m b ne = ap (λ z. cond (n.address == b) n z) (node-push_other ns m b ne)

-- the nodes without those of an address, their cells cut
abbrev pub nodes_left : ℕ → List Node → List Node
nodes_left a ns = map (cut_node a) (filter (λ n. not (n.address == a)) ns)

pub node-gone : (ns : List Node) (a : ℕ) → node_of (nodes_left a ns) a ≡ empty_node a
node-gone [] a = refl
node-gone (n ∷ ns) a = go (node-gone ns a) (n.address == a) refl
  where
    go : (node_of (nodes_left a ns) a ≡ empty_node a) → (x : Bool) → (n.address == a) ≡ x → node_of (map (cut_node a) (cond (not (n.address == a)) (n ∷ filter (λ n. not (n.address == a)) ns) (filter (λ n. not (n.address == a)) ns))) a ≡ empty_node a
    go rest true e = rw e rest
    go rest false e = rw e (rw e rest)

pub node-stays : (ns : List Node) (a b : ℕ) → (b ≡ a → ⊥) → node_of (nodes_left a ns) b ≡ cut_node a (node_of ns b)
node-stays [] a b ne = refl
node-stays (n ∷ ns) a b ne = go (node-stays ns a b ne) (n.address == a) refl (n.address == b) refl
  where
    go : (node_of (nodes_left a ns) b ≡ cut_node a (node_of ns b)) → (x : Bool) → (n.address == a) ≡ x → (y : Bool) → (n.address == b) ≡ y
        → node_of (map (cut_node a) (cond (not (n.address == a)) (n ∷ filter (λ n. not (n.address == a)) ns) (filter (λ n. not (n.address == a)) ns))) b ≡ cut_node a (cond (n.address == b) n (node_of ns b))
    go rest true e true f = absurd (ne (sym (eqb-true n.address b f) ∙ eqb-true n.address a e))
    go rest true e false f = rw (e, f) rest
    go rest false e true f = rw e (rw f refl)
    go rest false e false f = rw e (rw f rest)
