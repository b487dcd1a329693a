-- The tables and nodes of the definitions against std's lists: what is written at a place in range, and where the node of an address stands.
use Rattle.std.proofs.Common.{◌≡◌, ℕ, zero, suc, ◌+◌, ◌<◌, ◌≤◌, List, [], ◌∷◌, ◌++◌, Bool, true, false, not, ◌&&◌, ◌==◌, cond, if◌then◌else◌, length, set, get_or, map, filter, Some, None, refl, sym, ap, ◌∙◌, subst, arith}
use Rattle.std.specs.List.{position, position_or_len}
use Rattle.std.proofs.lemmas.Bool.{eq-eqb, ne_eqb}
use Rattle.std.proofs.lemmas.Bool.Decides.{nat_tests}
use Rattle.std.proofs.lemmas.List.{length-map, length-replicate, get_or_default, get_or_past}
use Rattle.plc_mem.specs.declared.cell.Cell.{Cell}
use Rattle.plc_mem.specs.State.{State, Node, null_cell, node_of, put_node, empty_node, fresh_node, with_node, cut, cut_node}
use Rattle.plc_base.proofs.Tables.{length_put}
use Rattle.plc_mem.specs.declared.node.Entry.{Entry}
use Rattle.plc_mem.specs.declared.node.Entry.TheVariants.{Pointer, Number}
use Rattle.plc_mem.specs.Fit.{NodesFit, node_with}

-- ---- a table

set_past : {A : Type 0} (xs : List A) (i : ℕ) (v : A) → length xs ≤ i → set xs i v ≡ xs
set_past [] i v h = refl
set_past (x ∷ xs) zero v h = absurd (omega arith)
set_past (x ∷ xs) (suc i) v h = ap (λ zs. x ∷ zs) (set_past xs i v (omega arith))

-- ---- a cell that a free passes by

pub cut_keeps : (a : ℕ) (c : Cell) → (c.number ≡ a → ⊥) → cut a c ≡ c
cut_keeps a c ne = ap (λ b. record c { valid = c.valid && not b }) (ne_eqb c.number a ne) ∙ ap (λ b. record c { valid = b }) (and_true c.valid)
  where
    and_true : (b : Bool) → (b && true) ≡ b
    and_true true = refl
    and_true false = refl

pub cut_clears : (a : ℕ) (c : Cell) → c.number ≡ a → cut a c ≡ record c { valid = false }
cut_clears a c e = ap (λ b. record c { valid = c.valid && not b }) (eq-eqb c.number a e) ∙ ap (λ b. record c { valid = b }) (and_false c.valid)
  where
    and_false : (b : Bool) → (b && false) ≡ false
    and_false true = refl
    and_false false = refl

-- ---- the node of an address by its place

node_place : (ns : List Node) (a : ℕ) → node_of ns a ≡ get_or ns (position_or_len (λ n. n.address == a) ns) (empty_node a)
node_place [] a = refl
node_place (n ∷ ns) a = go (node_place ns a) (n.address == a)
  where
    go : (node_of ns a ≡ get_or ns (position_or_len (λ m. m.address == a) ns) (empty_node a)) → (b : Bool) → cond b n (node_of ns a) ≡ get_or (n ∷ ns) (cond (not b) (1 + position_or_len (λ m. m.address == a) ns) 0) (empty_node a)
    go rest true = refl
    go rest false = let e : 1 + position_or_len (λ (m : Node). m.address == a) ns ≡ suc (position_or_len (λ (m : Node). m.address == a) ns) = omega arith in rw e rest

put_node_place : (ns : List Node) (a : ℕ) (r : Node) → put_node ns a r ≡ set ns (position_or_len (λ n. n.address == a) ns) r
put_node_place [] a r = refl
put_node_place (n ∷ ns) a r = go (put_node_place ns a r) (n.address == a)
  where
    go : (put_node ns a r ≡ set ns (position_or_len (λ m. m.address == a) ns) r) → (b : Bool) → cond b (r ∷ ns) (n ∷ put_node ns a r) ≡ set (n ∷ ns) (cond (not b) (1 + position_or_len (λ m. m.address == a) ns) 0) r
    go rest true = refl
    go rest false = let e : 1 + position_or_len (λ (m : Node). m.address == a) ns ≡ suc (position_or_len (λ (m : Node). m.address == a) ns) = omega arith in rw e (ap (λ zs. n ∷ zs) rest)

position_some : {X : Type 0} (p : X → Bool) (xs : List X) (i : ℕ) → position p xs ≡ Some i → (i ≡ position_or_len p xs) × (i < length xs)
position_some p xs i e = grind (arith, nat_tests)

position_none : {X : Type 0} (p : X → Bool) (xs : List X) → position p xs ≡ None → length xs ≤ position_or_len p xs
position_none p xs e = grind (arith, nat_tests)

pub node_at : (ns : List Node) (a i : ℕ) (d : Node) → position (λ n. n.address == a) ns ≡ Some i → (i < length ns) × (get_or ns i d ≡ node_of ns a)
node_at ns a i d e =
    let p = position_some (λ (n : Node). n.address == a) ns i e in
    (p.1, get_or_default ns i d (empty_node a) p.1 ∙ ap (λ j. get_or ns j (empty_node a)) p.0 ∙ sym (node_place ns a))

pub no_node : (ns : List Node) (a : ℕ) → position (λ n. n.address == a) ns ≡ None → node_of ns a ≡ empty_node a
no_node ns a e = node_place ns a ∙ get_or_past ns _ (empty_node a) (position_none (λ (n : Node). n.address == a) ns e)

pub put_node_at : (ns : List Node) (a i : ℕ) (r : Node) → position (λ n. n.address == a) ns ≡ Some i → put_node ns a r ≡ set ns i r
put_node_at ns a i r e =
    let p = position_some (λ (n : Node). n.address == a) ns i e in
    put_node_place ns a r ∙ ap (λ j. set ns j r) (sym p.0)

pub put_no_node : (ns : List Node) (a : ℕ) (r : Node) → position (λ n. n.address == a) ns ≡ None → put_node ns a r ≡ ns
put_no_node ns a r e = put_node_place ns a r ∙ set_past ns _ r (position_none (λ (n : Node). n.address == a) ns e)

-- a write into the node at a place, as a write into the node of the address
pub node_written : (ns : List Node) (a i f : ℕ) (e : Entry) (some : Node) → position (λ n. n.address == a) ns ≡ Some i
    → set ns i (node_with (get_or ns i some) f e) ≡ put_node ns a (node_with (node_of ns a) f e)
node_written ns a i f e some there =
    ap (λ (n : Node). set ns i (node_with n f e)) (node_at ns a i some there).1 ∙ sym (put_node_at ns a i _ there)

pub same_address : (n : Node) (f : ℕ) (e : Entry) → (node_with n f e).address ≡ n.address
same_address n f (Pointer c) = refl
same_address n f (Number v) = refl

-- ---- nodes with a cell and a number for each field

pub nodes_fit_at : (k : ℕ) (ns : List Node) (i : ℕ) (d : Node) → NodesFit k ns → i < length ns → (length (get_or ns i d).cells ≡ k) × (length (get_or ns i d).values ≡ k)
nodes_fit_at k [] i d fit h = absurd (omega arith)
nodes_fit_at k (n ∷ ns) zero d fit h = (fit.0, fit.1)
nodes_fit_at k (n ∷ ns) (suc i) d fit h = nodes_fit_at k ns i d fit.2 (omega arith)

-- the node to which the index leads, in the list that lies beside the index
pub found_node : (k a i f : ℕ) (ns now : List Node) (d : Node) → ns ≡ now → position (λ n. n.address == a) now ≡ Some i → NodesFit k now → f < k
    → (position (λ n. n.address == a) ns ≡ Some i) × (f < length (get_or ns i d).cells) × (f < length (get_or ns i d).values)
found_node k a i f ns now d same found fit h =
    let there : position (λ (n : Node). n.address == a) ns ≡ Some i = ap (position (λ (n : Node). n.address == a)) same ∙ found in
    let fits = nodes_fit_at k ns i d (subst (NodesFit k) (sym same) fit) (node_at ns a i d there).0 in
    (there, omega (arith, fits.0, h), omega (arith, fits.1, h))

pub nodes_fit_push : (k : ℕ) (ns : List Node) (r : Node) → NodesFit k ns → length r.cells ≡ k → length r.values ≡ k → NodesFit k (ns ++ r ∷ [])
nodes_fit_push k [] r fit c v = (c, v, tt)
nodes_fit_push k (n ∷ ns) r fit c v = (fit.0, fit.1, nodes_fit_push k ns r fit.2 c v)

-- a node that was added, or wasn't
pub nodes_fit_add : (k : ℕ) (ns : List Node) (a : ℕ) (b : Bool) → NodesFit k ns → NodesFit k (if b then ns ++ fresh_node k a ∷ [] else ns)
nodes_fit_add k ns a true fit = nodes_fit_push k ns (fresh_node k a) fit (length-replicate k null_cell) (length-replicate k 0)
nodes_fit_add k ns a false fit = fit

pub node_added : (m : State) (a : ℕ) (b : Bool) → record m { nodes = if b then m.nodes ++ fresh_node (length m.fields) a ∷ [] else m.nodes } ≡ (if b then with_node m a else m)
unfolding with_node
node_added m a true = refl
node_added m a false = refl

pub nodes_fit_filter : (k : ℕ) (p : Node → Bool) (ns : List Node) → NodesFit k ns → NodesFit k (filter p ns)
nodes_fit_filter k p [] fit = tt
nodes_fit_filter k p (n ∷ ns) fit = go (p n) (nodes_fit_filter k p ns fit.2)
  where
    go : (b : Bool) → NodesFit k (filter p ns) → NodesFit k (cond b (n ∷ filter p ns) (filter p ns))
    go true rest = (fit.0, fit.1, rest)
    go false rest = rest

pub nodes_fit_cut : (k a : ℕ) (ns : List Node) → NodesFit k ns → NodesFit k (map (cut_node a) ns)
nodes_fit_cut k a [] fit = tt
nodes_fit_cut k a (n ∷ ns) fit = (length-map n.cells (cut a) ∙ fit.0, fit.1, nodes_fit_cut k a ns fit.2)

entry_fits : (k : ℕ) (n : Node) (f : ℕ) (e : Entry) → length n.cells ≡ k → length n.values ≡ k → f < k
    → (length (node_with n f e).cells ≡ k) × (length (node_with n f e).values ≡ k)
entry_fits k n f (Pointer c) cells values h = (length_put null_cell n.cells f c (omega (arith, cells)) ∙ cells, values)
entry_fits k n f (Number v) cells values h = (cells, length_put 0 n.values f v (omega (arith, values)) ∙ values)

pub nodes_fit_put : (k : ℕ) (ns : List Node) (a f : ℕ) (e : Entry) → NodesFit k ns → f < k
    → NodesFit k (put_node ns a (node_with (node_of ns a) f e))
nodes_fit_put k [] a f e fit h = tt
nodes_fit_put k (n ∷ ns) a f e fit h = go (n.address == a) (nodes_fit_put k ns a f e fit.2 h)
  where
    go : (b : Bool) → NodesFit k (put_node ns a (node_with (node_of ns a) f e))
        → NodesFit k (cond b (node_with (cond b n (node_of ns a)) f e ∷ ns) (n ∷ put_node ns a (node_with (cond b n (node_of ns a)) f e)))
    go true rest = let here = entry_fits k n f e fit.0 fit.1 h in (here.0, here.1, fit.2)
    go false rest = (fit.0, fit.1, rest)
