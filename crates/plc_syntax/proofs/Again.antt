-- The readers read the tokens of every tree of a form that holds no list, whatever stands after them, given fuel: a row
-- for each constructor. Read is the tree but for its places, and the tree itself where each place in it is that of its
-- token. Only what may be left out asks that what follows is no beginning of it.
use Rattle.std.proofs.Common.{◌≡◌, ◌∙◌, ◌+◌, ◌≤◌, ℕ, zero, suc, Bool, true, false, cond, Option, Some, None, List, []}
use Rattle.std.proofs.Common.{◌∷◌, map, Ok, refl, sym, ap, arith}
use Rattle.plc_lex.specs.declared.token.TokenKind.{TokenKind}
use Rattle.plc_lex.specs.declared.token.Symbol.TheVariants.{Assign, CloseParen, Semicolon, Comma, Dot}
use Rattle.plc_syntax.specs.Trees as trees
use Rattle.plc_syntax.specs.Trees.{Text, Placed, Pieces, name, symbol, from_place, placed_then, kinds_of, AreInPlace}
use Rattle.plc_syntax.specs.Trees.{each_then, maybe_then}
use Rattle.plc_syntax.specs.Syntax.{Spelling}
use Rattle.plc_syntax.specs.Forms as forms
use Rattle.plc_syntax.specs.Forms.{Read, Next, ◌>>=◌, led, chosen, at_place, placed_of, first_is, list_of}
use Rattle.plc_syntax.proofs.Pieces.{Tokens, from_kinds}
use Rattle.plc_syntax.proofs.Combinators.{Fuelled}
use Rattle.plc_syntax.proofs.Unplaced as bare
use Rattle.plc_syntax.proofs.Unplaced.{unplaced, unplaced_by, unplaced_maybe}

-- with so much fuel and more a tree is read that is this one but for its places, and these tokens are left; where the
-- places are as is given, it is this one, and so are those that are left
pub record Gets {X : Type 0} (bare : X → X) (given : Type 0) (o : ℕ → Read X) (x : X) (r : Pieces) : Type 0 where
  pub fuel : ℕ
  pub after : ℕ
  pub got : X
  pub reads : (m : ℕ) → fuel ≤ m → o m ≡ Ok (got, after, kinds_of r)
  pub alike : bare got ≡ bare x
  pub same : given → (got ≡ x) × AreInPlace after r

-- a name or a number that is read at its place
pub there : {A : Type 0} (k : Placed A) {at : ℕ} → k.at ≡ at → at_place at k.value ≡ k
there k e = sym (ap (λ (a : ℕ). at_place a k.value) e)

pub both : {A B X : Type 0} (c : A → B → X) {a a' : A} {b b' : B} → a ≡ a' → b ≡ b' → c a b ≡ c a' b'
both c e f = cc

pub three : {A B C X : Type 0} (k : A → B → C → X) {a a' : A} {b b' : B} {c c' : C} → a ≡ a' → b ≡ b' → c ≡ c'
    → k a b c ≡ k a' b' c'
three k e f g = cc

module _ {X : Type 0} {bare : X → X} {given : Type 0} where
  pub done : {got x : X} {at : ℕ} {r : Pieces} → bare got ≡ bare x → (given → (got ≡ x) × AreInPlace at r)
      → Gets bare given (λ m. Ok (got, at, kinds_of r)) x r
  done {got = got} {at = at} alike same =
      record { fuel = 0; after = at; got = got; reads = λ m l. refl; alike = alike; same = same }

  pub then : {A : Type 0} {bareA : A → A} {givenA : Type 0} {o : ℕ → Read A} {a : A} {us : Pieces} {x : X} {r : Pieces}
      (k : ℕ → A → ℕ → Tokens → Read X) → (given → givenA) → Gets bareA givenA o a us
      → ((y : A) (at : ℕ) → bareA y ≡ bareA a → (given → (y ≡ a) × AreInPlace at us)
      → Gets bare given (λ m. k m y at (kinds_of us)) x r)
      → Gets bare given (λ m. o m >>= λ a at ts. k m a at ts) x r
  then k give h g = let h2 = g h.got h.after h.alike (λ p. h.same (give p)) in record {
    fuel = h.fuel + h2.fuel;
    after = h2.after;
    got = h2.got;
    reads = λ m l. ap (λ o. o >>= λ a at ts. k m a at ts) (h.reads m (omega arith)) ∙ h2.reads m (omega arith);
    alike = h2.alike;
    same = h2.same;
  }

  -- from what follows from what is given
  pub from_given : {given2 : Type 0} {o : ℕ → Read X} {x : X} {r : Pieces} → (given → given2)
      → Gets bare given2 o x r → Gets bare given o x r
  from_given give h = record {
    fuel = h.fuel;
    after = h.after;
    got = h.got;
    reads = h.reads;
    alike = h.alike;
    same = λ p. h.same (give p);
  }

  pub one_more : {o : ℕ → Read X} {x : X} {r : Pieces} → Gets bare given (λ m. o (suc m)) x r → Gets bare given o x r
  one_more {o = o} {r = r} h =
      record { fuel = suc h.fuel; after = h.after; got = h.got; reads = by; alike = h.alike; same = h.same }
    where
      by : (m : ℕ) → suc h.fuel ≤ m → o m ≡ Ok (h.got, h.after, kinds_of r)
      by zero l = absurd (omega arith)
      by (suc m) l = h.reads m (omega arith)

  pub gets_by : {o p : ℕ → Read X} {x : X} {r : Pieces} → ((m : ℕ) → o m ≡ p m) → Gets bare given p x r
      → Gets bare given o x r
  gets_by e h = record {
    fuel = h.fuel;
    after = h.after;
    got = h.got;
    reads = λ m l. e m ∙ h.reads m l;
    alike = h.alike;
    same = h.same;
  }

  pub where_true : {b : Bool} {o : ℕ → Read X} {x : X} {r : Pieces} (p : ℕ → Read X) → b ≡ true → Gets bare given o x r
      → Gets bare given (λ m. cond b (o m) (p m)) x r
  where_true {o = o} p e h = gets_by (λ m. ap (λ b. cond b (o m) (p m)) e) h

  pub where_false : {b : Bool} {p : ℕ → Read X} {x : X} {r : Pieces} (o : ℕ → Read X) → b ≡ false
      → Gets bare given p x r → Gets bare given (λ m. cond b (o m) (p m)) x r
  where_false {p = p} o e h = gets_by (λ m. ap (λ b. cond b (o m) (p m)) e) h

-- what follows doesn't begin a form
abbrev pub Leaves : {X : Type 0} → Next X → Tokens → Type 0
Leaves next [] = Unit {0}
Leaves next (t ∷ ts) = (at : ℕ) → next at t ≡ None

pub left_out : {X : Type 0} (next : Next X) (other : Read X) (at : ℕ) (r : Tokens) → Leaves next r
    → led next other at r ≡ other
left_out next other at [] h = refl
left_out next other at (t ∷ ts) h = ap (λ o. chosen o other (at + 1) ts) (h at)

-- a list, where each item is read before others of it
module _ {X : Type 0} (s : Spelling X) (bare : X → X) (begins : TokenKind → Bool) (item : Fuelled X)
    (begun : (x : X) (q : Pieces) → first_is begins (kinds_of (s x q)) ≡ true) (r : Pieces)
    (none : first_is begins (kinds_of r) ≡ false)
    (each : (x : X) (at : ℕ) (xs : List X) → Gets bare (AreInPlace at (s x (each_then s xs r)))
    (λ m. item m at (kinds_of (s x (each_then s xs r)))) x (each_then s xs r)) where
  pub list_gets : (xs : List X) (at : ℕ) → Gets (map bare) (AreInPlace at (each_then s xs r))
      (λ m. list_of begins item m at (kinds_of (each_then s xs r))) xs r
  unfolding list_of
  list_gets [] at = one_more (where_false _ none (done refl (λ p. (refl, p))))
  list_gets (x ∷ xs) at = one_more (where_true _ (begun x (each_then s xs r)) (then _ (λ p. p) (each x at xs)
      (λ y at e s. then _ (λ p. (s p).1) (list_gets xs at) (λ ys at f t. done (both (λ x xs. x ∷ xs) e f)
      (λ p. (both (λ x xs. x ∷ xs) (s p).0 (t p).0, (t p).1))))))

-- a form at its place
from_there : (at place : ℕ) (q : Pieces) → (q ≡ [] → ⊥) → AreInPlace at (from_place place q)
    → (place ≡ at) × AreInPlace at q
from_there at place [] some h = absurd (some refl)
from_there at place (t ∷ q) some h = (h.0.0, (h.0.1, h.1))

pub placed_gets : {X : Type 0} {bare : X → X} (s : Spelling X) (f : Fuelled X) (x : Placed X) (at : ℕ) (r : Pieces)
    → (s x.value r ≡ [] → ⊥)
    → Gets bare (AreInPlace at (s x.value r)) (λ m. f m at (kinds_of (s x.value r))) x.value r
    → Gets (unplaced_by bare) (AreInPlace at (placed_then s x r))
    (λ m. placed_of (f m) at (kinds_of (placed_then s x r))) x r
placed_gets s f x at r some h =
    gets_by (λ m. ap (placed_of (f m) at) (from_kinds x.at (s x.value r)))
    (then _ (λ p. (from_there at x.at (s x.value r) some p).1) h (λ y q e t. done (ap (at_place 0) e)
    (λ p. (ap (at_place at) (t p).0 ∙ there x (from_there at x.at (s x.value r) some p).0, (t p).1))))

-- ---- places and values

-- what follows is no dot
abbrev pub NoDot : Pieces → Type 0
NoDot r = (k : Placed Text) → Leaves (forms.dot_next k) (kinds_of r)

place_gets : (k l : Placed Text) (f : Option (Placed Text)) (at : ℕ) (r : Pieces) → NoDot r → unplaced k ≡ unplaced l
    → Gets bare.unplaced_place ((k ≡ l) × AreInPlace at (maybe_then trees.dot_name_then f r))
    (λ m. forms.place_of_name k at (kinds_of (maybe_then trees.dot_name_then f r))) (trees.PlaceOf l f) r
place_gets k l None at r h e =
    gets_by (λ m. left_out (forms.dot_next k) (Ok (trees.PlaceOf k None, at, kinds_of r)) at (kinds_of r) (h k))
    (done (ap (λ k. trees.PlaceOf k None) e) (λ p. (ap (λ k. trees.PlaceOf k None) p.0, p.1)))
place_gets k l (Some f) at r h e = done (ap (λ k. trees.PlaceOf k (Some (unplaced f))) e)
    (λ p. (both (λ k f. trees.PlaceOf k (Some f)) p.0 (there f p.1.1.0.0), p.1.1.1))

value_gets : (v : trees.ValueTree) (at : ℕ) (r : Pieces)
    → let q = symbol Semicolon ∷ r in Gets bare.unplaced_value (AreInPlace at (trees.value_then v q))
    (λ m. forms.value_of at (kinds_of (trees.value_then v q))) v q
value_gets (trees.NullValue k) at r = done refl (λ p. (ap trees.NullValue (sym p.0.0), p.1))
value_gets (trees.NewValue k) at r = done refl (λ p. (ap trees.NewValue (sym p.0.0), p.1))
value_gets (trees.NumberValue k) at r = done refl (λ p. (ap trees.NumberValue (there k p.0.0), p.1))
value_gets (trees.MarkValue w k) at r =
    done refl (λ p. (both trees.MarkValue (sym p.0.0) (there k p.1.0.0), p.1.1))
value_gets (trees.UnmarkValue w k) at r =
    done refl (λ p. (both trees.UnmarkValue (sym p.0.0) (there k p.1.0.0), p.1.1))
value_gets (trees.PlaceValue (trees.PlaceOf k f)) at r = then _ (λ p. (there k p.0.0, p.1))
    (place_gets (at_place at k.value) k f (at + 1) (symbol Semicolon ∷ r) (λ k at. refl) refl)
    (λ y q e s. done (ap trees.PlaceValue e) (λ p. (ap trees.PlaceValue (s p).0, (s p).1)))

atom_gets : (a : trees.AtomTree) (at : ℕ) (r : Pieces) → Gets bare.unplaced_atom (AreInPlace at (trees.atom_then a r))
    (λ m. forms.atom_of at (kinds_of (trees.atom_then a r))) a r
atom_gets (trees.NullAtom k) at r = done refl (λ p. (ap trees.NullAtom (sym p.0.0), p.1))
atom_gets (trees.NumberAtom k) at r = done refl (λ p. (ap trees.NumberAtom (there k p.0.0), p.1))
atom_gets (trees.NameAtom k) at r = done refl (λ p. (ap trees.NameAtom (there k p.0.0), p.1))

ghost_value_gets : (v : trees.GhostValueTree) (at : ℕ) (r : Pieces)
    → Gets bare.unplaced_ghost_value (AreInPlace at (trees.ghost_value_then v r))
    (λ m. forms.ghost_value_of at (kinds_of (trees.ghost_value_then v r))) v r
ghost_value_gets (trees.NameGhost k) at r = done refl (λ p. (ap trees.NameGhost (there k p.0.0), p.1))
ghost_value_gets (trees.MeGhost k) at r = done refl (λ p. (ap trees.MeGhost (sym p.0.0), p.1))
ghost_value_gets (trees.NoneGhost k) at r = done refl (λ p. (ap trees.NoneGhost (sym p.0.0), p.1))

-- from after the word
abbrev ghost_tail_then : Spelling trees.GhostSetTree
ghost_tail_then (trees.SetGhost k g v) r = name k ∷ symbol Dot ∷ name g ∷ symbol Assign ∷ trees.ghost_value_then v r

ghost_set_gets : (x : trees.GhostSetTree) (at : ℕ) (r : Pieces)
    → Gets bare.unplaced_ghost_set (AreInPlace at (ghost_tail_then x r))
    (λ m. forms.ghost_set_of at (kinds_of (ghost_tail_then x r))) x r
ghost_set_gets (trees.SetGhost k g v) at r = then _ (λ p. p.1.1.1.1) (ghost_value_gets v (at + 1 + 1 + 1 + 1) r)
    (λ y q e s. done (ap (trees.SetGhost (unplaced k) (unplaced g)) e)
    (λ p. (three trees.SetGhost (there k p.0.0) (there g p.1.1.0.0) (s p).0, (s p).1)))

-- ---- tests and conditions

abbrev comparison_then : Spelling trees.Comparison
comparison_then c q = symbol (trees.comparison_symbol c) ∷ q

comparison_gets : (c : trees.Comparison) (at : ℕ) (r : Pieces) → Gets (λ c. c) (AreInPlace at (comparison_then c r))
    (λ m. forms.comparison_of at (kinds_of (comparison_then c r))) c r
comparison_gets trees.SameAs at r = done refl (λ p. (refl, p.1))
comparison_gets trees.OtherThan at r = done refl (λ p. (refl, p.1))
comparison_gets trees.LessThan at r = done refl (λ p. (refl, p.1))
comparison_gets trees.NotLessThan at r = done refl (λ p. (refl, p.1))

compared_gets : (k l : Placed Text) (c : Placed trees.Comparison) (a : trees.AtomTree) (at : ℕ) (r : Pieces)
    → unplaced k ≡ unplaced l
    → let q = trees.comparison c ∷ trees.atom_then a r in Gets bare.unplaced_test ((k ≡ l) × AreInPlace at q)
    (λ m. forms.compared_of k at (kinds_of q)) (trees.Compares l c a) r
compared_gets k l c a at r e =
    then _ (λ p. p.1) (placed_gets comparison_then (λ m at ts. forms.comparison_of at ts) c at (trees.atom_then a r)
    (λ e. cc) (comparison_gets c.value at (trees.atom_then a r)))
    (λ d at f s. then _ (λ p. (s p).1) (atom_gets a at r) (λ b at g t. done (three trees.Compares e f g)
    (λ p. (three trees.Compares p.0 (s p).0 (t p).0, (t p).1))))

test_gets : (t : trees.TestTree) (at : ℕ) (r : Pieces) → Gets bare.unplaced_test (AreInPlace at (trees.test_then t r))
    (λ m. forms.test_of at (kinds_of (trees.test_then t r))) t r
test_gets (trees.MarkedTest k) at r = done refl (λ p. (ap trees.MarkedTest (there k p.1.0.0), p.1.1))
test_gets (trees.UnmarkedTest k) at r = done refl (λ p. (ap trees.UnmarkedTest (there k p.1.0.0), p.1.1))
test_gets (trees.Compares k c a) at r =
    from_given (λ p. (there k p.0.0, p.1)) (compared_gets (at_place at k.value) k c a (at + 1) r refl)

name_or_null_gets : (x : Option (Placed Text)) (at : ℕ) (r : Pieces)
    → Gets bare.unplaced_label (AreInPlace at (trees.name_or_null_then x r))
    (λ m. forms.name_or_null_of at (kinds_of (trees.name_or_null_then x r))) x r
name_or_null_gets (Some k) at r = done refl (λ p. (ap Some (there k p.0.0), p.1))
name_or_null_gets None at r = done refl (λ p. (refl, p.1))

-- from after the parenthesis and whether it is claimed
abbrev cas_tail_then : Spelling trees.ConditionTree
cas_tail_then (trees.CasCondition w k x y) r = name k ∷ symbol Comma ∷ trees.name_or_null_then x
    (symbol Comma ∷ trees.name_or_null_then y (symbol CloseParen ∷ r))
cas_tail_then (trees.TestCondition t) r = r
cas_tail_then (trees.RefreshCondition k p) r = r

cas_gets : (w : Bool) (k : Placed Text) (x y : Option (Placed Text)) (at : ℕ) (r : Pieces)
    → let c = trees.CasCondition w k x y in Gets bare.unplaced_condition (AreInPlace at (cas_tail_then c r))
    (λ m. forms.cas_of w at (kinds_of (cas_tail_then c r))) c r
cas_gets w k x y at r =
    then _ (λ p. p.1.1)
    (name_or_null_gets x (at + 1 + 1) (symbol Comma ∷ trees.name_or_null_then y (symbol CloseParen ∷ r)))
    (λ u at2 e s. then _ (λ p. (s p).1.1) (name_or_null_gets y (at2 + 1) (symbol CloseParen ∷ r))
    (λ v at3 f t. done (both (trees.CasCondition w (unplaced k)) e f)
    (λ p. (three (trees.CasCondition w) (there k p.0.0) (s p).0 (t p).0, (t p).1.1))))

-- a test of a name is a condition of it
compared_condition_gets : (k : Placed Text) (c : Placed trees.Comparison) (a : trees.AtomTree) (at : ℕ) (r : Pieces)
    → let t = trees.Compares k c a in
    Gets bare.unplaced_condition (AreInPlace at (trees.test_then t r))
    (λ m. forms.named_condition_of (at_place at k.value) (at + 1)
    (kinds_of (trees.comparison c ∷ trees.atom_then a r))) (trees.TestCondition t) r
compared_condition_gets k c a at r = by c.value refl
  where
    tested : Gets bare.unplaced_condition (AreInPlace at (trees.test_then (trees.Compares k c a) r))
        (λ m. forms.compared_of (at_place at k.value) (at + 1) (kinds_of (trees.comparison c ∷ trees.atom_then a r))
        >>= λ t at ts. Ok (trees.TestCondition t, at, ts)) (trees.TestCondition (trees.Compares k c a)) r
    tested = then _ (λ p. (there k p.0.0, p.1)) (compared_gets (at_place at k.value) k c a (at + 1) r refl)
        (λ y q e s. done (ap trees.TestCondition e) (λ p. (ap trees.TestCondition (s p).0, (s p).1)))

    by : (d : trees.Comparison) → c.value ≡ d → Gets bare.unplaced_condition
        (AreInPlace at (trees.test_then (trees.Compares k c a) r))
        (λ m. forms.named_condition_of (at_place at k.value) (at + 1)
        (kinds_of (trees.comparison c ∷ trees.atom_then a r))) (trees.TestCondition (trees.Compares k c a)) r
    by d e = gets_by (λ m. left_out (forms.named_condition_next (at_place at k.value)) _ (at + 1)
        (kinds_of (trees.comparison c ∷ trees.atom_then a r)) (λ at. no_refresh d e at)) tested
      where
        no_refresh : (d : trees.Comparison) → c.value ≡ d → (at2 : ℕ)
            → forms.named_condition_next (at_place at k.value) at2 (trees.comparison c).kind ≡ None
        no_refresh trees.SameAs e at2 = rw e refl
        no_refresh trees.OtherThan e at2 = rw e refl
        no_refresh trees.LessThan e at2 = rw e refl
        no_refresh trees.NotLessThan e at2 = rw e refl

pub condition_gets : (c : trees.ConditionTree) (at : ℕ) (r : Pieces)
    → let q = symbol CloseParen ∷ r in Gets bare.unplaced_condition (AreInPlace at (trees.condition_then c q))
    (λ m. forms.condition_of at (kinds_of (trees.condition_then c q))) c q
condition_gets (trees.TestCondition (trees.MarkedTest k)) at r =
    done refl (λ p. (ap (λ k. trees.TestCondition (trees.MarkedTest k)) (there k p.1.0.0), p.1.1))
condition_gets (trees.TestCondition (trees.UnmarkedTest k)) at r =
    done refl (λ p. (ap (λ k. trees.TestCondition (trees.UnmarkedTest k)) (there k p.1.0.0), p.1.1))
condition_gets (trees.TestCondition (trees.Compares k c a)) at r =
    compared_condition_gets k c a at (symbol CloseParen ∷ r)
condition_gets (trees.RefreshCondition k (trees.PlaceOf l f)) at r = then _ (λ p. (there l p.1.1.0.0, p.1.1.1))
    (place_gets (at_place (at + 1 + 1) l.value) l f (at + 1 + 1 + 1) (symbol CloseParen ∷ r) (λ k at. refl) refl)
    (λ y q e s. done (ap (trees.RefreshCondition (unplaced k)) e)
    (λ p. (both trees.RefreshCondition (there k p.0.0) (s p).0, (s p).1)))
condition_gets (trees.CasCondition false k x y) at r =
    from_given (λ p. p.1.1) (cas_gets false k x y (at + 1 + 1) (symbol CloseParen ∷ r))
condition_gets (trees.CasCondition true k x y) at r =
    from_given (λ p. p.1.1.1) (cas_gets true k x y (at + 1 + 1 + 1) (symbol CloseParen ∷ r))

-- ---- primitives, and the assignments of `init`

pub primitive_gets : (p : trees.PrimitiveTree) (at : ℕ) (r : Pieces)
    → let q = symbol Semicolon ∷ r in Gets bare.unplaced_primitive (AreInPlace at (trees.primitive_then p q))
    (λ m. forms.primitive_of at (kinds_of (trees.primitive_then p q))) p q
primitive_gets (trees.SetPrimitive (trees.SetName k v)) at r = then _ (λ p. p.1.1) (value_gets v (at + 1 + 1) r)
    (λ y q e s. done (ap (λ v. trees.SetPrimitive (trees.SetName (unplaced k) v)) e)
    (λ p. (both (λ k v. trees.SetPrimitive (trees.SetName k v)) (there k p.0.0) (s p).0, (s p).1)))
primitive_gets (trees.SetPrimitive (trees.SetField k f a)) at r =
    then _ (λ p. p.1.1.1.1) (atom_gets a (at + 1 + 1 + 1 + 1) (symbol Semicolon ∷ r))
    (λ y q e s. done (ap (λ a. trees.SetPrimitive (trees.SetField (unplaced k) (unplaced f) a)) e)
    (λ p. (
      three (λ k f a. trees.SetPrimitive (trees.SetField k f a)) (there k p.0.0) (there f p.1.1.0.0) (s p).0,
      (s p).1,
    )))
primitive_gets (trees.RefreshPrimitive (trees.RefreshName k (trees.PlaceOf l f))) at r =
    then _ (λ p. (there l p.1.1.0.0, p.1.1.1))
    (place_gets (at_place (at + 1 + 1) l.value) l f (at + 1 + 1 + 1) (symbol Semicolon ∷ r) (λ k at. refl) refl)
    (λ y q e s. done (ap (λ x. trees.RefreshPrimitive (trees.RefreshName (unplaced k) x)) e)
    (λ p. (both (λ k x. trees.RefreshPrimitive (trees.RefreshName k x)) (there k p.0.0) (s p).0, (s p).1)))
primitive_gets (trees.RefreshPrimitive (trees.RefreshField k f l)) at r = done refl
    (λ p. (
      three (λ k f l. trees.RefreshPrimitive (trees.RefreshField k f l)) (there k p.0.0) (there f p.1.1.0.0)
          (there l p.1.1.1.1.0.0),
      p.1.1.1.1.1,
    ))
primitive_gets (trees.GhostPrimitive (trees.SetGhost k g v)) at r =
    then _ (λ p. p.1) (ghost_set_gets (trees.SetGhost k g v) (at + 1) (symbol Semicolon ∷ r))
    (λ y q e s. done (ap trees.GhostPrimitive e) (λ p. (ap trees.GhostPrimitive (s p).0, (s p).1)))
primitive_gets (trees.ActivePrimitive k) at r =
    done refl (λ p. (ap trees.ActivePrimitive (there k p.1.0.0), p.1.1))
primitive_gets (trees.AssumePrimitive t) at r = then _ (λ p. p.1) (test_gets t (at + 1) (symbol Semicolon ∷ r))
    (λ y q e s. done (ap trees.AssumePrimitive e) (λ p. (ap trees.AssumePrimitive (s p).0, (s p).1)))
primitive_gets trees.SkipPrimitive at r = done refl (λ p. (refl, p.1))

pub line_gets : (p : trees.PrimitiveTree) (at : ℕ) (r : Pieces)
    → Gets bare.unplaced_primitive (AreInPlace at (trees.primitive_line_then p r))
    (λ m. forms.primitive_line_of at (kinds_of (trees.primitive_line_then p r))) p r
line_gets p at r = then _ (λ p. p) (primitive_gets p at r) (λ y q e s. done e (λ p. ((s p).0, (s p).1.1)))

pub initial_gets : (i : trees.InitialTree) (at : ℕ) (r : Pieces)
    → Gets bare.unplaced_initial (AreInPlace at (trees.initial_then i r))
    (λ m. forms.initial_of at (kinds_of (trees.initial_then i r))) i r
initial_gets (trees.InitialSet (trees.SetName k v)) at r =
    then {us = symbol Semicolon ∷ r} _ (λ p. p)
    (then {given = AreInPlace at (trees.set_then (trees.SetName k v) (symbol Semicolon ∷ r))} _
    (λ p. p.1.1) (value_gets v (at + 1 + 1) r)
    (λ y q e s. done (ap (trees.SetName (unplaced k)) e)
    (λ p. (both trees.SetName (there k p.0.0) (s p).0, (s p).1))))
    (λ y q e s. done (ap trees.InitialSet e) (λ p. (ap trees.InitialSet (s p).0, (s p).1.1)))
initial_gets (trees.InitialSet (trees.SetField k f a)) at r =
    then {us = symbol Semicolon ∷ r} _ (λ p. p)
    (then {given = AreInPlace at (trees.set_then (trees.SetField k f a) (symbol Semicolon ∷ r))} _
    (λ p. p.1.1.1.1) (atom_gets a (at + 1 + 1 + 1 + 1) (symbol Semicolon ∷ r))
    (λ y q e s. done (ap (trees.SetField (unplaced k) (unplaced f)) e)
    (λ p. (three trees.SetField (there k p.0.0) (there f p.1.1.0.0) (s p).0, (s p).1))))
    (λ y q e s. done (ap trees.InitialSet e) (λ p. (ap trees.InitialSet (s p).0, (s p).1.1)))
initial_gets (trees.InitialGhost (trees.SetGhost k g v)) at r =
    then _ (λ p. p.1) (ghost_set_gets (trees.SetGhost k g v) (at + 1) (symbol Semicolon ∷ r))
    (λ y q e s. done (ap trees.InitialGhost e) (λ p. (ap trees.InitialGhost (s p).0, (s p).1.1)))

-- ---- clauses of an outline

term_gets : (a : trees.TermTree) (at : ℕ) (r : Pieces) → NoDot r
    → Gets bare.unplaced_term (AreInPlace at (trees.term_then a r))
    (λ m. forms.term_of at (kinds_of (trees.term_then a r))) a r
term_gets (trees.PlaceTerm (trees.PlaceOf k f)) at r h =
    then _ (λ p. (there k p.0.0, p.1)) (place_gets (at_place at k.value) k f (at + 1) r h refl)
    (λ y q e s. done (ap trees.PlaceTerm e) (λ p. (ap trees.PlaceTerm (s p).0, (s p).1)))
term_gets (trees.NullTerm k) at r h = done refl (λ p. (ap trees.NullTerm (sym p.0.0), p.1))
term_gets (trees.NumberTerm k) at r h = done refl (λ p. (ap trees.NumberTerm (there k p.0.0), p.1))
term_gets (trees.MeTerm k) at r h = done refl (λ p. (ap trees.MeTerm (sym p.0.0), p.1))
term_gets (trees.NoneTerm k) at r h = done refl (λ p. (ap trees.NoneTerm (sym p.0.0), p.1))

abbrev equality_then : Spelling Bool
equality_then e q = symbol (trees.equality_symbol e) ∷ q

equality_gets : (e : Bool) (at : ℕ) (r : Pieces) → Gets (λ e. e) (AreInPlace at (equality_then e r))
    (λ m. forms.equality_of at (kinds_of (equality_then e r))) e r
equality_gets true at r = done refl (λ p. (refl, p.1))
equality_gets false at r = done refl (λ p. (refl, p.1))

equality_is_no_dot : (e : Bool) (r : Pieces) → NoDot (equality_then e r)
equality_is_no_dot true r = λ k at. refl
equality_is_no_dot false r = λ k at. refl

flag_gets : (f : trees.FlagTree) (at : ℕ) (r : Pieces) → Gets bare.unplaced_flag (AreInPlace at (trees.flag_then f r))
    (λ m. forms.flag_of at (kinds_of (trees.flag_then f r))) f r
flag_gets (trees.RetiredFlag k) at r =
    done refl (λ p. (ap trees.RetiredFlag (there k p.1.1.0.0), p.1.1.1.1))
flag_gets (trees.MarkedFlag (trees.PlaceOf k f)) at r = then _ (λ p. (there k p.1.1.0.0, p.1.1.1))
    (place_gets (at_place (at + 1 + 1) k.value) k f (at + 1 + 1 + 1) (symbol CloseParen ∷ r) (λ k at. refl) refl)
    (λ y q e s. done (ap trees.MarkedFlag e) (λ p. (ap trees.MarkedFlag (s p).0, (s p).1.1)))

equation_gets : (a : trees.TermTree) (w : Bool) (b : trees.TermTree) (at : ℕ) (r : Pieces) → NoDot r
    → let l = trees.EqualityLiteral a w b in Gets bare.unplaced_literal (AreInPlace at (trees.literal_then l r))
    (λ m. forms.equation_of at (kinds_of (trees.literal_then l r))) l r
equation_gets a w b at r h =
    let other = trees.term_then b r in
    then _ (λ p. p) (term_gets a at (equality_then w other) (equality_is_no_dot w other)) (λ x at e s.
    then _ (λ p. (s p).1) (equality_gets w at other) (λ v at f t.
    then _ (λ p. (t p).1) (term_gets b at r h) (λ y at g u. done (three trees.EqualityLiteral e f g)
    (λ p. (three trees.EqualityLiteral (s p).0 (t p).0 (u p).0, (u p).1)))))

pub literal_gets : (l : trees.LiteralTree) (at : ℕ) (r : Pieces) → NoDot r
    → Gets bare.unplaced_literal (AreInPlace at (trees.literal_then l r))
    (λ m. forms.literal_of at (kinds_of (trees.literal_then l r))) l r
literal_gets (trees.FlagLiteral (trees.RetiredFlag k)) at r h =
    done refl (λ p. (ap (λ k. trees.FlagLiteral (trees.RetiredFlag k)) (there k p.1.1.0.0), p.1.1.1.1))
literal_gets (trees.FlagLiteral (trees.MarkedFlag x)) at r h = then _ (λ p. p) (flag_gets (trees.MarkedFlag x) at r)
    (λ y q e s. done (ap trees.FlagLiteral e) (λ p. (ap trees.FlagLiteral (s p).0, (s p).1)))
literal_gets (trees.NotLiteral f) at r h = then _ (λ p. p.1) (flag_gets f (at + 1) r)
    (λ y q e s. done (ap trees.NotLiteral e) (λ p. (ap trees.NotLiteral (s p).0, (s p).1)))
literal_gets (trees.EqualityLiteral (trees.PlaceTerm (trees.PlaceOf k f)) e b) at r h =
    equation_gets (trees.PlaceTerm (trees.PlaceOf k f)) e b at r h
literal_gets (trees.EqualityLiteral (trees.NullTerm k) e b) at r h = equation_gets (trees.NullTerm k) e b at r h
literal_gets (trees.EqualityLiteral (trees.NumberTerm k) e b) at r h = equation_gets (trees.NumberTerm k) e b at r h
literal_gets (trees.EqualityLiteral (trees.MeTerm k) e b) at r h = equation_gets (trees.MeTerm k) e b at r h
literal_gets (trees.EqualityLiteral (trees.NoneTerm k) e b) at r h = equation_gets (trees.NoneTerm k) e b at r h

pub bound_of_literal : (l : trees.LiteralTree) (q : Pieces)
    → Leaves forms.bound_next (kinds_of (trees.literal_then l q))
bound_of_literal (trees.FlagLiteral (trees.RetiredFlag k)) q = λ at. refl
bound_of_literal (trees.FlagLiteral (trees.MarkedFlag p)) q = λ at. refl
bound_of_literal (trees.NotLiteral f) q = λ at. refl
bound_of_literal (trees.EqualityLiteral (trees.PlaceTerm (trees.PlaceOf k f)) e b) q = λ at. refl
bound_of_literal (trees.EqualityLiteral (trees.NullTerm k) e b) q = λ at. refl
bound_of_literal (trees.EqualityLiteral (trees.NumberTerm k) e b) q = λ at. refl
bound_of_literal (trees.EqualityLiteral (trees.MeTerm k) e b) q = λ at. refl
bound_of_literal (trees.EqualityLiteral (trees.NoneTerm k) e b) q = λ at. refl

pub bound_gets : (b : trees.BoundTree) (at : ℕ) (r : Pieces) → Leaves forms.bound_next (kinds_of r)
    → Gets bare.unplaced_bound (AreInPlace at (trees.bound_then b r))
    (λ m. forms.bound_of at (kinds_of (trees.bound_then b r))) b r
bound_gets trees.NoBound at r h =
    gets_by (λ m. left_out forms.bound_next (Ok (trees.NoBound, at, kinds_of r)) at (kinds_of r) h)
    (done refl (λ p. (refl, p)))
bound_gets (trees.AllOf k None) at r h =
    done refl (λ p. (ap (λ k. trees.AllOf k None) (there k p.1.0.0), p.1.1.1))
bound_gets (trees.AllOf k (Some j)) at r h = done refl
    (λ p. (both (λ k j. trees.AllOf k (Some j)) (there k p.1.0.0) (there j p.1.1.1.0.0), p.1.1.1.1.1))

-- ---- the depth of an outline

pub depth_gets : (d : Option (Placed ℕ)) (at : ℕ) (r : Pieces) → Leaves forms.depth_next (kinds_of r)
    → Gets (unplaced_maybe unplaced) (AreInPlace at (maybe_then trees.depth_then d r))
    (λ m. forms.depth_of at (kinds_of (maybe_then trees.depth_then d r))) d r
depth_gets None at r h = gets_by (λ m. left_out forms.depth_next (Ok (None, at, kinds_of r)) at (kinds_of r) h)
    (done refl (λ p. (refl, p)))
depth_gets (Some d) at r h = done refl (λ p. (ap Some (there d p.1.0.0), p.1.1.1))

-- ---- declarations

pub function_gets : (f : trees.FunctionTree) (at : ℕ) (r : Pieces)
    → Gets bare.unplaced_function (AreInPlace at (trees.function_then f r))
    (λ m. forms.function_of at (kinds_of (trees.function_then f r))) f r
function_gets (trees.Declares k true) at r =
    done refl (λ p. (ap (λ k. trees.Declares k true) (there k p.1.0.0), p.1.1.1.1.1.1))
function_gets (trees.Declares k false) at r =
    done refl (λ p. (ap (λ k. trees.Declares k false) (there k p.1.0.0), p.1.1.1.1.1))

scheme_gets : (w : trees.WatchTree) (at : ℕ) (r : Pieces)
    → Gets bare.unplaced_watch (AreInPlace at (trees.scheme_then w r))
    (λ m. forms.scheme_of at (kinds_of (trees.scheme_then w r))) w r
scheme_gets (trees.UseHazard f) at r = done refl (λ p. (ap trees.UseHazard (there f p.1.1.0.0), p.1.1.1.1.1))
scheme_gets (trees.UseEpoch e l) at r =
    done refl (λ p. (both trees.UseEpoch (there e p.1.1.0.0) (there l p.1.1.1.1.0.0), p.1.1.1.1.1.1.1))

pub watch_gets : (w : Option trees.WatchTree) (at : ℕ) (r : Pieces) → Leaves forms.watch_next (kinds_of r)
    → Gets (unplaced_maybe bare.unplaced_watch) (AreInPlace at (maybe_then trees.watch_then w r))
    (λ m. forms.watch_of at (kinds_of (maybe_then trees.watch_then w r))) w r
watch_gets None at r h = gets_by (λ m. left_out forms.watch_next (Ok (None, at, kinds_of r)) at (kinds_of r) h)
    (done refl (λ p. (refl, p)))
watch_gets (Some w) at r h = then _ (λ p. p.1) (scheme_gets w (at + 1) r)
    (λ y q e s. done (ap Some e) (λ p. (ap Some (s p).0, (s p).1)))
