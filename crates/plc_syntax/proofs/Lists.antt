-- A reader of items while one begins has the law of readers where that of an item does.
use Rattle.std.proofs.Common.{◌≡◌, ◌∙◌, ◌<◌, ◌≤◌, ℕ, zero, suc, Bool, true, false, cond, [], ◌∷◌, ◌++◌}
use Rattle.std.proofs.Common.{length}
use Rattle.std.proofs.Common.{Ok, Err, refl, sym, ap, subst, arith}
use Rattle.plc_lex.specs.declared.token.TokenKind.{TokenKind}
use Rattle.plc_syntax.specs.Trees.{Pieces, kinds_of, each_then}
use Rattle.plc_syntax.specs.Syntax.{Spelling}
use Rattle.plc_syntax.specs.Forms.{Read, ◌>>=◌, first_is, list_of}
use Rattle.plc_syntax.proofs.Pieces.{Tokens, count_before, some_begun}
use Rattle.plc_syntax.proofs.Combinators.{Fuelled, same, SameHead, same_after, Is, Law, Early, last, sample}
use Rattle.plc_syntax.proofs.Combinators.{then_form, joined}
use Rattle.plc_syntax.proofs.Combinators.{broken}

-- what takes a token leaves fewer
shorter : (p : Pieces) (ts r : Tokens) → (p ≡ [] → ⊥) → ts ≡ kinds_of p ++ r → length r < length ts
shorter [] ts r some e = absurd (some refl)
shorter (t ∷ p) ts r some e = let whole = ap length e in omega (arith, count_before p r)

-- with one fuel less a reader does as another
lifted : {X : Type 0} (n : ℕ) (s : Spelling X) (f g : Fuelled X) (at : ℕ) (ts : Tokens) (o : Read X)
    → ((m : ℕ) (q : Tokens) → SameHead ts q → f (suc m) at q ≡ g m at q) → Is s same g n at ts o
    → Is s same f (suc n) at ts o
lifted {X = X} n s f g at ts (Ok y) agree w = let h = w.read in record {
  read = record {
    passed = h.passed;
    split = h.split;
    place = h.place;
    in_place = h.in_place;
    spelled = h.spelled;
    alike = more;
  };
}
  where
    more : (m : ℕ) (q : Tokens) → suc n ≤ m → SameHead y.2 q → f m at (kinds_of w.read.passed ++ q) ≡ Ok (y.0, y.1, q)
    more zero q l e = absurd (omega arith)
    more (suc m) q l e =
        let h = w.read in
        agree m (kinds_of h.passed ++ q)
        (subst (λ us. SameHead us (kinds_of h.passed ++ q)) (sym h.split) (same_after (kinds_of h.passed) y.2 q e))
        ∙ h.alike m q (omega arith) e
lifted {X = X} n s f g at ts (Err at') agree w = let h = w.read in record {
  read = record {
    passed = h.passed;
    left = h.left;
    split = h.split;
    place = h.place;
    tree = h.tree;
    rest = h.rest;
    fine = h.fine;
    goes_on = h.goes_on;
    alike = more;
  };
}
  where
    more : (m : ℕ) (q : Tokens) → suc n ≤ m → SameHead w.read.left q → f m at (kinds_of w.read.passed ++ q) ≡ Err at'
    more zero q l e = absurd (omega arith)
    more (suc m) q l e =
        let h = w.read in
        agree m (kinds_of h.passed ++ q)
        (subst (λ us. SameHead us (kinds_of h.passed ++ q)) (sym h.split) (same_after (kinds_of h.passed) h.left q e))
        ∙ h.alike m q (omega arith) e

-- X is an item's tree, Y that of a list: an item takes a token, and with one fuel less the others are read
module _ {X Y : Type 0} (s : Spelling X) (cons : X → Y → Y) (nil : Y) (list : Spelling Y) (begins : TokenKind → Bool)
    (item : Fuelled X) (items : Fuelled Y) (empty : (q : Pieces) → list nil q ≡ q)
    (more : (x : X) (y : Y) (q : Pieces) → list (cons x y) q ≡ s x (list y q))
    (begun : (x : X) (q : Pieces) → first_is begins (kinds_of (s x q)) ≡ true)
    (next : (m at : ℕ) (ts : Tokens) → items (suc m) at ts ≡ cond (first_is begins ts)
    (item m at ts >>= λ x at ts. items m at ts >>= λ y at ts. Ok (cons x y, at, ts)) (Ok (nil, at, ts))) where
  abbrev others : X → Fuelled Y
  others x m at ts = items m at ts >>= λ y at ts. Ok (cons x y, at, ts)

  abbrev goes : Fuelled Y
  goes m at ts = item m at ts >>= λ x at ts. others x m at ts

  module _ (n : ℕ) (items_law : Law n list same items) where
    others_law : (x : X) → Law n list (λ q. s x q) (others x)
    others_law x = then_form items_law (λ y. last (more x y))

    goes_by : (at : ℕ) (ts : Tokens) → 0 < n → length ts ≤ n → (o : Read X) → Is s same item n at ts o
        → Is list same goes n at ts (o >>= λ x at ts. others x n at ts)
    goes_by at ts l le (Ok x) w =
        let h = w.read in
        let some : h.passed ≡ [] → ⊥ = λ e. some_begun s begins begun x.0 [] (h.spelled [] ∙ ap (λ p. p ++ []) e) in
        let fewer = shorter h.passed ts x.2 some h.split in
        joined n s same list same item others at ts x.0 x.1 x.2 h (others x.0 n x.1 x.2)
        (others_law x.0 x.1 x.2 (omega arith))
    goes_by at ts l le (Err e) w =
        let h = w.read in
        broken n s same list same item others at ts e h
        (sample n list (λ q. s h.tree q) (others h.tree) l (others_law h.tree))

    no_item : (at : ℕ) (ts : Tokens) → ((q : Tokens) → SameHead ts q → first_is begins q ≡ false)
        → first_is begins ts ≡ false
        → Is list same items (suc n) at ts (items (suc n) at ts)
    no_item at ts alike none =
        subst (λ o. Is list same items (suc n) at ts o)
        (sym (next n at ts ∙ ap (λ b. cond b (goes n at ts) (Ok (nil, at, ts))) none))
        (lifted n list items (λ m at ts. Ok (nil, at, ts)) at ts (Ok (nil, at, ts))
        (λ m q h. next m at q ∙ ap (λ b. cond b (goes m at q) (Ok (nil, at, q))) (alike q h))
        (record {
          read = record {
            passed = [];
            split = refl;
            place = omega arith;
            in_place = tt;
            spelled = empty;
            alike = λ m q l e. refl;
          };
        }))

    by_first : (at : ℕ) (t : TokenKind) (ts : Tokens) → length (t ∷ ts) ≤ n → (b : Bool) → begins t ≡ b
        → Is s same item n at (t ∷ ts) (item n at (t ∷ ts))
        → Is list same items (suc n) at (t ∷ ts) (items (suc n) at (t ∷ ts))
    by_first at t ts l false e h =
        no_item at (t ∷ ts) (λ q (vs, k). ap (first_is begins) k ∙ e) e
    by_first at t ts l true e h =
        subst (λ o. Is list same items (suc n) at (t ∷ ts) o)
        (sym (next n at (t ∷ ts) ∙ ap (λ b. cond b (goes n at (t ∷ ts)) (Ok (nil, at, t ∷ ts))) e))
        (lifted n list items goes at (t ∷ ts) (goes n at (t ∷ ts))
        (λ m q (vs, k). next m at q
        ∙ ap (λ b. cond b (goes m at q) (Ok (nil, at, q))) (ap (first_is begins) k ∙ e))
        (goes_by at (t ∷ ts) (omega arith) l (item n at (t ∷ ts)) h))

    pub listed : Early n s same item → Law (suc n) list same items
    listed law at [] l = no_item at [] (λ q h. ap (first_is begins) h) refl
    listed law at (t ∷ ts) l = by_first at t ts (omega arith) (begins t) refl (law at t ts (omega arith))

-- a list whose items are read one by one
pub list_law : {X : Type 0} {s : Spelling X} {item : Fuelled X} (begins : TokenKind → Bool)
    → ((x : X) (q : Pieces) → first_is begins (kinds_of (s x q)) ≡ true) → ((n : ℕ) → Early n s same item) → (n : ℕ)
    → Law n (λ xs q. each_then s xs q) same (λ m at ts. list_of begins item m at ts)
unfolding list_of
list_law begins begun law zero = λ at ts l. absurd (omega arith)
list_law {s = s} {item = item} begins begun law (suc n) =
    listed s (λ x xs. x ∷ xs) [] (λ xs q. each_then s xs q) begins item (λ m at ts. list_of begins item m at ts)
    (λ q. refl) (λ x y q. refl) begun (λ m at ts. refl) n (list_law begins begun law n) (law n)
