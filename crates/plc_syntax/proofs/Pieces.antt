-- The tokens of trees with the places that a tree gives them: one list after another, and a form at its place.
use Rattle.std.proofs.Common.{◌≡◌, ◌∙◌, ◌+◌, ℕ, Bool, true, List, [], ◌∷◌, ◌++◌, length, map, refl, sym, ap, subst}
use Rattle.std.proofs.Common.{arith}
use Rattle.plc_lex.specs.declared.token.TokenKind.{TokenKind}
use Rattle.plc_syntax.specs.Trees.{Placed, Pieces, plain, from_place, placed_then, kinds_of, AreInPlace}
use Rattle.plc_syntax.specs.Syntax.{Spelling}
use Rattle.plc_syntax.specs.Forms.{first_is}

abbrev pub Tokens : Type 0
Tokens = List TokenKind

-- one list of them after another
pub kinds_append : (p q : Pieces) (r : Tokens) → kinds_of (p ++ q) ++ r ≡ kinds_of p ++ (kinds_of q ++ r)
kinds_append [] q r = refl
kinds_append (t ∷ p) q r = ap (λ us. t.kind ∷ us) (kinds_append p q r)

pub kinds_before : (p q : Pieces) → kinds_of (p ++ q) ≡ kinds_of p ++ kinds_of q
kinds_before [] q = refl
kinds_before (t ∷ p) q = ap (λ us. t.kind ∷ us) (kinds_before p q)

pub kinds_plain : (ts : Tokens) → kinds_of (map plain ts) ≡ ts
kinds_plain [] = refl
kinds_plain (t ∷ ts) = ap (λ us. t ∷ us) (kinds_plain ts)

-- how many tokens there are with those after them
pub count_before : (p : Pieces) (r : Tokens) → length (kinds_of p ++ r) ≡ length p + length r
count_before [] r = omega arith
count_before (t ∷ p) r = let more = count_before p r in omega arith

pub in_place_append : (p q : Pieces) (at : ℕ) → AreInPlace at p → AreInPlace (at + length p) q → AreInPlace at (p ++ q)
in_place_append [] q at h k = let same : at + 0 ≡ at = omega arith in subst (λ n. AreInPlace n q) same k
in_place_append (t ∷ p) q at h k =
    let same : at + length (t ∷ p) ≡ at + 1 + length p = omega arith in
    (h.0, in_place_append p q (at + 1) h.1 (subst (λ n. AreInPlace n q) same k))

pub plain_in_place : (ts : Tokens) (at : ℕ) → AreInPlace at (map plain ts)
plain_in_place [] at = tt
plain_in_place (t ∷ ts) at = (tt, plain_in_place ts (at + 1))

-- ---- a form at its place

module _ (at : ℕ) where
  pub from_kinds : (p : Pieces) → kinds_of (from_place at p) ≡ kinds_of p
  from_kinds [] = refl
  from_kinds (t ∷ p) = refl

  pub from_length : (p : Pieces) → length (from_place at p) ≡ length p
  from_length [] = refl
  from_length (t ∷ p) = refl

  pub from_in_place : (p : Pieces) → AreInPlace at p → AreInPlace at (from_place at p)
  from_in_place [] h = tt
  from_in_place (t ∷ p) h = ((refl, h.0), h.1)

  pub from_before : (p : Pieces) → (p ≡ [] → ⊥) → (q : Pieces) → from_place at (p ++ q) ≡ from_place at p ++ q
  from_before [] some q = absurd (some refl)
  from_before (t ∷ p) some q = refl

  -- the place is that of the first token that was passed, or of the first after them
  abbrev pub rest_from : Pieces → Pieces → Pieces
  rest_from [] rest = from_place at rest
  rest_from (t ∷ p) rest = rest

  pub rest_kinds : (p rest : Pieces) → kinds_of (rest_from p rest) ≡ kinds_of rest
  rest_kinds [] rest = from_kinds rest
  rest_kinds (t ∷ p) rest = refl

  pub rest_before : (p rest : Pieces) → (p ++ (rest ++ []) ≡ [] → ⊥) → (q : Pieces)
      → from_place at (p ++ (rest ++ q)) ≡ from_place at p ++ (rest_from p rest ++ q)
  rest_before [] [] some q = absurd (some refl)
  rest_before [] (t ∷ rest) some q = refl
  rest_before (t ∷ p) rest some q = refl

-- a form at its place begins as it
pub begun_there : {X : Type 0} (s : Spelling X) (begins : TokenKind → Bool)
    → ((x : X) (q : Pieces) → first_is begins (kinds_of (s x q)) ≡ true) → (x : Placed X) (q : Pieces)
    → first_is begins (kinds_of (placed_then s x q)) ≡ true
begun_there s begins begun x q = ap (first_is begins) (from_kinds x.at (s x.value q)) ∙ begun x.value q

-- what begins isn't nothing
pub some_begun : {X : Type 0} (s : Spelling X) (begins : TokenKind → Bool)
    → ((x : X) (q : Pieces) → first_is begins (kinds_of (s x q)) ≡ true) → (x : X) (q : Pieces) → s x q ≡ [] → ⊥
some_begun s begins begun x q e =
    let b = begun x q in
    let none : first_is begins (kinds_of []) ≡ true = ap (λ p. first_is begins (kinds_of p)) (sym e) ∙ b in
    cc
