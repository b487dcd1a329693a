-- Of the answers one holds, at one place: what begins a tree's tokens begins them from any of its prefixes on, so that
-- two faults can't be at two places. For any reader with the law that reads every tree's tokens again.
use Rattle.std.proofs.Common.{◌≡◌, ◌⊎◌, ◌∙◌, ◌+◌, ◌<◌, ◌≤◌, ℕ, [], ◌∷◌, ◌++◌, length, take, drop, map, Ok, Err, refl}
use Rattle.std.proofs.Common.{sym, ap, subst, arith, inl, inr}
use Rattle.std.proofs.lemmas.Bool.{cases_lt, cases_order}
use Rattle.std.proofs.lemmas.List.{append_assoc, append-nil, take-append-drop, take-take}
use Rattle.std.proofs.lemmas.Option.{slice_get_within}
use Rattle.plc_lex.specs.declared.token.TokenKind.{TokenKind}
use Rattle.plc_syntax.specs.Faults.{SyntaxFaultsAreOne}
use Rattle.plc_syntax.specs.Stops.{SyntaxFaultAt, NestingFaultAt, AreOfOutline, Begin, StopAt, FaultAt}
use Rattle.plc_syntax.specs.Syntax.{Spelling, spelled, AreOf, AreOfFile, AreWhole, IsFile}
use Rattle.plc_syntax.specs.Trees.{FileTree, OutlineTree, plain, kinds_of, AreInPlace, file_then, file_tokens}
use Rattle.plc_syntax.specs.Trees.{outline_then}
use Rattle.plc_syntax.specs.Forms.{Read}
use Rattle.plc_syntax.proofs.Again.{Gets, both}
use Rattle.plc_syntax.proofs.Unplaced.{unplaced_file, unplaced_outline}
use Rattle.plc_syntax.proofs.Pieces.{Tokens, kinds_before, kinds_plain}
use Rattle.plc_syntax.proofs.Combinators.{Fuelled, same, SameHead, Whole, Stuck, Is, Law, read_is_of}
use Rattle.plc_tree.specs.Forms.{file_of, outline_of}
use Rattle.plc_tree.proofs.Again.{file_gets, outline_gets}
use Rattle.plc_tree.proofs.Exact.{fuel, no_other, not_none}
use Rattle.plc_tree.proofs.FormLaws.{file_law, outline_law}

module _ {X : Type 0} (s : Spelling X) (f : Fuelled X) (law : (n : ℕ) → Law n s same f) (bare : X → X)
    (again : (x : X) (at : ℕ) → Gets bare (AreInPlace at (s x [])) (λ m. f m at (kinds_of (s x []))) x []) where
  -- no tree's tokens begin with these
  abbrev NoneBegins : Tokens → Type 0
  NoneBegins p = (x : X) (q : Tokens) → spelled s x [] ≡ p ++ q → ⊥

  -- after what was passed a token is left or refused, whatever follows it
  not_begun : (p passed : Tokens) (t : TokenKind) (r : Tokens) (answer : Tokens → Read X) → p ≡ passed ++ t ∷ r
      → ((m : ℕ) (q : Tokens) → fuel p ≤ m → f m 0 (passed ++ t ∷ q) ≡ answer (t ∷ q))
      → ((x : X) (after : ℕ) (q : Tokens) → answer (t ∷ q) ≡ Ok (x, after, []) → ⊥) → NoneBegins p
  not_begun p passed t r answer split alike none x q e =
      let is = e ∙ ap (λ us. us ++ q) split ∙ append_assoc passed (t ∷ r) q in
      let g = no_other s f law bare again 0 (fuel p) x (passed ++ t ∷ (r ++ q)) (answer (t ∷ (r ++ q))) is
      (λ m k. alike m (r ++ q) k) in
      none g.0 g.1 (r ++ q) g.2

  when_stuck : (p : Tokens) (place : ℕ) (h : Stuck s same f (fuel p) 0 p place) (left : Tokens) → h.left ≡ left
      → Begin s p ⊎ NoneBegins p
  when_stuck p place h [] e =
      let front = h.split ∙ ap (λ us. kinds_of h.passed ++ us) e ∙ append-nil (kinds_of h.passed) in
      inl (
        h.tree,
        kinds_of h.rest,
        h.fine,
        ap kinds_of (h.goes_on [] ∙ ap (λ us. h.passed ++ us) (append-nil h.rest)) ∙ kinds_before h.passed h.rest
            ∙ ap (λ us. us ++ kinds_of h.rest) (sym front),
      )
  when_stuck p place h (t ∷ r) e = inr (not_begun p (kinds_of h.passed) t r (λ us. Err place)
      (h.split ∙ ap (λ us. kinds_of h.passed ++ us) e)
      (λ m q k. h.alike m (t ∷ q) k (subst (λ us. SameHead us (t ∷ q)) (sym e) (q, refl))) (λ x a q e. cc))

  when_whole : (p : Tokens) (x : X) (after : ℕ) (r : Tokens) → Whole s same f (fuel p) 0 p x after r
      → Begin s p ⊎ NoneBegins p
  when_whole p x after [] h = inl (
    x,
    [],
    tt,
    ap kinds_of (h.spelled []) ∙ kinds_before h.passed []
        ∙ ap (λ us. us ++ []) (sym (h.split ∙ append-nil (kinds_of h.passed))),
  )
  when_whole p x after (t ∷ r) h = inr (not_begun p (kinds_of h.passed) t r (λ us. Ok (x, after, us)) h.split
      (λ m q k. h.alike m (t ∷ q) k (q, refl)) (λ y a q e. not_none x y after a t q e))

  by_answer : (p : Tokens) (o : Read X) → Is s same f (fuel p) 0 p o → Begin s p ⊎ NoneBegins p
  by_answer p (Ok y) h = when_whole p y.0 y.1 y.2 h.read
  by_answer p (Err place) h = when_stuck p place h.read h.read.left refl

  -- tokens begin a tree's, or no tree's begin with them
  begins_or_not : (p : Tokens) → Begin s p ⊎ NoneBegins p
  begins_or_not p = by_answer p (f (fuel p) 0 p) (law (fuel p) 0 p (omega arith))

  begins_prefix : (ts : Tokens) (n : ℕ) → Begin s ts → Begin s (take n ts)
  begins_prefix ts n b = elim (begins_or_not (take n ts)) [
    | inl h ↦ h
    | inr none ↦ absurd (none b.0 (drop n ts ++ b.1) (b.3 ∙ ap (λ us. us ++ b.1) (sym (take-append-drop n ts))
        ∙ append_assoc (take n ts) (drop n ts) b.1))
  ]

  -- a prefix of a prefix
  begins_shorter : (ts : Tokens) (m n : ℕ) → m ≤ n → Begin s (take n ts) → Begin s (take m ts)
  begins_shorter ts m n h b = subst (λ us. Begin s us) (take-take m n ts h) (begins_prefix (take n ts) m b)

  whole_without_fault : (ts : Tokens) (place : ℕ) → AreWhole s ts → StopAt s ts place → ⊥
  whole_without_fault ts place w h = elim (cases_lt place (length ts)) [
    | inl l ↦ h.stops l (begins_prefix ts (place + 1) (w.0, [], tt, w.1 ∙ sym (append-nil ts)))
    | inr l ↦ h.unfinished (let i = h.within in omega arith) w
  ]

  no_fault_after : (ts : Tokens) (a b : ℕ) → a < b → StopAt s ts a → StopAt s ts b → ⊥
  no_fault_after ts a b l h k =
      h.stops (let w = k.within in omega arith) (begins_shorter ts (a + 1) b (omega arith) k.goes_on)

  one_fault : (ts : Tokens) (a b : ℕ) → StopAt s ts a → StopAt s ts b → a ≡ b
  one_fault ts a b h k = elim (cases_order a b) [
    | inl e ↦ e
    | inr o ↦ elim o [
      | inl l ↦ absurd (no_fault_after ts a b l h k)
      | inr l ↦ absurd (no_fault_after ts b a l k h)
    ]
  ]

-- ---- of a file and of an outline

abbrev read_or : {X : Type 0} → X × Tokens → Read X → X × Tokens
read_or other (Ok r) = (r.0, r.2)
read_or other (Err at) = other

-- of tokens at a place at most one tree is that of those at the front: both are what is read
one_front : {X : Type 0} (s : Spelling X) (f : Fuelled X) (bare : X → X) (at : ℕ) (ts : Tokens) (a b : X) (r q : Tokens)
    → Gets bare (AreInPlace at (s a (map plain r))) (λ m. f m at (kinds_of (s a (map plain r)))) a (map plain r)
    → Gets bare (AreInPlace at (s b (map plain q))) (λ m. f m at (kinds_of (s b (map plain q)))) b (map plain q)
    → AreOf s a at ts r → AreOf s b at ts q → ◌≡◌ {A = X × Tokens} (a, r) (b, q)
one_front s f bare at ts a b r q g h x y =
    let m = g.fuel + h.fuel in
    let read = ap (read_or (a, r)) (sym (g.reads m (omega arith)) ∙ ap (f m at) (sym x.tokens ∙ y.tokens)
    ∙ h.reads m (omega arith)) in
    both (λ c us. (c, us)) (sym (g.same x.places).0) (sym (kinds_plain r)) ∙ read
    ∙ both (λ c us. (c, us)) (h.same y.places).0 (kinds_plain q)

pub file_is_one : (a b : FileTree) (ts : Tokens) → AreOfFile a ts → AreOfFile b ts → a ≡ b
file_is_one a b ts x y = ap (λ p. p.0)
    (one_front file_then file_of unplaced_file 0 ts a b [] [] (file_gets a 0) (file_gets b 0) x y)

pub outline_is_one : (a b : OutlineTree) (at : ℕ) (ts r q : Tokens) → AreOfOutline a at ts r → AreOfOutline b at ts q
    → ◌≡◌ {A = OutlineTree × Tokens} (a, r) (b, q)
outline_is_one a b at ts r q x y = one_front outline_then outline_of unplaced_outline at ts a b r q
    (outline_gets a at (map plain r)) (outline_gets b at (map plain q)) x y

-- whatever places a tree has, one with the places of its tokens is that tree but for them
pub file_read : (c : FileTree) → (x : FileTree) × AreOfFile x (file_tokens c) × (unplaced_file x ≡ unplaced_file c)
file_read c =
    let g = file_gets c 0 in
    let ts = file_tokens c in
    let n = fuel ts + g.fuel in
    let read = subst (λ o. Is file_then same file_of n 0 ts o) (g.reads n (omega arith)) (file_law n 0 ts (omega arith))
    in
    (g.got, read_is_of n 0 ts g.got g.after [] read.read, g.alike)

one_file_fault : (ts : Tokens) (a b : ℕ) → FaultAt ts a → FaultAt ts b → a ≡ b
one_file_fault = one_fault file_then file_of file_law unplaced_file file_gets

file_without_fault : (ts : Tokens) (place : ℕ) → IsFile ts → FaultAt ts place → ⊥
file_without_fault = whole_without_fault file_then file_of file_law unplaced_file file_gets

shorter_file : (ts : Tokens) (m n : ℕ) → m ≤ n → Begin file_then (take n ts) → Begin file_then (take m ts)
shorter_file = begins_shorter file_then file_of file_law unplaced_file file_gets

one_outline_fault : (ts : Tokens) (a b : ℕ) → StopAt outline_then ts a → StopAt outline_then ts b → a ≡ b
one_outline_fault = one_fault outline_then outline_of outline_law unplaced_outline
    (λ x at. outline_gets x at [])

one_nesting : (ts : Tokens) (a b : ℕ) → NestingFaultAt ts a → NestingFaultAt ts b → a ≡ b
one_nesting ts a b h k = elim (cases_order a b) [
  | inl e ↦ e
  | inr o ↦ elim o [ inl l ↦ absurd (k.shallow a l h.deep) | inr l ↦ absurd (h.shallow b l k.deep) ]
]

syntax_or_nesting : (ts : Tokens) (a b : ℕ) → SyntaxFaultAt ts a → NestingFaultAt ts b → ⊥
syntax_or_nesting ts a b h k = elim (cases_lt b a) [
  | inl l ↦ h.shallow b l k.deep
  | inr l ↦ h.fault.stops (let w = slice_get_within ts b _ k.deep.opens.brace in omega arith)
      (shorter_file ts (a + 1) (b + 1) (omega arith) k.goes_on)
]

-- a list of tokens has one fault
pub faults_one : SyntaxFaultsAreOne
faults_one = record {
  syntax_place = λ ts a b h k. one_file_fault ts a b h.fault k.fault;
  nesting_place = one_nesting;
  not_both = syntax_or_nesting;
  syntax_no_file = λ ts at h w. file_without_fault ts at w h.fault;
  nesting_not_shallow = λ ts at h n. n at h.deep;
  outline_place = λ ts a b h k. one_outline_fault ts a b h.fault k.fault;
}
