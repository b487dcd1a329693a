-- Where a tree is read from the front of tokens and nothing is left, they are the tree's; elsewhere the place is the
-- least with which no tree's tokens begin any more. For any reader with the law that reads every tree's tokens again.
use Rattle.std.proofs.Common.{◌≡◌, ◌∙◌, ◌+◌, ◌<◌, ◌≤◌, ℕ, suc, true, false, nat_eq, List, [], ◌∷◌, ◌++◌, length, take}
use Rattle.std.proofs.Common.{Ok, Err, refl, sym, ap, subst, arith}
use Rattle.std.proofs.lemmas.Bool.{eqb-true}
use Rattle.std.proofs.lemmas.List.{append_assoc, append-nil, length-map}
use Rattle.plc_lex.specs.declared.token.TokenKind.{TokenKind}
use Rattle.plc_lex.specs.declared.token.Token.{Token}
use Rattle.plc_syntax.specs.Syntax.{kinds, Spelling, spelled, AreOf, AreOfFile}
use Rattle.plc_syntax.specs.Stops.{Begin, StopAt}
use Rattle.plc_syntax.specs.Trees.{FileTree, Pieces, kinds_of, AreInPlace, file_then}
use Rattle.plc_syntax.specs.declared.fault.Fault.{Fault}
use Rattle.plc_syntax.specs.declared.fault.Fault.TheVariants as faults
use Rattle.plc_syntax.specs.Answers.{FailsAs}
use Rattle.plc_syntax.specs.Forms.{Read}
use Rattle.plc_syntax.proofs.Again.{Gets}
use Rattle.plc_syntax.proofs.Unplaced.{unplaced_file}
use Rattle.plc_syntax.proofs.Pieces.{Tokens, kinds_before, count_before}
use Rattle.plc_syntax.proofs.Combinators.{Fuelled, same, SameHead, Whole, Stuck, Is, Law, read_is_of}
use Rattle.plc_tree.specs.Answers.{StopsThere}
use Rattle.plc_tree.specs.Forms.{file_of}
use Rattle.plc_tree.proofs.Again.{file_gets}
use Rattle.plc_tree.proofs.FormLaws.{file_law}

-- fuel for all of the tokens
abbrev pub fuel : Tokens → ℕ
fuel ts = length ts + 1

take_passed : (p r : Tokens) → take (length p) (p ++ r) ≡ p
take_passed [] r = refl
take_passed (t ∷ p) r = ap (λ us. t ∷ us) (take_passed p r)

take_next : (p r : Tokens) (t : TokenKind) → take (suc (length p)) (p ++ t ∷ r) ≡ p ++ t ∷ []
take_next [] r t = refl
take_next (u ∷ p) r t = ap (λ us. u ∷ us) (take_next p r t)

plus_one : (n : ℕ) → n + 1 ≡ suc n
plus_one n = omega arith

take_one : (p r : Tokens) (t : TokenKind) → take (length p + 1) (p ++ t ∷ r) ≡ p ++ t ∷ []
take_one p r t = ap (λ (k : ℕ). take k (p ++ t ∷ r)) (plus_one (length p)) ∙ take_next p r t

abbrev AnyLeft : Tokens → Type 0
AnyLeft [] = ⊥
AnyLeft (t ∷ ts) = Unit {0}

abbrev LeavesAny : {X : Type 0} → Read X → Type 0
LeavesAny (Ok y) = AnyLeft y.2
LeavesAny (Err at) = Unit {0}

-- tokens that are left aren't none
pub not_none : {X : Type 0} (x y : X) (p q : ℕ) (t : TokenKind) (us : Tokens)
    → let left : Read X = Ok (x, p, t ∷ us) in let right : Read X = Ok (y, q, []) in left ≡ right → ⊥
not_none x y p q t us e = subst (λ o. LeavesAny o) e tt

-- how many pieces there are
kinds_count : (p : Pieces) → length (kinds_of p) ≡ length p
kinds_count p = length-map p (λ t. t.kind)

module _ {X : Type 0} (s : Spelling X) (f : Fuelled X) (law : (n : ℕ) → Law n s same f) (bare : X → X)
    (again : (x : X) (at : ℕ) → Gets bare (AreInPlace at (s x [])) (λ m. f m at (kinds_of (s x []))) x []) (start : ℕ)
  where
    -- what is spelled by a tree is read as one with nothing left, whatever the fuel is more
    pub no_other : (n : ℕ) (x : X) (ts : Tokens) (answer : Read X) → spelled s x [] ≡ ts
        → ((m : ℕ) → n ≤ m → f m start ts ≡ answer) → (y : X) × (after : ℕ) × (answer ≡ Ok (y, after, []))
    no_other n x ts answer e alike =
        let h = again x start in
        let m = n + h.fuel in
        (h.got, h.after, sym (alike m (omega arith)) ∙ ap (f m start) (sym e) ∙ h.reads m (omega arith))

    -- tokens that begin a tree's with one token more
    begun : (p r : Tokens) (t : TokenKind) → Begin s (take (length p + 1) (p ++ t ∷ r))
        → (x : X) × (q : Tokens) × (spelled s x [] ≡ p ++ t ∷ q)
    begun p r t h = (h.0, h.1, h.3 ∙ ap (λ us. us ++ h.1) (take_one p r t) ∙ append_assoc p (t ∷ []) h.1)

    stuck_is_stop : (ts : Tokens) (place : ℕ) → Stuck s same f (fuel ts) start ts place
        → (after : ℕ) × StopAt s ts after × (place ≡ start + after)
    stuck_is_stop ts place h = (length h.passed, by h.left refl, h.place)
      where
        at_end : length h.passed ≡ length (kinds_of h.passed)
        at_end = sym (kinds_count h.passed)

        front : take (length h.passed) ts ≡ kinds_of h.passed
        front = ap (λ (k : ℕ). take k ts) at_end ∙ ap (take (length (kinds_of h.passed))) h.split
            ∙ take_passed (kinds_of h.passed) h.left

        goes : Begin s (take (length h.passed) ts)
        goes = (
          h.tree,
          kinds_of h.rest,
          h.fine,
          ap kinds_of (h.goes_on [] ∙ ap (λ us. h.passed ++ us) (append-nil h.rest)) ∙ kinds_before h.passed h.rest
              ∙ ap (λ us. us ++ kinds_of h.rest) (sym front),
        )

        by : (left : Tokens) → h.left ≡ left → StopAt s ts (length h.passed)
        by [] e = record {
          within = let whole = ap length h.split in omega (arith, count_before h.passed h.left);
          goes_on = goes;
          stops = λ l. absurd (let whole = ap length h.split in let none = ap length e in
              omega (arith, count_before h.passed h.left));
          unfinished = λ l w.
              let r = no_other (fuel ts) w.0 ts (Err place) w.1 (λ m k.
              ap (f m start) (h.split ∙ ap (λ us. kinds_of h.passed ++ us) e)
              ∙ h.alike m [] k (subst (λ us. SameHead us []) (sym e) refl)) in
              let no = r.2 in
              cc;
        }
        by (t ∷ left) e = record {
          within = let whole = ap length h.split in omega (arith, count_before h.passed h.left);
          goes_on = goes;
          stops = λ l b.
              let one_more = ap (λ (k : ℕ). take (k + 1) ts) at_end
              ∙ ap (take (length (kinds_of h.passed) + 1)) (h.split ∙ ap (λ us. kinds_of h.passed ++ us) e) in
              let b' = begun (kinds_of h.passed) left t (subst (λ us. Begin s us) one_more b) in
              let r = no_other (fuel ts) b'.0 (kinds_of h.passed ++ t ∷ b'.1) (Err place) b'.2 (λ m k.
              h.alike m (t ∷ b'.1) k (subst (λ us. SameHead us (t ∷ b'.1)) (sym e) (b'.1, refl))) in
              let no = r.2 in
              cc;
          unfinished = λ l. absurd (let whole = ap length h.split in let some = ap length e in
              omega (arith, count_before h.passed h.left));
        }

    left_is_stop : (ts : Tokens) (x : X) (end : ℕ) (t : TokenKind) (r : Tokens)
        → Whole s same f (fuel ts) start ts x end (t ∷ r) → (after : ℕ) × StopAt s ts after × (end ≡ start + after)
    left_is_stop ts x end t r h = (length h.passed, stop, h.place)
      where
        at_end : length h.passed ≡ length (kinds_of h.passed)
        at_end = sym (kinds_count h.passed)

        front : take (length h.passed) ts ≡ kinds_of h.passed
        front = ap (λ (k : ℕ). take k ts) at_end ∙ ap (take (length (kinds_of h.passed))) h.split
            ∙ take_passed (kinds_of h.passed) (t ∷ r)

        stop : StopAt s ts (length h.passed)
        stop = record {
          within = let whole = ap length h.split in omega (arith, count_before h.passed (t ∷ r));
          goes_on = (
            x,
            [],
            tt,
            ap kinds_of (h.spelled []) ∙ kinds_before h.passed [] ∙ ap (λ us. us ++ [])
                (sym front),
          );
          stops = λ l g.
              let one_more = ap (λ (k : ℕ). take (k + 1) ts) at_end
              ∙ ap (take (length (kinds_of h.passed) + 1)) h.split in
              let g' = begun (kinds_of h.passed) r t (subst (λ us. Begin s us) one_more g) in
              let y = no_other (fuel ts) g'.0 (kinds_of h.passed ++ t ∷ g'.1) (Ok (x, end, t ∷ g'.1)) g'.2
              (λ m k. h.alike m (t ∷ g'.1) k (g'.1, refl)) in
              not_none x y.0 end y.1 t g'.1 y.2;
          unfinished = λ l. absurd (let whole = ap length h.split in
              omega (arith, count_before h.passed (t ∷ r)));
        }

    pub answer_is : (ts : Tokens) (n : ℕ) (o : Read X) → n ≡ fuel ts → f n start ts ≡ o
        → Is s same f (fuel ts) start ts o
    answer_is ts n o l e = subst (λ o. Is s same f (fuel ts) start ts o) (ap (λ (m : ℕ). f m start ts) (sym l) ∙ e)
        (law (fuel ts) start ts (omega arith))

    pub whole_answer : (ts : Tokens) (n : ℕ) (x : X) (end : ℕ) (r : Tokens) → n ≡ fuel ts
        → f n start ts ≡ Ok (x, end, r) → AreOf s x start ts r
    whole_answer ts n x end r l e = read_is_of (fuel ts) start ts x end r (answer_is ts n (Ok (x, end, r)) l e).read

    -- how many tokens are left
    pub left_count : (ts : Tokens) (n : ℕ) (x : X) (end : ℕ) (r : Tokens) → n ≡ fuel ts
        → f n start ts ≡ Ok (x, end, r) → end + length r ≡ start + length ts
    left_count ts n x end r l e =
        let h = (answer_is ts n (Ok (x, end, r)) l e).read in
        let whole = ap length h.split in
        let place = h.place in
        omega (arith, count_before h.passed r)

    pub left_answer : (ts : Tokens) (n : ℕ) (x : X) (end : ℕ) (r : Tokens) → n ≡ fuel ts
        → f n start ts ≡ Ok (x, end, r) → 0 < length r → (after : ℕ) × StopAt s ts after × (end ≡ start + after)
    left_answer ts n x end [] l e some = absurd (omega arith)
    left_answer ts n x end (t ∷ r) l e some =
        left_is_stop ts x end t r (answer_is ts n (Ok (x, end, t ∷ r)) l e).read

    pub stuck_answer : (ts : Tokens) (n place : ℕ) → n ≡ fuel ts → f n start ts ≡ Err place
        → (after : ℕ) × StopAt s ts after × (place ≡ start + after)
    stuck_answer ts n place l e = stuck_is_stop ts place (answer_is ts n (Err place) l e).read

-- ---- of a file

-- from the first token on
from_first : (ts : Tokens) (place : ℕ) → (after : ℕ) × StopAt file_then ts after × (place ≡ 0 + after)
    → StopAt file_then ts place
from_first ts place (after, h, e) =
    let same : after ≡ place = omega arith in subst (λ (p : ℕ). StopAt file_then ts p) same h

pub file_whole : (ts : Tokens) (n : ℕ) (x : FileTree) (after : ℕ) (r : Tokens) → n ≡ fuel ts
    → file_of n 0 ts ≡ Ok (x, after, r) → r ≡ [] → AreOfFile x ts
file_whole ts n x after r l e none = subst (λ r. AreOf file_then x 0 ts r) none
    (whole_answer file_then file_of file_law unplaced_file file_gets 0 ts n x after r l e)

pub file_left : (ts : Tokens) (n : ℕ) (x : FileTree) (after : ℕ) (r : Tokens) → n ≡ fuel ts
    → file_of n 0 ts ≡ Ok (x, after, r) → 0 < length r → StopAt file_then ts after
file_left ts n x after r l e some = from_first ts after
    (left_answer file_then file_of file_law unplaced_file file_gets 0 ts n x after r l e some)

pub file_stuck : (ts : Tokens) (n place : ℕ) → n ≡ fuel ts → file_of n 0 ts ≡ Err place → StopAt file_then ts place
file_stuck ts n place l e = from_first ts place
    (stuck_answer file_then file_of file_law unplaced_file file_gets 0 ts n place l e)

pub stuck_there : (ts : Tokens) (n : ℕ) (e : Fault) → n ≡ fuel ts → FailsAs e (file_of n 0 ts) → StopsThere ts e
stuck_there ts n (faults.Syntax at) l h = file_stuck ts n at l h
stuck_there ts n faults.Memory l h = tt

-- ---- tokens that are left, as a test of the program says

pub none_left : (ts : List Token) → nat_eq (length ts) 0 ≡ true → kinds ts ≡ []
none_left [] e = refl
none_left (t ∷ ts) e = absurd (let n = eqb-true (length (t ∷ ts)) 0 e in omega arith)

pub some_left : (ts : List Token) → nat_eq (length ts) 0 ≡ false → 0 < length (kinds ts)
some_left [] e = cc
some_left (t ∷ ts) e = omega arith
