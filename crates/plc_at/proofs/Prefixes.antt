-- Tokens that are read up to a place: what begins with more begins with less, and where reading stops is one place.
use Rattle.std.proofs.Common.{◌≡◌, ℕ, zero, suc, ◌+◌, ◌<◌, ◌≤◌, List, [], ◌∷◌, ◌++◌, length, take, drop, refl, sym}
use Rattle.std.proofs.Common.{ap, ◌∙◌, subst, append_assoc, arith}
use Rattle.std.proofs.lemmas.List.{take-append-drop}
use Rattle.plc_lex.specs.declared.token.TokenKind.{TokenKind}
use Rattle.plc_flow.specs.declared.flow.Flow.{Flow}
use Rattle.plc_auto.specs.declared.observer.Observer.{Observer}
use Rattle.plc_at.specs.declared.claim.LocationClaim.{LocationClaim}
use Rattle.plc_at.specs.Claims.{SpellClaims, BeginClaims, ClaimsStopAt}

-- what is taken twice is taken once
take_less : {A : Type 0} (xs : List A) (n k : ℕ) → n ≤ k → take n (take k xs) ≡ take n xs
take_less xs zero k le = refl
take_less [] (suc n) zero le = refl
take_less [] (suc n) (suc k) le = refl
take_less (x ∷ xs) (suc n) zero le = absurd (omega arith)
take_less (x ∷ xs) (suc n) (suc k) le = ap (λ r. x ∷ r) (take_less xs n k (omega arith))

-- tokens before others begin what the others end
pub begin_front : (flow : Flow) (o : Observer) (a b : List TokenKind) → BeginClaims flow o (a ++ b)
    → BeginClaims flow o a
begin_front flow o a b s =
    (b ++ s.0, s.1, subst (λ ts. SpellClaims flow o ts s.1) (append_assoc a b s.0) s.2)

-- fewer tokens of a list begin claims where more do
pub begin_less : (flow : Flow) (o : Observer) (ts : List TokenKind) (n k : ℕ) → n ≤ k → BeginClaims flow o (take k ts)
    → BeginClaims flow o (take n ts)
begin_less flow o ts n k le s =
    let parts : take k ts ≡ take n ts ++ drop n (take k ts) =
    sym (take-append-drop n (take k ts)) ∙ ap (λ a. a ++ drop n (take k ts)) (take_less ts n k le) in
    begin_front flow o (take n ts) (drop n (take k ts)) (subst (λ ts. BeginClaims flow o ts) parts s)

-- tokens that spell claims begin them at each place
pub spelled_begin : (flow : Flow) (o : Observer) (ts : List TokenKind) (n : ℕ) (claims : List LocationClaim)
    → SpellClaims flow o ts claims → BeginClaims flow o (take n ts)
spelled_begin flow o ts n claims s =
    (drop n ts, claims, subst (λ ts. SpellClaims flow o ts claims) (sym (take-append-drop n ts)) s)

-- reading stops nowhere after the place where it stops
pub stops_once : (flow : Flow) (o : Observer) (ts : List TokenKind) (a b : ℕ) → ClaimsStopAt flow o ts a
    → ClaimsStopAt flow o ts b → a < b → ⊥
stops_once flow o ts a b s t less =
    let w = t.within in
    s.stops (omega arith) (begin_less flow o ts (a + 1) b (omega arith) t.goes_on)

-- so the place is one
pub stops_at_one : (flow : Flow) (o : Observer) (ts : List TokenKind) (a b : ℕ) → ClaimsStopAt flow o ts a
    → ClaimsStopAt flow o ts b → a ≡ b
stops_at_one flow o ts a b s t =
    let first : a < b → ⊥ = stops_once flow o ts a b s t in
    let second : b < a → ⊥ = stops_once flow o ts b a t s in
    omega arith

-- tokens that stop spell no claims
pub stops_spell_none : (flow : Flow) (o : Observer) (ts : List TokenKind) (a : ℕ) (claims : List LocationClaim)
    → ClaimsStopAt flow o ts a → SpellClaims flow o ts claims → ⊥
stops_spell_none flow o ts a claims s c =
    let inside : a < length ts → ⊥ = λ h. s.stops h (spelled_begin flow o ts (a + 1) claims c) in
    let w = s.within in
    s.unfinished (omega arith) claims c
