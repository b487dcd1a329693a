-- Braces as they are counted, and the fault of tokens that were cut off after the first block too deep.
use Rattle.std.proofs.Common.{◌≡◌, ◌∙◌, ◌+◌, ◌<◌, ◌≤◌, ℕ, Bool, cond, List, [], ◌∷◌, ◌++◌, length, take, get_or, sym}
use Rattle.std.proofs.Common.{ap, subst, arith, inl, inr}
use Rattle.std.specs.List.{count_by}
use Rattle.std.proofs.lemmas.Bool.{cases_eq}
use Rattle.std.proofs.lemmas.List.{append-nil, take_more, take_all, take-take, take-map, length-map, length-take}
use Rattle.std.proofs.lemmas.List.{get_or-map}
use Rattle.std.proofs.lemmas.List.Sums.{sum_by-append, count_by-le-length}
use Rattle.std.proofs.lemmas.Option.{slice_get_within}
use Rattle.plc_lex.specs.declared.token.Token.{Token}
use Rattle.plc_lex.specs.declared.token.TokenKind.{TokenKind}
use Rattle.plc_syntax.specs.Syntax.{kinds, IsFile}
use Rattle.plc_syntax.specs.Stops.{BeginsFile, FaultAt, NoneTooDeepBefore}
use Rattle.plc_syntax.specs.Nesting.{is_open_brace, is_close_brace, TooDeepAt, NoneTooDeep}
use Rattle.plc_tree.specs.declared.nesting.Braces.{Braces}
use Rattle.plc_tree.specs.Braces.{HasCounted}

-- the kind at a place
kind_at : (tokens : List Token) (place : ℕ) (token : Token) → token ≡ get_or tokens place token → place < length tokens
    → get_or (kinds tokens) place token.kind ≡ token.kind
kind_at tokens place token e h = get_or-map (λ t. t.kind) tokens place token token.kind h ∙ ap (λ t. t.kind) (sym e)

pub kinds_length : (tokens : List Token) → length (kinds tokens) ≡ length tokens
kinds_length tokens = length-map tokens (λ t. t.kind)

one_more : (tokens : List Token) (place : ℕ) (token : Token) → token ≡ get_or tokens place token → place < length tokens
    → take (place + 1) (kinds tokens) ≡ take place (kinds tokens) ++ token.kind ∷ []
one_more tokens place token e h =
    take_more (kinds tokens) place token.kind (let l = kinds_length tokens in omega arith)
    ∙ ap (λ k. take place (kinds tokens) ++ k ∷ []) (kind_at tokens place token e h)

count_more : (p : TokenKind → Bool) (tokens : List Token) (place : ℕ) (token : Token)
    → token ≡ get_or tokens place token → place < length tokens → count_by p (take (place + 1) (kinds tokens))
    ≡ count_by p (take place (kinds tokens)) + count_by p (token.kind ∷ [])
count_more p tokens place token e h =
    ap (count_by p) (one_more tokens place token e h)
    ∙ sum_by-append (λ k. cond (p k) 1 0) (take place (kinds tokens)) (token.kind ∷ [])

-- a count is below any number that the tokens are below
pub count_fits : (p : TokenKind → Bool) (tokens : List Token) (place n count : ℕ)
    → count ≡ count_by p (take place (kinds tokens)) → place < length tokens → length tokens < n → count + 1 < n
count_fits p tokens place n count e h l =
    let short = count_by-le-length p (take place (kinds tokens)) in
    let taken = length-take place (kinds tokens) in
    omega arith

-- what the count knows before the token at a place
pub record Counted (tokens : List Token) (braces : Braces) (place : ℕ) : Type 0 where
  pub counted : HasCounted braces (take place (kinds tokens))
  pub shallow : NoneTooDeepBefore (kinds tokens) place

shallow_more : (ts : List TokenKind) (place : ℕ) → NoneTooDeepBefore ts place → (TooDeepAt ts place → ⊥)
    → NoneTooDeepBefore ts (place + 1)
shallow_more ts place w h lesser l d = elim (cases_eq lesser place) [
  | inl e ↦ h (subst (λ p. TooDeepAt ts p) e d)
  | inr ne ↦ w lesser (omega arith) d
]

pub counted_one_more : (tokens : List Token) (place : ℕ) (token : Token) (old new : Braces)
    → token ≡ get_or tokens place token → place < length tokens → Counted tokens old place
    → (TooDeepAt (kinds tokens) place → ⊥) → new.opened ≡ old.opened + count_by is_open_brace (token.kind ∷ [])
    → new.closed ≡ old.closed + count_by is_close_brace (token.kind ∷ []) → Counted tokens new (place + 1)
counted_one_more tokens place token old new e h w not_deep opened closed = record {
  counted = record {
    opened = opened ∙ ap (λ n. n + count_by is_open_brace (token.kind ∷ [])) w.counted.opened
        ∙ sym (count_more is_open_brace tokens place token e h);
    closed = closed ∙ ap (λ n. n + count_by is_close_brace (token.kind ∷ [])) w.counted.closed
        ∙ sym (count_more is_close_brace tokens place token e h);
  };
  shallow = shallow_more (kinds tokens) place w.shallow not_deep;
}

pub none_at_end : (tokens : List Token) (place : ℕ) (braces : Braces) → length tokens ≤ place
    → Counted tokens braces place → NoneTooDeep (kinds tokens)
none_at_end tokens place braces h w at deep =
    let within = slice_get_within (kinds tokens) at _ deep.opens.brace in
    w.shallow at (omega (arith, kinds_length tokens)) deep

-- ---- tokens that were cut off after a place

kinds_taken : (tokens : List Token) (n : ℕ) → kinds (take n tokens) ≡ take n (kinds tokens)
kinds_taken tokens n = sym (take-map (λ t. t.kind) n tokens)

module _ (ts : List TokenKind) (deep : ℕ) where
  cut_stop : (at : ℕ) → at ≤ deep → deep < length ts → FaultAt (take (deep + 1) ts) at → FaultAt ts at
  cut_stop at l d h = record {
    within = omega arith;
    goes_on = subst (λ us. BeginsFile us) (take-take at (deep + 1) ts (omega arith)) h.goes_on;
    stops = λ k b. h.stops (omega (arith, length-take (deep + 1) ts))
        (subst (λ us. BeginsFile us) (sym (take-take (at + 1) (deep + 1) ts (omega arith))) b);
    unfinished = λ k f. absurd (omega arith);
  }

  cut_goes_on : (at : ℕ) → deep < at → FaultAt (take (deep + 1) ts) at → BeginsFile (take (deep + 1) ts)
  cut_goes_on at l h = subst (λ us. BeginsFile us)
      (take_all at (take (deep + 1) ts) (omega (arith, length-take (deep + 1) ts))) h.goes_on

  cut_whole : IsFile (take (deep + 1) ts) → BeginsFile (take (deep + 1) ts)
  cut_whole f = (f.0, [], tt, f.1 ∙ sym (append-nil (take (deep + 1) ts)))

-- a fault up to the place is that of all tokens
pub cut_fault : (tokens cut : List Token) (place at : ℕ) → cut ≡ take (place + 1) tokens → place < length tokens
    → at ≤ place → FaultAt (kinds cut) at → FaultAt (kinds tokens) at
cut_fault tokens cut place at e h l f = cut_stop (kinds tokens) place at l (omega (arith, kinds_length tokens))
    (subst (λ us. FaultAt us at) (ap kinds e ∙ kinds_taken tokens (place + 1)) f)

-- with a fault after the place the tokens up to it begin a file
pub cut_begins : (tokens cut : List Token) (place at : ℕ) → cut ≡ take (place + 1) tokens → place < at
    → FaultAt (kinds cut) at → BeginsFile (take (place + 1) (kinds tokens))
cut_begins tokens cut place at e l f = cut_goes_on (kinds tokens) place at l
    (subst (λ us. FaultAt us at) (ap kinds e ∙ kinds_taken tokens (place + 1)) f)

-- and so they do where they are a file's
pub cut_is_file : (tokens cut : List Token) (place : ℕ) → cut ≡ take (place + 1) tokens → IsFile (kinds cut)
    → BeginsFile (take (place + 1) (kinds tokens))
cut_is_file tokens cut place e f = cut_whole (kinds tokens) place
    (subst (λ us. IsFile us) (ap kinds e ∙ kinds_taken tokens (place + 1)) f)
