-- The braces of tokens, from the left: what is asked of each block is asked of the braces that are open before it.
use Rattle.std.proofs.Common.{◌≡◌, ◌≢◌, ℕ, zero, suc, ◌+◌, ◌-◌, ◌≤◌, Bool, true, false, cond, nat_le, Option, Some, None, List, [], ◌∷◌, take, slice_get, count_by, refl, sym, ap, subst, arith, leb-true, leb-false}
use Rattle.std.proofs.lemmas.List.Sums.{sum_by-cons}
use Rattle.plc_lex.specs.declared.token.TokenKind.{TokenKind}
use Rattle.plc_lex.specs.declared.token.TokenKind.TheVariants.{Word, Name, Number, Symbol}
use Rattle.plc_lex.specs.declared.token.Keyword.{Keyword}
use Rattle.plc_lex.specs.declared.token.Keyword.TheVariants.{Atomic}
use Rattle.plc_lex.specs.declared.token.Symbol.TheVariants.{OpenBrace, CloseBrace}
use Rattle.plc_syntax.specs.Nesting.{nesting_limit, is_open_brace, is_close_brace, OpensBlockAt, NoneTooDeep}

-- the word after which a brace begins no block
abbrev pub is_atomic : Keyword → Bool
is_atomic Atomic = true
is_atomic _ = false

module _ (K : TokenKind → Type 0) (D : ℕ → Type 0) where
  -- so many braces were opened and closed before, and the token before may be `atomic`: names and numbers are as K asks, and the open braces at each block as D asks
  abbrev pub Fine : ℕ → ℕ → Bool → List TokenKind → Type 0
  Fine o c a [] = Unit {0}
  Fine o c a (Name n ∷ ts) = K (Name n) × Fine o c false ts
  Fine o c a (Number n ∷ ts) = K (Number n) × Fine o c false ts
  Fine o c a (Word w ∷ ts) = Fine o c (is_atomic w) ts
  Fine o c a (Symbol OpenBrace ∷ ts) = (a ≡ false → D (o - c)) × Fine (suc o) c false ts
  Fine o c a (Symbol CloseBrace ∷ ts) = Fine o (suc c) false ts
  Fine o c a (Symbol _ ∷ ts) = Fine o c false ts

  -- one brace more of each kind is none
  pub down : (o c : ℕ) (a : Bool) (ts : List TokenKind) → Fine (suc o) (suc c) a ts → Fine o c a ts
  down o c a [] h = tt
  down o c a (Name n ∷ ts) h = (h.0, down o c false ts h.1)
  down o c a (Number n ∷ ts) h = (h.0, down o c false ts h.1)
  down o c a (Word w ∷ ts) h = down o c (is_atomic w) ts h
  down o c a (Symbol OpenBrace ∷ ts) h = let same : suc o - suc c ≡ o - c = omega arith in (λ e. subst D same (h.0 e), down (suc o) c false ts h.1)
  down o c a (Symbol CloseBrace ∷ ts) h = down o (suc c) false ts h
  down o c a (Symbol _ ∷ ts) h = down o c false ts h

  pub up : (o c : ℕ) (a : Bool) (ts : List TokenKind) → Fine o c a ts → Fine (suc o) (suc c) a ts
  up o c a [] h = tt
  up o c a (Name n ∷ ts) h = (h.0, up o c false ts h.1)
  up o c a (Number n ∷ ts) h = (h.0, up o c false ts h.1)
  up o c a (Word w ∷ ts) h = up o c (is_atomic w) ts h
  up o c a (Symbol OpenBrace ∷ ts) h = let same : o - c ≡ suc o - suc c = omega arith in (λ e. subst D same (h.0 e), up (suc o) c false ts h.1)
  up o c a (Symbol CloseBrace ∷ ts) h = up o (suc c) false ts h
  up o c a (Symbol _ ∷ ts) h = up o c false ts h

-- ---- blocks that stand too deep

-- nothing is asked of names and numbers
abbrev pub AnyToken : TokenKind → Type 0
AnyToken t = Unit {0}

-- at most so many braces are open as are allowed
abbrev pub Shallow : ℕ → Type 0
Shallow d = d ≤ nesting_limit

-- whether a token is the word `atomic`
abbrev is_atomic_word : Option TokenKind → Bool
is_atomic_word None = false
is_atomic_word (Some (Word w)) = is_atomic w
is_atomic_word (Some (Name n)) = false
is_atomic_word (Some (Number n)) = false
is_atomic_word (Some (Symbol s)) = false

-- whether `atomic` stands before a place
abbrev after_atomic : Bool → List TokenKind → ℕ → Bool
after_atomic a ts zero = a
after_atomic a ts (suc p) = is_atomic_word (slice_get ts p)

-- each block of these tokens has at most so many open braces before it, with those of the tokens before
abbrev BlocksShallow : ℕ → ℕ → Bool → List TokenKind → Type 0
BlocksShallow o c a ts = (p : ℕ) → slice_get ts p ≡ Some (Symbol OpenBrace) → after_atomic a ts p ≡ false → Shallow ((o + count_by is_open_brace (take p ts)) - (c + count_by is_close_brace (take p ts)))

-- one token on
on_token : (o c m n : ℕ) (a : Bool) (t : TokenKind) (ts : List TokenKind) → ((us : List TokenKind) → o + count_by is_open_brace (t ∷ us) ≡ m + count_by is_open_brace us)
    → ((us : List TokenKind) → c + count_by is_close_brace (t ∷ us) ≡ n + count_by is_close_brace us) → BlocksShallow o c a (t ∷ ts) → BlocksShallow m n (is_atomic_word (Some t)) ts
on_token o c m n a t ts e f h zero brace free = subst (λ d. Shallow (d - (n + 0))) (e []) (subst (λ d. Shallow (o + count_by is_open_brace (t ∷ []) - d)) (f []) (h 1 brace free))
on_token o c m n a t ts e f h (suc p) brace free =
    subst (λ d. Shallow (d - (n + count_by is_close_brace (take (suc p) ts)))) (e (take (suc p) ts)) (subst (λ d. Shallow (o + count_by is_open_brace (t ∷ take (suc p) ts) - d)) (f (take (suc p) ts)) (h (suc (suc p)) brace free))

one_open : (o : ℕ) (us : List TokenKind) → o + count_by is_open_brace (Symbol OpenBrace ∷ us) ≡ suc o + count_by is_open_brace us
one_open o us = let more : count_by is_open_brace (Symbol OpenBrace ∷ us) ≡ 1 + count_by is_open_brace us = sum_by-cons (λ (t : TokenKind). cond (is_open_brace t) 1 0) (Symbol OpenBrace) us in omega arith

one_close : (c : ℕ) (us : List TokenKind) → c + count_by is_close_brace (Symbol CloseBrace ∷ us) ≡ suc c + count_by is_close_brace us
one_close c us = let more : count_by is_close_brace (Symbol CloseBrace ∷ us) ≡ 1 + count_by is_close_brace us = sum_by-cons (λ (t : TokenKind). cond (is_close_brace t) 1 0) (Symbol CloseBrace) us in omega arith

fine_shallow : (o c : ℕ) (a : Bool) (ts : List TokenKind) → BlocksShallow o c a ts → Fine AnyToken Shallow o c a ts
fine_shallow o c a [] h = tt
fine_shallow o c a (Name n ∷ ts) h = (tt, fine_shallow o c false ts (on_token o c o c a (Name n) ts (λ us. omega arith) (λ us. omega arith) h))
fine_shallow o c a (Number n ∷ ts) h = (tt, fine_shallow o c false ts (on_token o c o c a (Number n) ts (λ us. omega arith) (λ us. omega arith) h))
fine_shallow o c a (Word w ∷ ts) h = fine_shallow o c (is_atomic w) ts (on_token o c o c a (Word w) ts (λ us. omega arith) (λ us. omega arith) h)
fine_shallow o c a (Symbol OpenBrace ∷ ts) h =
    (λ e. let same : (o + 0) - (c + 0) ≡ o - c = omega arith in subst Shallow same (h 0 refl e), fine_shallow (suc o) c false ts (on_token o c (suc o) c a (Symbol OpenBrace) ts (one_open o) (λ us. omega arith) h))
fine_shallow o c a (Symbol CloseBrace ∷ ts) h = fine_shallow o (suc c) false ts (on_token o c o (suc c) a (Symbol CloseBrace) ts (λ us. omega arith) (one_close c) h)
fine_shallow o c a (Symbol s ∷ ts) h = fine_shallow o c false ts (on_token o c o c a (Symbol s) ts (λ us. omega arith) (λ us. omega arith) h)

-- one token back
after_token : (o c m n : ℕ) (a : Bool) (t : TokenKind) (ts : List TokenKind) → ((us : List TokenKind) → m + count_by is_open_brace us ≡ o + count_by is_open_brace (t ∷ us))
    → ((us : List TokenKind) → n + count_by is_close_brace us ≡ c + count_by is_close_brace (t ∷ us)) → (t ≡ Symbol OpenBrace → a ≡ false → Shallow (o - c)) → BlocksShallow m n (is_atomic_word (Some t)) ts → BlocksShallow o c a (t ∷ ts)
after_token o c m n a t ts e f here h zero brace free = let same : o - c ≡ (o + 0) - (c + 0) = omega arith in subst Shallow same (here (cc) free)
after_token o c m n a t ts e f here h (suc zero) brace free =
    subst (λ d. Shallow (d - (c + count_by is_close_brace (t ∷ [])))) (e []) (subst (λ d. Shallow (m + count_by is_open_brace [] - d)) (f []) (h 0 brace free))
after_token o c m n a t ts e f here h (suc (suc p)) brace free =
    subst (λ d. Shallow (d - (c + count_by is_close_brace (t ∷ take (suc p) ts)))) (e (take (suc p) ts)) (subst (λ d. Shallow (m + count_by is_open_brace (take (suc p) ts) - d)) (f (take (suc p) ts)) (h (suc p) brace free))

shallow_fine : (o c : ℕ) (a : Bool) (ts : List TokenKind) → Fine AnyToken Shallow o c a ts → BlocksShallow o c a ts
shallow_fine o c a [] h = λ p brace free. absurd cc
shallow_fine o c a (Name n ∷ ts) h = after_token o c o c a (Name n) ts (λ us. omega arith) (λ us. omega arith) (λ e. absurd cc) (shallow_fine o c false ts h.1)
shallow_fine o c a (Number n ∷ ts) h = after_token o c o c a (Number n) ts (λ us. omega arith) (λ us. omega arith) (λ e. absurd cc) (shallow_fine o c false ts h.1)
shallow_fine o c a (Word w ∷ ts) h = after_token o c o c a (Word w) ts (λ us. omega arith) (λ us. omega arith) (λ e. absurd cc) (shallow_fine o c (is_atomic w) ts h)
shallow_fine o c a (Symbol OpenBrace ∷ ts) h = after_token o c (suc o) c a (Symbol OpenBrace) ts (λ us. sym (one_open o us)) (λ us. omega arith) (λ e. h.0) (shallow_fine (suc o) c false ts h.1)
shallow_fine o c a (Symbol CloseBrace ∷ ts) h = after_token o c o (suc c) a (Symbol CloseBrace) ts (λ us. omega arith) (λ us. sym (one_close c us)) (λ e. absurd cc) (shallow_fine o (suc c) false ts h)
shallow_fine o c a (Symbol s ∷ ts) h = after_token o c o c a (Symbol s) ts (λ us. omega arith) (λ us. omega arith) (λ e. absurd cc) (shallow_fine o c false ts h)

-- a place after another token
no_atomic : (o : Option TokenKind) → is_atomic_word o ≡ false → o ≢ Some (Word Atomic)
no_atomic o e h = let same : is_atomic_word o ≡ true = ap is_atomic_word h in absurd cc

other_word : (o : Option TokenKind) → o ≢ Some (Word Atomic) → is_atomic_word o ≡ false
other_word None h = refl
other_word (Some (Word Atomic)) h = absurd (h refl)
other_word (Some (Word _)) h = refl
other_word (Some (Name n)) h = refl
other_word (Some (Number n)) h = refl
other_word (Some (Symbol s)) h = refl

opens_block : (ts : List TokenKind) (p : ℕ) → slice_get ts p ≡ Some (Symbol OpenBrace) → after_atomic false ts p ≡ false → OpensBlockAt ts p
opens_block ts zero brace free = record { brace = brace; of_block = λ e. absurd cc }
opens_block ts (suc p) brace free = let same : suc p - 1 ≡ p = omega arith in record { brace = brace; of_block = rw same (no_atomic (slice_get ts p) free) }

block_free : (ts : List TokenKind) (p : ℕ) → OpensBlockAt ts p → after_atomic false ts p ≡ false
block_free ts zero h = refl
block_free ts (suc p) h = let same : suc p - 1 ≡ p = omega arith in other_word (slice_get ts p) (subst (λ k. slice_get ts k ≢ Some (Word Atomic)) same h.of_block)

none_too_deep : (ts : List TokenKind) → NoneTooDeep ts → BlocksShallow 0 0 false ts
none_too_deep ts h p brace free = by (nat_le depth nesting_limit) refl
  where
    depth : ℕ
    depth = (0 + count_by is_open_brace (take p ts)) - (0 + count_by is_close_brace (take p ts))

    by : (b : Bool) → nat_le depth nesting_limit ≡ b → Shallow depth
    by true e = leb-true depth nesting_limit e
    by false e = let more = leb-false depth nesting_limit e in absurd (h p (record { opens = opens_block ts p brace free; deep = omega arith }))

all_shallow : (ts : List TokenKind) → BlocksShallow 0 0 false ts → NoneTooDeep ts
all_shallow ts h p deep = let few = h p deep.opens.brace (block_free ts p deep.opens) in let many = deep.deep in omega arith

-- no block stands too deep exactly where the braces are fine from the left
pub shallow_tokens : (ts : List TokenKind) → NoneTooDeep ts → Fine AnyToken Shallow 0 0 false ts
shallow_tokens ts h = fine_shallow 0 0 false ts (none_too_deep ts h)

pub tokens_shallow : (ts : List TokenKind) → Fine AnyToken Shallow 0 0 false ts → NoneTooDeep ts
tokens_shallow ts h = all_shallow ts (shallow_fine 0 0 false ts h)
