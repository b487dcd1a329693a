-- What a reader reads are the tokens of a tree in which each place is that of its token, or the beginning of a tree's
-- up to the first token that doesn't fit; and to what it read neither what comes after that token makes a difference
-- nor more fuel. Readers that are put together of such readers are such readers: the law of each is found by its shape.
use Rattle.std.proofs.Common.{◌≡◌, ◌∙◌, ◌+◌, ◌<◌, ◌≤◌, ℕ, Bool, true, false, cond, Some, None, List, [], ◌∷◌, ◌++◌}
use Rattle.std.proofs.Common.{length, map, Ok, Err, refl, sym, ap, subst, inl, inr, arith, rules, lit≤}
use Rattle.std.proofs.lemmas.Bool.{cases_Bool}
use Rattle.std.proofs.lemmas.List.{append_assoc, length-append}
use Rattle.std.specs.List.{AllByRecursion}
use denote.Enum.Bare.{sameb, same_true}
use Rattle.plc_lex.specs.contracts.token.Symbol as punctuation
use Rattle.plc_lex.specs.contracts.token.Keyword as keyword
use Rattle.plc_lex.specs.declared.token.TokenKind.{TokenKind}
use Rattle.plc_lex.specs.declared.token.TokenKind.TheVariants.{Word, Name, Number, Symbol}
use Rattle.plc_lex.specs.declared.token.Keyword.{Keyword}
use Rattle.plc_lex.specs.declared.token.Symbol.{Symbol as Punctuation}
use Rattle.plc_lex.specs.Characters.{keyword_of, keywords}
use Rattle.plc_lex.specs.Stops.{IsKind, IsName}
use Rattle.plc_syntax.specs.Trees.{Text, Placed, Piece, Pieces, plain, token_at, word, symbol, name, numeral}
use Rattle.plc_syntax.specs.Trees.{from_place, placed_then, kinds_of, AreInPlace}
use Rattle.plc_syntax.specs.Syntax.{Spelling, AreOf}
use Rattle.plc_syntax.specs.Forms.{Read, Reader, Pass, ◌>>=◌, ◌>>◌, Next, chosen, led, at_place, placed_of, word_of}
use Rattle.plc_syntax.specs.Forms.{symbol_of, ended_by, name_next, name_of, name_and, number_next, number_of}
use Rattle.plc_syntax.proofs.Pieces.{Tokens, kinds_append, kinds_before, kinds_plain, count_before, in_place_append}
use Rattle.plc_syntax.proofs.Pieces.{plain_in_place, from_kinds, from_length, from_in_place, from_before, rest_from}
use Rattle.plc_syntax.proofs.Pieces.{rest_kinds, rest_before}

-- a reader with fuel
abbrev pub Fuelled : Type 0 → Type 0
Fuelled X = ℕ → Reader X

abbrev pub same : Pieces → Pieces
same q = q

-- both are empty, or both begin with one token
abbrev pub SameHead : Tokens → Tokens → Type 0
SameHead [] us = us ≡ []
SameHead (t ∷ ts) us = (vs : Tokens) × (us ≡ t ∷ vs)

pub same_after : (p r q : Tokens) → SameHead r q → SameHead (p ++ r) (p ++ q)
same_after [] r q h = h
same_after (t ∷ p) r q h = (p ++ q, refl)

-- a tree was read: after what was passed before, its tokens are those that were passed now
pub record Whole {X : Type 0} (s : Spelling X) (pre : Pieces → Pieces) (f : Fuelled X) (n at : ℕ) (ts : Tokens) (x : X)
    (after : ℕ) (r : Tokens) : Type 0 where
  pub passed : Pieces
  pub split : ts ≡ kinds_of passed ++ r
  pub place : after ≡ at + length passed
  pub in_place : AreInPlace at passed
  pub spelled : (q : Pieces) → s x q ≡ pre (passed ++ q)
  pub alike : (m : ℕ) (q : Tokens) → n ≤ m → SameHead r q → f m at (kinds_of passed ++ q) ≡ Ok (x, after, q)

-- no tree was read: some tree goes on from what was passed
pub record Stuck {X : Type 0} (s : Spelling X) (pre : Pieces → Pieces) (f : Fuelled X) (n at : ℕ) (ts : Tokens)
    (after : ℕ) : Type 0 where
  pub passed : Pieces
  pub left : Tokens
  pub split : ts ≡ kinds_of passed ++ left
  pub place : after ≡ at + length passed
  pub tree : X
  pub rest : Pieces
  pub fine : AllByRecursion IsKind (kinds_of rest)
  pub goes_on : (q : Pieces) → s tree q ≡ pre (passed ++ (rest ++ q))
  pub alike : (m : ℕ) (q : Tokens) → n ≤ m → SameHead left q → f m at (kinds_of passed ++ q) ≡ Err after

abbrev pub WholeOrStuck : {X : Type 0} → Spelling X → (Pieces → Pieces) → Fuelled X → ℕ → ℕ → Tokens → Read X → Type 0
WholeOrStuck s pre f n at ts (Ok y) = Whole s pre f n at ts y.0 y.1 y.2
WholeOrStuck s pre f n at ts (Err e) = Stuck s pre f n at ts e

-- what was read, one of the two
pub record Is {X : Type 0} (s : Spelling X) (pre : Pieces → Pieces) (f : Fuelled X) (n at : ℕ) (ts : Tokens)
    (o : Read X) : Type 0 where
  pub read : WholeOrStuck s pre f n at ts o

-- with fuel for all of the tokens
abbrev pub Law : {X : Type 0} → ℕ → Spelling X → (Pieces → Pieces) → Fuelled X → Type 0
Law n s pre f = (at : ℕ) (ts : Tokens) → length ts < n → Is s pre f n at ts (f n at ts)

-- with fuel for all but the first of the tokens, where there is one
abbrev pub Early : {X : Type 0} → ℕ → Spelling X → (Pieces → Pieces) → Fuelled X → Type 0
Early n s pre f = (at : ℕ) (t : TokenKind) (ts : Tokens) → length ts < n → Is s pre f n at (t ∷ ts) (f n at (t ∷ ts))

nothing : (p : Pieces) (r : Tokens) → [] ≡ kinds_of p ++ r → p ≡ []
nothing [] r e = refl
nothing (t ∷ p) r e = cc

all_after : (p q : Pieces) → AllByRecursion IsKind (kinds_of p) → AllByRecursion IsKind (kinds_of q)
    → AllByRecursion IsKind (kinds_of (p ++ q))
all_after [] q h k = k
all_after (t ∷ p) q h k = (h.0, all_after p q h.1 k)

-- ---- nothing more is read

pub last : {X : Type 0} {n : ℕ} {s : Spelling X} {pre : Pieces → Pieces} {x : X} → ((q : Pieces) → s x q ≡ pre q)
    → Law n s pre (λ m at ts. Ok (x, at, ts))
last h at ts l = record {
  read = record { passed = []; split = refl; place = omega arith; in_place = tt; spelled = h; alike = λ m q l e. refl };
}

-- how some tree goes on
pub record Sample {X : Type 0} (s : Spelling X) (pre : Pieces → Pieces) : Type 0 where
  pub tree : X
  pub rest : Pieces
  pub fine : AllByRecursion IsKind (kinds_of rest)
  pub goes_on : (q : Pieces) → s tree q ≡ pre (rest ++ q)

module _ {X : Type 0} (n : ℕ) (s : Spelling X) (pre : Pieces → Pieces) where
  -- the first token doesn't fit
  refused : (f : Fuelled X) → Sample s pre → (at : ℕ) (ts : Tokens)
      → ((m : ℕ) (q : Tokens) → n ≤ m → SameHead ts q → f m at q ≡ Err at) → Is s pre f n at ts (Err at)
  refused f x at ts alike = record {
    read = record {
      passed = [];
      left = ts;
      split = refl;
      place = omega arith;
      tree = x.tree;
      rest = x.rest;
      fine = x.fine;
      goes_on = x.goes_on;
      alike = alike;
    };
  }

  -- the first token is passed
  step : (f g : Fuelled X) (at : ℕ) (t : Piece) (ts : Tokens) (o : Read X) → AllByRecursion
      (λ place. place ≡ at) t.places
      → ((m : ℕ) (q : Tokens) → n ≤ m → f m at (t.kind ∷ q) ≡ g m (at + 1) q)
      → Is s (λ q. pre (t ∷ q)) g n (at + 1) ts o → Is s pre f n at (t.kind ∷ ts) o
  step f g at t ts (Ok y) here agree w = let h = w.read in record {
    read = record {
      passed = t ∷ h.passed;
      split = ap (λ us. t.kind ∷ us) h.split;
      place = let p = h.place in omega arith;
      in_place = (here, h.in_place);
      spelled = h.spelled;
      alike = λ m q l e. agree m (kinds_of h.passed ++ q) l ∙ h.alike m q l e;
    };
  }
  step f g at t ts (Err e) here agree w = let h = w.read in record {
    read = record {
      passed = t ∷ h.passed;
      left = h.left;
      split = ap (λ us. t.kind ∷ us) h.split;
      place = let p = h.place in omega arith;
      tree = h.tree;
      rest = h.rest;
      fine = h.fine;
      goes_on = h.goes_on;
      alike = λ m q l e. agree m (kinds_of h.passed ++ q) l ∙ h.alike m q l e;
    };
  }

  -- at this first token a reader does as another
  instead : (f g : Fuelled X) (at : ℕ) (ts : Tokens) (o : Read X)
      → ((m : ℕ) (q : Tokens) → n ≤ m → SameHead ts q → f m at q ≡ g m at q)
      → Is s pre g n at ts o → Is s pre f n at ts o
  instead f g at ts (Ok y) agree w = let h = w.read in record {
    read = record {
      passed = h.passed;
      split = h.split;
      place = h.place;
      in_place = h.in_place;
      spelled = h.spelled;
      alike = λ m q l e. agree m (kinds_of h.passed ++ q) l
          (subst (λ us. SameHead us (kinds_of h.passed ++ q)) (sym h.split) (same_after (kinds_of h.passed) y.2 q e))
          ∙ h.alike m q l e;
    };
  }
  instead f g at ts (Err at') agree w = let h = w.read in record {
    read = record {
      passed = h.passed;
      left = h.left;
      split = h.split;
      place = h.place;
      tree = h.tree;
      rest = h.rest;
      fine = h.fine;
      goes_on = h.goes_on;
      alike = λ m q l e. agree m (kinds_of h.passed ++ q) l
          (subst (λ us. SameHead us (kinds_of h.passed ++ q)) (sym h.split)
          (same_after (kinds_of h.passed) h.left q e)) ∙ h.alike m q l e;
    };
  }

  sample_of : (f : Fuelled X) (at : ℕ) (o : Read X) → Is s pre f n at [] o → Sample s pre
  sample_of f at (Ok y) w = let h = w.read in record {
    tree = y.0;
    rest = [];
    fine = tt;
    goes_on = λ q. h.spelled q ∙ ap (λ p. pre (p ++ q)) (nothing h.passed y.2 h.split);
  }
  sample_of f at (Err e) w = let h = w.read in record {
    tree = h.tree;
    rest = h.rest;
    fine = h.fine;
    goes_on = λ q. h.goes_on q ∙ ap (λ p. pre (p ++ (h.rest ++ q))) (nothing h.passed h.left h.split);
  }

  pub sample : (f : Fuelled X) → 0 < n → Law n s pre f → Sample s pre
  sample f l law = sample_of f 0 (f n 0 []) (law 0 [] l)

pub fault : {X : Type 0} {n : ℕ} {s : Spelling X} {pre : Pieces → Pieces} (x : X) (rest : Pieces)
    → AllByRecursion IsKind (kinds_of rest) → ((q : Pieces) → s x q ≡ pre (rest ++ q)) → Law n s pre (λ m at ts. Err at)
fault {n = n} {s = s} {pre = pre} x rest fine goes at ts l =
    refused n s pre (λ m at ts. Err at) (record { tree = x; rest = rest; fine = fine; goes_on = goes }) at ts
    (λ m q k e. refl)

pub early_fault : {X : Type 0} {n : ℕ} {s : Spelling X} {pre : Pieces → Pieces} (x : X) (rest : Pieces)
    → AllByRecursion IsKind (kinds_of rest) → ((q : Pieces) → s x q ≡ pre (rest ++ q)) → Early n s pre
    (λ m at ts. Err at)
early_fault {n = n} {s = s} {pre = pre} x rest fine goes at t ts l =
    refused n s pre (λ m at ts. Err at) (record { tree = x; rest = rest; fine = fine; goes_on = goes }) at (t ∷ ts)
    (λ m q k e. refl)

-- ---- the first token

-- what a form begins with at a place, and what is read after it
pub data Choice {X : Type 0} (n : ℕ) (s : Spelling X) (pre : Pieces → Pieces) (next : ℕ → Next X) (at : ℕ)
    (t : TokenKind) : Type 0 where
  passes : (places : List ℕ) → AllByRecursion (λ place. place ≡ at) places → (g : Fuelled X)
      → ((m : ℕ) → next m at t ≡ Some (λ at ts. g m at ts))
      → Law n s (λ q. pre (record { kind = t; places = places } ∷ q)) g → Choice n s pre next at t
  leaves : ((m : ℕ) → next m at t ≡ None) → Choice n s pre next at t

module _ {X : Type 0} {n : ℕ} {s : Spelling X} {pre : Pieces → Pieces} {next : ℕ → Next X} {at : ℕ} {t : TokenKind}
    (g : Fuelled X) (is : (m : ℕ) → next m at t ≡ Some (λ at ts. g m at ts)) where
  -- a token to which the tree gives no place
  pub takes : Law n s (λ q. pre (plain t ∷ q)) g → Choice n s pre next at t
  takes law = passes [] tt g is law

  -- a token to which it gives its place
  pub takes_at : Law n s (λ q. pre (token_at at t ∷ q)) g → Choice n s pre next at t
  takes_at law = passes (at ∷ []) (refl, tt) g is law

module _ {X : Type 0} (n : ℕ) (s : Spelling X) (pre : Pieces → Pieces) (next : ℕ → Next X) (other : Fuelled X) where
  abbrev led_by : Fuelled X
  led_by m at ts = led (next m) (other m at ts) at ts

  led_there : (at : ℕ) (t : TokenKind) (ts : Tokens) → length ts < n → Choice n s pre next at t
      → Is s pre other n at (t ∷ ts) (other n at (t ∷ ts)) → Is s pre led_by n at (t ∷ ts) (led_by n at (t ∷ ts))
  led_there at t ts l (passes places here g e law) h =
      subst (λ o. Is s pre led_by n at (t ∷ ts) o) (sym (ap (λ o. chosen o (other n at (t ∷ ts)) (at + 1) ts) (e n)))
      (step n s pre led_by g at (record { kind = t; places = places }) ts (g n (at + 1) ts) here
      (λ m q k. ap (λ o. chosen o (other m at (t ∷ q)) (at + 1) q) (e m)) (law (at + 1) ts l))
  led_there at t ts l (leaves e) h =
      subst (λ o. Is s pre led_by n at (t ∷ ts) o) (sym (ap (λ o. chosen o (other n at (t ∷ ts)) (at + 1) ts) (e n)))
      (instead n s pre led_by other at (t ∷ ts) (other n at (t ∷ ts))
      (λ m q k (vs, h). rw h (ap (λ o. chosen o (other m at (t ∷ vs)) (at + 1) vs) (e m))) h)

  led_all : ((at : ℕ) (t : TokenKind) → Choice n s pre next at t) → Law n s pre other → Law n s pre led_by
  led_all choices law at [] l =
      instead n s pre led_by other at [] (other n at []) (λ m q k h. rw h refl) (law at [] l)
  led_all choices law at (t ∷ ts) l = led_there at t ts (omega arith) (choices at t) (law at (t ∷ ts) l)

pub led_law : {X : Type 0} {n : ℕ} {s : Spelling X} {pre : Pieces → Pieces} {next : ℕ → Next X} {other : Fuelled X}
    → ((at : ℕ) (t : TokenKind) → Choice n s pre next at t) → Law n s pre (λ m at ts. other m at ts)
    → Law n s pre (λ m at ts. led (next m) (other m at ts) at ts)
led_law {n = n} {s = s} {pre = pre} {next = next} {other = other} choices law = led_all n s pre next other choices law

pub early_led : {X : Type 0} {n : ℕ} {s : Spelling X} {pre : Pieces → Pieces} {next : ℕ → Next X} {other : Fuelled X}
    → ((at : ℕ) (t : TokenKind) → Choice n s pre next at t) → Early n s pre (λ m at ts. other m at ts)
    → Early n s pre (λ m at ts. led (next m) (other m at ts) at ts)
early_led {n = n} {s = s} {pre = pre} {next = next} {other = other} choices law at t ts l =
    led_there n s pre next other at t ts l (choices at t) (law at t ts l)

-- ---- one form after another

module _ {A X : Type 0} (n : ℕ) (sA : Spelling A) (preA : Pieces → Pieces) (s : Spelling X) (c : Pieces → Pieces)
    (fA : Fuelled A) (g : A → Fuelled X) where
  abbrev after : Fuelled X
  after m at ts = fA m at ts >>= λ a at ts. g a m at ts

  pub joined : (at : ℕ) (ts : Tokens) (a : A) (at1 : ℕ) (r1 : Tokens) → Whole sA preA fA n at ts a at1 r1
      → (o : Read X) → Is s (λ q. c (sA a q)) (g a) n at1 r1 o → Is s (λ q. c (preA q)) after n at ts o
  joined at ts a at1 r1 h (Ok y) w = let k = w.read in record {
    read = record {
      passed = h.passed ++ k.passed;
      split = h.split ∙ ap (λ us. kinds_of h.passed ++ us) k.split ∙ sym (kinds_append h.passed k.passed y.2);
      place = let p = h.place in let q = k.place in omega (arith, length-append h.passed k.passed);
      in_place = in_place_append h.passed k.passed at h.in_place
          (subst (λ m. AreInPlace m k.passed) h.place k.in_place);
      spelled = λ q. k.spelled q ∙ ap c (h.spelled (k.passed ++ q))
          ∙ ap (λ us. c (preA us)) (sym (append_assoc h.passed k.passed q));
      alike = λ m q l e.
          ap (λ us. after m at us) (kinds_append h.passed k.passed q)
          ∙ ap (λ o. o >>= λ a at ts. g a m at ts) (h.alike m (kinds_of k.passed ++ q) l
          (subst (λ r. SameHead r (kinds_of k.passed ++ q)) (sym k.split) (same_after (kinds_of k.passed) y.2 q e)))
          ∙ k.alike m q l e;
    };
  }
  joined at ts a at1 r1 h (Err e) w = let k = w.read in record {
    read = record {
      passed = h.passed ++ k.passed;
      left = k.left;
      split = h.split ∙ ap (λ us. kinds_of h.passed ++ us) k.split ∙ sym (kinds_append h.passed k.passed k.left);
      place = let p = h.place in let q = k.place in omega (arith, length-append h.passed k.passed);
      tree = k.tree;
      rest = k.rest;
      fine = k.fine;
      goes_on = λ q. k.goes_on q ∙ ap c (h.spelled (k.passed ++ (k.rest ++ q)))
          ∙ ap (λ us. c (preA us)) (sym (append_assoc h.passed k.passed (k.rest ++ q)));
      alike = λ m q l e.
          ap (λ us. after m at us) (kinds_append h.passed k.passed q)
          ∙ ap (λ o. o >>= λ a at ts. g a m at ts) (h.alike m (kinds_of k.passed ++ q) l
          (subst (λ r. SameHead r (kinds_of k.passed ++ q)) (sym k.split)
          (same_after (kinds_of k.passed) k.left q e)))
          ∙ k.alike m q l e;
    };
  }

  pub broken : (at : ℕ) (ts : Tokens) (e : ℕ) (h : Stuck sA preA fA n at ts e) → Sample s (λ q. c (sA h.tree q))
      → Is s (λ q. c (preA q)) after n at ts (Err e)
  broken at ts e h k = record {
    read = record {
      passed = h.passed;
      left = h.left;
      split = h.split;
      place = h.place;
      tree = k.tree;
      rest = h.rest ++ k.rest;
      fine = all_after h.rest k.rest h.fine k.fine;
      goes_on = λ q. k.goes_on q ∙ ap c (h.goes_on (k.rest ++ q))
          ∙ ap (λ us. c (preA (h.passed ++ us))) (sym (append_assoc h.rest k.rest q));
      alike = λ m q l e. ap (λ o. o >>= λ a at ts. g a m at ts) (h.alike m q l e);
    };
  }

  both : (at : ℕ) (ts : Tokens) → length ts < n → (o : Read A) → Is sA preA fA n at ts o
      → ((a : A) → Law n s (λ q. c (sA a q)) (g a))
      → Is s (λ q. c (preA q)) after n at ts (o >>= λ a at ts. g a n at ts)
  both at ts l (Ok a) w law =
      let h = w.read in
      let whole = ap length h.split in
      joined at ts a.0 a.1 a.2 h (g a.0 n a.1 a.2)
      (law a.0 a.1 a.2 (omega (arith, count_before h.passed a.2)))
  both at ts l (Err e) w law =
      let h = w.read in broken at ts e h (sample n s (λ q. c (sA h.tree q)) (g h.tree) (omega arith) (law h.tree))

  then_after : Law n sA preA fA → ((a : A) → Law n s (λ q. c (sA a q)) (g a)) → Law n s (λ q. c (preA q)) after
  then_after first law at ts l = both at ts l (fA n at ts) (first at ts l) law

-- a form with all its tokens, and then another
pub then_form : {A X : Type 0} {n : ℕ} {sA : Spelling A} {s : Spelling X} {c : Pieces → Pieces} {fA : Fuelled A}
    {g : A → Fuelled X} → Law n sA same fA → ((a : A) → Law n s (λ q. c (sA a q)) (λ m at ts. g a m at ts))
    → Law n s c (λ m at ts. fA m at ts >>= λ a at ts. g a m at ts)
then_form {n = n} {sA = sA} {s = s} {c = c} {fA = fA} {g = g} first law = then_after n sA same s c fA g first law

-- a form of which some tokens were passed, and then what is made of it
pub then_whole : {A X : Type 0} {n : ℕ} {sA : Spelling A} {pre : Pieces → Pieces} {s : Spelling X} {fA : Fuelled A}
    {g : A → Fuelled X} → Law n sA pre fA → ((a : A) → Law n s (λ q. sA a q) (λ m at ts. g a m at ts))
    → Law n s pre (λ m at ts. fA m at ts >>= λ a at ts. g a m at ts)
then_whole {n = n} {sA = sA} {pre = pre} {s = s} {fA = fA} {g = g} first law =
    then_after n sA pre s same fA g first law

-- the same with more before
pub within : {X : Type 0} {n : ℕ} {s : Spelling X} {f : Fuelled X} (c : Pieces → Pieces) → Law n s same f
    → Law n (λ x q. c (s x q)) c f
within {X = X} {n = n} {s = s} {f = f} c law at ts l = by (f n at ts) (law at ts l)
  where
    by : (o : Read X) → Is s same f n at ts o → Is (λ x q. c (s x q)) c f n at ts o
    by (Ok y) w = let h = w.read in record {
      read = record {
        passed = h.passed;
        split = h.split;
        place = h.place;
        in_place = h.in_place;
        spelled = λ q. ap c (h.spelled q);
        alike = h.alike;
      };
    }
    by (Err e) w = let h = w.read in record {
      read = record {
        passed = h.passed;
        left = h.left;
        split = h.split;
        place = h.place;
        tree = h.tree;
        rest = h.rest;
        fine = h.fine;
        goes_on = λ q. ap c (h.goes_on q);
        alike = h.alike;
      };
    }

-- a reader without fuel has it for any tokens
pub any_fuel : {X : Type 0} {s : Spelling X} {pre : Pieces → Pieces} {f : ℕ → Tokens → Read X}
    → ((n : ℕ) → Law n s pre (λ m at ts. f at ts)) → (n : ℕ) → Early n s pre (λ m at ts. f at ts)
any_fuel {X = X} {s = s} {pre = pre} {f = f} law n at t ts l =
    by (f at (t ∷ ts)) (law (length (t ∷ ts) + 1) at (t ∷ ts) (omega arith))
  where
    by : (o : Read X) → Is s pre (λ m at ts. f at ts) (length (t ∷ ts) + 1) at (t ∷ ts) o
        → Is s pre (λ m at ts. f at ts) n at (t ∷ ts) o
    by (Ok y) w = let h = w.read in record {
      read = record {
        passed = h.passed;
        split = h.split;
        place = h.place;
        in_place = h.in_place;
        spelled = h.spelled;
        alike = λ m q k e. h.alike (length (t ∷ ts) + 1) q (omega arith) e;
      };
    }
    by (Err e) w = let h = w.read in record {
      read = record {
        passed = h.passed;
        left = h.left;
        split = h.split;
        place = h.place;
        tree = h.tree;
        rest = h.rest;
        fine = h.fine;
        goes_on = h.goes_on;
        alike = λ m q k e. h.alike (length (t ∷ ts) + 1) q (omega arith) e;
      };
    }

-- ---- single tokens

-- the test by which a reader that passes the token `k` alone passes `t`
abbrev PassesAlone : TokenKind → (ℕ → Tokens → Pass) → TokenKind → Type 0
PassesAlone k pass t = (b : Bool) × (b ≡ true → t ≡ k)
    × ((at : ℕ) (q : Tokens) → pass at (t ∷ q) ≡ cond b (Ok (at + 1, q)) (Err at))

-- such a reader, and then the rest
module _ {X : Type 0} {n : ℕ} {s : Spelling X} {pre : Pieces → Pieces} {g : Fuelled X} (k : TokenKind) (fine : IsKind k)
    (pass : ℕ → Tokens → Pass) (none : (at : ℕ) → pass at [] ≡ Err at) (first : (t : TokenKind) → PassesAlone k pass t)
    (law : Law n s (λ q. pre (plain k ∷ q)) g) where
  other_token : (at : ℕ) (ts : Tokens) → 0 < n → ((q : Tokens) → SameHead ts q → pass at q ≡ Err at)
      → Is s pre (λ m at ts. pass at ts >> λ at ts. g m at ts) n at ts (Err at)
  other_token at ts l alike =
      let e = sample n s (λ q. pre (plain k ∷ q)) g l law in
      let rest = plain k ∷ e.rest in
      refused n s pre _ (record { tree = e.tree; rest = rest; fine = (fine, e.fine); goes_on = e.goes_on }) at ts
      (λ m q l h. rw (alike q h) refl)

  then_token : Law n s pre (λ m at ts. pass at ts >> λ at ts. g m at ts)
  then_token at [] l = rw (none at) (other_token at [] l (λ q h. rw h (none at)))
  then_token at (t ∷ ts) l =
      let (b, is_k, reads) = first t in elim (cases_Bool b) [
        | inl e ↦ rw (reads at ts, e) (step n s pre _ g at (plain t) ts (g n (at + 1) ts) tt
            (λ m q h. rw (reads at q, e) refl) (rw (is_k e) (law (at + 1) ts (omega arith))))
        | inr e ↦ rw (reads at ts, e) (other_token at (t ∷ ts) (omega arith) (λ q (vs, h). rw (h, reads at vs, e) refl))
      ]

-- a symbol, and then the rest
pub then_symbol : {X : Type 0} {n : ℕ} {s : Spelling X} {pre : Pieces → Pieces} {g : Fuelled X} (k : Punctuation)
    → Law n s (λ q. pre (symbol k ∷ q)) (λ m at ts. g m at ts)
    → Law n s pre (λ m at ts. symbol_of k at ts >> λ at ts. g m at ts)
then_symbol k law = then_token (Symbol k) tt (symbol_of k) (λ at. refl) first law
  where
    first : (t : TokenKind) → PassesAlone (Symbol k) (symbol_of k) t
    first (Symbol j) =
        let equal = same_true punctuation.the_type (search rules) j k in
        (sameb punctuation.the_type j k, λ e. ap Symbol (equal e), λ at q. refl)
    first _ = (false, λ e. cc, λ at q. refl)

-- a word, and then the rest
pub then_word : {X : Type 0} {n : ℕ} {s : Spelling X} {pre : Pieces → Pieces} {g : Fuelled X} (k : Keyword)
    → Law n s (λ q. pre (word k ∷ q)) (λ m at ts. g m at ts)
    → Law n s pre (λ m at ts. word_of k at ts >> λ at ts. g m at ts)
then_word k law = then_token (Word k) tt (word_of k) (λ at. refl) first law
  where
    first : (t : TokenKind) → PassesAlone (Word k) (word_of k) t
    first (Word j) =
        let equal = same_true keyword.the_type (search rules) j k in
        (sameb keyword.the_type j k, λ e. ap Word (equal e), λ at q. refl)
    first _ = (false, λ e. cc, λ at q. refl)

-- the name `a`
abbrev pub a_name : Placed Text
a_name = at_place 0 (97 ∷ [])

pub a_name_fits : IsName a_name.value
unfolding keyword_of keywords
a_name_fits = record { first = refl; whole = refl; length_bound = lit≤ tt; no_keyword = refl }

abbrev pub name_then : Spelling (Placed Text)
name_then k q = name k ∷ q

name_choice : {n : ℕ} (at : ℕ) (t : TokenKind) → Choice n name_then same (λ m. name_next) at t
name_choice at (Name k) = takes_at _ (λ m. refl) (last (λ q. refl))
name_choice at _ = leaves (λ m. refl)

-- a name
pub name_law : {n : ℕ} → Law n name_then same (λ m at ts. name_of at ts)
name_law = led_law name_choice (fault a_name (name a_name ∷ []) (a_name_fits, tt) (λ q. refl))

-- a form and the symbol that ends it
pub ended_by_law : {X : Type 0} {n : ℕ} {s : Spelling X} {f : Fuelled X} (k : Punctuation)
    → Law n s same (λ m at ts. f m at ts) → Law n (λ x q. s x (symbol k ∷ q)) same (λ m at ts. ended_by k (f m) at ts)
ended_by_law k law = then_form law (λ x. then_symbol k (last (λ q. refl)))

-- a name and the symbol after it
pub name_and_law : {n : ℕ} (k : Punctuation) → Law n (λ x q. name x ∷ symbol k ∷ q) same (λ m at ts. name_and k at ts)
name_and_law k = ended_by_law k name_law

abbrev pub number_then : Spelling (Placed ℕ)
number_then k q = numeral k ∷ q

number_choice : {n : ℕ} (at : ℕ) (t : TokenKind) → Choice n number_then same (λ m. number_next) at t
number_choice at (Number k) = takes_at _ (λ m. refl) (last (λ q. refl))
number_choice at _ = leaves (λ m. refl)

-- a number
pub number_law : {n : ℕ} → Law n number_then same (λ m at ts. number_of at ts)
number_law = led_law number_choice (fault (at_place 0 0) (numeral (at_place 0 0) ∷ []) (lit≤ tt, tt) (λ q. refl))

-- ---- a form at its place

module _ {X : Type 0} {s : Spelling X} (some : (x : X) (q : Pieces) → s x q ≡ [] → ⊥) (n : ℕ) (f : Fuelled X) where
  placed_is : (at : ℕ) (ts : Tokens) (o : Read X) → Is s same f n at ts o
      → Is (placed_then s) same (λ m at ts. placed_of (f m) at ts) n at ts
      (o >>= λ x end ts. Ok (at_place at x, end, ts))
  placed_is at ts (Ok y) w =
      let h = w.read in
      let any : h.passed ≡ [] → ⊥ = λ e. some y.0 [] (h.spelled [] ∙ ap (λ p. p ++ []) e) in
      record {
        read = record {
          passed = from_place at h.passed;
          split = h.split ∙ ap (λ us. us ++ y.2) (sym (from_kinds at h.passed));
          place = let p = h.place in omega (arith, from_length at h.passed);
          in_place = from_in_place at h.passed h.in_place;
          spelled = λ q. ap (from_place at) (h.spelled q) ∙ from_before at h.passed any q;
          alike = λ m q l e. ap (λ us. placed_of (f m) at (us ++ q)) (from_kinds at h.passed)
              ∙ ap (λ o. o >>= λ x end ts. Ok (at_place at x, end, ts)) (h.alike m q l e);
        };
      }
  placed_is at ts (Err e) w =
      let h = w.read in
      let any : h.passed ++ (h.rest ++ []) ≡ [] → ⊥ = λ e. some h.tree [] (h.goes_on [] ∙ e) in
      record {
        read = record {
          passed = from_place at h.passed;
          left = h.left;
          split = h.split ∙ ap (λ us. us ++ h.left) (sym (from_kinds at h.passed));
          place = let p = h.place in omega (arith, from_length at h.passed);
          tree = at_place at h.tree;
          rest = rest_from at h.passed h.rest;
          fine = subst (λ us. AllByRecursion IsKind us) (sym (rest_kinds at h.passed h.rest)) h.fine;
          goes_on = λ q. ap (from_place at) (h.goes_on q) ∙ rest_before at h.passed h.rest any q;
          alike = λ m q l e. ap (λ us. placed_of (f m) at (us ++ q)) (from_kinds at h.passed)
              ∙ ap (λ o. o >>= λ x end ts. Ok (at_place at x, end, ts)) (h.alike m q l e);
        };
      }

pub placed_law : {X : Type 0} {n : ℕ} {s : Spelling X} {f : Fuelled X} → ((x : X) (q : Pieces) → s x q ≡ [] → ⊥)
    → Law n s same (λ m at ts. f m at ts) → Law n (placed_then s) same (λ m at ts. placed_of (f m) at ts)
placed_law {n = n} {f = f} some law at ts l = placed_is some n f at ts (f n at ts) (law at ts l)

pub early_placed : {X : Type 0} {n : ℕ} {s : Spelling X} {f : Fuelled X} → ((x : X) (q : Pieces) → s x q ≡ [] → ⊥)
    → Early n s same (λ m at ts. f m at ts) → Early n (placed_then s) same (λ m at ts. placed_of (f m) at ts)
early_placed {n = n} {f = f} some law at t ts l = placed_is some n f at (t ∷ ts) (f n at (t ∷ ts)) (law at t ts l)

-- ---- what was read

-- the tokens are the tree's that was read, and each place in it is that of its token
pub read_is_of : {X : Type 0} {s : Spelling X} {f : Fuelled X} (n at : ℕ) (ts : Tokens) (x : X) (end : ℕ) (r : Tokens)
    → Whole s same f n at ts x end r → AreOf s x at ts r
read_is_of {s = s} n at ts x end r h = record {
  tokens = h.split ∙ ap (λ us. kinds_of h.passed ++ us) (sym (kinds_plain r))
      ∙ sym (ap kinds_of (h.spelled (map plain r)) ∙ kinds_before h.passed (map plain r));
  places = subst (λ p. AreInPlace at p) (sym (h.spelled (map plain r)))
      (in_place_append h.passed (map plain r) at h.in_place (plain_in_place r (at + length h.passed)));
}
