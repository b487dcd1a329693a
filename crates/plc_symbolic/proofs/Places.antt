-- Lists of terms: the place of a term, and how lists grow when terms are noted.
use Rattle.std.proofs.Common.{◌≡◌, ℕ, zero, suc, ◌+◌, ◌≤◌, Bool, true, false, cond, List, [], ◌∷◌, ◌++◌, length, get_or, slice_get, ◌⊎◌, inl, inr, Some, None, ltb, refl, sym, ap, subst, ◌∙◌, arith, length-append}
use Rattle.std.specs.List.{list_any, position, position_or_len}
use Rattle.indexmap.specs.IndexSet.{insert_key}
use Rattle.std.proofs.lemmas.Bool.{ltb-true, lt-ltb, both_ways, cases_lt, cond-true, cond-false, eq-eqb, ne_eqb, false_from_ne_true}
use Rattle.std.proofs.lemmas.Option.{cond_some, none-some, same_Some, slice_get_within, get_or_from_slice_get, slice_get-get_or}
use Rattle.std.proofs.lemmas.List.Sums.{position_or_len_is, fails_before_first, passes_at_first}
use Rattle.std.proofs.lemmas.List.Folds.{position_or_len_push, Any-from_list_any, list_any_at}
use Rattle.plc_symbolic.specs.declared.symbolic.SymbolicTerm.{SymbolicTerm}
use Rattle.plc_symbolic.specs.declared.symbolic.SymbolicTerm.TheVariants.{Constant, Application}
use Rattle.plc_symbolic.specs.Terms.{term_of}
use Rattle.plc_symbolic.specs.Equality.{same_term_true, same_term_refl}
use Rattle.plc_symbolic.specs.Same.{same_term}
use Rattle.plc_symbolic.specs.Numbering.{put, place, IsListed}
use Rattle.plc_symbolic.specs.Tidy.{IsTidy}
use Rattle.plc_symbolic.specs.Growth.{HasArgument, Grows}

-- ---- places

-- a term stands at its place
pub place_read : (ts : List SymbolicTerm) (t d : SymbolicTerm) → IsListed ts t → get_or ts (place ts t) d ≡ t
unfolding place
place_read ts t d h = sym (same_term_true t (get_or ts (place ts t) d) (passes_at_first (same_term t) ts d h))

-- and not before it
pub place_first : (ts : List SymbolicTerm) (k : ℕ) (t : SymbolicTerm) → slice_get ts k ≡ Some t → place ts t ≤ k
unfolding place
place_first ts k t h = elim (cases_lt k (place ts t)) [
  | inl early ↦ absurd (both_ways (same_term t t) (subst (λ x. same_term t x ≡ false) (get_or_from_slice_get ts k t t h) (fails_before_first (same_term t) ts k t early)) (same_term_refl t))
  | inr le ↦ le
]

pub listed_at : (ts : List SymbolicTerm) (k : ℕ) (t : SymbolicTerm) → slice_get ts k ≡ Some t → IsListed ts t
listed_at ts k t h = omega (arith, place_first ts k t h, slice_get_within ts k t h)

any_listed : (ts : List SymbolicTerm) (t : SymbolicTerm) → list_any (same_term t) ts ≡ true → IsListed ts t
any_listed ts t h =
    let any = Any-from_list_any (same_term t) ts h in
    let here : slice_get ts any.0 ≡ Some t = slice_get-get_or ts any.0 any.1 any.2 ∙ ap Some (any.3 ∙ sym (same_term_true t any.1 any.4)) in
    listed_at ts any.0 t here

none_listed : (ts : List SymbolicTerm) (t : SymbolicTerm) → list_any (same_term t) ts ≡ false → place ts t ≡ length ts
unfolding place
none_listed ts t h = position_or_len_is (same_term t) ts (length ts) t (omega arith)
    (λ k lt. false_from_ne_true _ (λ same. both_ways (list_any (same_term t) ts) h (list_any_at (same_term t) ts k t lt same)))
    (λ lt. absurd (omega arith))

-- ---- one more term

put_old : (ts : List SymbolicTerm) (t : SymbolicTerm) → list_any (same_term t) ts ≡ true → put ts t ≡ ts
unfolding put
put_old ts t h = cond-true (list_any (same_term t) ts) ts (ts ++ t ∷ []) h

put_new : (ts : List SymbolicTerm) (t : SymbolicTerm) → list_any (same_term t) ts ≡ false → put ts t ≡ ts ++ t ∷ []
unfolding put
put_new ts t h = cond-false (list_any (same_term t) ts) ts (ts ++ t ∷ []) h

-- a term is listed and nothing changes, or it goes last
pub put_cases : (ts : List SymbolicTerm) (t : SymbolicTerm)
    → (IsListed ts t × (put ts t ≡ ts)) ⊎ ((place ts t ≡ length ts) × (put ts t ≡ ts ++ t ∷ []))
put_cases ts t = go (list_any (same_term t) ts) refl
  where
    go : (b : Bool) → list_any (same_term t) ts ≡ b
        → (IsListed ts t × (put ts t ≡ ts)) ⊎ ((place ts t ≡ length ts) × (put ts t ≡ ts ++ t ∷ []))
    go true e = inl (any_listed ts t e, put_old ts t e)
    go false e = inr (none_listed ts t e, put_new ts t e)

pub put_listed : (ts : List SymbolicTerm) (t : SymbolicTerm) → IsListed ts t → put ts t ≡ ts
put_listed ts t h = elim (put_cases ts t) [ inl old ↦ old.1 | inr new ↦ absurd (omega (arith, new.0)) ]

read_push : (ts : List SymbolicTerm) (u : SymbolicTerm) (k : ℕ) (t : SymbolicTerm) → slice_get ts k ≡ Some t → slice_get (ts ++ u ∷ []) k ≡ Some t
read_push [] u k t h = absurd (none-some t h)
read_push (x ∷ xs) u zero t h = h
read_push (x ∷ xs) u (suc k) t h = read_push xs u k t h

read_push_cases : (ts : List SymbolicTerm) (u : SymbolicTerm) (k : ℕ) (t : SymbolicTerm) → slice_get (ts ++ u ∷ []) k ≡ Some t
    → (slice_get ts k ≡ Some t) ⊎ ((k ≡ length ts) × (u ≡ t))
read_push_cases [] u zero t h = inr (refl, same_Some u t h)
read_push_cases [] u (suc k) t h = absurd (none-some t h)
read_push_cases (x ∷ xs) u zero t h = inl h
read_push_cases (x ∷ xs) u (suc k) t h = elim (read_push_cases xs u k t h) [
  | inl old ↦ inl old
  | inr new ↦ inr (ap suc new.0, new.1)
]

place_push : (ts : List SymbolicTerm) (u t : SymbolicTerm) → IsListed ts t → place (ts ++ u ∷ []) t ≡ place ts t
unfolding place
place_push ts u t h = position_or_len_push (same_term t) ts u ∙ cond-false _ _ _ (ne_eqb (place ts t) (length ts) (λ e. omega arith))

place_last : (ts : List SymbolicTerm) (t : SymbolicTerm) → place ts t ≡ length ts → place (ts ++ t ∷ []) t ≡ length ts
unfolding place
place_last ts t h = position_or_len_push (same_term t) ts t ∙ cond-true _ _ _ (eq-eqb (place ts t) (length ts) h)
    ∙ ap (λ b. length ts + cond b 0 1) (same_term_refl t) ∙ omega arith

-- ---- growing

pub grows_not : (ts : List SymbolicTerm) → Grows ts ts
grows_not ts = record { reads = λ k t h. h; places = λ t h. refl; longer = omega arith }

pub listed_grown : (ts us : List SymbolicTerm) (t : SymbolicTerm) → Grows ts us → IsListed ts t → IsListed us t
listed_grown ts us t g h = omega (arith, g.places t h, g.longer)

pub grows_twice : (ts us vs : List SymbolicTerm) → Grows ts us → Grows us vs → Grows ts vs
grows_twice ts us vs g h = record {
  reads = λ k t e. h.reads k t (g.reads k t e);
  places = λ t e. h.places t (listed_grown ts us t g e) ∙ g.places t e;
  longer = omega (arith, g.longer, h.longer);
}

pub grows_push : (ts : List SymbolicTerm) (u : SymbolicTerm) → Grows ts (ts ++ u ∷ [])
grows_push ts u = record {
  reads = read_push ts u;
  places = place_push ts u;
  longer = omega (arith, length-append ts (u ∷ []));
}

pub grows_put : (ts : List SymbolicTerm) (u : SymbolicTerm) → Grows ts (put ts u)
grows_put ts u = elim (put_cases ts u) [
  | inl old ↦ subst (Grows ts) (sym old.1) (grows_not ts)
  | inr new ↦ subst (Grows ts) (sym new.1) (grows_push ts u)
]

pub put_lists : (ts : List SymbolicTerm) (t : SymbolicTerm) → IsListed (put ts t) t
put_lists ts t = elim (put_cases ts t) [
  | inl old ↦ subst (λ us. IsListed us t) (sym old.1) old.0
  | inr new ↦ subst (λ us. IsListed us t) (sym new.1) (omega (arith, place_last ts t new.0, length-append ts (t ∷ [])))
]

-- ---- tidy lists

tidy_push : (ts : List SymbolicTerm) (u : SymbolicTerm) → IsTidy ts → place ts u ≡ length ts → HasArgument ts u → IsTidy (ts ++ u ∷ [])
tidy_push ts u tidy new has = record {
  distinct = λ k t h. elim (read_push_cases ts u k t h) [
    | inl old ↦ place_push ts u t (listed_at ts k t old) ∙ tidy.distinct k t old
    | inr last ↦ subst (λ x. place (ts ++ u ∷ []) x ≡ k) last.1 (place_last ts u new ∙ sym last.0)
  ];
  arguments = λ k m v n h. elim (read_push_cases ts u k (Application m v n) h) [
    | inl old ↦
        let before = tidy.arguments k m v n old in
        let inside = slice_get_within ts k (Application m v n) old in
        let listed : IsListed ts (term_of n) = omega arith in
        omega (arith, place_push ts u (term_of n) listed)
    | inr last ↦
        let listed : IsListed ts (term_of n) = subst (HasArgument ts) last.1 has in
        omega (arith, place_push ts u (term_of n) listed, last.0)
  ];
}

pub tidy_none : IsTidy []
tidy_none = record { distinct = λ k t h. absurd (none-some t h); arguments = λ k m v n h. absurd (none-some (Application m v n) h) }

pub tidy_put : (ts : List SymbolicTerm) (u : SymbolicTerm) → IsTidy ts → HasArgument ts u → IsTidy (put ts u)
tidy_put ts u tidy has = elim (put_cases ts u) [
  | inl old ↦ subst IsTidy (sym old.1) tidy
  | inr new ↦ subst IsTidy (sym new.1) (tidy_push ts u tidy new.0 has)
]

-- the argument of a listed term is listed
pub argument_listed : (ts : List SymbolicTerm) (t : SymbolicTerm) → IsTidy ts → IsListed ts t → HasArgument ts t
argument_listed ts (Constant s) tidy h = tt
argument_listed ts (Application m v n) tidy h =
    let t = Application m v n in
    let here : slice_get ts (place ts t) ≡ Some t = slice_get-get_or ts (place ts t) t h ∙ ap Some (place_read ts t t h) in
    omega (arith, tidy.arguments (place ts t) m v n here)

-- ---- what the set of terms says

pub put_from : (old now ks : List SymbolicTerm) (t : SymbolicTerm) → old ≡ now → ks ≡ insert_key same_term old t → ks ≡ put now t
unfolding put
put_from old now ks t e k = k ∙ ap (λ ts. insert_key same_term ts t) e

pub place_put : (ts : List SymbolicTerm) (t : SymbolicTerm) → place (put ts t) t ≡ place ts t
place_put ts t = elim (put_cases ts t) [
  | inl old ↦ ap (λ us. place us t) old.1
  | inr new ↦ ap (λ us. place us t) new.1 ∙ place_last ts t new.0 ∙ sym new.0
]

pub place_from : (old now : List SymbolicTerm) (t : SymbolicTerm) (k : ℕ) → old ≡ now → k ≡ position_or_len (same_term t) old → k ≡ place (put now t) t
unfolding place
place_from old now t k e h = h ∙ ap (position_or_len (same_term t)) e ∙ sym (place_put now t)

pub found : (old now : List SymbolicTerm) (t : SymbolicTerm) (k : ℕ) → old ≡ now → Some k ≡ position (same_term t) old → IsListed now t × (k ≡ place now t)
unfolding place
found old now t k e h =
    let p = cond_some (ltb (place now t) (length now)) (place now t) k (sym (h ∙ ap (position (same_term t)) e)) in
    (ltb-true (place now t) (length now) p.0, sym p.1)

pub not_found : (old now : List SymbolicTerm) (t : SymbolicTerm) → old ≡ now → None ≡ position (same_term t) old → IsListed now t → ⊥
unfolding place
not_found old now t e h listed =
    none-some (place now t) (h ∙ ap (position (same_term t)) e ∙ cond-true (ltb (place now t) (length now)) (Some (place now t)) None (lt-ltb (place now t) (length now) listed))

-- a listed term that is the same stands at its own place
pub recalled : (keys now : List SymbolicTerm) (t found : SymbolicTerm) (k : ℕ) → keys ≡ now → IsTidy keys → Some found ≡ slice_get keys k → same_term found t ≡ true
    → IsListed now t × (k ≡ place now t)
recalled keys now t found k e tidy at same =
    let here : slice_get now k ≡ Some t = subst (λ ts. slice_get ts k ≡ Some t) e (sym at ∙ ap Some (same_term_true found t same)) in
    (listed_at now k t here, sym ((subst IsTidy e tidy).distinct k t here))
