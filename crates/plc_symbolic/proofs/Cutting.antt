-- What is left of a list of terms and of a draft that are cut: what stood there first.
use Rattle.std.proofs.Common.{◌≡◌, ℕ, zero, suc, ◌+◌, ◌<◌, List, [], ◌∷◌, ◌++◌, length, get_or, take, drop, map, All, Some, refl, sym, ap, subst, ◌∙◌, arith}
use Rattle.std.specs.Prelude.{slice_get}
use Rattle.std.proofs.Math.Seq.{take-append_seam}
use Rattle.std.proofs.lemmas.List.{take-append-drop, append_assoc, append-nil}
use Rattle.std.proofs.lemmas.List.Elements.{All-map, All-weaker}
use Rattle.std.proofs.lemmas.Option.{none-some, same_Some, slice_get-get_or, slice_get_within, get_or_from_slice_get}
use Rattle.plc_ground.specs.declared.terms.Map.{Map}
use Rattle.plc_ground.specs.declared.terms.Lit.{Lit}
use Rattle.plc_symbolic.specs.declared.symbolic.NodeTerm.{NodeTerm}
use Rattle.plc_symbolic.specs.declared.symbolic.SymbolicTerm.{SymbolicTerm}
use Rattle.plc_symbolic.specs.declared.symbolic.SymbolicTerm.TheVariants.{Application}
use Rattle.plc_symbolic.specs.declared.symbolic.SymbolicLit.{SymbolicLit}
use Rattle.plc_symbolic.specs.Terms.{Clauses, term_of, null}
use Rattle.plc_symbolic.specs.Numbering.{Drafted, IsListed, place, number_lit, written_all}
use Rattle.plc_symbolic.specs.Tidy.{IsTidy, IsInside, read, read_draft}
use Rattle.plc_symbolic.specs.Growth.{Grows}
use Rattle.plc_symbolic.specs.Cuts.{IsWrittenAfter}
use Rattle.plc_symbolic.proofs.Sides.{HasSides}
use Rattle.plc_symbolic.proofs.Places.{grows_not, grows_twice, grows_push, listed_at, place_read}
use Rattle.plc_symbolic.proofs.Noting.{map_agree, clause_stays}
use Rattle.plc_symbolic.proofs.Reading.{map_back, inside_clause, numbers_read, read_number}
use Rattle.plc_symbolic.proofs.Drafts.{kept, writes_all, written_all-clauses, grows_written_all}

-- ---- lists of terms

grows_more : (us ts : List SymbolicTerm) → Grows ts (ts ++ us)
grows_more [] ts = subst (Grows ts) (sym (append-nil ts)) (grows_not ts)
grows_more (u ∷ us) ts =
    subst (Grows ts) (append_assoc ts (u ∷ []) us)
    (grows_twice ts (ts ++ u ∷ []) ((ts ++ u ∷ []) ++ us) (grows_push ts u) (grows_more us (ts ++ u ∷ [])))

pub grows_whole : (n : ℕ) (ts : List SymbolicTerm) → Grows (take n ts) ts
grows_whole n ts = subst (Grows (take n ts)) (take-append-drop n ts) (grows_more (drop n ts) (take n ts))

-- what stands first in a tidy list is tidy
tidy_first : (ts us : List SymbolicTerm) → Grows ts us → IsTidy us → IsTidy ts
tidy_first ts us g tidy = record {
  distinct = λ k t h. sym (g.places t (listed_at ts k t h)) ∙ tidy.distinct k t (g.reads k t h);
  arguments = λ k m v n h.
      let before = tidy.arguments k m v n (g.reads k (Application m v n) h) in
      let inside = slice_get_within ts k (Application m v n) h in
      let j = place us (term_of n) in
      let small : j < length ts = omega (arith, before, inside) in
      let there : IsListed us (term_of n) = omega (arith, before, inside, g.longer) in
      let at = slice_get-get_or ts j null small in
      let same : get_or ts j null ≡ term_of n =
      sym (get_or_from_slice_get us j (get_or ts j null) null (g.reads j (get_or ts j null) at)) ∙ place_read us (term_of n) null there in
      let found : slice_get ts j ≡ Some (term_of n) = at ∙ ap Some same in
      omega (arith, g.places (term_of n) (listed_at ts j (term_of n) found), before);
}

pub tidy_cut : (n : ℕ) (ts : List SymbolicTerm) → IsTidy ts → IsTidy (take n ts)
tidy_cut n ts tidy = tidy_first (take n ts) ts (grows_whole n ts) tidy

-- a list that grew begins as it was
begins : (ts us : List SymbolicTerm) → ((k : ℕ) (t : SymbolicTerm) → slice_get ts k ≡ Some t → slice_get us k ≡ Some t) → take (length ts) us ≡ ts
begins [] us h = refl
begins (t ∷ ts) [] h = absurd (none-some t (h 0 t refl))
begins (t ∷ ts) (u ∷ us) h =
    ap (λ x. x ∷ take (length ts) us) (same_Some u t (h 0 t refl)) ∙ ap (λ xs. t ∷ xs) (begins ts us (λ k x e. h (suc k) x e))

-- ---- drafts

take_map : {A B : Type 0} (f : A → B) (n : ℕ) (xs : List A) → take n (map f xs) ≡ map f (take n xs)
take_map f zero xs = refl
take_map f (suc n) [] = refl
take_map f (suc n) (x ∷ xs) = ap (λ ys. f x ∷ ys) (take_map f n xs)

module _ (ts : List SymbolicTerm) (cs : List (List Lit)) (inside : All (All (IsInside ts)) cs) (n k : ℕ) (e : Drafted)
    (h : IsWrittenAfter e n k (read_draft ts cs)) where
  grown : Grows e.terms ts
  grown = subst (Grows e.terms) (sym (ap (λ (d : Drafted). d.terms) h.is)) (grows_written_all h.later e)

  tidy : IsTidy ts
  tidy = subst IsTidy (sym (ap (λ (d : Drafted). d.terms) h.is)) (kept (written_all e h.later) (writes_all h.later e h.draft)).terms

  pub terms_cut : take n ts ≡ e.terms
  terms_cut = ap (λ m. take m ts) h.terms_then ∙ begins e.terms ts grown.reads

  clauses_first : take k (map (map (read ts)) cs) ≡ e.clauses
  clauses_first =
      ap (λ (d : Drafted). take k d.clauses) h.is
      ∙ ap (take k) (written_all-clauses h.later e) ∙ ap (λ m. take m (e.clauses ++ h.later)) h.clauses_then
      ∙ take-append_seam e.clauses h.later

  -- the clauses that are left, by the places of the earlier draft
  pub clauses_cut : take k cs ≡ map (map (number_lit e.terms)) e.clauses
  clauses_cut =
      ap (take k) (sym (numbers_read ts cs tidy inside)) ∙ take_map (map (number_lit ts)) k (map (map (read ts)) cs)
      ∙ ap (map (map (number_lit ts))) clauses_first
      ∙ map_agree (map (number_lit ts)) (map (number_lit e.terms)) (All (HasSides e.terms))
      (λ c s. clause_stays e.terms ts c grown s) e.clauses (kept e h.draft).sides

  pub inside_cut : All (All (IsInside (take n ts))) (take k cs)
  inside_cut =
      subst (λ us. All (All (IsInside us)) (take k cs)) (sym terms_cut)
      (subst (All (All (IsInside e.terms))) (sym clauses_cut)
      (All-map (All (IsInside e.terms)) (map (number_lit e.terms)) e.clauses
      (All-weaker (All (HasSides e.terms)) (λ c. All (IsInside e.terms) (map (number_lit e.terms) c)) (inside_clause e.terms) e.clauses (kept e h.draft).sides)))

  -- a cut draft is the earlier draft
  pub draft_cut : read_draft (take n ts) (take k cs) ≡ e
  draft_cut =
      let back = map_back (map (read e.terms)) (map (number_lit e.terms)) (All (HasSides e.terms))
      (λ c. map_back (read e.terms) (number_lit e.terms) (HasSides e.terms) (read_number e.terms) c) e.clauses (kept e h.draft).sides in
      ap (λ us. read_draft us (take k cs)) terms_cut ∙ ap (read_draft e.terms) clauses_cut
      ∙ (λ i. record { terms = e.terms; clauses = back i })
