-- The set of a draft keeps the rules of ground sets.
use Rattle.std.proofs.Common.{◌≡◌, ℕ, ◌<◌, ◌≤◌, List, [], ◌∷◌, ◌++◌, length, get_or, slice_get, map, All, ◌⊎◌, inl, inr, Option, Some, None, refl, sym, ap, subst, ◌∙◌, arith}
use Rattle.std.specs.Option.{option_map}
use Rattle.std.proofs.lemmas.Option.{none-some, same_Some, slice_get-map, slice_get-get_or}
use Rattle.std.proofs.lemmas.List.{length-map, append-nil, append_assoc, get_or_past}
use Rattle.std.proofs.lemmas.Bool.{cases_lt}
use Rattle.std.proofs.lemmas.List.Elements.{All-nil, All-map, All-push, All-weaker, All-get_or}
use Rattle.plc_logic.specs.declared.clause.Sort.{Sort}
use Rattle.plc_ground.specs.declared.terms.Map.{Map}
use Rattle.plc_ground.specs.declared.terms.GroundTerm.{GroundTerm}
use Rattle.plc_ground.specs.declared.terms.GroundTerm.TheVariants.{App}
use Rattle.plc_ground.specs.declared.terms.Lit.{Lit}
use Rattle.plc_ground.specs.declared.terms.GroundSet.{GroundSet}
use Rattle.plc_ground.specs.Model.{literals}
use Rattle.plc_ground.specs.Fit.{IsInRange, NoTermTwice}
use Rattle.plc_symbolic.specs.declared.symbolic.NodeTerm.{NodeTerm}
use Rattle.plc_symbolic.specs.declared.symbolic.NodeTerm.TheVariants.{At, Target}
use Rattle.plc_symbolic.specs.declared.symbolic.SymbolicTerm.{SymbolicTerm}
use Rattle.plc_symbolic.specs.declared.symbolic.SymbolicTerm.TheVariants.{Constant, Application}
use Rattle.plc_symbolic.specs.declared.symbolic.SymbolicLit.{SymbolicLit}
use Rattle.plc_symbolic.specs.Terms.{Clauses, term_of, null}
use Rattle.plc_symbolic.specs.Numbering.{note, note_clause, place, number, number_lit, numbered, IsListed, Drafted, listed, written, listed_all, written_all}
use Rattle.plc_symbolic.specs.Tidy.{IsTidy}
use Rattle.plc_symbolic.proofs.Sides.{HasSides}
use Rattle.plc_symbolic.specs.Growth.{HasArgument, Grows}
use Rattle.plc_symbolic.specs.Drafts.{IsDraft, begun, lists, writes, DraftsAreWellFormed}
use Rattle.plc_symbolic.proofs.Places.{grows_not, grows_twice, place_read, listed_at, tidy_none, argument_listed}
use Rattle.plc_symbolic.proofs.Noting.{tidy_note, tidy_clause, grows_note, grows_clause, sides_clause, clause_grown}

-- ---- what each draft keeps

-- its list of terms is tidy, and both sides of each literal are in it
pub record Kept (d : Drafted) : Type 0 where
  pub terms : IsTidy d.terms
  pub sides : All (All (HasSides d.terms)) d.clauses

sides_grown : (ts us : List SymbolicTerm) (cs : Clauses) → Grows ts us → All (All (HasSides ts)) cs → All (All (HasSides us)) cs
sides_grown ts us cs g h = All-weaker (All (HasSides ts)) (All (HasSides us)) (λ c. clause_grown ts us c g) cs h

pub kept : (d : Drafted) → IsDraft d → Kept d
kept _ begun = record { terms = tidy_none; sides = All-nil (All (HasSides [])) }
kept _ (lists d t h) =
    let k = kept d h in
    record { terms = tidy_note d.terms t k.terms; sides = sides_grown d.terms (note d.terms t) d.clauses (grows_note d.terms t) k.sides }
kept _ (writes d c h) =
    let k = kept d h in
    let us = note_clause d.terms c in
    record {
      terms = tidy_clause c d.terms k.terms;
      sides = All-push (All (HasSides us)) d.clauses c (sides_grown d.terms us d.clauses (grows_clause c d.terms) k.sides) (sides_clause c d.terms);
    }

pub lists_all : (ts : List SymbolicTerm) (d : Drafted) → IsDraft d → IsDraft (listed_all d ts)
lists_all [] d h = h
lists_all (t ∷ ts) d h = lists_all ts (listed d t) (lists d t h)

pub writes_all : (cs : Clauses) (d : Drafted) → IsDraft d → IsDraft (written_all d cs)
writes_all [] d h = h
writes_all (c ∷ cs) d h = writes_all cs (written d c) (writes d c h)

pub listed_all-append : (ts us : List SymbolicTerm) (d : Drafted) → listed_all d (ts ++ us) ≡ listed_all (listed_all d ts) us
listed_all-append [] us d = refl
listed_all-append (t ∷ ts) us d = listed_all-append ts us (listed d t)

-- what is written stands at the end
pub written_all-clauses : (cs : Clauses) (d : Drafted) → (written_all d cs).clauses ≡ d.clauses ++ cs
written_all-clauses [] d = sym (append-nil d.clauses)
written_all-clauses (c ∷ cs) d = written_all-clauses cs (written d c) ∙ append_assoc d.clauses (c ∷ []) cs

pub listed_all-clauses : (ts : List SymbolicTerm) (d : Drafted) → (listed_all d ts).clauses ≡ d.clauses
listed_all-clauses [] d = refl
listed_all-clauses (t ∷ ts) d = listed_all-clauses ts (listed d t)

-- places stay
pub grows_listed_all : (ts : List SymbolicTerm) (d : Drafted) → Grows d.terms (listed_all d ts).terms
grows_listed_all [] d = grows_not d.terms
grows_listed_all (t ∷ ts) d =
    grows_twice d.terms (note d.terms t) (listed_all (listed d t) ts).terms (grows_note d.terms t) (grows_listed_all ts (listed d t))

pub grows_written_all : (cs : Clauses) (d : Drafted) → Grows d.terms (written_all d cs).terms
grows_written_all [] d = grows_not d.terms
grows_written_all (c ∷ cs) d =
    grows_twice d.terms (note_clause d.terms c) (written_all (written d c) cs).terms (grows_clause c d.terms) (grows_written_all cs (written d c))

-- ---- numbered terms

-- the term of which a numbered one is made
after : (ts : List SymbolicTerm) (i : ℕ) (g : GroundTerm) → slice_get (map (number ts) ts) i ≡ Some g
    → (t : SymbolicTerm) × (slice_get ts i ≡ Some t) × (number ts t ≡ g)
after ts i g h = go (slice_get ts i) refl (sym (slice_get-map (number ts) ts i) ∙ h)
  where
    go : (o : Option SymbolicTerm) → slice_get ts i ≡ o → option_map (number ts) o ≡ Some g
        → (t : SymbolicTerm) × (slice_get ts i ≡ Some t) × (number ts t ≡ g)
    go None e k = absurd (none-some g k)
    go (Some t) e k = (t, e, same_Some (number ts t) g k)

term_of_same : (n k : NodeTerm) → term_of n ≡ term_of k → n ≡ k
term_of_same (At s) (At t) h = cc
term_of_same (Target f s) (Target g t) h = cc
term_of_same _ _ h = cc

place_same : (ts : List SymbolicTerm) (t u : SymbolicTerm) → IsListed ts t → IsListed ts u → place ts t ≡ place ts u → t ≡ u
place_same ts t u h k e = sym (place_read ts t null h) ∙ ap (λ n. get_or ts n null) e ∙ place_read ts u null k

number_same : (ts : List SymbolicTerm) (t u : SymbolicTerm) → HasArgument ts t → HasArgument ts u → number ts t ≡ number ts u → t ≡ u
number_same ts (Constant s) (Constant z) h k e = cc
number_same ts (Application m v n) (Application l w p) h k e =
    let places : place ts (term_of n) ≡ place ts (term_of p) = cc in
    let nodes = term_of_same n p (place_same ts (term_of n) (term_of p) h k places) in
    let ms : m ≡ l = cc in
    let vs : v ≡ w = cc in
    λ i. Application (ms i) (vs i) (nodes i)
number_same ts _ _ h k e = cc

distinct : (ts : List SymbolicTerm) → IsTidy ts → NoTermTwice (map (number ts) ts)
distinct ts tidy g i j h k =
    let a = after ts i g h in
    let b = after ts j g k in
    let has = λ (n : ℕ) (t : SymbolicTerm) (e : slice_get ts n ≡ Some t). argument_listed ts t tidy (listed_at ts n t e) in
    let same = number_same ts a.0 b.0 (has i a.0 a.1) (has j b.0 b.1) (a.2 ∙ sym b.2) in
    sym (tidy.distinct i a.0 a.1) ∙ ap (place ts) same ∙ tidy.distinct j b.0 b.1

-- an application is that of a term before it
application_after : (ts : List SymbolicTerm) (t : SymbolicTerm) (m : Map) (v a : ℕ) → number ts t ≡ App m v a
    → (n : NodeTerm) × (t ≡ Application m v n) × (place ts (term_of n) ≡ a)
application_after ts (Constant s) m v a e = cc
application_after ts (Application l w n) m v a e =
    let ms : l ≡ m = cc in
    let vs : w ≡ v = cc in
    (n, (λ i. Application (ms i) (vs i) n), cc)

module _ (ts : List SymbolicTerm) (m : Map) (v a i : ℕ) (h : slice_get (map (number ts) ts) i ≡ Some (App m v a)) where
  -- the application that stands there
  pub stands : (n : NodeTerm) × (slice_get ts i ≡ Some (Application m v n)) × (place ts (term_of n) ≡ a)
  stands =
      let b = after ts i (App m v a) h in
      let p = application_after ts b.0 m v a b.2 in
      (p.0, b.1 ∙ ap Some p.1, p.2)

  earlier : IsTidy ts → a < i
  earlier tidy = omega (arith, stands.2, tidy.arguments i m v stands.0 stands.1)

-- ---- sorts

sort_at : (ts : List SymbolicTerm) (sort_of : SymbolicTerm → Sort) (i : ℕ) (t : SymbolicTerm) → slice_get ts i ≡ Some t
    → slice_get (map sort_of ts) i ≡ Some (sort_of t)
sort_at ts sort_of i t h = slice_get-map sort_of ts i ∙ ap (option_map sort_of) h

sort_of_place : (ts : List SymbolicTerm) (sort_of : SymbolicTerm → Sort) (t : SymbolicTerm) → IsListed ts t
    → slice_get (map sort_of ts) (place ts t) ≡ Some (sort_of t)
sort_of_place ts sort_of t h = sort_at ts sort_of (place ts t) t (slice_get-get_or ts (place ts t) null h ∙ ap Some (place_read ts t null h))

-- ---- clauses

-- a fact of each literal of a draft is one of each literal of its set
all_literals : (d : Drafted) (sorts : List Sort) (P : SymbolicLit → Type 0) (Q : Lit → Type 0) → ((l : SymbolicLit) → P l → Q (number_lit d.terms l))
    → All (All P) d.clauses → (c : ℕ) → All Q (literals (numbered sorts d) c)
all_literals d sorts P Q each h c = go (cases_lt c (length set.clauses))
  where
    set : GroundSet
    set = numbered sorts d

    every : All (All Q) set.clauses
    every = All-map (All Q) (map (number_lit d.terms)) d.clauses
        (All-weaker (All P) (λ k. All Q (map (number_lit d.terms) k)) (λ k a. All-map Q (number_lit d.terms) k (All-weaker P (λ l. Q (number_lit d.terms l)) each k a)) d.clauses h)

    go : (c < length set.clauses) ⊎ (length set.clauses ≤ c) → All Q (literals set c)
    go (inl lt) = All-get_or (All Q) set.clauses c [] lt every
    go (inr le) = subst (All Q) (sym (get_or_past set.clauses c [] le)) (All-nil Q)

-- both sides of a literal, and that their sorts are one
pub record Fits (ts : List SymbolicTerm) (sort_of : SymbolicTerm → Sort) (l : SymbolicLit) : Type 0 where
  pub sides : HasSides ts l
  pub sorts : sort_of l.left ≡ sort_of l.right

one_sort : (ts : List SymbolicTerm) (sort_of : SymbolicTerm → Sort) (l : SymbolicLit) → HasSides ts l → sort_of l.left ≡ sort_of l.right
    → slice_get (map sort_of ts) (place ts l.left) ≡ slice_get (map sort_of ts) (place ts l.right)
one_sort ts sort_of l h e = sort_of_place ts sort_of l.left h.left ∙ ap Some e ∙ sym (sort_of_place ts sort_of l.right h.right)

both : {A : Type 0} (P Q R : A → Type 0) → ((x : A) → P x → Q x → R x) → (xs : List A) → All P xs → All Q xs → All R xs
both P Q R join xs h k = λ i d lt. join _ (h i d lt) (k i d lt)

pub well_formed : DraftsAreWellFormed
well_formed d sort_of draft sorts few_terms few_clauses =
    let k = kept d draft in
    let ts = d.terms in
    let all = map sort_of ts in
    let fits = both (All (HasSides ts)) (All (λ l. sort_of l.left ≡ sort_of l.right)) (All (Fits ts sort_of))
    (λ c. both (HasSides ts) (λ l. sort_of l.left ≡ sort_of l.right) (Fits ts sort_of) (λ l h e. record { sides = h; sorts = e }) c) d.clauses k.sides sorts.sides in
    record {
      few_terms = omega (arith, length-map ts (number ts));
      few_clauses = omega (arith, length-map d.clauses (map (number_lit ts)));
      one_sort_each = length-map ts sort_of ∙ sym (length-map ts (number ts));
      distinct = distinct ts k.terms;
      earlier = λ m v a i h. earlier ts m v a i h k.terms;
      map_sorts = λ m v w a b i j h l.
          let p = stands ts m v a i h in
          let q = stands ts m w b j l in
          sort_at ts sort_of i (Application m v p.0) p.1 ∙ ap Some (sorts.maps m v w p.0 q.0) ∙ sym (sort_at ts sort_of j (Application m w q.0) q.1);
      range = all_literals d all (HasSides ts) (IsInRange (map (number ts) ts))
          (λ l h. (omega (arith, h.left, length-map ts (number ts)), omega (arith, h.right, length-map ts (number ts)))) k.sides;
      sides = all_literals d all (Fits ts sort_of) (λ l. slice_get all l.left ≡ slice_get all l.right) (λ l h. one_sort ts sort_of l h.sides h.sorts) fits;
    }
