-- A draft whose clauses are true gives a ground set that has a model: terms of one sort and value are one class, which
-- has the first of them as its name.
use Rattle.std.proofs.Common.{◌≡◌, ℕ, zero, suc, ◌<◌, ◌≤◌, Bool, true, false, ◌&&◌, ◌==◌, List, [], ◌∷◌, ◌++◌, map}
use Rattle.std.proofs.Common.{length, slice_get, Some, refl, sym, ap, ◌∙◌, subst, arith, inl, inr, ◌⊎◌}
use Rattle.std.specs.Prelude.{◌≢◌, MatchBool, slice_index, slice_index_or}
use Rattle.std.specs.List.{Any, position_or_len}
use Rattle.std.proofs.lemmas.Bool.{and_parts, and_from, eq-eqb, eqb-true}
use Rattle.std.proofs.lemmas.List.{length-map}
use Rattle.std.proofs.lemmas.Option.{slice_get-get_or}
use Rattle.plc_logic.specs.declared.clause.Sort.{Sort}
use Rattle.plc_ground.specs.declared.terms.Symbol.{Symbol}
use Rattle.plc_ground.specs.declared.terms.Map.{Map}
use Rattle.plc_ground.specs.declared.terms.GroundTerm.TheVariants.{Const, App}
use Rattle.plc_ground.specs.declared.apart.Family.TheVariants.{Free}
use Rattle.plc_ground.specs.Model.{HoldsIn, symbol_family, MustDiffer}
use Rattle.plc_ground.specs.Trees.{HasModel}
use Rattle.plc_symbolic.specs.declared.symbolic.NodeTerm.{NodeTerm}
use Rattle.plc_symbolic.specs.declared.symbolic.SymbolicTerm.{SymbolicTerm}
use Rattle.plc_symbolic.specs.declared.symbolic.SymbolicTerm.TheVariants.{Constant, Application}
use Rattle.plc_symbolic.specs.declared.symbolic.SymbolicLit.{SymbolicLit}
use Rattle.plc_symbolic.specs.Terms.{Clauses, term_of}
use Rattle.plc_symbolic.specs.Numbering.{place, IsListed, number, number_lit, blank, listed_all, written_all, numbered}
use Rattle.plc_symbolic.specs.Drafts.{begun}
use Rattle.plc_symbolic.specs.Tidy.{IsTidy}
use Rattle.plc_symbolic.proofs.Sides.{HasSides}
use Rattle.plc_flow.proofs.Each.{Each}
use Rattle.plc_symbolic.proofs.Places.{place_read, listed_at, argument_listed}
use Rattle.plc_symbolic.proofs.Drafts.{kept, lists_all, writes_all, written_all-clauses, listed_all-clauses}
use Rattle.plc_logic.specs.Sorts.{same_sort}
use Rattle.plc_logic.proofs.Sorts.{same_sort_true, same_sort_refl}
use Rattle.plc_oblig.proofs.Lists.{each_all_of}
use Rattle.plc_oblig.proofs.Places.{in_at, first_found, first_least, first_same, map_at, map_there, map_get, there}

-- ---- truth

-- an equation is true where its sides have one sort and one value, an inequation where their values differ
abbrev pub LiteralIsTrue : (SymbolicTerm → Sort) → (SymbolicTerm → ℕ) → SymbolicLit → Type 0
LiteralIsTrue sort value l =
    MatchBool l.equal ((sort l.left ≡ sort l.right) × (value l.left ≡ value l.right)) (value l.left ≢ value l.right)

-- one of the literals is
abbrev pub SomeIsTrue : (SymbolicTerm → Sort) → (SymbolicTerm → ℕ) → List SymbolicLit → Type 0
SomeIsTrue sort value [] = ⊥
SomeIsTrue sort value (l ∷ ls) = LiteralIsTrue sort value l ⊎ SomeIsTrue sort value ls

-- maps are functions, of one sort each, and constants that must differ have different values
pub record IsReading (sort : SymbolicTerm → Sort) (value : SymbolicTerm → ℕ) : Type 0 where
  pub maps : (m : Map) (v : ℕ) (n k : NodeTerm) → value (term_of n) ≡ value (term_of k)
      → value (Application m v n) ≡ value (Application m v k)
  pub sorts : (m : Map) (v : ℕ) (n k : NodeTerm) → sort (Application m v n) ≡ sort (Application m v k)
  pub apart : (a b : Symbol) → symbol_family a ≡ symbol_family b → symbol_family a ≢ Free → a ≢ b
      → sort (Constant a) ≡ sort (Constant b) → value (Constant a) ≢ value (Constant b)

module _ (sort : SymbolicTerm → Sort) (value : SymbolicTerm → ℕ) (reading : IsReading sort value)
    (ts : List SymbolicTerm) (tidy : IsTidy ts) where
  -- a listed term stands at its place
  placed : (t : SymbolicTerm) → IsListed ts t → slice_get ts (place ts t) ≡ Some t
  placed t i = slice_get-get_or ts (place ts t) t i ∙ ap Some (place_read ts t t i)

  -- ---- classes

  alike : SymbolicTerm → SymbolicTerm → Bool
  alike t x = same_sort (sort t) (sort x) && (value t == value x)

  class_of : SymbolicTerm → ℕ
  class_of t = position_or_len (alike t) ts

  classes : List ℕ
  classes = map class_of ts

  record IsAlike (t x : SymbolicTerm) : Type 0 where
    sort_is : sort t ≡ sort x
    value_is : value t ≡ value x

  alike_true : (t x : SymbolicTerm) → alike t x ≡ true → IsAlike t x
  unfolding alike
  alike_true t x h =
      let p = and_parts (same_sort (sort t) (sort x)) (value t == value x) h in
      record { sort_is = same_sort_true (sort t) (sort x) p.0; value_is = eqb-true (value t) (value x) p.1 }

  alike_refl : (t : SymbolicTerm) → alike t t ≡ true
  unfolding alike
  alike_refl t =
      and_from (same_sort (sort t) (sort t)) (value t == value t) (same_sort_refl (sort t))
      (eq-eqb (value t) (value t) refl)

  -- a listed term is of the sort and value of its class
  class_found : (t : SymbolicTerm) → IsListed ts t
      → (x : SymbolicTerm) × (slice_get ts (class_of t) ≡ Some x) × IsAlike t x
  unfolding class_of
  class_found t i =
      (let f = first_found (alike t) ts t (in_at ts (place ts t) t (placed t i)) (alike_refl t) in
      (f.0, f.1, alike_true t f.0 f.2))

  class_cong : (t u : SymbolicTerm) → IsAlike t u → class_of t ≡ class_of u
  unfolding class_of alike
  class_cong t u h = first_same (alike t) (alike u) (λ x. rw (h.sort_is, h.value_is) refl) ts

  class_least : (t : SymbolicTerm) (i : ℕ) → slice_get ts i ≡ Some t → class_of t ≤ i
  unfolding class_of
  class_least t i e = first_least (alike t) ts i t e (alike_refl t)

  class_same : (t u : SymbolicTerm) → IsListed ts t → IsListed ts u → class_of t ≡ class_of u → IsAlike t u
  class_same t u i j same =
      let a = class_found t i in
      let b = class_found u j in
      let one : a.0 ≡ b.0 = (let e = sym a.1 ∙ ap (slice_get ts) same ∙ b.1 in cc) in
      record {
        sort_is = a.2.sort_is ∙ ap sort one ∙ sym b.2.sort_is;
        value_is = a.2.value_is ∙ ap value one ∙ sym b.2.value_is;
      }

  class_at : (i : ℕ) (t : SymbolicTerm) → slice_get ts i ≡ Some t → slice_index classes i ≡ class_of t
  unfolding classes
  class_at i t e = map_get class_of ts i t e

  -- ---- places

  class_placed : (t : SymbolicTerm) → IsListed ts t → slice_index classes (place ts t) ≡ class_of t
  class_placed t i = class_at (place ts t) t (placed t i)

  -- ---- numbered terms

  record IsApplied (m : Map) (v a i : ℕ) : Type 0 where
    node : NodeTerm
    at : slice_get ts i ≡ Some (Application m v node)
    argument : place ts (term_of node) ≡ a

  applied : (m : Map) (v a i : ℕ) → slice_get (map (number ts) ts) i ≡ Some (App m v a) → IsApplied m v a i
  applied m v a i e = (let x = map_at (number ts) ts i (App m v a) e in go x.0 x.1 x.2)
    where
      go : (t : SymbolicTerm) → slice_get ts i ≡ Some t → number ts t ≡ App m v a → IsApplied m v a i
      go (Constant s) at h = cc
      go (Application l w n) at h =
          let x : l ≡ m = cc in
          let y : w ≡ v = cc in
          record {
            node = n;
            at = at ∙ (let e : Application l w n ≡ Application m v n = cc in ap Some e);
            argument = cc;
          }

  constant : (s : Symbol) (i : ℕ) → slice_get (map (number ts) ts) i ≡ Some (Const s)
      → slice_get ts i ≡ Some (Constant s)
  constant s i e = (let x = map_at (number ts) ts i (Const s) e in go x.0 x.1 x.2)
    where
      go : (t : SymbolicTerm) → slice_get ts i ≡ Some t → number ts t ≡ Const s → slice_get ts i ≡ Some (Constant s)
      go (Constant r) at h = (let same : r ≡ s = cc in at ∙ ap (λ s. Some (Constant s)) same)
      go (Application l w n) at h = cc

  congruent : (m : Map) (v a b i j : ℕ) → slice_get (map (number ts) ts) i ≡ Some (App m v a)
      → slice_get (map (number ts) ts) j ≡ Some (App m v b)
      → slice_index classes a ≡ slice_index classes b → slice_index classes i ≡ slice_index classes j
  congruent m v a b i j e f same =
      let x = applied m v a i e in
      let y = applied m v b j f in
      let inx = argument_listed ts (Application m v x.node) tidy (listed_at ts i (Application m v x.node) x.at) in
      let iny = argument_listed ts (Application m v y.node) tidy (listed_at ts j (Application m v y.node) y.at) in
      let arguments = class_same (term_of x.node) (term_of y.node) inx iny
      (sym (class_placed (term_of x.node) inx) ∙ ap (slice_index classes) x.argument ∙ same
      ∙ sym (ap (slice_index classes) y.argument) ∙ class_placed (term_of y.node) iny) in
      class_at i (Application m v x.node) x.at
      ∙ class_cong (Application m v x.node) (Application m v y.node)
      (record {
        sort_is = reading.sorts m v x.node y.node;
        value_is =
            reading.maps m v x.node y.node arguments.value_is;
      })
      ∙ sym (class_at j (Application m v y.node) y.at)

  -- ---- literals

  literal_holds : (l : SymbolicLit) → HasSides ts l → LiteralIsTrue sort value l
      → HoldsIn (slice_index classes) (number_lit ts l)
  literal_holds l i h = go l.equal h
    where
      go : (b : Bool)
          → MatchBool b ((sort l.left ≡ sort l.right) × (value l.left ≡ value l.right)) (value l.left ≢ value l.right)
          → MatchBool b (slice_index classes (place ts l.left) ≡ slice_index classes (place ts l.right))
          (slice_index classes (place ts l.left) ≢ slice_index classes (place ts l.right))
      go true h =
          class_placed l.left i.left ∙ class_cong l.left l.right (record { sort_is = h.0; value_is = h.1 })
          ∙ sym (class_placed l.right i.right)
      go false h =
          λ same. h
          (class_same l.left l.right i.left i.right
          (sym (class_placed l.left i.left) ∙ same ∙ class_placed l.right i.right)).value_is

  some_holds : (c : List SymbolicLit) → Each (HasSides ts) c → SomeIsTrue sort value c
      → Any (HoldsIn (slice_index classes)) (map (number_lit ts) c)
  some_holds [] i h = absurd h
  some_holds (l ∷ c) i (inl h) = (0, number_lit ts l, omega arith, refl, literal_holds l i.0 h)
  some_holds (l ∷ c) i (inr h) =
      (let r = some_holds c i.1 h in (suc r.0, r.1, (let less = r.2 in omega arith), r.3, r.4))

  all_hold : (cs : Clauses) → Each (Each (HasSides ts)) cs → Each (SomeIsTrue sort value) cs → (c : ℕ)
      → c < length (map (map (number_lit ts)) cs)
      → Any (HoldsIn (slice_index classes)) (slice_index_or (map (map (number_lit ts)) cs) c [])
  all_hold [] i h c less = absurd (omega arith)
  all_hold (x ∷ cs) i h zero less = some_holds x i.0 h.0
  all_hold (x ∷ cs) i h (suc c) less = all_hold cs i.1 h.1 c (omega arith)

  -- ---- the model

  long : (i : ℕ) → i < length classes → i < length ts
  unfolding classes
  long i h = omega (arith, length-map ts class_of)

  same_sorts : (i j : ℕ) → i < length classes → j < length classes → slice_index classes i ≡ slice_index classes j
      → slice_get (map sort ts) i ≡ slice_get (map sort ts) j
  same_sorts i j h k same =
      let x = there ts i (long i h) in
      let y = there ts j (long j k) in
      let a = class_same x.0 y.0 (listed_at ts i x.0 x.1) (listed_at ts j y.0 y.1)
      (sym (class_at i x.0 x.1) ∙ same ∙ class_at j y.0 y.1) in
      map_there sort ts i x.0 x.1 ∙ ap Some a.sort_is ∙ sym (map_there sort ts j y.0 y.1)

  least : (i : ℕ) → i < length classes → slice_index classes (slice_index classes i) ≡ slice_index classes i
  least i h =
      let x = there ts i (long i h) in
      let f = class_found x.0 (listed_at ts i x.0 x.1) in
      let here = class_at i x.0 x.1 in
      ap (slice_index classes) here ∙ class_at (class_of x.0) f.0 f.1
      ∙ sym (class_cong x.0 f.0 f.2) ∙ sym here

  no_later : (i : ℕ) → i < length classes → slice_index classes i ≤ i
  no_later i h =
      (let x = there ts i (long i h) in let e = class_at i x.0 x.1 in let l = class_least x.0 i x.1 in omega arith)

  apart : (cs : Clauses) (i j : ℕ) → MustDiffer (numbered (map sort ts) (record { terms = ts; clauses = cs })) i j
      → slice_index classes i ≢ slice_index classes j
  apart cs i j m same =
      let a = constant m.first i m.first_is in
      let b = constant m.second j m.second_is in
      let h = class_same (Constant m.first) (Constant m.second) (listed_at ts i (Constant m.first) a)
      (listed_at ts j (Constant m.second) b)
      (sym (class_at i (Constant m.first) a) ∙ same ∙ class_at j (Constant m.second) b) in
      reading.apart m.first m.second m.one_family m.distinguished m.differ h.sort_is h.value_is

  lengths : length classes ≡ length (map (number ts) ts)
  unfolding classes
  lengths = length-map ts class_of ∙ sym (length-map ts (number ts))

  pub model : (cs : Clauses) → Each (Each (HasSides ts)) cs → Each (SomeIsTrue sort value) cs
      → HasModel (numbered (map sort ts) (record { terms = ts; clauses = cs }))
  model cs i h = (
    classes,
    record {
      one_each = lengths;
      no_later = no_later;
      least = least;
      congruent = congruent;
      apart = apart cs;
      clauses = all_hold cs i h;
      sorts = same_sorts;
    },
  )

-- the draft of these terms and clauses
pub true_has_model : (sort : SymbolicTerm → Sort) (value : SymbolicTerm → ℕ) → IsReading sort value
    → (first : List SymbolicTerm) (cs : Clauses) → Each (SomeIsTrue sort value) cs
    → HasModel
    (numbered (map sort (written_all (listed_all blank first) cs).terms) (written_all (listed_all blank first) cs))
true_has_model sort value reading first cs all =
    let d = written_all (listed_all blank first) cs in
    let k = kept d (writes_all cs (listed_all blank first) (lists_all first blank begun)) in
    model sort value reading d.terms k.terms d.clauses (each_all_of (HasSides d.terms) d.clauses k.sides)
    (subst (Each (SomeIsTrue sort value))
    (sym (written_all-clauses cs (listed_all blank first)
    ∙ ap (λ bs. bs ++ cs) (listed_all-clauses first blank))) all)
