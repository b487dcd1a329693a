-- The ground set of an obligation whose clause is read after the step as before it ends with the opposites of an instance
-- of what held before, and so has no model. Still obligations are such.
use Rattle.std.proofs.Common.{◌≡◌, ℕ, zero, suc, ◌+◌, ◌<◌, Bool, true, false, not, nat_lt, List, [], ◌∷◌, ◌++◌, map, length, slice_get, Some, None, refl, sym, ap, ◌∙◌, subst, arith}
use Rattle.std.specs.Prelude.{if◌then◌else◌, ◌||◌, ◌&&◌, ◌==◌, All, Any, Contains, MatchBool, flat_map, filter, slice_index, slice_index_or}
use Rattle.std.specs.List.{list_any}
use Rattle.std.proofs.lemmas.Bool.{and_parts, ltb-true, eqb-true}
use Rattle.std.proofs.lemmas.List.Folds.{list_any_at}
use Rattle.std.proofs.lemmas.Option.{get_or_from_slice_get}
use Rattle.std.proofs.lemmas.List.{length-map, length-append, map-append, append-nil, append_assoc}
use Rattle.std.proofs.lemmas.List.FromFn.{length-range_with_len, length-map-range_with_len, get_or-range_with_len}
use Rattle.std.proofs.lemmas.List.Elements.{All-nil, All-cons, All-head, All-tail, All-append, All-map, All-contains, Contains-append_left, Contains-append_right}
use Rattle.plc_lang.specs.declared.syntax.Ghost.{Ghost as AuxiliaryField}
use Rattle.plc_lang.specs.declared.syntax.Primitive.{Primitive}
use Rattle.plc_lang.specs.WellSorted.{is_claim}
use Rattle.plc_lang.specs.Allocation.{is_new}
use Rattle.plc_flow.specs.declared.flow.Flow.{Flow}
use Rattle.plc_logic.specs.declared.clause.Base.{Base}
use Rattle.plc_logic.specs.declared.clause.Base.TheVariants as bases
use Rattle.plc_logic.specs.declared.clause.Clause.{Clause}
use Rattle.plc_logic.specs.declared.clause.Item.{Item}
use Rattle.plc_logic.specs.declared.clause.Literal.{Literal}
use Rattle.plc_logic.specs.declared.clause.Literal.TheVariants as literal
use Rattle.plc_logic.specs.declared.clause.Term.{Term}
use Rattle.plc_logic.specs.declared.clause.Term.TheVariants as terms
use Rattle.plc_logic.specs.declared.clause.Sort.{Sort}
use Rattle.plc_logic.specs.declared.clause.Outline.{Outline}
use Rattle.plc_logic.specs.Fit.{InReach, IsNode, HasSort, HoldsPointer, LiteralFits, InvariantFits, in_reach_of}
use Rattle.plc_logic.specs.Negation.{negation}
use Rattle.plc_ground.specs.declared.terms.Symbol.TheVariants as symbols
use Rattle.plc_ground.specs.declared.terms.Lit.{Lit}
use Rattle.plc_ground.specs.declared.terms.GroundSet.{GroundSet}
use Rattle.plc_ground.specs.Model.{HoldsIn, literals}
use Rattle.plc_ground.specs.Trees.{HasModel}
use Rattle.plc_vocabulary.specs.declared.obligations.Obligation.{Obligation}
use Rattle.plc_vocabulary.specs.declared.obligations.Obligation.TheVariants.{Start, Enter, Own, Other, Claim}
use Rattle.plc_vocabulary.specs.declared.setting.Setting.{Setting}
use Rattle.plc_vocabulary.specs.Fit.{Fits}
use Rattle.plc_vocabulary.specs.Parts.{executed, has_owner, conclusion, acting_locals, acting_premises, claim_made, step_prims}
use Rattle.plc_vocabulary.specs.Points.{clauses_at, count_at, stands_at}
use Rattle.plc_vocabulary.specs.Marks.{program_uses_marks}
use Rattle.plc_vocabulary.specs.Setting.{below, setting_of, bound_of, pointer_loads_from}
use Rattle.plc_encoding.specs.declared.execution.Execution.{Execution}
use Rattle.plc_encoding.specs.Execution.{start, after_all, executed_clauses}
use Rattle.plc_encoding.specs.Items.{values_from, mark_values, beginning, freshness, premises, denied, denied_clause, denied_claim, clauses_of, escapes, instance_at, tuples, instances, bound_nodes, read_literal}
use Rattle.plc_symbolic.specs.declared.symbolic.NodeTerm.{NodeTerm}
use Rattle.plc_symbolic.specs.declared.symbolic.NodeTerm.TheVariants.{At}
use Rattle.plc_symbolic.specs.declared.symbolic.SymbolicTerm.{SymbolicTerm}
use Rattle.plc_symbolic.specs.declared.symbolic.SymbolicTerm.TheVariants.{Constant}
use Rattle.plc_symbolic.specs.declared.symbolic.SymbolicLit.{SymbolicLit}
use Rattle.plc_symbolic.specs.Terms.{Clauses, is_not, null}
use Rattle.plc_symbolic.specs.Numbering.{Drafted, blank, listed_all, number_lit, numbered}
use Rattle.plc_symbolic.proofs.Drafts.{written_all-clauses, listed_all-clauses}
use Rattle.plc_oblig.specs.GroundSets.{listed_first, drafted, ground_set}
use Rattle.plc_oblig.specs.Obligations.{parts_from, starts, enters_of, owns_of, others_at, others_of, claims_in, claims_of, enters, owns, others, claims, obligations, step_id, point_id}
use Rattle.plc_oblig.specs.Still.{changes, is_quiet, is_still}
use Rattle.plc_base.proofs.Lists.{slice_left}
use Rattle.plc_oblig.specs.declared.touching.Part.{Part}
use Rattle.plc_oblig.specs.Untouched.{literal_reads, any_reads, touches, is_read_alike, any_read_alike, is_untouched}
use Rattle.plc_oblig.proofs.Places.{there}
use Rattle.plc_oblig.specs.Outlines.{IsKept}
use Rattle.plc_oblig.specs.Direct.{opposite, opposites, IsRefuted, IsRefutedByLast, IsPremise, denied_count, instance_before}
use Rattle.plc_oblig.proofs.Members.{at_head, in_tail, at_place, contains_map, contains_flat_map, Within, within_left, within_right, within_itself, within_map, map_read}
use Rattle.plc_oblig.proofs.Staying.{Stays, stays_after_all, none_written, none_new, BaseStays, TermStays, LiteralStays}
use Rattle.plc_oblig.proofs.Staying.{Covers, literal_stays}

-- ---- a set that ends with the opposites of an earlier clause has no model

not_both : (A : Type 0) (b : Bool) → MatchBool b A (A → ⊥) → MatchBool (not b) A (A → ⊥) → ⊥
not_both A true h k = k h
not_both A false h k = h k

only_true : (class : ℕ → ℕ) (l : Lit) → Any (HoldsIn class) (l ∷ []) → HoldsIn class l
only_true class l (zero, y, less, is, holds) = subst (HoldsIn class) (sym is) holds
only_true class l (suc k, y, less, is, holds) = absurd (omega arith)

read_right : {A : Type 0} (xs ys : List A) (j k : ℕ) (d : A) → j ≡ length xs + k → slice_index_or (xs ++ ys) j d ≡ slice_index_or ys k d
read_right [] ys j k d e = let same : j ≡ k = omega (arith, e) in ap (λ i. slice_index_or ys i d) same
read_right (x ∷ xs) ys zero k d e = absurd (omega (arith, e))
read_right (x ∷ xs) ys (suc j) k d e = read_right xs ys j k d (omega (arith, e))

pub refuted_has_no_model : (s : GroundSet) (c : ℕ) → IsRefuted s c → HasModel s → ⊥
refuted_has_no_model s c r (class, model) =
    let ls = literals s c in
    let count = ap length r.whole ∙ length-append r.before (opposites ls) in
    let units = length-map ls (λ (l : Lit). opposite l ∷ []) in
    let earlier = r.earlier in
    let t = model.clauses c (omega (arith, count, earlier)) in
    let less = t.2 in
    let unit : slice_index_or s.clauses (length r.before + t.0) [] ≡ opposite t.1 ∷ [] =
    ap (λ cs. slice_index_or cs (length r.before + t.0) []) r.whole
    ∙ read_right r.before (opposites ls) (length r.before + t.0) t.0 [] refl
    ∙ map_read (λ (l : Lit). opposite l ∷ []) ls t.0 t.1 [] less t.3 in
    let other = subst (Any (HoldsIn (slice_index class))) unit (model.clauses (length r.before + t.0) (omega (arith, count, units, less))) in
    not_both (slice_index class t.1.left ≡ slice_index class t.1.right) t.1.equal t.4 (only_true (slice_index class) (opposite t.1) other)

-- ---- the negated conclusion is the opposites of an instance of it

-- the same terms, with the truth turned
abbrev opposed : SymbolicLit → SymbolicLit
opposed l = record { left = l.left; right = l.right; equal = not l.equal }

abbrev alone : SymbolicLit → List SymbolicLit
alone l = opposed l ∷ []

opposed_read : (ghosts : List AuxiliaryField) (x : Execution) (owner : Bool) (names : List NodeTerm) (l : Literal)
    → read_literal ghosts x owner names (negation l) ≡ opposed (read_literal ghosts x owner names l)
opposed_read ghosts x owner names (literal.Same a b is_so) = refl
opposed_read ghosts x owner names (literal.Retired b is_so) = refl
opposed_read ghosts x owner names (literal.Marked t is_so) = refl

escapes_denied : (js : List ℕ) → map alone (flat_map (escapes false) (map (λ i. At (symbols.Bound i)) js)) ≡ map (λ i. is_not (Constant (symbols.Bound i)) null ∷ []) js
escapes_denied [] = refl
escapes_denied (j ∷ js) = ap (λ cs. (is_not (Constant (symbols.Bound j)) null ∷ []) ∷ cs) (escapes_denied js)

literals_denied : (ghosts : List AuxiliaryField) (test : Part → Bool) (x : Execution) → Stays test x → (owner : Bool) (names : List NodeTerm) (ls : List Literal)
    → All (LiteralStays owner) ls → All (Covers test) ls
    → map alone (map (read_literal ghosts start owner names) ls) ≡ map (λ l. read_literal ghosts x owner names (negation l) ∷ []) ls
literals_denied ghosts test x stays owner names [] h v = refl
literals_denied ghosts test x stays owner names (l ∷ ls) h v =
    ap (λ k. (opposed k ∷ []) ∷ map alone (map (read_literal ghosts start owner names) ls))
    (sym (literal_stays ghosts test x stays owner names l (All-head (LiteralStays owner) l ls h) (All-head (Covers test) l ls v)))
    ∙ ap (λ k. (k ∷ []) ∷ map alone (map (read_literal ghosts start owner names) ls)) (sym (opposed_read ghosts x owner names l))
    ∙ ap (λ cs. (read_literal ghosts x owner names (negation l) ∷ []) ∷ cs) (literals_denied ghosts test x stays owner names ls (All-tail (LiteralStays owner) l ls h) (All-tail (Covers test) l ls v))

-- what a literal of the clause reads some literal of it reads
all_covered : (ls : List Literal) → All (Covers (any_reads ls)) ls
all_covered ls k d less part e = list_any_at (literal_reads part) ls k d less e

all_denied : (ghosts : List AuxiliaryField) (s : Setting) (x : Execution) (c : Clause) → Stays (any_reads c.literals) x → All (LiteralStays s.owned) c.literals
    → map alone (instance_at ghosts false s.owned c.literals (bound_nodes (length c.bound.names))) ≡ denied_clause ghosts s x (Some c)
all_denied ghosts s x c stays h =
    let n = length c.bound.names in
    map-append alone (flat_map (escapes false) (bound_nodes n)) (map (read_literal ghosts start s.owned (bound_nodes n)) c.literals)
    ∙ ap (λ cs. cs ++ map alone (map (read_literal ghosts start s.owned (bound_nodes n)) c.literals)) (escapes_denied (below n))
    ∙ ap (λ cs. map (λ i. is_not (Constant (symbols.Bound i)) null ∷ []) (below n) ++ cs) (literals_denied ghosts (any_reads c.literals) x stays s.owned (bound_nodes n) c.literals h (all_covered c.literals))

-- ---- the instance is among the premises

no_names : (n : ℕ) (b : Bool) → (n == 0) ≡ b → (b || false) ≡ true → n ≡ 0
no_names n true e h = eqb-true n 0 e
no_names n false e h = cc

-- where no node is made, or none is named, an instance has no case for a new node
plain_instance : (ghosts : List AuxiliaryField) (made owner : Bool) (ls : List Literal) (n : ℕ) → (n == 0 || not made) ≡ true
    → instance_at ghosts made owner ls (bound_nodes n) ≡ instance_at ghosts false owner ls (bound_nodes n)
plain_instance ghosts false owner ls n e = refl
plain_instance ghosts true owner ls n e =
    subst (λ m. instance_at ghosts true owner ls (bound_nodes m) ≡ instance_at ghosts false owner ls (bound_nodes m))
    (sym (no_names n (n == 0) refl e)) refl

tuple_listed : (names ts : List NodeTerm) → Within names ts → Contains (tuples (length names) ts) names
tuple_listed [] ts h = at_head [] []
tuple_listed (t ∷ rest) ts h =
    contains_flat_map (λ u. map (λ more. u ∷ more) (tuples (length rest) ts)) ts t (t ∷ rest) (h t (at_head t rest))
    (contains_map (λ more. t ∷ more) (tuples (length rest) ts) rest (tuple_listed rest ts (λ u c. h u (in_tail t u rest c))))

map_twice : (js : List ℕ) → map At (map symbols.Bound js) ≡ map (λ i. At (symbols.Bound i)) js
map_twice [] = refl
map_twice (j ∷ js) = ap (λ ts. At (symbols.Bound j) ∷ ts) (map_twice js)

module _ (flow : Flow) (outline : Outline) (o : Obligation) where
  names_listed : Within (bound_nodes (bound_of (conclusion flow outline o))) (setting_of flow outline o).instances
  names_listed =
      let s = setting_of flow outline o in
      let n = bound_of (conclusion flow outline o) in
      let loads = pointer_loads_from 0 s.acts in
      subst (λ ts. Within ts s.instances) (map_twice (below n))
      (within_left (map At (map symbols.Bound (below n))) (map At (s.pointers ++ (map symbols.Bound (below n) ++ loads))) _
      (within_map At (map symbols.Bound (below n)) (s.pointers ++ (map symbols.Bound (below n) ++ loads))
      (within_right (map symbols.Bound (below n)) s.pointers (map symbols.Bound (below n) ++ loads)
      (within_left (map symbols.Bound (below n)) (map symbols.Bound (below n)) loads (within_itself (map symbols.Bound (below n)))))))

  instance_listed : (owner : Bool) (c : Clause) → conclusion flow outline o ≡ Some c
      → Contains (instances flow.file.ghosts (setting_of flow outline o) owner c)
      (instance_at flow.file.ghosts (setting_of flow outline o).makes owner c.literals (bound_nodes (length c.bound.names)))
  instance_listed owner c is =
      let s = setting_of flow outline o in
      let n = length c.bound.names in
      contains_map (instance_at flow.file.ghosts s.makes owner c.literals) (tuples n s.instances) (bound_nodes n)
      (subst (λ m. Contains (tuples m s.instances) (bound_nodes n)) (length-map-range_with_len (λ i. At (symbols.Bound i)) 0 n)
      (tuple_listed (bound_nodes n) s.instances (subst (λ q. Within (bound_nodes (bound_of q)) s.instances) is names_listed)))
  -- ---- the whole

pair_up : (ts : List SymbolicTerm) (i : List SymbolicLit) → map (map (number_lit ts)) (map alone i) ≡ opposites (map (number_lit ts) i)
pair_up ts [] = refl
pair_up ts (l ∷ ls) = ap (λ cs. map (number_lit ts) (alone l) ∷ cs) (pair_up ts ls)

read_left : {A : Type 0} (xs ys : List A) (k : ℕ) (d : A) → k < length xs → slice_index_or (xs ++ ys) k d ≡ slice_index_or xs k d
read_left [] ys k d less = absurd (omega arith)
read_left (x ∷ xs) ys zero d less = refl
read_left (x ∷ xs) ys (suc k) d less = read_left xs ys k d (omega arith)

-- a draft that ends with the opposites of one of its earlier clauses is a ground set that does, at the numbers of that clause
ends_refuted : (sorts : List Sort) (d : Drafted) (before : Clauses) (i : List SymbolicLit) → d.clauses ≡ before ++ map alone i → Contains before i
    → (c : ℕ) × IsRefutedByLast (numbered sorts d) (length i) c × (literals (numbered sorts d) c ≡ map (number_lit d.terms) i)
ends_refuted sorts d before i is there =
    let f = map (number_lit d.terms) in
    let less = there.1 in
    let count = length-map before f in
    let whole : map f d.clauses ≡ map f before ++ opposites (f i) = ap (map f) is ∙ map-append f before (map alone i) ∙ ap (λ cs. map f before ++ cs) (pair_up d.terms i) in
    let short : there.0 < length (map f before) = omega arith in
    let read : slice_index_or (map f d.clauses) there.0 [] ≡ f i = ap (λ cs. slice_index_or cs there.0 []) whole
    ∙ read_left (map f before) (opposites (f i)) there.0 [] short ∙ map_read f before there.0 i [] there.1 there.2 in (
      there.0,
      record {
        refuted = record {
          before = map f before;
          whole = whole ∙ ap (λ ls. map f before ++ opposites ls) (sym read);
          earlier = short;
        };
        count = ap length read ∙ length-map i (number_lit d.terms);
      },
      read,
    )

quiet_step : (b : Bool) → not b ≡ true → b ≡ false
quiet_step true h = cc
quiet_step false h = refl

both_so : (a b d : Bool) → a ≡ true → d ≡ true → (a && (b || d)) ≡ true
both_so true true d h e = refl
both_so true false d h e = e
both_so false b d h e = cc

regroup : {A : Type 0} (a b c d e f g : List A)
    → a ++ (b ++ (c ++ (d ++ (e ++ (f ++ g))))) ≡ (a ++ (b ++ (c ++ (d ++ (e ++ f))))) ++ g
regroup a b c d e f g = sym (simp append_assoc)

module _ (flow : Flow) (outline : Outline) (o : Obligation) where
  -- what stands before the negated conclusion
  abbrev earlier_clauses : Clauses
  earlier_clauses =
      let s = setting_of flow outline o in
      values_from 0 0 flow.file.ghosts s.nodes
      ++ (mark_values s
      ++ (beginning flow s o
      ++ (freshness flow.file s ++ (premises flow outline s o ++ executed_clauses s.nodes start s.acts))))

  premise_held : (c : List SymbolicLit) → Contains (premises flow outline (setting_of flow outline o) o) c → Contains earlier_clauses c
  premise_held c h =
      let s = setting_of flow outline o in
      Contains-append_right (values_from 0 0 flow.file.ghosts s.nodes) _ c (Contains-append_right (mark_values s) _ c
      (Contains-append_right (beginning flow s o) _ c (Contains-append_right (freshness flow.file s) _ c
      (Contains-append_left (premises flow outline s o) _ c h))))

  clauses_end : clauses_of flow outline (setting_of flow outline o) o
      ≡ earlier_clauses ++ denied flow outline (setting_of flow outline o) (after_all start (setting_of flow outline o).acts) o
  unfolding clauses_of
  clauses_end =
      let s = setting_of flow outline o in
      regroup (values_from 0 0 flow.file.ghosts s.nodes) (mark_values s) (beginning flow s o) (freshness flow.file s)
      (premises flow outline s o) (executed_clauses s.nodes start s.acts)
      (denied flow outline s (after_all start s.acts) o)

  clauses_are : (drafted flow outline (setting_of flow outline o) o).clauses ≡ clauses_of flow outline (setting_of flow outline o) o
  clauses_are =
      let s = setting_of flow outline o in
      written_all-clauses (clauses_of flow outline s o) (listed_all blank (listed_first flow outline s))
      ∙ ap (λ cs. cs ++ clauses_of flow outline s o) (listed_all-clauses (listed_first flow outline s) blank)

  -- the clause of the obligation's premise, at its place in the set
  abbrev pub IsRefutedPremise : ℕ → Type 0
  IsRefutedPremise k = IsRefutedByLast (ground_set flow outline o) (denied_count flow outline o) k × IsPremise flow outline o (literals (ground_set flow outline o) k)

  refuted_by : (c : Clause) → conclusion flow outline o ≡ Some c → claim_made flow o ≡ None → is_read_alike (executed flow o) c ≡ true → All (LiteralStays (has_owner o)) c.literals
      → ((i : List SymbolicLit) → Contains (instances flow.file.ghosts (setting_of flow outline o) (has_owner o) c) i → Contains (premises flow outline (setting_of flow outline o) o) i)
      → (k : ℕ) × IsRefutedPremise k
  unfolding ground_set
  refuted_by c is no_claim quiet names_none premise =
      let s = setting_of flow outline o in
      let d = drafted flow outline s o in
      let x = after_all start s.acts in
      let alike = and_parts (not (list_any (touches c.literals) (executed flow o))) (length c.bound.names == 0 || not (list_any is_new (executed flow o))) quiet in
      let stays = stays_after_all (any_reads c.literals) flow.file.ghosts (acting_locals flow o) (program_uses_marks flow outline)
      (executed flow o) (quiet_step (list_any (touches c.literals) (executed flow o)) alike.0) in
      let i = instance_at flow.file.ghosts false (has_owner o) c.literals (bound_nodes (length c.bound.names)) in
      let plain = plain_instance flow.file.ghosts s.makes (has_owner o) c.literals (length c.bound.names) alike.1 in
      let among = premise (instance_before flow outline o c) (instance_listed flow outline o (has_owner o) c is) in
      let e = all_denied flow.file.ghosts s x c stays names_none ∙ ap (denied_clause flow.file.ghosts s x) (sym is) in
      let ends = sym (append-nil (denied_clause flow.file.ghosts s x (conclusion flow outline o)))
      ∙ ap (λ q. denied_clause flow.file.ghosts s x (conclusion flow outline o) ++ denied_claim s x q) (sym no_claim) in
      let r = ends_refuted _ d earlier_clauses i (clauses_are ∙ clauses_end ∙ ap (λ cs. earlier_clauses ++ cs) (sym (e ∙ ends)))
      (premise_held i (subst (Contains (premises flow outline s o)) plain among)) in (
        r.0,
        (
          subst (λ n. IsRefutedByLast (ground_set flow outline o) n r.0) (sym (length-map i alone) ∙ ap length (e ∙ ends)) r.1,
          record {
            clause = c;
            concluded = is;
            among = among;
            numbered = r.2 ∙ ap (map (number_lit d.terms)) (sym plain);
          },
        ),
      )

-- ---- invariants name no local

node_stays : (w : InReach) → w.locals ≡ [] → (b : Base) → IsNode w b → BaseStays false b
node_stays w none (bases.Shared i) h = tt
node_stays w none (bases.Local k) h = (let e = ap (λ ls. slice_get ls k) (sym none) ∙ h.1 in cc)
node_stays w none (bases.Bound i) h = tt

sort_stays : (w : InReach) → w.locals ≡ [] → (t : Term) (s : Sort) → HasSort w t s → TermStays false t
sort_stays w none (terms.Shared i) s h = tt
sort_stays w none (terms.Local k) s h = (let e = ap (λ ls. slice_get ls k) (sym none) ∙ h.1 in cc)
sort_stays w none (terms.Bound i) s h = tt
sort_stays w none (terms.FieldOf b f) s h = node_stays w none b h.0
sort_stays w none (terms.GhostOf b g) s h = node_stays w none b h.0
sort_stays w none terms.Null s h = tt
sort_stays w none (terms.Number n) s h = tt
sort_stays w none (terms.Value g v) s h = tt
sort_stays w none terms.Me s h = tt
sort_stays w none terms.Nobody s h = tt

pointer_stays : (w : InReach) → w.locals ≡ [] → (t : Term) → HoldsPointer w t → TermStays false t
pointer_stays w none (terms.Shared i) h = tt
pointer_stays w none (terms.Local k) h = (let e = ap (λ ls. slice_get ls k) (sym none) ∙ h.1 in cc)
pointer_stays w none (terms.Bound i) h = tt
pointer_stays w none (terms.FieldOf b f) h = node_stays w none b h.0
pointer_stays w none (terms.GhostOf b g) h = absurd h
pointer_stays w none terms.Null h = tt
pointer_stays w none (terms.Number n) h = tt
pointer_stays w none (terms.Value g v) h = tt
pointer_stays w none terms.Me h = tt
pointer_stays w none terms.Nobody h = tt

fit_stays : (w : InReach) → w.locals ≡ [] → (l : Literal) → LiteralFits w l → LiteralStays false l
fit_stays w none (literal.Same a b is_so) h = (sort_stays w none a h.0 h.1, sort_stays w none b h.0 h.2)
fit_stays w none (literal.Retired b is_so) h = node_stays w none b h
fit_stays w none (literal.Marked t is_so) h = pointer_stays w none t h

owner_base : (b : Base) → BaseStays true b
owner_base (bases.Shared i) = tt
owner_base (bases.Local k) = refl
owner_base (bases.Bound i) = tt

owner_term : (t : Term) → TermStays true t
owner_term (terms.Shared i) = tt
owner_term (terms.Local k) = refl
owner_term (terms.Bound i) = tt
owner_term (terms.FieldOf b f) = owner_base b
owner_term (terms.GhostOf b g) = owner_base b
owner_term terms.Null = tt
owner_term (terms.Number n) = tt
owner_term (terms.Value g v) = tt
owner_term terms.Me = tt
owner_term terms.Nobody = tt

owner_literal : (l : Literal) → LiteralStays true l
owner_literal (literal.Same a b is_so) = (owner_term a, owner_term b)
owner_literal (literal.Retired b is_so) = owner_base b
owner_literal (literal.Marked t is_so) = owner_term t

-- ---- each obligation at a point of another thread has its clause

abbrev HasClause : Flow → Outline → Obligation → Type 0
HasClause flow outline (Start i) = Unit {0}
HasClause flow outline (Enter o c) = Unit {0}
HasClause flow outline (Own k c) = Unit {0}
HasClause flow outline (Other k p c) = c < count_at flow outline p.0
HasClause flow outline (Claim k j) = Unit {0}

all_parts : {A X : Type 0} (P : X → Type 0) (part : ℕ → A → List X) → ((k : ℕ) (a : A) → All P (part k a)) → (k : ℕ) (xs : List A) → All P (parts_from part k xs)
all_parts P part h k [] = All-nil P
all_parts P part h k (x ∷ xs) = All-append P (part k x) (parts_from part (k + 1) xs) (h k x) (all_parts P part h (k + 1) xs)

all_below : (n : ℕ) → All (λ c. c < n) (below n)
all_below n k d less =
    let e = length-range_with_len 0 n in
    let g = get_or-range_with_len 0 n k d (omega arith) in
    omega arith

module _ (flow : Flow) (outline : Outline) where
  all_claims : (k j : ℕ) (ps : List Primitive) → All (HasClause flow outline) (claims_in k j ps)
  all_claims k j [] = All-nil (HasClause flow outline)
  all_claims k j (p ∷ ps) = go (is_claim p) (all_claims k (j + 1) ps)
    where
      go : (b : Bool) → All (HasClause flow outline) (claims_in k (j + 1) ps) → All (HasClause flow outline) (if b then Claim (step_id k) j ∷ claims_in k (j + 1) ps else claims_in k (j + 1) ps)
      go true h = All-cons (HasClause flow outline) (Claim (step_id k) j) (claims_in k (j + 1) ps) tt h
      go false h = h

  all_have : All (HasClause flow outline) (obligations flow outline)
  unfolding obligations
  all_have =
      All-append (HasClause flow outline) (starts outline) _ (All-map (HasClause flow outline) _ (below _) (λ k d less. tt))
      (All-append (HasClause flow outline) (enters flow outline) _ (all_parts (HasClause flow outline) (enters_of flow outline) (λ k g. All-map (HasClause flow outline) _ (below _) (λ j d less. tt)) 0 flow.gates)
      (All-append (HasClause flow outline) (owns flow outline) _ (all_parts (HasClause flow outline) (owns_of flow outline) (λ k s. All-map (HasClause flow outline) _ (below _) (λ j d less. tt)) 0 flow.steps)
      (All-append (HasClause flow outline) (others flow outline) (claims flow)
      (all_parts (HasClause flow outline) (others_of flow outline)
      (λ k s. all_parts (HasClause flow outline) (others_at flow outline k) (λ j p. All-map (HasClause flow outline) (Other (step_id k) (point_id p)) (below (count_at flow outline p)) (all_below (count_at flow outline p))) 0 (below flow.points)) 0 flow.steps)
      (all_parts (HasClause flow outline) claims_of (λ k s. all_claims k 0 s.prims) 0 flow.steps))))

  -- the clause is an invariant, or another thread's
  abbrev SaysAgain : Obligation → Type 0
  SaysAgain (Start i) = ⊥
  SaysAgain (Enter o c) = ⊥
  SaysAgain (Own k c) = nat_lt c (length outline.invariants) ≡ true
  SaysAgain (Other k p c) = Unit {0}
  SaysAgain (Claim k j) = ⊥

  -- it is read after the step as before it
  abbrev ReadsAlike : Obligation → Type 0
  ReadsAlike o = (c : Clause) → conclusion flow outline o ≡ Some c → is_read_alike (executed flow o) c ≡ true

  again_is_refuted : (o : Obligation) → Fits flow outline → Contains (obligations flow outline) o → SaysAgain o → ReadsAlike o
      → (k : ℕ) × IsRefutedPremise flow outline o k
  again_is_refuted (Start i) fits listed again alike = absurd again
  again_is_refuted (Enter o c) fits listed again alike = absurd again
  again_is_refuted (Claim k j) fits listed again alike = absurd again
  again_is_refuted (Own k c) fits listed again alike =
      let less = ltb-true c (length outline.invariants) again in
      let f = there outline.invariants c less in
      let inv = fits.outline_fits.each_invariant in
      let fit = subst (InvariantFits flow.file) (get_found f.0 f.1) (inv c f.0 less) in
      let is = slice_left outline.invariants _ c f.0 f.1 in
      refuted_by flow outline (Own k c) f.0 is refl (alike f.0 is)
      (λ n d less. fit_stays (in_reach_of flow.file [] false f.0) refl _ (fit.each n d less))
      (λ i h. Contains-append_left (flat_map (instances flow.file.ghosts (setting_of flow outline (Own k c)) false) (acting_premises flow outline (Own k c))) _ i
      (contains_flat_map (instances flow.file.ghosts (setting_of flow outline (Own k c)) false) (acting_premises flow outline (Own k c)) f.0 i
      (Contains-append_left outline.invariants _ f.0 (at_place outline.invariants c f.0 f.1)) h))
    where
      get_found : (x : Clause) → slice_get outline.invariants c ≡ Some x → slice_index_or outline.invariants c x ≡ x
      get_found x e = get_or_from_slice_get outline.invariants c x x e
  again_is_refuted (Other k p c) fits listed again alike =
      let less = All-contains (HasClause flow outline) (obligations flow outline) (Other k p c) all_have listed in
      let e = length-map (filter (stands_at flow p.0) outline.items) (λ (i : Item). i.clause) in
      let f = there (clauses_at flow outline p.0) c (omega arith) in
      refuted_by flow outline (Other k p c) f.0 f.1 refl (alike f.0 f.1)
      (λ n d less. owner_literal _)
      (λ i h. Contains-append_right (flat_map (instances flow.file.ghosts (setting_of flow outline (Other k p c)) false) (acting_premises flow outline (Other k p c))) _ i
      (contains_flat_map (instances flow.file.ghosts (setting_of flow outline (Other k p c)) true) (clauses_at flow outline p.0) f.0 i
      (at_place (clauses_at flow outline p.0) c f.0 f.1) h))

  -- ---- still obligations, and untouched ones

  quiet_is_alike : (ps : List Primitive) (c : Clause) → not (list_any changes ps) ≡ true → is_read_alike ps c ≡ true
  quiet_is_alike ps c still =
      let quiet = quiet_step (list_any changes ps) still in
      both_so (not (list_any (touches c.literals) ps)) (length c.bound.names == 0) (not (list_any is_new ps))
      (ap not (none_written (any_reads c.literals) ps quiet)) (ap not (none_new ps quiet))

  pub still_is_refuted : (o : Obligation) → Fits flow outline → Contains (obligations flow outline) o → is_still flow outline o ≡ true → (k : ℕ) × IsRefutedPremise flow outline o k
  still_is_refuted (Start i) fits listed still = cc
  still_is_refuted (Enter o c) fits listed still = cc
  still_is_refuted (Claim k j) fits listed still = cc
  still_is_refuted (Own k c) fits listed still =
      let p = and_parts (nat_lt c (length outline.invariants)) (is_quiet flow k.0) still in
      again_is_refuted (Own k c) fits listed p.0 (λ d is. quiet_is_alike (step_prims flow k.0) d p.1)
  still_is_refuted (Other k p c) fits listed still =
      again_is_refuted (Other k p c) fits listed tt (λ d is. quiet_is_alike (step_prims flow k.0) d still)

  pub still_is_kept : (o : Obligation) → Fits flow outline → Contains (obligations flow outline) o → is_still flow outline o ≡ true → IsKept flow outline o
  still_is_kept o fits listed still =
      let r = still_is_refuted o fits listed still in
      refuted_has_no_model (ground_set flow outline o) r.0 r.1.0.refuted

  concluded_alike : (o : Obligation) → any_read_alike (executed flow o) (conclusion flow outline o) ≡ true → ReadsAlike o
  concluded_alike o h c is = ap (any_read_alike (executed flow o)) (sym is) ∙ h

  untouched_is_refuted : (o : Obligation) → Fits flow outline → Contains (obligations flow outline) o → is_untouched flow outline o ≡ true → (k : ℕ) × IsRefutedPremise flow outline o k
  untouched_is_refuted (Start i) fits listed h = cc
  untouched_is_refuted (Enter o c) fits listed h = cc
  untouched_is_refuted (Claim k j) fits listed h = cc
  untouched_is_refuted (Own k c) fits listed h =
      let p = and_parts (nat_lt c (length outline.invariants)) (any_read_alike (step_prims flow k.0) (conclusion flow outline (Own k c))) h in
      again_is_refuted (Own k c) fits listed p.0 (concluded_alike (Own k c) p.1)
  untouched_is_refuted (Other k p c) fits listed h =
      again_is_refuted (Other k p c) fits listed tt (concluded_alike (Other k p c) h)

  pub untouched_is_kept : (o : Obligation) → Fits flow outline → Contains (obligations flow outline) o → is_untouched flow outline o ≡ true → IsKept flow outline o
  untouched_is_kept o fits listed h =
      let r = untouched_is_refuted o fits listed h in
      refuted_has_no_model (ground_set flow outline o) r.0 r.1.0.refuted
