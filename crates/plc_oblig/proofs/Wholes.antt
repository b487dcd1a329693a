-- How large the setting of an obligation is, and how long its whole list of clauses.
use Rattle.std.proofs.Common.{◌≡◌, ℕ, zero, suc, ◌+◌, ◌*◌, ◌^◌, ◌==◌, Bool, true, false, cond, List, [], ◌∷◌, ◌++◌, map, flat_map, length, count_by, sum_by, refl, sym, ap, ◌∙◌, arith, Option, Some, None}
use Rattle.std.proofs.Math.Nat.{pow-zero, pow-succ'}
use Rattle.std.proofs.lemmas.List.{length-map, length-append}
use Rattle.std.proofs.lemmas.Option.{none-some}
use Rattle.std.proofs.lemmas.List.FromFn.{length-map-range_with_len}
use Rattle.std.proofs.lemmas.List.Sums.{sum_by-cons, sum_by-append}
use Rattle.plc_lang.specs.declared.syntax.Ghost.{Ghost}
use Rattle.plc_flow.specs.declared.flow.Flow.{Flow}
use Rattle.plc_logic.specs.declared.clause.Clause.{Clause}
use Rattle.plc_logic.specs.declared.clause.Outline.{Outline}
use Rattle.plc_base.specs.declared.ids.FieldId.{FieldId}
use Rattle.plc_ground.specs.declared.terms.Symbol.{Symbol}
use Rattle.plc_ground.specs.declared.terms.Symbol.TheVariants as symbols
use Rattle.plc_lang.specs.Allocation.{is_new}
use Rattle.plc_lang.specs.Locals.{is_pointer}
use Rattle.std.specs.List.{list_any}
use Rattle.plc_symbolic.specs.declared.symbolic.NodeTerm.{NodeTerm}
use Rattle.plc_vocabulary.specs.declared.obligations.Obligation.{Obligation}
use Rattle.plc_vocabulary.specs.declared.obligations.Obligation.TheVariants.{Start, Enter, Own, Other, Claim}
use Rattle.plc_vocabulary.specs.declared.setting.Setting.{Setting}
use Rattle.plc_vocabulary.specs.Parts.{conclusion, claim_made, acting_locals, owner_locals, executed, acting_premises, owner_premises, invariants_before}
use Rattle.plc_vocabulary.specs.Parts.{clauses_of as point_clauses}
use Rattle.plc_base.specs.declared.ids.PointId.{PointId}
use Rattle.plc_vocabulary.specs.Marks.{program_uses_marks}
use Rattle.plc_vocabulary.specs.Acts.{mark_of}
use Rattle.plc_vocabulary.specs.Setting.{mark_constants}
use Rattle.plc_vocabulary.specs.Setting.{nodes_of, targets_of, only_if, node_constants, plain_constants, pointer_loads_from, setting_of, bound_of, below}
use Rattle.plc_encoding.specs.declared.execution.Execution.{Execution}
use Rattle.plc_encoding.specs.Execution.{start, after_all, executed_clauses}
use Rattle.plc_encoding.specs.Items.{tuples, instances, denied, denied_clause, denied_claim, values_from, mark_values, beginning, freshness, premises, clauses_of}
use Rattle.plc_symbolic.specs.Terms.{Clauses}
use Rattle.plc_symbolic.specs.Numbering.{blank, listed_all, written_all}
use Rattle.plc_symbolic.proofs.Drafts.{written_all-clauses, listed_all-clauses}
use Rattle.plc_oblig.specs.GroundSets.{ground_set, listed_first}
use Rattle.plc_oblig.specs.declared.size.Sizes.{Sizes}
use Rattle.plc_lang.specs.Fields.{is_pointer_field}
use Rattle.plc_oblig.specs.Size.{clause_size, is_pointer_load, if_marked, AreSizesOf}
use Rattle.plc_oblig.proofs.Executed.{loads_length}
use Rattle.plc_oblig.proofs.Lengths.{each_length, both, one_more, after_length, locals_length, fields_length}

-- ---- premises

tuples_length : (n : ℕ) (ts : List NodeTerm) → length (tuples n ts) ≡ length ts ^ n
tuples_length zero ts = sym (pow-zero (length ts))
tuples_length (suc n) ts = each_length _ (length ts ^ n) (λ t. length-map (tuples n ts) _ ∙ tuples_length n ts) ts ∙ sym (pow-succ' (length ts) n)

instances_length : (ghosts : List Ghost) (s : Setting) (owner : Bool) (c : Clause) → length (instances ghosts s owner c) ≡ clause_size (length s.instances) c
instances_length ghosts s owner c = length-map (tuples (length c.bound.names) s.instances) _ ∙ tuples_length (length c.bound.names) s.instances

pub all_instances_length : (ghosts : List Ghost) (s : Setting) (owner : Bool) (cs : List Clause) → length (flat_map (instances ghosts s owner) cs) ≡ sum_by (clause_size (length s.instances)) cs
all_instances_length ghosts s owner [] = refl
all_instances_length ghosts s owner (c ∷ cs) =
    both (instances ghosts s owner c) (flat_map (instances ghosts s owner) cs) _ _ (instances_length ghosts s owner c) (all_instances_length ghosts s owner cs)
    ∙ sym (sum_by-cons (clause_size (length s.instances)) c cs)

-- ---- the negated conclusion

pub denied_by_clause : (ghosts : List Ghost) (s : Setting) (x : Execution) (q : Option Clause) (c : Clause) → q ≡ Some c →
    length (denied_clause ghosts s x q) ≡ length c.bound.names + length c.literals
denied_by_clause ghosts s x q c is = ap (λ o. length (denied_clause ghosts s x o)) is
    ∙ both _ _ (length c.bound.names) (length c.literals) (length-map-range_with_len _ 0 (length c.bound.names)) (length-map c.literals _)

-- only a claim is no clause
no_claim : (flow : Flow) (outline : Outline) (o : Obligation) (c : Clause) → conclusion flow outline o ≡ Some c → claim_made flow o ≡ None
no_claim flow outline (Start i) c is = refl
no_claim flow outline (Enter o k) c is = refl
no_claim flow outline (Own s k) c is = refl
no_claim flow outline (Other s p k) c is = refl
no_claim flow outline (Claim s j) c is = absurd (none-some c is)

pub denied_by_conclusion : (flow : Flow) (outline : Outline) (s : Setting) (x : Execution) (o : Obligation) (c : Clause) → conclusion flow outline o ≡ Some c →
    length (denied flow outline s x o) ≡ length c.bound.names + length c.literals
denied_by_conclusion flow outline s x o c is =
    both (denied_clause flow.file.ghosts s x (conclusion flow outline o)) (denied_claim s x (claim_made flow o)) _ 0
    (denied_by_clause flow.file.ghosts s x (conclusion flow outline o) c is)
    (ap (λ q. length (denied_claim s x q)) (no_claim flow outline o c is))
    ∙ (let z : (length c.bound.names + length c.literals) + 0 ≡ length c.bound.names + length c.literals = omega arith in z)

-- ---- the setting

deep_length : (deep : Bool) (ts : List NodeTerm) → length (only_if deep ts) ≡ cond deep (length ts) 0
deep_length true ts = refl
deep_length false ts = refl

made_length : (made : Bool) → length (only_if made (symbols.New ∷ [])) ≡ cond made 1 0
made_length true = refl
made_length false = refl

plain_length : (ps : List Symbol) (bound : ℕ) (ls : List Symbol) → length (plain_constants ps bound ls) ≡ length ps + (bound + length ls)
plain_length ps bound ls = both ps _ (length ps) (bound + length ls) refl (both _ ls bound (length ls) (length-map-range_with_len _ 0 bound) refl)

constants_length : (ps : List Symbol) (made : Bool) (bound : ℕ) (ls : List Symbol) → length (node_constants ps made bound ls) ≡ 1 + (length ps + (cond made 1 0 + (bound + length ls)))
constants_length ps made bound ls = one_more symbols.Null _ _ (both ps _ (length ps) _ refl
    (both (only_if made (symbols.New ∷ [])) _ (cond made 1 0) _ (made_length made) (both _ ls bound (length ls) (length-map-range_with_len _ 0 bound) refl)))

nodes_length : (ss : List Symbol) (deep : Bool) (cs : List Symbol) (fs : List FieldId) → length (nodes_of ss deep cs fs) ≡ length ss + cond deep (length cs * length fs) 0
nodes_length ss deep cs fs = both _ _ (length ss) _ (length-map ss _)
    (deep_length deep (targets_of fs cs) ∙ ap (λ n. cond deep n 0) (after_length fs cs))

marks_length : (marked : Bool) (ps ls : List Symbol)
    → length (mark_constants marked ps ls) ≡ if_marked marked (length ps + length ls)
marks_length true ps ls = length-map (ps ++ ls) mark_of ∙ length-append ps ls
marks_length false ps ls = refl

-- the sizes of what a set rests on, where the lists have these lengths
pub setting_sizes : (flow : Flow) (outline : Outline) (o : Obligation) (z : Sizes) (theirs loads plain constants : ℕ)
    → z.mine ≡ count_by is_pointer (acting_locals flow o)
    → theirs ≡ count_by is_pointer (owner_locals flow o)
    → z.pointers ≡ length flow.file.shared + z.mine + theirs
    → z.fields ≡ count_by is_pointer_field flow.file.fields
    → z.bound ≡ bound_of (conclusion flow outline o)
    → z.made ≡ list_any is_new (executed flow o)
    → loads ≡ count_by is_pointer_load (executed flow o)
    → plain ≡ z.pointers + z.bound + loads
    → constants ≡ plain + 1 + cond z.made 1 0
    → z.nodes ≡ constants + cond (outline.depth == 1) (constants * z.fields) 0
    → z.instances ≡ plain + cond (outline.depth == 1) (constants * z.fields) 0
    → z.marked ≡ program_uses_marks flow outline
    → z.marks ≡ if_marked z.marked (z.pointers + loads)
    → AreSizesOf (setting_of flow outline o) z
setting_sizes flow outline o z theirs loads plain constants mine_is theirs_is pointers_is fields_is bound_is made_is loads_is plain_is constants_is nodes_is instances_is marked_is marks_is =
    record {
      mine = mine;
      pointers = pointers;
      fields = fields;
      bound = bound_is;
      made = made_is;
      nodes = nodes;
      instances = instances;
      marked = marked_is;
      marks = marks;
    }
  where
    s : Setting
    s = setting_of flow outline o

    ls : List Symbol
    ls = pointer_loads_from 0 s.acts

    mine : z.mine ≡ length s.mine.pointers
    mine = mine_is ∙ sym (locals_length false (acting_locals flow o))

    pointers : z.pointers ≡ length s.pointers
    pointers =
        let l = both (map symbols.Shared (below (length flow.file.shared))) (s.mine.pointers ++ s.theirs.pointers) (length flow.file.shared) (z.mine + theirs)
        (length-map-range_with_len _ 0 (length flow.file.shared))
        (both s.mine.pointers s.theirs.pointers z.mine theirs (sym mine) (locals_length true (owner_locals flow o) ∙ sym theirs_is)) in
        let sum : z.pointers ≡ length flow.file.shared + (z.mine + theirs) = omega (arith, pointers_is) in
        sum ∙ sym l

    fields : z.fields ≡ length s.fields
    fields = fields_is ∙ sym (fields_length flow.file.fields)

    loaded : loads ≡ length ls
    loaded = loads_is ∙ sym (loads_length (program_uses_marks flow outline) flow.file.ghosts s.mine (executed flow o))

    plain_so : plain ≡ length (plain_constants s.pointers s.bound ls)
    plain_so =
        let sum : plain ≡ z.pointers + (z.bound + loads) = omega (arith, plain_is) in
        sum ∙ ap (λ n. n + (z.bound + loads)) pointers ∙ ap (λ n. length s.pointers + (n + loads)) bound_is ∙ ap (λ n. length s.pointers + (s.bound + n)) loaded
        ∙ sym (plain_length s.pointers s.bound ls)

    constants_so : constants ≡ length s.constants
    constants_so =
        let sum : constants ≡ 1 + (z.pointers + (cond z.made 1 0 + (z.bound + loads))) = omega (arith, constants_is, plain_is) in
        sum ∙ ap (λ n. 1 + (n + (cond z.made 1 0 + (z.bound + loads)))) pointers
        ∙ ap (λ b. 1 + (length s.pointers + (cond b 1 0 + (z.bound + loads)))) made_is
        ∙ ap (λ n. 1 + (length s.pointers + (cond s.makes 1 0 + (n + loads)))) bound_is
        ∙ ap (λ n. 1 + (length s.pointers + (cond s.makes 1 0 + (s.bound + n)))) loaded
        ∙ sym (constants_length s.pointers s.makes s.bound ls)

    deep : cond (outline.depth == 1) (constants * z.fields) 0 ≡ cond (outline.depth == 1) (length s.constants * length s.fields) 0
    deep = ap (λ n. cond (outline.depth == 1) (n * z.fields) 0) constants_so ∙ ap (λ n. cond (outline.depth == 1) (length s.constants * n) 0) fields

    nodes : z.nodes ≡ length s.nodes
    nodes = nodes_is ∙ ap (λ n. n + cond (outline.depth == 1) (constants * z.fields) 0) constants_so ∙ ap (λ n. length s.constants + n) deep
        ∙ sym (nodes_length s.constants (outline.depth == 1) s.constants s.fields)

    instances : z.instances ≡ length s.instances
    instances = instances_is ∙ ap (λ n. n + cond (outline.depth == 1) (constants * z.fields) 0) plain_so ∙ ap (λ n. length (plain_constants s.pointers s.bound ls) + n) deep
        ∙ sym (nodes_length (plain_constants s.pointers s.bound ls) (outline.depth == 1) s.constants s.fields)

    marks : z.marks ≡ length s.marks
    marks = marks_is ∙ ap (λ b. if_marked b (z.pointers + loads)) marked_is
        ∙ ap (λ n. if_marked s.marked (n + loads)) pointers
        ∙ ap (λ n. if_marked s.marked (length s.pointers + n)) loaded
        ∙ sym (marks_length s.marked s.pointers ls)

-- ---- the whole

sums : (a b c d e f g h i : ℕ) → a + b + c + d + e + f + g + h + i ≡ a + (b + (c + (d + (((e + f) + g) + (h + i)))))
sums a b c d e f g h i = omega arith

-- the acting thread's premises: the invariants, then the clauses of its point
acting_length : (flow : Flow) (outline : Outline) (o : Obligation) (s : Setting) (q : Option PointId) (places before standing : ℕ) → places ≡ length s.instances
    → acting_premises flow outline o ≡ invariants_before outline o ++ point_clauses flow outline q
    → before ≡ sum_by (clause_size places) (invariants_before outline o)
    → standing ≡ sum_by (clause_size places) (point_clauses flow outline q)
    → before + standing ≡ length (flat_map (instances flow.file.ghosts s false) (acting_premises flow outline o))
acting_length flow outline o s q places before standing few is before_is standing_is =
    ap (λ n. n + standing) before_is ∙ ap (λ n. sum_by (clause_size places) (invariants_before outline o) + n) standing_is
    ∙ sym (sum_by-append (clause_size places) (invariants_before outline o) (point_clauses flow outline q))
    ∙ ap (sum_by (clause_size places)) (sym is)
    ∙ ap (λ n. sum_by (clause_size n) (acting_premises flow outline o)) few
    ∙ sym (all_instances_length flow.file.ghosts s false (acting_premises flow outline o))

owner_length : (flow : Flow) (outline : Outline) (o : Obligation) (s : Setting) (q : Option PointId) (places standing : ℕ) → places ≡ length s.instances
    → owner_premises flow outline o ≡ point_clauses flow outline q
    → standing ≡ sum_by (clause_size places) (point_clauses flow outline q)
    → standing ≡ length (flat_map (instances flow.file.ghosts s true) (owner_premises flow outline o))
owner_length flow outline o s q places standing few is standing_is =
    standing_is ∙ ap (sum_by (clause_size places)) (sym is)
    ∙ ap (λ n. sum_by (clause_size n) (owner_premises flow outline o)) few
    ∙ sym (all_instances_length flow.file.ghosts s true (owner_premises flow outline o))

pub whole_length : (flow : Flow) (outline : Outline) (o : Obligation) (s : Setting) (q r : Option PointId) (places values marks first fresh before mine theirs run negated : ℕ)
    → places ≡ length s.instances
    → acting_premises flow outline o ≡ invariants_before outline o ++ point_clauses flow outline q
    → owner_premises flow outline o ≡ point_clauses flow outline r
    → values ≡ length (values_from 0 0 flow.file.ghosts s.nodes)
    → marks ≡ length (mark_values s)
    → first ≡ length (beginning flow s o)
    → fresh ≡ length (freshness flow.file s)
    → before ≡ sum_by (clause_size places) (invariants_before outline o)
    → mine ≡ sum_by (clause_size places) (point_clauses flow outline q)
    → theirs ≡ sum_by (clause_size places) (point_clauses flow outline r)
    → run ≡ length (executed_clauses s.nodes start s.acts)
    → negated ≡ length (denied flow outline s (after_all start s.acts) o)
    → values + marks + first + fresh + before + mine + theirs + run + negated ≡ length (clauses_of flow outline s o)
unfolding clauses_of
whole_length flow outline o s q r places values marks first fresh before mine theirs run negated few acting owner values_is marks_is first_is fresh_is before_is mine_is theirs_is run_is negated_is =
    let all : length (clauses_of flow outline s o)
    ≡ values + (marks + (first + (fresh + (((before + mine) + theirs) + (run + negated))))) =
    both (values_from 0 0 flow.file.ghosts s.nodes) _ values _ (sym values_is)
    (both (mark_values s) _ marks _ (sym marks_is)
    (both (beginning flow s o) _ first _ (sym first_is)
    (both (freshness flow.file s) _ fresh _ (sym fresh_is)
    (both (premises flow outline s o) _ ((before + mine) + theirs) _
    (both (flat_map (instances flow.file.ghosts s false) (acting_premises flow outline o))
    (flat_map (instances flow.file.ghosts s true) (owner_premises flow outline o)) (before + mine) theirs
    (sym (acting_length flow outline o s q places before mine few acting before_is mine_is))
    (sym (owner_length flow outline o s r places theirs few owner theirs_is)))
    (both (executed_clauses s.nodes start s.acts) (denied flow outline s (after_all start s.acts) o) run negated
    (sym run_is) (sym negated_is)))))) in
    sums values marks first fresh before mine theirs run negated ∙ sym all

-- the set has a clause for each
pub set_length : (flow : Flow) (outline : Outline) (o : Obligation) → length (clauses_of flow outline (setting_of flow outline o) o) ≡ length (ground_set flow outline o).clauses
unfolding ground_set
set_length flow outline o =
    let s = setting_of flow outline o in
    let first = listed_all blank (listed_first flow outline s) in
    sym (length-map (written_all first (clauses_of flow outline s o)).clauses _
    ∙ ap length (written_all-clauses (clauses_of flow outline s o) first)
    ∙ ap (λ (cs : Clauses). length (cs ++ clauses_of flow outline s o)) (listed_all-clauses (listed_first flow outline s) blank))
