-- Ground sets keep the rules of ground sets.
use Rattle.std.proofs.Common.{◌≡◌, ℕ, zero, suc, ◌<◌, ◌^◌, Bool, true, false, List, [], ◌∷◌, ◌++◌, length, slice_get, All, Option, Some, None, refl, sym, ap, ◌∙◌, subst}
use Rattle.std.specs.Prelude.{flat_map}
use Rattle.plc_lang.specs.declared.syntax.Local.{Local}
use Rattle.plc_lang.specs.Locals.{locals_of}
use Rattle.plc_flow.specs.declared.flow.Flow.{Flow}
use Rattle.plc_flow.specs.declared.flow.Gate.{Gate}
use Rattle.plc_flow.specs.declared.flow.Step.{Step}
use Rattle.plc_flow.specs.WellFormed.{IsPointOf}
use Rattle.plc_flow.proofs.Each.{Each, each_both, each_so}
use Rattle.plc_flow.proofs.Gates.{gate_from}
use Rattle.plc_logic.specs.declared.clause.Clause.{Clause}
use Rattle.plc_logic.specs.declared.clause.Outline.{Outline}
use Rattle.plc_logic.specs.Fit.{InvariantFits, ClauseFits, pointer_sort}
use Rattle.plc_ground.specs.declared.terms.GroundSet.{GroundSet}
use Rattle.plc_ground.specs.Fit.{IsWellFormed}
use Rattle.plc_symbolic.specs.declared.symbolic.SymbolicLit.{SymbolicLit}
use Rattle.plc_symbolic.specs.Drafts.{IsDraft, begun, SortsFit}
use Rattle.plc_symbolic.specs.Numbering.{Drafted, blank, listed_all}
use Rattle.plc_symbolic.specs.Terms.{Clauses}
use Rattle.plc_symbolic.proofs.Drafts.{lists_all, writes_all, written_all-clauses, listed_all-clauses, well_formed}
use Rattle.plc_vocabulary.specs.declared.obligations.Obligation.{Obligation}
use Rattle.plc_vocabulary.specs.declared.obligations.Obligation.TheVariants.{Start, Enter, Own, Other, Claim}
use Rattle.plc_vocabulary.specs.declared.setting.Setting.{Setting}
use Rattle.plc_vocabulary.specs.Fit.{Fits}
use Rattle.plc_vocabulary.specs.Parts.{locals_of_step, point_locals, clauses_before, clauses_after, entry_clauses, acting_locals, has_owner, owner_locals, acting_premises, owner_premises, conclusion, claim_made}
use Rattle.plc_vocabulary.specs.Points.{clauses_at}
use Rattle.plc_vocabulary.specs.Setting.{local_symbol, setting_of}
use Rattle.plc_vocabulary.specs.Sorts.{local_sort, symbol_sort, sort_of}
use Rattle.plc_vocabulary.specs.WellSorted.{ActFits, NodesFit}
use Rattle.plc_vocabulary.proofs.ActSorts.{acts_fit}
use Rattle.plc_vocabulary.proofs.NodeSorts.{nodes_fit}
use Rattle.plc_encoding.specs.Execution.{start, after_all, executed_clauses}
use Rattle.plc_encoding.specs.Items.{values_from, mark_values, beginning, freshness, instances, premises, denied_clause, denied_claim, denied, clauses_of}
use Rattle.plc_oblig.specs.GroundSets.{listed_first, drafted, ground_set}
use Rattle.plc_oblig.proofs.Lists.{each_of_all, all_of_each}
use Rattle.plc_oblig.proofs.Sides as sides
use Rattle.plc_oblig.proofs.Standing.{clauses_at_fit, gate_locals}

module _ (flow : Flow) (outline : Outline) (fits : Fits flow outline) (o : Obligation) where
  abbrev s : Setting
  s = setting_of flow outline o

  fit : NodesFit flow o s
  fit = nodes_fit flow outline o

  abbrev Readable : Bool → Clause → Type 0
  Readable owner c = sides.Readable flow o s fit owner c

  abbrev Known : Bool → List Local → Type 0
  Known owner ls = (k : ℕ) (l : Local) → slice_get ls k ≡ Some l → symbol_sort flow o s.acts (local_symbol owner k) ≡ pointer_sort l.pointer

  mine_known : (ls : List Local) → acting_locals flow o ≡ ls → Known false ls
  mine_known ls same k l at = ap (λ ls. local_sort (slice_get ls k)) same ∙ ap local_sort at

  theirs_known : (ls : List Local) → owner_locals flow o ≡ ls → Known true ls
  theirs_known ls same k l at = ap (λ ls. local_sort (slice_get ls k)) same ∙ ap local_sort at

  -- ---- clauses of the outline

  invariants_readable : (owner : Bool) → Each (Readable owner) outline.invariants
  invariants_readable owner = each_so (InvariantFits flow.file) (Readable owner) (λ c h. record { locals = []; inside = false; known = λ k l at. cc; fits = h }) outline.invariants
      (each_of_all (InvariantFits flow.file) outline.invariants fits.outline_fits.each_invariant)

  point_readable : (owner : Bool) (p : ℕ) → Known owner (point_locals flow p) → Each (Readable owner) (clauses_at flow outline p)
  point_readable owner p known = each_so (ClauseFits flow.file (point_locals flow p) true) (Readable owner) (λ c h. record { locals = point_locals flow p; inside = true; known = known; fits = h }) (clauses_at flow outline p)
      (clauses_at_fit flow outline fits p)

  acting_readable : (op : ℕ) (g : Gate) (p : ℕ) → slice_get flow.gates op ≡ Some g → IsPointOf g p → acting_locals flow o ≡ locals_of flow.file.ops op → Each (Readable false) (clauses_at flow outline p)
  acting_readable op g p opens within same = point_readable false p (mine_known (point_locals flow p) (same ∙ sym (gate_locals flow outline fits op g opens p within)))

  before_readable : (k : ℕ) (r : Option Step) → slice_get flow.steps k ≡ r → acting_locals flow o ≡ locals_of_step flow r → Each (Readable false) (clauses_before flow outline r)
  before_readable k None is same = tt
  before_readable k (Some t) is same =
      let w = fits.flow_fits.well.steps k t is in
      acting_readable t.op.0 w.0 t.from.0 w.1 w.2 same

  after_readable : (k : ℕ) (r : Option Step) → slice_get flow.steps k ≡ r → acting_locals flow o ≡ locals_of_step flow r → Each (Readable false) (clauses_after flow outline r)
  after_readable k None is same = tt
  after_readable k (Some t) is same =
      let w = fits.flow_fits.well.steps k t is in
      acting_readable t.op.0 w.0 t.to.0 w.1 w.3 same

  entry_readable : (op : ℕ) (r : Option Gate) → slice_get flow.gates op ≡ r → acting_locals flow o ≡ locals_of flow.file.ops op → Each (Readable false) (entry_clauses flow outline r)
  entry_readable op None is same = tt
  entry_readable op (Some g) is same = acting_readable op g g.entry.0 is (gate_from 0 flow.points flow.gates op g fits.flow_fits.well.ranges is).entry same

  step_readable : (k : ℕ) → acting_locals flow o ≡ locals_of_step flow (slice_get flow.steps k) → Each (Readable false) (outline.invariants ++ clauses_before flow outline (slice_get flow.steps k))
  step_readable k same = each_both (Readable false) outline.invariants (clauses_before flow outline (slice_get flow.steps k)) (invariants_readable false) (before_readable k (slice_get flow.steps k) refl same)

  premises_readable : (q : Obligation) → acting_locals flow o ≡ acting_locals flow q → Each (Readable false) (acting_premises flow outline q)
  premises_readable (Start i) same = tt
  premises_readable (Enter op c) same = invariants_readable false
  premises_readable (Own k c) same = step_readable k.0 same
  premises_readable (Other k p c) same = step_readable k.0 same
  premises_readable (Claim k j) same = step_readable k.0 same

  owner_readable : (q : Obligation) → owner_locals flow o ≡ owner_locals flow q → Each (Readable true) (owner_premises flow outline q)
  owner_readable (Start i) same = tt
  owner_readable (Enter op c) same = tt
  owner_readable (Own k c) same = tt
  owner_readable (Other k p c) same = point_readable true p.0 (theirs_known (point_locals flow p.0) same)
  owner_readable (Claim k j) same = tt

  -- ---- the conclusion

  abbrev MayBeReadable : Bool → Option Clause → Type 0
  MayBeReadable owner None = Unit {0}
  MayBeReadable owner (Some c) = Readable owner c

  found : (owner : Bool) (cs : List Clause) (i : ℕ) → Each (Readable owner) cs → MayBeReadable owner (slice_get cs i)
  found owner [] i h = tt
  found owner (c ∷ cs) zero h = h.0
  found owner (c ∷ cs) (suc i) h = found owner cs i h.1

  conclusion_readable : (q : Obligation) → acting_locals flow o ≡ acting_locals flow q → owner_locals flow o ≡ owner_locals flow q → MayBeReadable (has_owner q) (conclusion flow outline q)
  conclusion_readable (Start i) same owned = found false outline.invariants i (invariants_readable false)
  conclusion_readable (Enter op c) same owned = found false (entry_clauses flow outline (slice_get flow.gates op.0)) c (entry_readable op.0 (slice_get flow.gates op.0) refl same)
  conclusion_readable (Own k c) same owned = found false (outline.invariants ++ clauses_after flow outline (slice_get flow.steps k.0)) c
      (each_both (Readable false) outline.invariants (clauses_after flow outline (slice_get flow.steps k.0)) (invariants_readable false) (after_readable k.0 (slice_get flow.steps k.0) refl same))
  conclusion_readable (Other k p c) same owned = found true (clauses_at flow outline p.0) c (point_readable true p.0 (theirs_known (point_locals flow p.0) owned))
  conclusion_readable (Claim k j) same owned = tt

  denied_readable : (c : Option Clause) → MayBeReadable s.owned c → sides.MayBeReadable flow o s fit c
  denied_readable None h = tt
  denied_readable (Some c) h = h

  -- ---- the whole

  abbrev OneSort : SymbolicLit → Type 0
  OneSort l = sort_of flow o s.acts l.left ≡ sort_of flow o s.acts l.right

  abbrev AreSorted : Clauses → Type 0
  AreSorted cs = Each (Each OneSort) cs

  acts : Each (ActFits flow.file (symbol_sort flow o s.acts)) s.acts
  acts = each_of_all (ActFits flow.file (symbol_sort flow o s.acts)) s.acts (acts_fit flow outline o fits)

  premises_sorted : AreSorted (premises flow outline s o)
  premises_sorted = each_both (Each OneSort) (flat_map (instances flow.file.ghosts s false) (acting_premises flow outline o)) (flat_map (instances flow.file.ghosts s true) (owner_premises flow outline o))
      (sides.all_instances_sorted flow o s fit false (acting_premises flow outline o) (premises_readable o refl))
      (sides.all_instances_sorted flow o s fit true (owner_premises flow outline o) (owner_readable o refl))

  denied_sorted : AreSorted (denied flow outline s (after_all start s.acts) o)
  denied_sorted =
      let keeps = sides.keeps_at_last flow o s fit acts in
      each_both (Each OneSort) (denied_clause flow.file.ghosts s (after_all start s.acts) (conclusion flow outline o)) (denied_claim s (after_all start s.acts) (claim_made flow o))
      (sides.denied_sorted flow o s fit (after_all start s.acts) keeps (conclusion flow outline o) (denied_readable (conclusion flow outline o) (conclusion_readable o refl refl)))
      (sides.claim_sorted flow o s fit (after_all start s.acts) keeps (claim_made flow o))

  clauses_sorted : AreSorted (clauses_of flow outline s o)
  unfolding clauses_of
  clauses_sorted =
      each_both (Each OneSort) (values_from 0 0 flow.file.ghosts s.nodes) _
      (sides.all_values_sorted flow o s fit s.nodes)
      (each_both (Each OneSort) (mark_values s) _ (sides.mark_values_sorted flow o s fit)
      (each_both (Each OneSort) (beginning flow s o) _ (sides.beginning_sorted flow o s fit o refl)
      (each_both (Each OneSort) (freshness flow.file s) _ (sides.freshness_sorted flow o s fit)
      (each_both (Each OneSort) (premises flow outline s o) _ premises_sorted
      (each_both (Each OneSort) (executed_clauses s.nodes start s.acts)
      (denied flow outline s (after_all start s.acts) o) (sides.all_executed_sorted flow o s fit acts) denied_sorted)))))

  abbrev pub draft : Drafted
  draft = drafted flow outline s o

  draft_clauses : draft.clauses ≡ clauses_of flow outline s o
  draft_clauses = written_all-clauses (clauses_of flow outline s o) (listed_all blank (listed_first flow outline s))
      ∙ ap (λ cs. cs ++ clauses_of flow outline s o) (listed_all-clauses (listed_first flow outline s) blank)

  sorts_fit : SortsFit (sort_of flow o s.acts) draft
  sorts_fit = record {
    maps = λ m v w n k. refl;
    sides = subst (All (All OneSort)) (sym draft_clauses) (all_of_each (All OneSort) (clauses_of flow outline s o)
        (each_so (Each OneSort) (All OneSort) (all_of_each OneSort) (clauses_of flow outline s o) clauses_sorted));
  }

  is_draft : IsDraft draft
  is_draft = writes_all (clauses_of flow outline s o) (listed_all blank (listed_first flow outline s)) (lists_all (listed_first flow outline s) blank begun)

  pub set_is_well_formed : length draft.terms < 2 ^ 32 → length draft.clauses < 2 ^ 32 → IsWellFormed (ground_set flow outline o)
  unfolding ground_set
  set_is_well_formed few_terms few_clauses = well_formed draft (sort_of flow o s.acts) is_draft sorts_fit few_terms few_clauses

-- so are those that are made
pub made_well_formed : (flow : Flow) (outline : Outline) (o : Obligation) (d : Drafted) (set : GroundSet) → Fits flow outline → d ≡ drafted flow outline (setting_of flow outline o) o → set ≡ ground_set flow outline o
    → length d.terms < 2 ^ 32 → length d.clauses < 2 ^ 32 → IsWellFormed set
made_well_formed flow outline o d set fits draft whole few_terms few_clauses =
    subst IsWellFormed (sym whole) (set_is_well_formed flow outline fits o
    (subst (λ (e : Drafted). length e.terms < 2 ^ 32) draft few_terms) (subst (λ (e : Drafted). length e.clauses < 2 ^ 32) draft few_clauses))
