-- What is read from one file has few enough parts that numbers of 16 bits don't wrap.
use Rattle.std.proofs.Common.{◌≡◌, ◌<◌, ◌≤◌, ℕ, Bool, true, false, Option, Some, None, List, [], ◌++◌, length, filter}
use Rattle.std.proofs.Common.{get_or, slice_get, All, sym, ap, subst, inl, inr, arith, refl}
use Rattle.std.specs.List.{sum_by}
use Rattle.std.proofs.lemmas.List.Elements.{All-append, All-filter, All-map, All-nil}
use Rattle.std.proofs.lemmas.Option.{slice_get_cases, slice_get_within}
use Rattle.plc_lang.specs.declared.syntax.Ghost.{Ghost}
use Rattle.plc_lang.specs.declared.syntax.File.{File}
use Rattle.plc_lang.specs.declared.syntax.Local.{Local}
use Rattle.plc_lang.specs.Fit.{FileFits}
use Rattle.plc_lang.specs.Numbering.{values_in, value_number}
use Rattle.plc_flow.specs.declared.flow.Flow.{Flow}
use Rattle.plc_flow.specs.declared.flow.Gate.{Gate}
use Rattle.plc_flow.specs.declared.flow.Step.{Step}
use Rattle.plc_logic.specs.declared.clause.Clause.{Clause}
use Rattle.plc_logic.specs.declared.clause.Item.{Item}
use Rattle.plc_logic.specs.declared.clause.Literal.{Literal}
use Rattle.plc_logic.specs.declared.clause.Literal.TheVariants as literals
use Rattle.plc_logic.specs.declared.clause.Outline.{Outline}
use Rattle.plc_logic.specs.declared.clause.Site.{Site}
use Rattle.plc_logic.specs.declared.clause.Site.TheVariants.{Over, At}
use Rattle.plc_logic.specs.declared.clause.Sort.{Sort}
use Rattle.plc_logic.specs.declared.clause.Term.{Term}
use Rattle.plc_logic.specs.declared.clause.Term.TheVariants as terms
use Rattle.plc_logic.specs.Fit.{InReach, HasSort, LiteralFits, ClauseFits, SiteFits, in_reach_of}
use Rattle.plc_vocabulary.specs.declared.obligations.Obligation.{Obligation}
use Rattle.plc_vocabulary.specs.declared.obligations.Obligation.TheVariants.{Start, Enter, Own, Other, Claim}
use Rattle.plc_vocabulary.specs.declared.setting.Setting.{Setting}
use Rattle.plc_vocabulary.specs.Acts.{most_acts}
use Rattle.plc_vocabulary.specs.Fit.{Fits}
use Rattle.plc_vocabulary.specs.Setting.{setting_of}
use Rattle.plc_vocabulary.specs.Parts.{acting_locals, conclusion, entry_clauses, clauses_after, invariants_before}
use Rattle.plc_vocabulary.specs.Parts.{executed}
use Rattle.plc_vocabulary.specs.Points.{clauses_at, stands_at}
use Rattle.plc_vocabulary.proofs.Fitting.{values_few, number_within, acting_few, acts_short}
use Rattle.plc_encoding.specs.declared.execution.Execution.{Execution}
use Rattle.plc_encoding.specs.Execution.{start}
use Rattle.plc_encoding.specs.Bounds.{ReadsBefore, ValueIn, ValuesIn, ClauseIn, ItemIn, ConclusionIn}

-- ---- values

value_in : (w : InReach) (t : Term) (s : Sort) → sum_by values_in w.file.ghosts < 65536 → HasSort w t s
    → ValueIn w.file.ghosts t
value_in w (terms.Shared i) s few p = tt
value_in w (terms.Local k) s few p = tt
value_in w (terms.Bound i) s few p = tt
value_in w (terms.FieldOf b f) s few p = tt
value_in w (terms.GhostOf b g) s few p = tt
value_in w terms.Null s few p = tt
value_in w (terms.Number n) s few p = tt
value_in w (terms.Value g v) s few p =
    let there : g < length w.file.ghosts = slice_get_within w.file.ghosts g p.0 p.1 in
    let small : value_number w.file.ghosts g v < sum_by values_in w.file.ghosts =
    number_within w.file.ghosts g p.0 v p.1 p.2 in
    (omega arith, omega arith)
value_in w terms.Me s few p = tt
value_in w terms.Nobody s few p = tt

values_in_literal : (w : InReach) (l : Literal) → sum_by values_in w.file.ghosts < 65536 → LiteralFits w l
    → ValuesIn w.file.ghosts l
values_in_literal w (literals.Same a b equal) few p = (value_in w a p.0 few p.1, value_in w b p.0 few p.2)
values_in_literal w (literals.Retired b is_so) few p = tt
values_in_literal w (literals.Marked t is_so) few p = tt

-- ---- clauses

clause_in : (file : File) (ls : List Local) (inside : Bool) (c : Clause) → sum_by values_in file.ghosts < 65536
    → ClauseFits file ls inside c → ClauseIn file.ghosts c
clause_in file ls inside c few p = record {
  names = p.bound;
  values = λ k d lt. values_in_literal (in_reach_of file ls inside c) (get_or c.literals k d) few (p.each k d lt);
}

site_in : (file : File) (c : Clause) (s : Site) → sum_by values_in file.ghosts < 65536 → SiteFits file c s
    → ClauseIn file.ghosts c
site_in file c (Over o) few p = clause_in file p.0.locals true c few p.2
site_in file c (At labels) few p = clause_in file p.1.locals true c few p.4

pub invariants_in : (flow : Flow) (outline : Outline) → Fits flow outline
    → All (ClauseIn flow.file.ghosts) outline.invariants
invariants_in flow outline h = λ k d lt.
    clause_in flow.file [] false (get_or outline.invariants k d) (values_few flow.file h.file)
    (h.outline_fits.each_invariant k d lt)

pub items_in : (flow : Flow) (outline : Outline) → Fits flow outline → All (ItemIn flow.file.ghosts) outline.items
items_in flow outline h = λ k d lt.
    let i : Item = get_or outline.items k d in
    site_in flow.file i.clause i.site (values_few flow.file h.file) (h.outline_fits.each_item k d lt)

pub before_in : (flow : Flow) (outline : Outline) (o : Obligation) → Fits flow outline
    → All (ClauseIn flow.file.ghosts) (invariants_before outline o)
before_in flow outline (Start i) h = All-nil (ClauseIn flow.file.ghosts)
before_in flow outline (Enter o c) h = invariants_in flow outline h
before_in flow outline (Own k c) h = invariants_in flow outline h
before_in flow outline (Other k p c) h = invariants_in flow outline h
before_in flow outline (Claim k j) h = invariants_in flow outline h

-- what premises are read with
pub reads_before : (flow : Flow) (outline : Outline) (ghosts : List Ghost) (before : Execution) → Fits flow outline
    → ghosts ≡ flow.file.ghosts → before ≡ start
    → ReadsBefore ghosts before
reads_before flow outline ghosts before h e nothing = record {
  nothing = nothing;
  few = subst (λ gs. sum_by values_in gs < 65536) (sym e) (values_few flow.file h.file);
}

pub items_read : (flow : Flow) (outline : Outline) (ghosts : List Ghost) → Fits flow outline → ghosts ≡ flow.file.ghosts
    → All (ItemIn ghosts) outline.items
items_read flow outline ghosts h e = subst (λ gs. All (ItemIn gs) outline.items) (sym e) (items_in flow outline h)

at_point : (flow : Flow) (outline : Outline) (p : ℕ) → Fits flow outline
    → All (ClauseIn flow.file.ghosts) (clauses_at flow outline p)
at_point flow outline p h =
    All-map (ClauseIn flow.file.ghosts) (λ (i : Item). i.clause) (filter (stands_at flow p) outline.items)
    (All-filter (stands_at flow p) (ItemIn flow.file.ghosts) outline.items (items_in flow outline h))

found : (ghosts : List Ghost) (cs : List Clause) (i : ℕ) → All (ClauseIn ghosts) cs
    → ConclusionIn ghosts (slice_get cs i)
found ghosts cs i h = elim (slice_get_cases cs i).1 [
  | inl p ↦ subst (ConclusionIn ghosts) (sym p.2) (subst (ClauseIn ghosts) p.3 (h i p.0 p.1))
  | inr p ↦ subst (ConclusionIn ghosts) (sym p.1) tt
]

of_entry : (flow : Flow) (outline : Outline) (g : Option Gate) → Fits flow outline
    → All (ClauseIn flow.file.ghosts) (entry_clauses flow outline g)
of_entry flow outline None h = All-nil (ClauseIn flow.file.ghosts)
of_entry flow outline (Some g) h = at_point flow outline g.entry.0 h

of_last : (flow : Flow) (outline : Outline) (s : Option Step) → Fits flow outline
    → All (ClauseIn flow.file.ghosts) (clauses_after flow outline s)
of_last flow outline None h = All-nil (ClauseIn flow.file.ghosts)
of_last flow outline (Some s) h = at_point flow outline s.to.0 h

pub conclusion_in : (flow : Flow) (outline : Outline) (o : Obligation) → Fits flow outline
    → ConclusionIn flow.file.ghosts (conclusion flow outline o)
conclusion_in flow outline (Start i) h = found flow.file.ghosts outline.invariants i (invariants_in flow outline h)
conclusion_in flow outline (Enter o c) h =
    found flow.file.ghosts (entry_clauses flow outline (slice_get flow.gates o.0)) c
    (of_entry flow outline (slice_get flow.gates o.0) h)
conclusion_in flow outline (Own k c) h =
    let s : Option Step = slice_get flow.steps k.0 in
    found flow.file.ghosts (outline.invariants ++ clauses_after flow outline s) c
    (All-append (ClauseIn flow.file.ghosts) outline.invariants (clauses_after flow outline s)
    (invariants_in flow outline h) (of_last flow outline s h))
conclusion_in flow outline (Other k p c) h =
    found flow.file.ghosts (clauses_at flow outline p.0) c (at_point flow outline p.0 h)
conclusion_in flow outline (Claim k j) h = tt

-- ---- locals and acts

pub few_locals : (flow : Flow) (o : Obligation) → FileFits flow.file → length (acting_locals flow o) < 65536
few_locals flow o h = let few : length (acting_locals flow o) ≤ 32 = acting_few flow o h in omega arith

pub few_acts : (flow : Flow) (outline : Outline) (s : Setting) (o : Obligation) → Fits flow outline
    → s ≡ setting_of flow outline o → length s.acts < 65536
few_acts flow outline s o h e =
    let few : length s.acts ≤ most_acts =
    acts_short flow outline o (setting_of flow outline o).marked (setting_of flow outline o).mine
    (executed flow o) s.acts
    h refl (ap (λ (t : Setting). t.acts) e) in
    omega arith
