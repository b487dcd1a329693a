-- Obligations that begin alike have in common what stands before the negated conclusion, if their conclusions bind as
-- many names: of the number of its clause nothing else is in the setting, and nothing in the clauses.
use Rattle.std.proofs.Common.{◌≡◌, ℕ, length, true, sym, ap, ◌∙◌, subst}
use Rattle.std.specs.Prelude.{◌==◌}
use Rattle.std.proofs.lemmas.Bool.{eqb-true, and_parts, false≢true}
use Rattle.plc_base.specs.declared.ids.PointId.{PointId}
use Rattle.plc_base.specs.declared.ids.StepId.{StepId}
use Rattle.plc_flow.specs.declared.flow.Flow.{Flow}
use Rattle.plc_logic.specs.declared.clause.Outline.{Outline}
use Rattle.plc_symbolic.specs.Numbering.{Drafted, blank, listed_all, written_all}
use Rattle.plc_symbolic.specs.Drafts.{IsDraft, begun}
use Rattle.plc_symbolic.specs.Cuts.{IsWrittenAfter}
use Rattle.plc_symbolic.proofs.Drafts.{lists_all, writes_all}
use Rattle.plc_vocabulary.specs.declared.obligations.Obligation.{Obligation}
use Rattle.plc_vocabulary.specs.declared.obligations.Obligation.TheVariants.{Start, Enter, Own, Other, Claim}
use Rattle.plc_vocabulary.specs.declared.setting.Setting.{Setting}
use Rattle.plc_vocabulary.specs.Setting.{setting_of}
use Rattle.plc_encoding.specs.declared.execution.Execution.{Execution}
use Rattle.plc_encoding.specs.Execution.{start, after_all}
use Rattle.plc_encoding.specs.Items.{prefix_of, denied}
use Rattle.plc_encoding.proofs.Written.{written-append}
use Rattle.plc_encoding.proofs.Prefixes.{prefix_first}
use Rattle.plc_oblig.specs.declared.prefixes.Prefix.{Prefix}
use Rattle.plc_oblig.specs.GroundSets.{listed_first, drafted}
use Rattle.plc_oblig.specs.Prefixes.{begin_alike, prefix_draft, setting_for, IsPrefixOf, IsKeptFor}
use Rattle.plc_oblig.proofs.OneSet.{step_is, point_is}

-- ---- one prefix for both

module _ (flow : Flow) (outline : Outline) (n : ℕ) (kept : Prefix) where
  Begins : Obligation → Type 0
  Begins o = IsPrefixOf flow outline (setting_for flow outline o n) o kept

  own_clause : (k : StepId) (c d : ℕ) → Begins (Own k c) → Begins (Own k d)
  unfolding prefix_draft prefix_of Begins
  own_clause k c d h = record { draft = h.draft; executed = h.executed; few = h.few }

  other_clause : (k : StepId) (p : PointId) (c d : ℕ) → Begins (Other k p c) → Begins (Other k p d)
  unfolding prefix_draft prefix_of Begins
  other_clause k p c d h = record { draft = h.draft; executed = h.executed; few = h.few }

  alike : (a b : Obligation) → begin_alike a b ≡ true → Begins a → Begins b
  alike (Own k c) (Own m d) same h =
      subst (λ (x : StepId). Begins (Own x d)) (step_is k m (eqb-true k.0 m.0 same)) (own_clause k c d h)
  alike (Other k p c) (Other m q d) same h =
      let parts = and_parts (k.0 == m.0) _ same in
      subst (λ (y : PointId). Begins (Other m y d)) (point_is p q (eqb-true p.0 q.0 parts.1))
      (subst (λ (x : StepId). Begins (Other x p d)) (step_is k m (eqb-true k.0 m.0 parts.0)) (other_clause k p c d h))
  alike (Own k c) (Start i) same h = absurd (false≢true same)
  alike (Own k c) (Enter o d) same h = absurd (false≢true same)
  alike (Own k c) (Other m q d) same h = absurd (false≢true same)
  alike (Own k c) (Claim m j) same h = absurd (false≢true same)
  alike (Other k p c) (Start i) same h = absurd (false≢true same)
  alike (Other k p c) (Enter o d) same h = absurd (false≢true same)
  alike (Other k p c) (Own m d) same h = absurd (false≢true same)
  alike (Other k p c) (Claim m j) same h = absurd (false≢true same)
  alike (Start i) b same h = absurd (false≢true same)
  alike (Enter o d) b same h = absurd (false≢true same)
  alike (Claim m j) b same h = absurd (false≢true same)

-- the setting of an obligation is that for as many names as its conclusion binds
own_setting : (flow : Flow) (outline : Outline) (o : Obligation) (s : Setting) → s ≡ setting_of flow outline o → s ≡ setting_for flow outline o s.bound
own_setting flow outline o s e = e ∙ ap (λ (r : Setting). setting_for flow outline o r.bound) (sym e)

-- what is kept serves an obligation that begins alike
pub serves : (flow : Flow) (outline : Outline) (s : Setting) (o : Obligation) (kept : Prefix) → s ≡ setting_of flow outline o → IsKeptFor flow outline kept
    → kept.bound ≡ s.bound → begin_alike kept.obligation o ≡ true → IsPrefixOf flow outline s o kept
unfolding Begins
serves flow outline s o kept setting is bound same =
    subst (λ (r : Setting). IsPrefixOf flow outline r o kept) (sym (own_setting flow outline o s setting))
    (subst (λ n. IsPrefixOf flow outline (setting_for flow outline o n) o kept) bound (alike flow outline kept.bound kept kept.obligation o same is))

-- what was made for an obligation may be kept
pub keeps : (flow : Flow) (outline : Outline) (s : Setting) (o : Obligation) (kept : Prefix) → s ≡ setting_of flow outline o
    → IsPrefixOf flow outline s o kept → IsPrefixOf flow outline (setting_for flow outline o s.bound) o kept
keeps flow outline s o kept setting is = subst (λ (r : Setting). IsPrefixOf flow outline r o kept) (own_setting flow outline o s setting) is

-- ---- the whole after it

pub prefix_is_draft : (flow : Flow) (outline : Outline) (s : Setting) (o : Obligation) → IsDraft (prefix_draft flow outline s o)
unfolding prefix_draft
prefix_is_draft flow outline s o = writes_all (prefix_of flow outline s o) _ (lists_all (listed_first flow outline s) blank begun)

-- a draft after whose prefix a conclusion was written, so that it can be cut back
pub written_after : (flow : Flow) (outline : Outline) (s : Setting) (o : Obligation) (x : Execution) (old new : Drafted) (terms clauses : ℕ)
    → old ≡ prefix_draft flow outline s o → new ≡ written_all old (denied flow outline s x o) → terms ≡ length old.terms → clauses ≡ length old.clauses
    → IsWrittenAfter old terms clauses new
written_after flow outline s o x old new terms clauses prefix written terms_then clauses_then = record {
  draft = subst IsDraft (sym prefix) (prefix_is_draft flow outline s o);
  later = denied flow outline s x o;
  is = written;
  terms_then = terms_then;
  clauses_then = clauses_then;
}

pub concluded : (flow : Flow) (outline : Outline) (s : Setting) (o : Obligation) (x : Execution) (old new : Drafted)
    → old ≡ prefix_draft flow outline s o → x ≡ after_all start s.acts → new ≡ written_all old (denied flow outline s x o)
    → new ≡ drafted flow outline s o
unfolding prefix_draft
concluded flow outline s o x old new prefix executed written =
    let first = listed_all blank (listed_first flow outline s) in
    let end = denied flow outline s (after_all start s.acts) o in
    written ∙ (λ i. written_all (prefix i) (denied flow outline s (executed i) o))
    ∙ sym (written-append first (prefix_of flow outline s o) end) ∙ ap (written_all first) (prefix_first flow outline s o)
