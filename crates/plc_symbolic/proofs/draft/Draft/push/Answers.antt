use Rattle.std.proofs.Common.{All, sym, ap, subst, ◌∙◌}
use Rattle.plc_symbolic.specs.Numbering.{written}
use Rattle.plc_symbolic.specs.Tidy.{IsInside, read_draft}
use Rattle.plc_symbolic.proofs.Reading.{inside_written, draft_written}
use Rattle.plc_symbolic.proofs.draft.Draft.push.Goals as goal

pub invariant_of-self-2 : goal.invariant_of-self-2
invariant_of-self-2 c =
    subst (All (All (IsInside c.note_clause.new.self))) (sym c.in_ok-push.ensures.ok)
    (inside_written c.self.inside.terms c.note_clause.new.self c.self.inside.clauses c.args.clause.now c.note_clause.new.lits c.in_ok-note_clause.ensures.listed
    c.in_ok-note_clause.ensures.lits c.self.invariant)

pub returns : goal.returns
returns c =
    ap (read_draft c.note_clause.new.self) c.in_ok-push.ensures.ok
    ∙ draft_written c.self.inside.terms c.note_clause.new.self c.self.inside.clauses c.args.clause.now c.note_clause.new.lits c.in_ok-note_clause.ensures.listed
    c.in_ok-note_clause.ensures.lits c.self.invariant
    ∙ ap (λ d. written d c.args.clause.now) c.self.view_is
