use Rattle.std.proofs.Common.{All, take, sym, subst, ◌∙◌}
use Rattle.plc_symbolic.specs.Tidy.{IsInside, read_draft}
use Rattle.plc_symbolic.specs.Cuts.{IsWrittenAfter}
use Rattle.plc_symbolic.proofs.Cutting.{inside_cut, draft_cut}
use Rattle.plc_symbolic.proofs.draft.Draft.cut.Goals as goal

pub invariant_of-self : goal.invariant_of-self
invariant_of-self c =
    let e = c.requires.0 in
    let h = subst (IsWrittenAfter e c.args.terms c.args.clauses) (sym c.self.view_is) c.requires.1 in
    let ts = c.self.inside.terms in
    let cs = c.self.inside.clauses in
    subst (All (All (IsInside c.cut.new.self))) (sym c.truncate.ensures)
    (subst (λ us. All (All (IsInside us)) (take c.args.clauses cs)) (sym c.cut.ensures)
    (inside_cut ts cs c.self.invariant c.args.terms c.args.clauses e h))

pub returns : goal.returns
returns c earlier w =
    (λ i. read_draft (c.cut.ensures i) (c.truncate.ensures i))
    ∙ draft_cut c.self.inside.terms c.self.inside.clauses c.self.invariant c.args.terms c.args.clauses earlier
    (subst (IsWrittenAfter earlier c.args.terms c.args.clauses) (sym c.self.view_is) w)
