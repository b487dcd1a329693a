use Rattle.std.proofs.Common.{ap, ◌∙◌}
use Rattle.plc_symbolic.specs.Numbering.{listed}
use Rattle.plc_symbolic.proofs.Reading.{inside_all_grown, draft_listed}
use Rattle.plc_symbolic.proofs.draft.Draft.note.Goals as goal

pub invariant_of-self : goal.invariant_of-self
invariant_of-self c = inside_all_grown c.self.inside.terms c.note.new.self c.self.inside.clauses c.note.ensures.grows c.self.invariant

pub invariant_of-self-2 : goal.invariant_of-self-2
invariant_of-self-2 c = inside_all_grown c.self.inside.terms c.note.new.self c.self.inside.clauses c.note.ensures.grows c.self.invariant

pub returns : goal.returns
returns c = draft_listed c.self.inside.terms c.note.new.self c.self.inside.clauses c.args.term c.in_ok-note.ensures.listed c.self.invariant
    ∙ ap (λ d. listed d c.args.term) c.self.view_is
