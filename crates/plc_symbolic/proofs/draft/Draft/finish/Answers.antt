use Rattle.std.proofs.Common.{◌≡◌, sym, ap, ◌∙◌}
use Rattle.plc_symbolic.specs.Numbering.{numbered}
use Rattle.plc_symbolic.specs.Tidy.{read_draft}
use Rattle.plc_symbolic.proofs.Reading.{numbers_read}
use Rattle.plc_symbolic.proofs.draft.Draft.finish.Goals as goal

pub returns-clause-set : goal.returns-clause-set
returns-clause-set c =
    let terms = c.in_ok-terms.ensures.terms in
    let clauses = sym (numbers_read c.self.inside.terms c.self.inside.clauses c.in_ok-terms.ensures.tidy c.self.invariant) in
    let copied = c.in_ok-clauses.ensures ∙ c.as_slice.ensures in
    let set : record { terms = c.in_ok-terms.terms; sorts = c.args.sorts; clauses = c.in_ok-clauses.clauses } ≡ numbered c.args.sorts (read_draft c.self.inside.terms c.self.inside.clauses)
    = λ i. record { terms = terms i; sorts = c.args.sorts; clauses = (copied ∙ clauses) i } in
    set ∙ ap (numbered c.args.sorts) c.self.view_is
