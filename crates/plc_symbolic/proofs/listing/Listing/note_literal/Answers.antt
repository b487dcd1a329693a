use Rattle.std.proofs.Common.{sym, subst, ◌∙◌}
use Rattle.plc_symbolic.specs.Numbering.{IsListed}
use Rattle.plc_symbolic.proofs.Noting.{note_lists}
use Rattle.plc_symbolic.proofs.listing.Listing.note_literal.Goals as goal

pub returns-clause-lit : goal.returns-clause-lit
returns-clause-lit c =
    let listed = subst (λ us. IsListed us c.args.l.left) (sym c.in_ok-left.ensures.listed) (note_lists c.args.self.now c.args.l.left) in
    let left = c.in_ok-left.ensures.place ∙ sym (c.in_ok-right.ensures.grows.places c.args.l.left listed) in
    let right = c.in_ok-right.ensures.place in
    λ i. record { left = left i; right = right i; equal = c.args.l.equal }
