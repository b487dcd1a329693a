use Rattle.std.proofs.Common.{ℕ, [], replicate, ap, ◌∙◌}
use Rattle.plc_suggest.proofs.Claiming.{lists_made}
use Rattle.plc_suggest.proofs.marking.marked_lists.Goals as goal

pub returns : goal.returns
returns c =
    lists_made c.args.flow.now c.args.first.now c.args.rest.now c.in_ok-lists.lists.items c.put_claims.new.lists.items
    c.put_claims-2.new.lists.items c.put_prims.new.lists.items
    (c.in_ok-lists.ensures ∙ ap (λ (n : ℕ). replicate n []) c.len.ensures)
    c.in_ok-put_claims.ensures c.in_ok-put_claims-2.ensures
    c.in_ok-put_prims.ensures.count c.in_ok-put_prims.ensures.prims
