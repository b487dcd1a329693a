use Rattle.std.proofs.Common.{◌∷◌, [], ◌++◌, ap, ◌∙◌}
use Rattle.plc_base.proofs.Places.{kept_put}
use Rattle.plc_base.proofs.names.Names.put.Goals as goal

pub invariant_of-self-2 : goal.invariant_of-self-2
invariant_of-self-2 c = kept_put c.self.inside.places c.insert.new.self c.self.inside.names.items c.push.new.self.items c.in_ok-last.last c.in_ok-key.key
    c.args.name.now c.args.at c.self.inside.limit c.args.self.now c.self.invariant c.self.view_is c.requires.absent c.requires.end c.requires.room
    c.in_ok-last.ensures.items c.in_ok-key.ensures.items c.in_ok-insert.ensures.updates
    (c.in_ok-push.ensures.items ∙ ap (λ vs. vs ++ c.in_ok-last.last ∷ []) c.in_ok-reserve.ensures.items)
