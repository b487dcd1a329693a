use Rattle.std.proofs.Common.{◌≡◌, ◌++◌, ◌∷◌, [], List, sym, ap, ◌∙◌, subst}
use Rattle.plc_mem.specs.declared.undo.Undo.{Undo}
use Rattle.plc_mem.specs.Outcomes.{address_or_null}
use Rattle.plc_mem.specs.Undoing.{TakesBack}
use Rattle.plc_mem.proofs.Undone.{takes_more_back}
use Rattle.plc_mem.proofs.memory.Memory.apply_undoably.Goals as goal

pub returns-in_ok-push-in-Next-clause-undoable : goal.returns-in_ok-push-in-Next-clause-undoable
returns-in_ok-push-in-Next-clause-undoable c = λ s l takes.
    let us = c.args.undos.now.items in
    let longer : c.push.new.self.items ≡ us ++ c.undo_of-undo.result ∷ [] = c.in_ok-push-in-Next.ensures.items ∙ ap (λ xs. xs ++ c.undo_of-undo.result ∷ []) c.reserve.ensures.items in
    subst (λ (us : List Undo). TakesBack c.args.t s l us c.apply.new.self c.apply.new.me) (sym longer)
    (takes_more_back c.args.t (address_or_null c.args.addr) s c.args.self.now c.apply.new.self l c.args.me.now c.apply.new.me us c.undo_of-undo.result c.args.prim.now c.in-Next.event c.nodes_fit.ensures c.requires
    (sym c.in-Next.is ∙ c.in_ok-event.ensures.outcome) c.in_ok-event.ensures.next c.apply.ensures.kept (c.undo_of-undo.ensures c.args.t) takes)
