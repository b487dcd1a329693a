use Rattle.std.proofs.Common.{◌≡◌, OnOk, sym, ◌∙◌, subst}
use Rattle.std.proofs.lemmas.Bool.{and_parts, not-true}
use Rattle.plc_auto.specs.Locations.{Locations}
use Rattle.plc_auto.proofs.Moving.{new_after, not_new_after, no_thread_after}
use Rattle.plc_auto.proofs.locations.Locations.hear.Goals as goal

pub returns-then-is_new-clause-ok : goal.returns-then-is_new-clause-ok
returns-then-is_new-clause-ok c =
    let new = and_parts _ _ (sym c.is_new.ensures ∙ c.if-is_new.true) in
    subst (λ (l : Locations). OnOk c.hear_new.result (c.hear_new.new.self ≡ l)) (new_after c.args.e.now c.in-Some.t c.args.self.now (sym c.thread.ensures ∙ c.in-Some.is) (not-true _ new.1)) c.hear_new.ensures.ok

pub returns-else-is_new-clause-ok : goal.returns-else-is_new-clause-ok
returns-else-is_new-clause-ok c =
    subst (λ (l : Locations). OnOk c.hear_known.result (c.hear_known.new.self ≡ l)) (not_new_after c.args.e.now c.in-Some.t c.args.self.now (sym c.thread.ensures ∙ c.in-Some.is) (sym c.is_new.ensures ∙ c.if-is_new.false)) c.hear_known.ensures.ok

pub returns-in-None-clause-ok : goal.returns-in-None-clause-ok
returns-in-None-clause-ok c =
    subst (λ (l : Locations). OnOk c.hear_known-in-None.result (c.hear_known-in-None.new.self ≡ l)) (no_thread_after c.args.e.now c.args.self.now (sym c.thread.ensures ∙ c.in-None.is)) c.hear_known-in-None.ensures.ok
