use Rattle.std.proofs.Common.{Some, sym, subst, ap, ◌∙◌}
use Rattle.plc_mem.specs.State.{with_locals}
use Rattle.plc_mem.specs.Primitives.{goes, after}
use Rattle.plc_mem.specs.Outcomes.{address_or_null}
use Rattle.plc_mem.proofs.Outcomes.{has_gone, has_stayed}
use Rattle.plc_mem.specs.Coherence.{IsCoherent}
use Rattle.plc_mem.proofs.Coherence.{coherence}
use Rattle.plc_mem.proofs.memory.Memory.apply.Goals as goal

pub change-requires-clause-goes : goal.change-requires-clause-goes
change-requires-clause-goes c =
    let s = with_locals c.args.self.now c.args.t (Some c.args.me.now) in
    let gone = has_gone s c.args.t (address_or_null c.args.addr) c.args.prim.now c.in-Next.event (sym c.in-Next.is ∙ c.outcome.ensures) in
    (c.args.t, ap (λ a. goes s c.args.t a c.args.prim.now) c.unwrap_or.ensures ∙ gone.unblocked)

pub returns-in_ok-change-in-Next-clause-next : goal.returns-in_ok-change-in-Next-clause-next
returns-in_ok-change-in-Next-clause-next c =
    let s = with_locals c.args.self.now c.args.t (Some c.args.me.now) in
    let gone = has_gone s c.args.t (address_or_null c.args.addr) c.args.prim.now c.in-Next.event (sym c.in-Next.is ∙ c.outcome.ensures) in
    c.in_ok-change-in-Next.ensures.after c.args.t ∙ ap (λ a. after s c.args.t a c.args.prim.now) c.unwrap_or.ensures ∙ gone.next

pub returns-in_ok-change-in-Next-clause-coherent : goal.returns-in_ok-change-in-Next-clause-coherent
returns-in_ok-change-in-Next-clause-coherent c = λ k.
    subst IsCoherent (sym (returns-in_ok-change-in-Next-clause-next c)) (coherence.by_any_primitive (with_locals c.args.self.now c.args.t (Some c.args.me.now)) c.args.t (address_or_null c.args.addr) c.args.prim.now k)

pub returns-in-Blocked-clause-next : goal.returns-in-Blocked-clause-next
returns-in-Blocked-clause-next c = has_stayed (with_locals c.args.self.now c.args.t (Some c.args.me.now)) c.args.t (address_or_null c.args.addr) c.args.prim.now _ tt (sym c.in-Blocked.is ∙ c.outcome.ensures)

pub returns-in-Race-clause-next : goal.returns-in-Race-clause-next
returns-in-Race-clause-next c = has_stayed (with_locals c.args.self.now c.args.t (Some c.args.me.now)) c.args.t (address_or_null c.args.addr) c.args.prim.now _ tt (sym c.in-Race.is ∙ c.outcome.ensures)
