use Rattle.std.proofs.Common.{◌≡◌, IfOk, sym, ap, ◌∙◌, subst}
use Rattle.plc_mem.specs.State.{State}
use Rattle.plc_mem.specs.Outcomes.{address_or_null}
use Rattle.plc_run.specs.Position.{Position}
use Rattle.plc_run.specs.Refusals.{blocked_in}
use Rattle.plc_run.proofs.Stepping.{whole}
use Rattle.plc_run.proofs.config.Config.blocked_in.Goals as goal

pub returns : goal.returns
returns c =
    let back = whole c.in_ok-memory.memory c.take.new.self c.args.t c.in-Some.me (sym c.take.ensures.taken ∙ c.in-Some.is) c.take.ensures.rest in
    let same = back ∙ c.in_ok-memory.ensures ∙ ap (λ (p : Position). p.here.state) c.self.view_is in
    subst (λ (s : State). IfOk c.first_blocked.result (λ k. k ≡ blocked_in s c.args.t (address_or_null c.args.addr) 0 c.args.prims.now)) same c.first_blocked.ensures
