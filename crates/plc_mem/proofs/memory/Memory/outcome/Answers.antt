use Rattle.std.proofs.Common.{Some, sym, ap, ◌∙◌}
use Rattle.plc_mem.specs.State.{with_locals}
use Rattle.plc_mem.specs.Outcomes.{outcome_of}
use Rattle.plc_mem.specs.declared.cell.Outcome.TheVariants.{Next}
use Rattle.plc_mem.proofs.Outcomes.{raced, blocked, went}
use Rattle.plc_mem.proofs.memory.Memory.outcome.Goals as goal

pub returns-in-Some : goal.returns-in-Some
returns-in-Some c = raced (with_locals c.args.self.now c.args.t (Some c.args.me.now)) c.args.t _ c.args.prim.now c.in-Some.kind (sym (c.race.ensures c.args.t) ∙ c.in-Some.is)

pub returns-then-not-goes : goal.returns-then-not-goes
returns-then-not-goes c =
    let s = with_locals c.args.self.now c.args.t (Some c.args.me.now) in
    blocked s c.args.t c.unwrap_or.result c.args.prim.now (sym (c.race.ensures c.args.t) ∙ c.in_default.is) (sym (c.goes.ensures c.args.t) ∙ c.if-not-goes.true)
    ∙ ap (λ a. outcome_of s c.args.t a c.args.prim.now) c.unwrap_or.ensures

pub returns : goal.returns
returns c =
    let s = with_locals c.args.self.now c.args.t (Some c.args.me.now) in
    ap Next c.event.ensures ∙ went s c.args.t c.unwrap_or.result c.args.prim.now (sym (c.race.ensures c.args.t) ∙ c.in_default.is) (sym (c.goes.ensures c.args.t) ∙ c.if-not-goes.false)
    ∙ ap (λ a. outcome_of s c.args.t a c.args.prim.now) c.unwrap_or.ensures
