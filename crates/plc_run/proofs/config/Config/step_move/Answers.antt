use Rattle.std.proofs.Common.{◌≡◌, Some, None, IfOk, OnOk, subst, sym, ap, ◌∙◌, get_or, length, option_map}
use Rattle.plc_flow.specs.StepsByPoint.{IsIndexOf, first_points}
use Rattle.plc_moves.specs.Standing.{step_of}
use Rattle.plc_moves.proofs.Moves.{taken_so}
use Rattle.plc_run.specs.Reach.{Reached, answer, Reaches}
use Rattle.plc_run.specs.Run.{point_of}
use Rattle.plc_run.specs.Position.{Position}
use Rattle.plc_run.specs.contracts.config.Config.{the_view}
use Rattle.plc_run.proofs.Threads.{busy_at, step_fits}
use Rattle.plc_run.proofs.Stepping.{stepped}
use Rattle.plc_run.proofs.config.Config.step_move.Goals as goal

pub indexed_step_at-requires : goal.indexed_step_at-requires
indexed_step_at-requires c = subst (λ (p : Position). IsIndexOf (first_points c.args.flow.now) p.steps) (sym c.self.view_is) c.requires.indexed

pub take-requires : goal.take-requires
take-requires c =
    let v = the_view c.self.inside in
    let fits = rw (← c.self.view_is) at c.requires.fits in
    let at = sym (c.indexed_step_at.ensures ∙ ap (λ ps. step_of c.args.flow.now c.args.nth (get_or ps c.args.t None)) c.deref.ensures.value) ∙ ap (option_map (λ r. (r.0, r.1.now))) c.in-Some.is in
    let takes = taken_so c.args.flow.now v.here.points c.args.t c.args.nth c.in-Some.point c.in-Some.step.now at in
    let b = busy_at c.args.flow.now (length v.here.points) v.here c.args.t c.in-Some.point fits takes.busy in
    let f = step_fits c.args.flow.now c.requires.named v.here.state c.args.t c.in-Some.point c.in-Some.step.now c.args.nth b takes.leaves_there in
    rw (← c.self.view_is) (record { locals = b.locals; stands = takes.busy; held = b.held; fit = f.names; short = f.short })

pub returns : goal.returns
returns c =
    let at = sym (c.indexed_step_at.ensures ∙ ap (λ ps. step_of c.args.flow.now c.args.nth (get_or ps c.args.t None)) c.deref.ensures.value) ∙ ap (option_map (λ r. (r.0, r.1.now))) c.in-Some.is in
    let shaped = sym c.names_rightly.ensures ∙ c.if-not-names_rightly.false in
    let stands = subst (λ (q : Position). step_of c.args.flow.now c.args.nth (point_of q.here c.args.t) ≡ Some (c.in-Some.point, c.in-Some.step.now)) c.self.view_is at in
    let to = sym (stepped c.args.flow.now c.args.self.now.here c.args.t c.args.nth c.args.addr c.in-Some.point c.in-Some.step.now stands shaped) in
    record {
      says = subst (λ (x : Reached). IfOk c.take.result (λ r. r ≡ answer x)) to c.take.ensures.says;
      after = subst (λ (x : Reached). OnOk c.take.result (Reaches x c.args.self.now c.take.new.self)) to c.take.ensures.after;
      follows = c.take.ensures.follows;
      err = c.take.ensures.err;
    }
