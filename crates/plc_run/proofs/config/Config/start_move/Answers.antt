use Rattle.std.proofs.Common.{Some, option_map, refl, sym, ap, ◌∙◌, subst, arith}
use Rattle.plc_moves.specs.Standing.{begun}
use Rattle.plc_moves.specs.Fit.{ThreadFits}
use Rattle.plc_moves.proofs.Moves.{begun_so}
use Rattle.plc_mem.specs.State.{with_locals}
use Rattle.plc_run.specs.Fit.{LocalsFit}
use Rattle.plc_run.specs.Reach.{Reached, Reaches}
use Rattle.plc_run.specs.contracts.config.Config.{the_view}
use Rattle.plc_run.proofs.Stepping.{started_so}
use Rattle.plc_run.proofs.config.Config.start_move.Goals as goal

pub put-requires : goal.put-requires
put-requires c =
    let v = the_view c.self.inside in
    let fits = rw (← c.self.view_is) at c.requires.fits in
    let begins = sym (c.begun.ensures ∙ ap (λ ps. begun c.args.flow.now ps c.args.t c.args.op.0 c.args.args.now) c.deref.ensures.value) ∙ ap (option_map (λ r. (r.0.now, r.1))) c.in-Some.is in
    let b = (begun_so c.args.flow.now v.here.points c.args.t c.args.op.0 c.args.args.now c.in-Some.operation.now c.in-Some.entry begins).1 in
    record {
      below = omega (arith, b.known, fits.standing.locals);
      none = subst (ThreadFits c.args.flow.now (LocalsFit c.args.flow.now v.here.state) v.here.state.locals c.args.t) b.idle (fits.standing.each c.args.t);
    }

pub returns-clause-after : goal.returns-clause-after
returns-clause-after c =
    let v = the_view c.self.inside in
    let begins = sym (c.begun.ensures ∙ ap (λ ps. begun c.args.flow.now ps c.args.t c.args.op.0 c.args.args.now) c.deref.ensures.value) ∙ ap (option_map (λ r. (r.0.now, r.1))) c.in-Some.is in
    let given = c.put.ensures.given ∙ ap (λ l. with_locals c.self.inside.memory c.args.t (Some l)) c.in_ok-l.ensures in
    let to = started_so c.args.flow.now v.here c.args.t c.args.op.0 c.args.args.now c.in-Some.operation.now c.in-Some.entry c.put.new.self c.set_point.new.points.items begins given c.set_point.ensures.put in
    rw (← c.self.view_is) (subst (λ (r : Reached). Reaches r v (record { here = record { state = c.put.new.self; history = v.here.history; points = c.set_point.new.points.items }; ended = v.ended; located = v.located; steps = v.steps })) (sym to) (refl, refl, refl))
