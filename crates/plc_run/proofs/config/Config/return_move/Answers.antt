use Rattle.std.proofs.Common.{None, get_or, refl, sym, ap, ◌∙◌, subst}
use Rattle.plc_moves.specs.Standing.{at_exit}
use Rattle.plc_run.specs.Reach.{Reached, Reaches}
use Rattle.plc_run.specs.contracts.config.Config.{the_view}
use Rattle.plc_run.proofs.Stepping.{returned}
use Rattle.plc_run.proofs.config.Config.return_move.Goals as goal

pub returns-clause-after : goal.returns-clause-after
returns-clause-after c =
    let v = the_view c.self.inside in
    let fits = rw (← c.self.view_is) at c.requires.fits in
    let exit = sym (c.at_exit.ensures ∙ ap (λ xs. at_exit c.args.flow.now (get_or xs c.args.t None)) c.deref.ensures.value) ∙ c.if-not-at_exit.false in
    let to = returned c.args.flow.now v.here c.args.t c.take-gone.new.self c.set_point.new.points.items fits exit c.take-gone.ensures.rest c.set_point.ensures.put in
    rw (← c.self.view_is) (subst (λ (r : Reached). Reaches r v (record { here = record { state = c.take-gone.new.self; history = v.here.history; points = c.set_point.new.points.items }; ended = v.ended; located = v.located; steps = v.steps })) (sym to) (refl, refl, refl))
