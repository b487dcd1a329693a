use Rattle.std.proofs.Common.{◌++◌, refl, ap, ◌∙◌}
use Rattle.plc_run.specs.Position.{Position}
use Rattle.plc_run.specs.contracts.config.Config.{the_view}
use Rattle.plc_run.proofs.Follow.{heard}
use Rattle.plc_run.proofs.config.Config.hear.Goals as goal

pub returns-clause-follows : goal.returns-clause-follows
returns-clause-follows c = λ o before.
    let v = the_view c.self.inside in
    let events = c.args.events.now in
    let q : Position = record { here = record { state = v.here.state; history = c.extend_from_slice.new.self.items; points = v.here.points }; ended = v.ended; located = c.hear_all.new.self; steps = v.steps } in
    let follows = rw (← c.self.view_is) at before in
    heard o v q events refl (c.in_ok-extend_from_slice.ensures.items ∙ ap (λ h. h ++ events) c.reserve.ensures.items) c.in_ok-hear_all.ensures.ok follows
