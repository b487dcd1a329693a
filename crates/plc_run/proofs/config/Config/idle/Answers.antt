use Rattle.std.proofs.Common.{Option, None, length, refl, sym, ap, ◌∙◌}
use Rattle.std.proofs.lemmas.List.{length-replicate}
use Rattle.plc_auto.specs.Locations.{of_threads, locations_after_all}
use Rattle.plc_flow.specs.declared.points.Point.{Point}
use Rattle.plc_run.proofs.config.Config.idle.Goals as goal

pub returns : goal.returns
returns c =
    let o = c.args.observer.now in
    let many = ap length c.in_ok-idle.ensures.points ∙ length-replicate {A = Option Point} c.args.threads None in
    record {
      here = λ i. record { state = c.args.memory; history = c.args.history.items; points = c.in_ok-idle.ensures.points i };
      live = refl;
      follows = c.in_ok-idle.ensures.located
          ∙ (λ i. locations_after_all (of_threads o (sym many i)) (c.deref.ensures.value i));
      indexed = c.in_ok-idle.ensures.indexed;
    }
