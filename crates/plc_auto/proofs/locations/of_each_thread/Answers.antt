use Rattle.std.proofs.Common.{add-one, ap, ◌∙◌, ◌++◌, ◌∷◌, []}
use Rattle.plc_auto.specs.Locations.{of_thread}
use Rattle.plc_auto.proofs.locations.of_each_thread.Goals as goal

pub loop-t-preserved : goal.loop-t-preserved
loop-t-preserved c = rw add-one (c.in_ok-push.ensures.items ∙ ap (λ ws. ws ++ of_thread c.loop-t.t c.args.observer ∷ []) c.loop-t.invariant)
