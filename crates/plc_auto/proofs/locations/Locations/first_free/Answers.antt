use Rattle.std.proofs.Common.{ap, ◌∙◌}
use Rattle.plc_auto.specs.Locations.{Locations, first_free, first_free_of}
use Rattle.plc_auto.proofs.locations.Locations.first_free.Goals as goal

pub returns : goal.returns
unfolding first_free
returns c = c.first_free_of.ensures ∙ ap first_free_of c.deref.ensures.value ∙ ap (λ (l : Locations). first_free_of l.rows) c.self.view_is
