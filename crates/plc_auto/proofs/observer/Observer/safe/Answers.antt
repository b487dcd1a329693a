-- each table's safe locations are written out
use Rattle.std.proofs.Common.{◌∙◌, ap, sym}
use Rattle.plc_base.specs.Mask.{union, single}
use Rattle.plc_auto.specs.declared.observer.Observer.TheVariants.{Plain, Hazard, Epoch}
use Rattle.plc_auto.specs.Sets.{unretired, safe}
use Rattle.plc_auto.proofs.SetLemmas.{safe_written}
use Rattle.plc_auto.proofs.observer.Observer.safe.Goals as goal

pub returns-in-Plain : goal.returns-in-Plain
returns-in-Plain c = c.unretired.ensures ∙ ap unretired c.in-Plain.is ∙ safe_written Plain ∙ ap safe (sym c.in-Plain.is)

pub returns-in-Hazard : goal.returns-in-Hazard
returns-in-Hazard c = c.with_kept.ensures ∙ ap (λ m. union m (single 6)) (c.unretired-in-Hazard.ensures ∙ ap unretired c.in-Hazard.is) ∙ safe_written (Hazard c.in-Hazard.field-0) ∙ ap safe (sym c.in-Hazard.is)

pub returns-in-Epoch : goal.returns-in-Epoch
returns-in-Epoch c = c.with_kept-in-Epoch.ensures ∙ ap (λ m. union m (single 6)) (c.unretired-in-Epoch.ensures ∙ ap unretired c.in-Epoch.is) ∙ safe_written (Epoch c.in-Epoch.field-0 c.in-Epoch.field-1) ∙ ap safe (sym c.in-Epoch.is)
