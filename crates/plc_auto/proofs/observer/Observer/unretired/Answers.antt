-- each table's unretired locations are written out
use Rattle.std.proofs.Common.{◌∙◌, ap, sym}
use Rattle.plc_auto.specs.declared.observer.Observer.TheVariants.{Plain, Hazard, Epoch}
use Rattle.plc_auto.specs.Sets.{unretired}
use Rattle.plc_auto.proofs.SetLemmas.{unretired_written}
use Rattle.plc_auto.proofs.observer.Observer.unretired.Goals as goal

pub returns-in-Plain : goal.returns-in-Plain
returns-in-Plain c = c.full.ensures ∙ unretired_written Plain ∙ ap unretired (sym c.in-Plain.is)

pub returns-in-Hazard : goal.returns-in-Hazard
returns-in-Hazard c = c.full-in-Hazard.ensures ∙ unretired_written (Hazard c.in-Hazard.field-0) ∙ ap unretired (sym c.in-Hazard.is)

pub returns-in-Epoch : goal.returns-in-Epoch
returns-in-Epoch c = c.full-in-Epoch.ensures ∙ unretired_written (Epoch c.in-Epoch.field-0 c.in-Epoch.field-1) ∙ ap unretired (sym c.in-Epoch.is)
