use Rattle.std.proofs.Common.{sym, ap, ◌∙◌}
use Rattle.plc_vocabulary.specs.Points.{site_is_at}
use Rattle.plc_vocabulary.proofs.Labelled.{unnamed}
use Rattle.plc_vocabulary.proofs.points.stands_at.Goals as goal

pub returns-else-labelled : goal.returns-else-labelled
returns-else-labelled c = λ known.
    let flow = c.args.flow.now in
    c.if-labelled.false ∙ sym (ap (site_is_at flow c.args.p) c.in-At.is ∙ unnamed flow.labels c.args.p (sym known ∙ c.if-labelled.false) _)
