use Rattle.std.proofs.Common.{length, sym, ap, ◌∙◌}
use Rattle.plc_check.proofs.Found.{first_of}
use Rattle.plc_check.proofs.open.first_counterexample.Goals as goal

pub returns : goal.returns
returns c =
    first_of c.args.judged.now.flow c.args.judged.now.unit_outline c.in_ok-answer.answer c.pop.new.self.items c.pop.result _ _
    c.in_ok-answer.ensures (sym c.into_vec.ensures ∙ c.pop.ensures.items) (c.into_vec.result.ok.0 ∙ ap length c.into_vec.ensures)
    c.pop.ensures.cases
