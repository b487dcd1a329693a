use Rattle.std.proofs.Common.{length, ap, sym, ◌∙◌}
use Rattle.plc_oblig.proofs.refuted.is_refuted_by_last.Goals as goal

pub returns-then-clause-n-clause-yes : goal.returns-then-clause-n-clause-yes
returns-then-clause-n-clause-yes c = λ yes. record { refuted = c.is_refuted.ensures.yes yes; count = ap length (sym c.clause.ensures) ∙ c.if-clause-n.true }
