use Rattle.std.proofs.Common.{sym, ◌∙◌}
use Rattle.plc_answers.proofs.typings.guarantees_text.Goals as goal

pub returns-then-is_active : goal.returns-then-is_active
returns-then-is_active c = rw (sym c.is_local.ensures ∙ c.if-is_local.false, sym c.is_active.ensures ∙ c.if-is_active.true)
