use Rattle.std.proofs.Common.{Err, ap, ◌∙◌}
use Rattle.plc_check.proofs.verdict.strongest_typing.Goals as goal

pub returns-in-Err-Stuck : goal.returns-in-Err-Stuck
returns-in-Err-Stuck c =
    c.infer.ensures.stuck c.in-Err-Stuck.step c.in-Err-Stuck.prim c.in-Err-Stuck.fault (c.in-Err-Stuck.is ∙ ap Err c.in-Err-Stuck.field-0-is)
