use Rattle.plc_sched.proofs.Limits.{within_limits}
use Rattle.plc_sched.proofs.reading.schedules_are_within_limits.Goals as goal

pub returns : goal.returns
returns c = within_limits
