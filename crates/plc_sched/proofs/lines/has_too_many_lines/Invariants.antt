use Rattle.std.proofs.Common.{◌≡◌, ◌≤◌, ◌+◌, length}
use Rattle.plc_sched.specs.Lines.{lines_of}
use Rattle.plc_sched.specs.Schedules.{line_limit}
use Rattle.plc_sched.proofs.lines.has_too_many_lines.Given as goal

abbrev pub invariant-loop-after : goal.invariant-loop-after
invariant-loop-after l = record { counted : l.count + length (lines_of l.rest) ≡ length (lines_of l.bytes); within : l.count ≤ line_limit }

abbrev pub decreases-loop-after : goal.decreases-loop-after
decreases-loop-after l = length l.rest
