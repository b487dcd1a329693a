-- What a caller needs of a schedule that some file spells.
use Rattle.std.proofs.Common.{ℕ, List, length, ap, arith}
use Rattle.std.proofs.lemmas.List.{length-map}
use Rattle.plc_sched.specs.declared.schedule.Schedule.{Schedule}
use Rattle.plc_sched.specs.Entries.{entry_text}
use Rattle.plc_sched.specs.Schedules.{IsScheduleOf, IsWithinLimits}

pub within_limits : (bytes : List ℕ) (s : Schedule) → IsScheduleOf bytes s → IsWithinLimits s
within_limits bytes s spelled = record { threads = spelled.threads; entries = omega (arith, spelled.count, ap length spelled.lines, length-map s.entries entry_text) }
