use Rattle.plc_sched.proofs.Unique.{schedules_are_one, faults_are_one, memory_alone}
use Rattle.plc_sched.proofs.reading.schedules_are_unique.Goals as goal

pub returns : goal.returns
returns c = record { schedules = schedules_are_one; faults = faults_are_one; apart = memory_alone }
