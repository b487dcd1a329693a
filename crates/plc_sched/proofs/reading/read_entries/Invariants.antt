use Rattle.std.proofs.Common.{◌≡◌, ◌++◌, length, map, All}
use Rattle.plc_sched.specs.Entries.{EntryFits, entry_text}
use Rattle.plc_sched.specs.Lines.{lines_of}
use Rattle.plc_sched.proofs.reading.read_entries.Given as goal

abbrev pub invariant-loop-line : goal.invariant-loop-line
invariant-loop-line l = record { read : map entry_text l.entries ++ lines_of l.rest ≡ lines_of l.bytes; each : All (EntryFits l.threads) l.entries }

abbrev pub decreases-loop-line : goal.decreases-loop-line
decreases-loop-line l = length l.rest
