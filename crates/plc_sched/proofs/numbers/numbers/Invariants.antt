use Rattle.std.proofs.Common.{◌≡◌, ◌<◌, ◌≤◌, ◌^◌, ◌++◌, length, map, All}
use Rattle.std.specs.Fmt.{decimal}
use Rattle.plc_sched.specs.Numbers.{most_arguments}
use Rattle.plc_sched.specs.Words.{words_left}
use Rattle.plc_sched.proofs.numbers.numbers.Given as goal

abbrev pub invariant-loop-rest : goal.invariant-loop-rest
invariant-loop-rest l = record { read : map decimal l.numbers ++ words_left l.rest ≡ words_left l.words; each : All (λ n. n < 2 ^ 32) l.numbers; count : length l.numbers ≤ most_arguments }

abbrev pub decreases-loop-rest : goal.decreases-loop-rest
decreases-loop-rest l = length (words_left l.rest)
