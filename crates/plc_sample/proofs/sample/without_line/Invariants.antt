use Rattle.std.proofs.Common.{◌≡◌, ◌≤◌, ◌+◌, ◌++◌, drop}
use Rattle.plc_sample.specs.Sample.{without_from}
use Rattle.plc_sample.proofs.sample.without_line.Given as goal

abbrev pub invariant-loop-byte : goal.invariant-loop-byte
invariant-loop-byte l =
    (l.out.items ++ without_from l.without l.line (drop l.byte-index l.text) ≡ without_from l.without 1 l.text)
    × (l.line ≤ l.byte-index + 1)
