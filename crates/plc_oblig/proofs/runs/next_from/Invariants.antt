use Rattle.std.proofs.Common.{◌≡◌, drop}
use Rattle.plc_oblig.specs.Runs.{left_at, from_group}
use Rattle.plc_oblig.proofs.runs.next_from.Given as goal

abbrev pub invariant-loop-g : goal.invariant-loop-g
invariant-loop-g l =
    left_at l.fn.o.flow.now l.fn.o.outline.now l.fn.at
    ≡ drop l.left (from_group l.fn.o.flow.now l.fn.o.outline.now l.g l.part)
