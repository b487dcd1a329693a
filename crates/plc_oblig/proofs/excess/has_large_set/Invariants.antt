use Rattle.std.proofs.Common.{◌≡◌, length}
use Rattle.std.specs.List.{list_any}
use Rattle.plc_oblig.specs.Obligations.{obligations}
use Rattle.plc_oblig.specs.Outlines.{is_large}
use Rattle.plc_oblig.specs.Runs.{left_at}
use Rattle.plc_oblig.proofs.excess.has_large_set.Given as goal

abbrev pub invariant-obligations : goal.invariant-obligations
invariant-obligations l =
    list_any (is_large l.program.flow.now l.program.outline.now) (left_at l.program.flow.now l.program.outline.now l.at)
    ≡ list_any (is_large l.program.flow.now l.program.outline.now) (obligations l.program.flow.now l.program.outline.now)

abbrev pub decreases-obligations : goal.decreases-obligations
decreases-obligations l = length (left_at l.program.flow.now l.program.outline.now l.at)
