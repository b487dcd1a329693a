use Rattle.std.proofs.Common.{◌≡◌, take}
use Rattle.plc_encoding.specs.Execution.{current}
use Rattle.plc_encoding.proofs.execution.current.Given as goal

abbrev pub invariant-loop-variable : goal.invariant-loop-variable
invariant-loop-variable l =
    l.now ≡ current (record l.x { assigned = take l.variable-index l.x.assigned }) l.symbol
