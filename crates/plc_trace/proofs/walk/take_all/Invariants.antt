use Rattle.std.proofs.Common.{◌≡◌, ◌+◌}
use Rattle.plc_trace.specs.Going.{GoesOnFrom}
use Rattle.plc_trace.proofs.walk.take_all.Given as goal

abbrev pub invariant-loop-entry : goal.invariant-loop-entry
invariant-loop-entry g l = record {
  counted : l.lines ≡ l.entry-index + l.taken;
  stands : GoesOnFrom l.traced l.lines l.walk.config;
}
