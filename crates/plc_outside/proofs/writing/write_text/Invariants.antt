use Rattle.std.proofs.Common.{length, ◌+◌, ◌-◌, ◌≤◌, take}
use Rattle.plc_outside.specs.Outside.{Appends}
use Rattle.plc_outside.proofs.writing.write_text.Given as goal

abbrev pub invariant-loop-done : goal.invariant-loop-done
invariant-loop-done g l = record {
  within : l.done ≤ length l.text;
  so_far : Appends (g.S.Sink.known l.fn.out) (g.S.Sink.known l.out) (take l.done l.text);
  later : (g.S.Sink.known l.fn.out).faults ≤ (g.S.Sink.known l.out).faults;
  room : (g.S.Sink.known l.fn.out).room ≤ (g.S.Sink.known l.out).room + l.done;
}

abbrev pub decreases-loop-done : goal.decreases-loop-done
decreases-loop-done g l = length l.text - l.done
