use Rattle.plc_explore.specs.Following.{IsAny}
use Rattle.plc_explore.proofs.running.hear.Given as goal

abbrev pub invariant-loop-event : goal.invariant-loop-event
invariant-loop-event g l = record {
  can_next : (goal.iterator-loop-event g).can_next l.event-iterator;
  is_finite : (goal.iterator-loop-event g).is_finite l.event-iterator;
  any : IsAny l.fn.frees → IsAny l.frees;
}
