-- so far the locations to which the members below `at` lead
use Rattle.std.proofs.Common.{◌≡◌}
use Rattle.plc_auto.proofs.SetLemmas.{stepped}
use Rattle.plc_auto.proofs.observer.Observer.step_set.Given as goal

abbrev pub invariant-loop-at : goal.invariant-loop-at
invariant-loop-at l = l.reached ≡ stepped l.self l.m l.kind l.own l.this l.at
