use Rattle.std.proofs.Common.{drop}
use Rattle.plc_flow.specs.Builder.{a_join}
use Rattle.plc_flow.proofs.Remaining.{Left}
use Rattle.plc_flow.proofs.builder.join_all.Given as goal

abbrev pub invariant-loop-end : goal.invariant-loop-end
invariant-loop-end l = Left l.initial.out l.out (a_join l.here l.ends l.join.0) (a_join l.here (drop l.end-index l.ends) l.join.0)
