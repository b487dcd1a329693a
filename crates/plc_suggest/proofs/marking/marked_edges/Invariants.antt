use Rattle.std.proofs.Common.{◌≡◌, ◌++◌, drop, map}
use Rattle.plc_infer.specs.Programs.{edge_of}
use Rattle.plc_suggest.specs.Marking.{with_lists}
use Rattle.plc_suggest.proofs.marking.marked_edges.Given as goal

abbrev pub invariant-loop-k : goal.invariant-loop-k
invariant-loop-k l = map edge_of l.edges.items ++ with_lists (drop l.k l.lists) (drop l.k l.flow.steps) ≡ with_lists
    l.lists l.flow.steps
