use Rattle.std.proofs.Common.{◌≡◌}
use Rattle.plc_encoding.specs.Items.{bound_nodes}
use Rattle.plc_encoding.proofs.conclusion.bound_nodes.Given as goal

abbrev pub invariant-loop-i : goal.invariant-loop-i
invariant-loop-i l =
    l.nodes ≡ bound_nodes l.i
