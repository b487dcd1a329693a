use Rattle.std.proofs.Common.{◌≡◌}
use Rattle.plc_encoding.specs.Items.{one_of_values}
use Rattle.plc_encoding.proofs.values.push_one_of.Given as goal

abbrev pub invariant-loop-v : goal.invariant-loop-v
invariant-loop-v l =
    l.clause ≡ one_of_values l.g l.first l.v l.node
