use Rattle.std.proofs.Common.{◌≡◌, ◌++◌, flat_map, drop}
use Rattle.plc_encoding.specs.Items.{escapes}
use Rattle.plc_encoding.proofs.instances.push_escapes.Given as goal

abbrev pub invariant-loop-node : goal.invariant-loop-node
invariant-loop-node l =
    l.initial.lits ++ flat_map (escapes l.makes) l.names
    ≡ l.lits ++ flat_map (escapes l.makes) (drop l.node-index l.names)
