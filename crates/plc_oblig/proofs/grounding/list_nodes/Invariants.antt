use Rattle.std.proofs.Common.{◌≡◌, map, drop}
use Rattle.plc_symbolic.specs.Terms.{term_of}
use Rattle.plc_symbolic.specs.Numbering.{listed_all}
use Rattle.plc_oblig.proofs.grounding.list_nodes.Given as goal

abbrev pub invariant-loop-node : goal.invariant-loop-node
invariant-loop-node l = listed_all l.out (map term_of (drop l.node-index l.nodes)) ≡ listed_all l.fn.out (map term_of l.nodes)
