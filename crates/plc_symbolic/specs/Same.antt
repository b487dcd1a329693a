-- Whether two terms are one, as the program compares them. That this is equality is shown in Equality.
use Rattle.std.specs.Prelude.{Bool}
use Rattle.plc_symbolic.specs.contracts.symbolic.NodeTermPartialEq.TheImpl as node
use Rattle.plc_symbolic.specs.contracts.symbolic.SymbolicTermPartialEq.TheImpl as term
use Rattle.plc_symbolic.specs.declared.symbolic.NodeTerm.{NodeTerm}
use Rattle.plc_symbolic.specs.declared.symbolic.SymbolicTerm.{SymbolicTerm}

-- two nodes are one
abbrev pub same_node : NodeTerm → NodeTerm → Bool
same_node a b = node.eq-value.it a b

-- two terms are one
abbrev pub same_term : SymbolicTerm → SymbolicTerm → Bool
same_term a b = term.eq-value.it a b
