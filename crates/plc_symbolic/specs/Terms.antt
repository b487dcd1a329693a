-- Terms before they are numbered, and literals over them.
use Rattle.std.specs.Prelude.{true, false, List}
use Rattle.plc_ground.specs.declared.terms.Symbol.TheVariants as symbols
use Rattle.plc_ground.specs.declared.terms.Map.TheVariants as maps
use Rattle.plc_symbolic.specs.declared.symbolic.NodeTerm.{NodeTerm}
use Rattle.plc_symbolic.specs.declared.symbolic.NodeTerm.TheVariants.{At, Target}
use Rattle.plc_symbolic.specs.declared.symbolic.SymbolicTerm.{SymbolicTerm}
use Rattle.plc_symbolic.specs.declared.symbolic.SymbolicTerm.TheVariants.{Constant, Application}
use Rattle.plc_symbolic.specs.declared.symbolic.SymbolicLit.{SymbolicLit}

-- clauses, each a list of literals
abbrev pub Clauses : Type 0
Clauses = List (List SymbolicLit)

-- a node as a term: a pointer field of a node is that field in version 0
abbrev pub term_of : NodeTerm → SymbolicTerm
term_of (At s) = Constant s
term_of (Target f s) = Application (maps.Field f) 0 (At s)

-- the literals `a == b` and `a != b`
abbrev pub is : SymbolicTerm → SymbolicTerm → SymbolicLit
is a b = record { left = a; right = b; equal = true }

abbrev pub is_not : SymbolicTerm → SymbolicTerm → SymbolicLit
is_not a b = record { left = a; right = b; equal = false }

-- the constants null and `new`
abbrev pub null : SymbolicTerm
null = Constant symbols.Null

abbrev pub new_node : SymbolicTerm
new_node = Constant symbols.New
