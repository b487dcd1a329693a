-- Numbers by which terms are hashed. Different terms may share one.
use Rattle.std.specs.Prelude.{ℕ, ◌+◌, ◌*◌, ◌^◌, List}
use Rattle.std.specs.Hash as fed
use Rattle.plc_ground.specs.declared.terms.Symbol.{Symbol}
use Rattle.plc_ground.specs.declared.terms.Symbol.TheVariants.{Null, Shared, Mine, Theirs, New, Bound, Loaded}
use Rattle.plc_ground.specs.declared.terms.Symbol.TheVariants.{Yes, No, Nobody, Me, You, Value, Number}
use Rattle.plc_ground.specs.declared.terms.Symbol.TheVariants.{MarkShared, MarkMine, MarkTheirs, MarkLoaded}
use Rattle.plc_ground.specs.declared.terms.Map.{Map}
use Rattle.plc_ground.specs.declared.terms.Map.TheVariants.{Field, Ghost, Retired, FieldMark}
use Rattle.plc_symbolic.specs.declared.symbolic.NodeTerm.{NodeTerm}
use Rattle.plc_symbolic.specs.declared.symbolic.NodeTerm.TheVariants.{At, Target}
use Rattle.plc_symbolic.specs.declared.symbolic.SymbolicTerm.{SymbolicTerm}
use Rattle.plc_symbolic.specs.declared.symbolic.SymbolicTerm.TheVariants.{Constant, Application}

abbrev pub symbol_key : Symbol → ℕ
symbol_key Null = 0
symbol_key (Shared i) = 8 + 32 * i
symbol_key (Mine i) = 9 + 32 * i
symbol_key (Theirs i) = 10 + 32 * i
symbol_key New = 1
symbol_key (Bound i) = 11 + 32 * i
symbol_key (Loaded i) = 12 + 32 * i
symbol_key Yes = 2
symbol_key No = 6
symbol_key Nobody = 3
symbol_key Me = 4
symbol_key You = 5
symbol_key (Value i) = 13 + 32 * i
symbol_key (Number i) = 14 + 32 * i
symbol_key (MarkShared i) = 15 + 32 * i
symbol_key (MarkMine i) = 16 + 32 * i
symbol_key (MarkTheirs i) = 17 + 32 * i
symbol_key (MarkLoaded i) = 18 + 32 * i

abbrev pub node_key : NodeTerm → ℕ
node_key (At s) = symbol_key s
node_key (Target f s) = symbol_key s + 2 ^ 21 * (1 + f.0)

abbrev pub map_key : Map → ℕ
map_key (Field f) = 1 + 4 * f.0
map_key (Ghost g) = 2 + 4 * g
map_key Retired = 3
map_key (FieldMark f) = 4 + 4 * f.0

-- the number of a term, and what is hashed of it
abbrev pub term_key : SymbolicTerm → ℕ
term_key (Constant s) = symbol_key s
term_key (Application m v n) = node_key n + 2 ^ 37 * map_key m + 2 ^ 45 * v

abbrev pub term_input : SymbolicTerm → List (List ℕ)
term_input t = fed.u64 (term_key t)
