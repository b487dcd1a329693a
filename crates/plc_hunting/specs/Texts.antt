-- How a run is written: a line for the number of threads, and then one for each move. A schedule has a tick where the
-- reclaimer is asked what to free; elsewhere a free is written with its address.
use Rattle.std.specs.Prelude.{ℕ, Bool, List, [], ◌∷◌, ◌++◌, codes, decimal, if◌then◌else◌, Option, Some, None}
use Rattle.plc_lang.specs.Names.{operation_name}
use Rattle.plc_flow.specs.declared.flow.Flow.{Flow}
use Rattle.plc_moves.specs.declared.words.Move.{Move}
use Rattle.plc_moves.specs.declared.words.Move.TheVariants.{Start, Step, Return, Free}

-- numbers, a space before each
abbrev pub numbers_text : List ℕ → List ℕ
numbers_text [] = []
numbers_text (n ∷ ns) = codes " " ++ decimal n ++ numbers_text ns

-- the address that a step names, a space before it
abbrev pub address_text : Option ℕ → List ℕ
address_text None = []
address_text (Some a) = codes " " ++ decimal a

-- a free
abbrev pub free_text : Bool → ℕ → List ℕ
free_text ticks a = if ticks then codes "tick" else codes "free " ++ decimal a

-- a move, without the line feed that ends its line
abbrev pub move_text : Flow → Bool → Move → List ℕ
move_text flow ticks (Start t op args) =
    codes "start " ++ decimal t ++ codes " " ++ operation_name flow.file op ++ numbers_text args
move_text flow ticks (Step t nth addr) =
    codes "step " ++ decimal t ++ codes " " ++ decimal nth ++ address_text addr
move_text flow ticks (Return t) = codes "return " ++ decimal t
move_text flow ticks (Free a) = free_text ticks a

-- the lines of moves
abbrev pub moves_text : Flow → Bool → List Move → List ℕ
moves_text flow ticks [] = []
moves_text flow ticks (move ∷ moves) = move_text flow ticks move ++ codes "\n" ++ moves_text flow ticks moves

-- a run among so many threads
abbrev pub run_text : Flow → Bool → ℕ → List Move → List ℕ
run_text flow ticks threads moves = codes "threads " ++ decimal threads ++ codes "\n" ++ moves_text flow ticks moves

-- where no race was met
abbrev pub none_met : List ℕ
none_met = codes "no race was met, which says nothing of other runs\n"
