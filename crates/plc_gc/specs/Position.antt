-- What the answers of a configuration in code say.
use Rattle.std.specs.Prelude.{◌≡◌, ℕ, List, length, Some, None, Result, Ok, Err}
use Rattle.plc_flow.specs.declared.flow.Flow.{Flow}
use Rattle.plc_moves.specs.declared.words.Move.{Move}
use Rattle.plc_moves.specs.declared.words.StartFault.{StartFault}
use Rattle.plc_moves.specs.declared.words.StartFault.TheVariants as faults
use Rattle.plc_gc.specs.declared.config.GcMoved.{GcMoved}
use Rattle.plc_gc.specs.declared.config.GcMoved.TheVariants as moved
use Rattle.plc_gc.specs.Run.{GcConfiguration, GcRun, Moves, first_configuration}

-- how many threads it has
abbrev pub threads_of : GcConfiguration → ℕ
threads_of c = length c.points

-- a garbage-collected run of this flow leads there
abbrev pub IsOfRun : Flow → GcConfiguration → Type 0
IsOfRun flow c = (moves : List Move) × GcRun flow (threads_of c) moves c

-- what the answer of a start says
abbrev pub Starts : Flow → ℕ → Result GcConfiguration StartFault → Type 0
Starts flow threads (Ok c) = first_configuration flow threads ≡ Some c
Starts flow threads (Err faults.NoStart) = first_configuration flow threads ≡ None
Starts flow threads (Err faults.Memory) = Unit {0}

-- what each answer says of the configuration before and after the move
abbrev pub Answers : Flow → GcConfiguration → Move → GcMoved → GcConfiguration → Type 0
Answers flow c move moved.Done d = Moves flow (threads_of c) c move d
Answers flow c move moved.Blocked d = ((e : GcConfiguration) → Moves flow (threads_of c) c move e → ⊥) × (d ≡ c)
