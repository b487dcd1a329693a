-- In a flow that doesn't use marks nothing is ever marked.
use Rattle.std.specs.Prelude.{◌≡◌, ℕ, false, ◌==◌, List, Some}
use Rattle.plc_lang.specs.declared.syntax.Var.{Var}
use Rattle.plc_lang.specs.declared.syntax.Primitive.{Primitive}
use Rattle.plc_lang.specs.Marks.{speaks_of_marks}
use Rattle.plc_flow.specs.declared.flow.Flow.{Flow}
use Rattle.plc_flow.specs.Marks.{flow_uses_marks}
use Rattle.plc_moves.specs.declared.words.Move.{Move}
use Rattle.plc_gc.specs.declared.slot.Slot.TheVariants.{SharedMark as shared_mark, LocalMark as local_mark}
use Rattle.plc_gc.specs.declared.slot.Map.TheVariants.{Mark as mark_field}
use Rattle.plc_gc.specs.State.{GcState, value, entry}
use Rattle.plc_gc.specs.Primitives.{node_at, same_pointer, after}
use Rattle.plc_gc.specs.Run.{GcConfiguration, GcRun, Moves, first_configuration}

-- every mark is 0
pub record AllUnmarked (g : GcState) : Type 0 where
  pub shared : (i : ℕ) → value g (shared_mark i) ≡ 0
  pub locals : (t v : ℕ) → value g (local_mark t v) ≡ 0
  pub fields : (f k : ℕ) → entry g (mark_field f) k ≡ 0

-- nothing is marked where a run begins, and no primitive that doesn't speak of marks and no move marks anything; so a
-- comparison of pointers is one of nodes
pub record RunsStayUnmarked (flow : Flow) (threads : ℕ) : Type 0 where
  pub begun : (c : GcConfiguration) → first_configuration flow threads ≡ Some c → AllUnmarked c.state
  pub by_primitive : (g : GcState) (t : ℕ) (k : Primitive) → speaks_of_marks k ≡ false → AllUnmarked g
      → AllUnmarked (after g t k)
  pub by_move : (c d : GcConfiguration) (move : Move) → Moves flow threads c move d → AllUnmarked c.state
      → AllUnmarked d.state
  pub run : (moves : List Move) (c : GcConfiguration) → GcRun flow threads moves c → AllUnmarked c.state
  pub compared : (g : GcState) (t : ℕ) (p q : Var) → AllUnmarked g
      → same_pointer g t p q ≡ (node_at g t p == node_at g t q)

-- so it is with every flow that doesn't use marks
abbrev pub CollectedRunsStayUnmarked : Type 0
CollectedRunsStayUnmarked =
    (flow : Flow) (threads : ℕ) → flow_uses_marks flow ≡ false → RunsStayUnmarked flow threads
