-- What every state of a garbage-collected run has: pointers lead to nodes that were made, and enumerated auxiliary
-- fields have values of their own.
use Rattle.std.specs.Prelude.{◌≡◌, ℕ, ◌<◌, ◌≤◌, true, List, length, slice_get, Some}
use Rattle.plc_lang.specs.declared.syntax.Primitive.{Primitive}
use Rattle.plc_lang.specs.declared.syntax.Ghost.{Ghost as AuxiliaryField}
use Rattle.plc_lang.specs.declared.syntax.File.{File}
use Rattle.plc_lang.specs.WellSorted.{IsWellSorted}
use Rattle.plc_flow.specs.declared.flow.Flow.{Flow}
use Rattle.plc_flow.specs.WellSorted.{FlowIsWellSorted}
use Rattle.plc_moves.specs.declared.words.Move.{Move}
use Rattle.plc_gc.specs.declared.slot.Slot.TheVariants.{Shared as in_shared, Local as in_local}
use Rattle.plc_gc.specs.declared.slot.Slot.TheVariants.{SharedMark as shared_mark, LocalMark as local_mark}
use Rattle.plc_gc.specs.declared.slot.Map.{Map}
use Rattle.plc_gc.specs.declared.slot.Map.TheVariants.{Pointer as pointer_field, Mark as mark_field}
use Rattle.plc_gc.specs.declared.slot.Map.TheVariants.{Number as data_field, Auxiliary as auxiliary_field}
use Rattle.plc_gc.specs.declared.slot.Map.TheVariants.{Retirement as retirement}
use Rattle.plc_gc.specs.State.{GcState, value, entry, count}
use Rattle.plc_gc.specs.Primitives.{goes, after}
use Rattle.plc_gc.specs.Run.{GcConfiguration, GcRun, Moves, first_configuration}

-- null and each node to which a pointer leads are made; null's pointer fields are null and unmarked, its data fields
-- 0, and it isn't retired; a mark is 0 or 1, and so is retirement
pub record IsInRange (g : GcState) : Type 0 where
  pub null_made : 0 < count g
  pub shared : (i : ℕ) → value g (in_shared i) < count g
  pub locals : (t v : ℕ) → value g (in_local t v) < count g
  pub fields : (f k : ℕ) → entry g (pointer_field f) k < count g
  pub unmade : (m : Map) (k : ℕ) → count g ≤ k → entry g m k ≡ 0
  pub null_pointers : (f : ℕ) → entry g (pointer_field f) 0 ≡ 0
  pub null_data : (f : ℕ) → entry g (data_field f) 0 ≡ 0
  pub null_kept : entry g retirement 0 ≡ 0
  pub shared_marks : (i : ℕ) → value g (shared_mark i) ≤ 1
  pub local_marks : (t v : ℕ) → value g (local_mark t v) ≤ 1
  pub field_marks : (f k : ℕ) → entry g (mark_field f) k ≤ 1
  pub null_marks : (f : ℕ) → entry g (mark_field f) 0 ≡ 0
  pub bit : (k : ℕ) → entry g retirement k ≤ 1

-- it holds where a run begins, and each primitive that isn't blocked and each move keeps it
pub record RunsStayInRange (flow : Flow) (threads : ℕ) : Type 0 where
  pub begun : (c : GcConfiguration) → first_configuration flow threads ≡ Some c → IsInRange c.state
  pub by_primitive : (g : GcState) (t : ℕ) (k : Primitive) → goes g t k ≡ true → IsInRange g → IsInRange (after g t k)
  pub by_move : (c d : GcConfiguration) (move : Move) → Moves flow threads c move d → IsInRange c.state
      → IsInRange d.state
  pub run : (moves : List Move) (c : GcConfiguration) → GcRun flow threads moves c → IsInRange c.state

-- so it is with every flow
abbrev pub CollectedRunsStayInRange : Type 0
CollectedRunsStayInRange = (flow : Flow) (threads : ℕ) → RunsStayInRange flow threads

-- an auxiliary field of the file that has values has one of them at every node
abbrev pub ValuesAreInRange : File → GcState → Type 0
ValuesAreInRange file g =
    (h : ℕ) (d : AuxiliaryField) → slice_get file.ghosts h ≡ Some d → 0 < length d.values
    → (k : ℕ) → entry g (auxiliary_field h) k < length d.values

-- it holds where a run begins, and each primitive whose writes fit their fields and each move keeps it
pub record RunsKeepValues (flow : Flow) (threads : ℕ) : Type 0 where
  pub begun : (c : GcConfiguration) → first_configuration flow threads ≡ Some c → ValuesAreInRange flow.file c.state
  pub by_primitive : (g : GcState) (t : ℕ) (k : Primitive) → IsWellSorted flow.file k → ValuesAreInRange flow.file g
      → ValuesAreInRange flow.file (after g t k)
  pub by_move : (c d : GcConfiguration) (move : Move) → Moves flow threads c move d → ValuesAreInRange flow.file c.state
      → ValuesAreInRange flow.file d.state
  pub run : (moves : List Move) (c : GcConfiguration) → GcRun flow threads moves c → ValuesAreInRange flow.file c.state

-- so it is with every flow of a file that was read
abbrev pub CollectedRunsKeepValues : Type 0
CollectedRunsKeepValues = (flow : Flow) (threads : ℕ) → FlowIsWellSorted flow → RunsKeepValues flow threads
