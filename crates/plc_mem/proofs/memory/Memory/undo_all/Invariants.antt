use Rattle.std.proofs.Common.{◌≡◌, ℕ, Some, vec_len}
use Rattle.plc_mem.specs.State.{with_locals}
use Rattle.plc_mem.specs.Fit.{shape, Kept}
use Rattle.plc_mem.specs.Undoing.{all_undone, UndosFit}
use Rattle.plc_mem.proofs.memory.Memory.undo_all.Given as goal

abbrev pub invariant-loop-undo : goal.invariant-loop-undo
invariant-loop-undo l = record {
  back : (t : ℕ) → all_undone (with_locals l.self t (Some l.me)) t l.undos.items ≡ all_undone (with_locals l.fn.self t (Some l.fn.me)) t l.fn.undos.items;
  fit : UndosFit (shape l.self l.me) l.undos.items;
  kept : Kept l.fn.self l.fn.me l.self l.me;
}

abbrev pub decreases-loop-undo : goal.decreases-loop-undo
decreases-loop-undo l = vec_len l.undos
