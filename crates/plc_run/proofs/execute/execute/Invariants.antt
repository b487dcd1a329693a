use Rattle.std.proofs.Common.{◌≡◌, drop, Some}
use Rattle.plc_mem.specs.State.{State, Locals, with_locals}
use Rattle.plc_mem.specs.Outcomes.{address_or_null}
use Rattle.plc_mem.specs.Fit.{Kept}
use Rattle.plc_mem.specs.Undoing.{TakesBack}
use Rattle.plc_run.specs.Run.{execute}
use Rattle.plc_run.proofs.execute.execute.Given as goal

abbrev pub invariant-loop-k : goal.invariant-loop-k
invariant-loop-k l = record {
  same : execute (with_locals l.memory l.by.t (Some l.me)) l.events.items l.by.t (address_or_null l.by.addr) l.k (drop l.k l.prims) ≡ execute (with_locals l.fn.memory l.by.t (Some l.fn.me)) l.fn.events.items l.by.t (address_or_null l.by.addr) 0 l.prims;
  kept : Kept l.fn.memory l.fn.me l.memory l.me;
  undoable : (s : State) (m : Locals) → TakesBack l.by.t s m l.fn.undos.items l.fn.memory l.fn.me → TakesBack l.by.t s m l.undos.items l.memory l.me;
}
