use Rattle.std.proofs.Common.{Some, sym, ap, ◌∙◌}
use Rattle.plc_mem.specs.State.{with_locals}
use Rattle.plc_mem.proofs.Joined.{kept-then}
use Rattle.plc_run.specs.Ended.{heard}
use Rattle.plc_run.proofs.Executing.{fit_at, execute_stuck, execute_raced, execute_went}
use Rattle.plc_run.proofs.execute.execute.Goals as goal

pub one-requires : goal.one-requires
one-requires c = rw c.loop-k.invariant.kept.shape (fit_at _ c.args.prims.now c.loop-k.k _ c.requires.fit c.loop-k-test.true)

pub returns-in-Blocked-clause-ends : goal.returns-in-Blocked-clause-ends
returns-in-Blocked-clause-ends c = execute_stuck (with_locals c.loop-k.memory c.args.by.t (Some c.loop-k.me)) c.loop-k.events.items c.args.by.t _ c.loop-k.k c.args.prims.now _ _ c.loop-k-test.true (sym c.in-Blocked.is ∙ c.in_ok-one.ensures.outcome) c.loop-k.invariant.same

pub returns-in-Race-clause-ends : goal.returns-in-Race-clause-ends
returns-in-Race-clause-ends c = execute_raced (with_locals c.loop-k.memory c.args.by.t (Some c.loop-k.me)) c.loop-k.events.items c.args.by.t _ c.loop-k.k c.args.prims.now _ c.in-Race.kind _ c.loop-k-test.true (sym c.in-Race.is ∙ c.in_ok-one.ensures.outcome) c.loop-k.invariant.same

pub loop-k-preserved : goal.loop-k-preserved
loop-k-preserved c = record {
  same = execute_went (with_locals c.loop-k.memory c.args.by.t (Some c.loop-k.me)) (with_locals c.one.new.memory c.args.by.t (Some c.one.new.me)) c.loop-k.events.items c.one.new.events.items c.args.by.t _ c.loop-k.k c.args.prims.now _ c.in-Next.field-0 _ c.loop-k-test.true
      (sym c.in-Next.is ∙ c.in_ok-one.ensures.outcome) c.in_ok-one.ensures.next (c.in_ok-one.ensures.events ∙ ap (heard c.loop-k.events.items) c.in-Next.is) c.loop-k.invariant.same;
  kept = kept-then c.loop-k.invariant.kept c.one.ensures.kept;
  undoable = λ s m takes. c.one.ensures.undoable s m (c.loop-k.invariant.undoable s m takes);
}
