use Rattle.std.proofs.Common.{Some, sym, ◌∙◌}
use Rattle.plc_mem.specs.State.{with_locals}
use Rattle.plc_mem.specs.declared.cell.Outcome.TheVariants.{Next, Blocked, Race}
use Rattle.plc_mem.proofs.Joined.{kept-then}
use Rattle.plc_run.proofs.Executing.{fit_at}
use Rattle.plc_run.proofs.Refused.{blocked_at}
use Rattle.plc_run.proofs.refusing.first_blocked.Goals as goal

pub apply-requires : goal.apply-requires
apply-requires c = rw c.loop-k.invariant.kept.shape (fit_at _ c.args.prims.now c.loop-k.k _ c.requires.fit c.loop-k-test.true)

pub returns-in-Blocked : goal.returns-in-Blocked
returns-in-Blocked c = blocked_at (with_locals c.loop-k.memory c.args.t (Some c.loop-k.me)) c.args.t _ c.loop-k.k c.args.prims.now _ Blocked _ c.loop-k-test.true (sym c.in-Blocked.is ∙ c.in_ok-apply.ensures.outcome) c.loop-k.invariant.same

pub returns-in-Race : goal.returns-in-Race
returns-in-Race c = blocked_at (with_locals c.loop-k.memory c.args.t (Some c.loop-k.me)) c.args.t _ c.loop-k.k c.args.prims.now _ (Race c.in-Race.field-0) _ c.loop-k-test.true (sym c.in-Race.is ∙ c.in_ok-apply.ensures.outcome) c.loop-k.invariant.same

pub loop-k-preserved : goal.loop-k-preserved
loop-k-preserved c = record {
  same = rw c.in_ok-apply.ensures.next (blocked_at (with_locals c.loop-k.memory c.args.t (Some c.loop-k.me)) c.args.t _ c.loop-k.k c.args.prims.now _ (Next c.in-Next.field-0) _ c.loop-k-test.true (sym c.in-Next.is ∙ c.in_ok-apply.ensures.outcome) c.loop-k.invariant.same);
  kept = kept-then c.loop-k.invariant.kept c.apply.ensures.kept;
}
