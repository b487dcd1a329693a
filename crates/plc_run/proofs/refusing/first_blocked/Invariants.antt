use Rattle.std.proofs.Common.{◌≡◌, drop, Some}
use Rattle.plc_mem.specs.State.{with_locals}
use Rattle.plc_mem.specs.Outcomes.{address_or_null}
use Rattle.plc_mem.specs.Fit.{Kept}
use Rattle.plc_run.specs.Refusals.{blocked_in}
use Rattle.plc_run.proofs.refusing.first_blocked.Given as goal

abbrev pub invariant-loop-k : goal.invariant-loop-k
invariant-loop-k l = record {
  same : blocked_in (with_locals l.memory l.t (Some l.me)) l.t (address_or_null l.addr) l.k (drop l.k l.prims) ≡ blocked_in (with_locals l.fn.memory l.t (Some l.fn.me)) l.t (address_or_null l.addr) 0 l.prims;
  kept : Kept l.fn.memory l.fn.me l.memory l.me;
}
