use Rattle.std.proofs.Common.{ℕ, ◌<◌, length, arith, below_more}
use Rattle.plc_infer.specs.Programs.{program_of, passage_at}
use Rattle.plc_infer.specs.Graphs.{graph_of}
use Rattle.plc_infer.specs.Iteration.{Holds}
use Rattle.plc_infer.proofs.Programs.{step_at, step_read, step_short, from_within, from_fits}
use Rattle.plc_infer.proofs.Failing.{holds_here, first_failing}
use Rattle.plc_infer.proofs.faults.first_fault.Goals as goal

pub bounds-envs-step : goal.bounds-envs-step
bounds-envs-step c =
    let p = c.args.program.now in
    let small : c.loop-k.k < length p.steps.now = omega arith in
    from_within c.args.observer.now p c.args.envs.now c.loop-k.k (step_at p c.loop-k.k) c.requires.program c.requires.shaped small (step_read p c.loop-k.k small)

pub fault_in_step-requires-clause-short : goal.fault_in_step-requires-clause-short
fault_in_step-requires-clause-short c =
    let p = c.args.program.now in
    let small : c.loop-k.k < length p.steps.now = omega arith in
    let h = step_short p c.loop-k.k c.requires.program small in
    omega (arith, h)

pub fault_in_step-requires-clause-fits : goal.fault_in_step-requires-clause-fits
fault_in_step-requires-clause-fits c =
    let p = c.args.program.now in
    let small : c.loop-k.k < length p.steps.now = omega arith in
    from_fits c.args.observer.now p c.args.envs.now c.loop-k.k (step_at p c.loop-k.k) c.requires.program c.requires.shaped small (step_read p c.loop-k.k small) c.index-envs-step.result c.index-envs-step.is

pub returns-in-Some : goal.returns-in-Some
returns-in-Some c =
    let p = c.args.program.now in
    let small : c.loop-k.k < length p.steps.now = omega arith in
    let at = rw c.in-Some.is at c.in_ok-prim.ensures in
    first_failing c.args.observer.now p c.args.envs.now c.loop-k.k (step_at p c.loop-k.k) c.index-envs-step.result c.requires.program c.requires.shaped small (step_read p c.loop-k.k small) c.index-envs-step.is
    c.in-Some.prim c.in-Some.fault c.loop-k.invariant at.0 at.1 at.2

pub loop-k-preserved : goal.loop-k-preserved
loop-k-preserved c =
    let p = c.args.program.now in
    let small : c.loop-k.k < length p.steps.now = omega arith in
    let at = rw c.in-None.is at c.in_ok-prim.ensures in
    below_more (λ (k : ℕ). (i : ℕ) → i < length (passage_at (program_of p) k).prims → Holds (graph_of c.args.observer.now (program_of p)) c.args.envs.now k i) c.loop-k.k c.loop-k.invariant
    (holds_here c.args.observer.now p c.args.envs.now c.loop-k.k (step_at p c.loop-k.k) c.index-envs-step.result c.requires.program c.requires.shaped small (step_read p c.loop-k.k small) c.index-envs-step.is at)
