use Rattle.std.proofs.Common.{ℕ, ◌<◌, subst, sym, true, false, arith}
use Rattle.plc_infer.specs.Trials.{RunsTo}
use Rattle.plc_infer.proofs.Programs.{step_at, step_read, run_from_inside, run_to_inside, run_fits, run_shape, run_look}
use Rattle.plc_infer.proofs.Failing.{holds_here}
use Rattle.plc_infer.proofs.resuming.look_at.Goals as goal

pub index-requires : goal.index-requires
index-requires c = omega (arith, run_from_inside c.requires.run)

pub run-requires : goal.run-requires
run-requires c = run_fits c.requires.run c.index.result.now c.index.ensures

pub raise-requires : goal.raise-requires
raise-requires c =
    let run = c.requires.run in
    let inside = run_to_inside run in
    let held = subst (RunsTo c.args.observer.now c.index.result.now (step_at c.args.program.now c.args.k).prims.now
    c.run.new.reached) c.if-not-branch.false c.in_ok-run.ensures in
    record {
      known = inside;
      marks = omega (arith, inside, run.shaped.count, c.requires.marks);
      shape = rw held.0 (run_shape run c.index.result.now c.index.ensures);
      points = c.requires.points;
    }

pub returns : goal.returns
returns c =
    let p = c.args.program.now in
    let x = step_at p c.args.k in
    let held = subst (RunsTo c.args.observer.now c.index.result.now x.prims.now c.run.new.reached)
    c.if-not-branch.false c.in_ok-run.ensures in
    let run = c.requires.run in
    let before = c.args.work.now.list in
    let after = c.raise.new.work.list in
    record {
      tried = (
        holds_here c.args.observer.now p c.args.envs.now.items c.args.k x c.index.result.now run.program run.shaped
            run.known (step_read p c.args.k run.known) c.index.ensures held.1,
        run_look run c.raise.new.envs.items c.index.result.now c.run.new.reached before.queue.items after.queue.items
            before.marks.items after.marks.items c.index.ensures held.0 c.in_ok-raise.ensures.raised,
      );
      noted = c.in_ok-raise.ensures.noted;
    }
