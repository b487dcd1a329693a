use Rattle.plc_infer.proofs.Failing.{found, passed, goes_on}
use Rattle.plc_infer.proofs.faults.fault_in_step.Goals as goal

pub returns-in-Err : goal.returns-in-Err
returns-in-Err c = (
  c.loop-i-test.true,
  found c.args.observer.now c.args.env.now c.loop-i.env c.args.prims.now c.loop-i.i _ c.loop-i-test.true c.loop-i.invariant.from_here c.in-Err.fault c.in-Err.ensures,
  c.loop-i.invariant.none_before,
)

pub loop-i-preserved : goal.loop-i-preserved
loop-i-preserved c = record {
  fits = c.apply.ensures.fits;
  none_before = passed c.args.observer.now c.args.env.now c.loop-i.env c.args.prims.now c.loop-i.i _ c.loop-i-test.true c.loop-i.invariant.from_here c.loop-i.invariant.none_before c.in_default.ensures;
  from_here = goes_on c.args.observer.now c.args.env.now c.loop-i.env c.args.prims.now c.loop-i.i _ c.loop-i-test.true c.loop-i.invariant.from_here c.apply.new.env c.apply.ensures.effect;
}
