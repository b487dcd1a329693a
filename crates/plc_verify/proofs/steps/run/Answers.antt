use Rattle.std.proofs.Common.{ap, ◌∙◌}
use Rattle.plc_xfer.specs.Rules.{interfered}
use Rattle.plc_verify.specs.Environments.{with_shared}
use Rattle.plc_verify.proofs.Runs.{sets_out, stops, goes_on, arrives}
use Rattle.plc_verify.proofs.steps.run.Goals as goal

pub loop-i-init : goal.loop-i-init
loop-i-init c = record {
  fits = rw c.in_ok-reached.ensures c.requires.fits;
  way = sets_out c.args.observer.now (with_shared c.args.shared c.args.env.now) c.in_ok-reached.reached c.args.prims.now c.in_ok-reached.ensures;
}

pub returns-in-Err : goal.returns-in-Err
returns-in-Err c = (
  c.loop-i.invariant.way.held,
  stops c.args.observer.now (with_shared c.args.shared c.args.env.now) c.loop-i.reached c.args.prims.now c.loop-i.i _ c.loop-i-test.true c.loop-i.invariant.way c.in-Err.field-0 c.in-Err.ensures,
)

pub loop-i-preserved : goal.loop-i-preserved
loop-i-preserved c = record {
  fits = c.apply.ensures.fits;
  way = goes_on c.args.observer.now (with_shared c.args.shared c.args.env.now) c.loop-i.reached c.args.prims.now c.loop-i.i _ c.loop-i-test.true c.loop-i.invariant.way c.apply.new.env c.in_default.ensures c.apply.ensures.effect;
}

pub returns : goal.returns
returns c =
    let there = arrives c.args.observer.now (with_shared c.args.shared c.args.env.now) c.loop-i.reached c.args.prims.now c.loop-i.i c.loop-i-test.false c.loop-i.invariant.way in
    (c.interfere.ensures.interfered ∙ ap (interfered c.args.observer.now) there.0, there.1)
