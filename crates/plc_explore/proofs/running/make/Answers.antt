use Rattle.plc_explore.proofs.Leading.{threads_stay}
use Rattle.plc_explore.proofs.running.make.Goals as goal

pub returns-in_err-hear-clause-many : goal.returns-in_err-hear-clause-many
returns-in_err-hear-clause-many g c =
    threads_stay c.args.program.now c.args.config.now c.step.new.self c.args.m.now c.in_ok-moved.moved
    c.requires c.in_ok-moved.ensures.answers

pub returns-clause-many : goal.returns-clause-many
returns-clause-many g c =
    threads_stay c.args.program.now c.args.config.now c.step.new.self c.args.m.now c.in_ok-moved.moved
    c.requires c.in_ok-moved.ensures.answers
