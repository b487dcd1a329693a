use Rattle.plc_verify.proofs.OneStep as one_step
use Rattle.plc_verify.proofs.steps.verify_step.Goals as goal

pub bounds-envs-step : goal.bounds-envs-step
bounds-envs-step c =
    one_step.from_in c.args.candidate.now.observer.now c.args.candidate.now.flow.now c.args.candidate.now.envs.now c.args.k c.index-as_slice-k.result c.as_slice.result.now
    c.requires.ready.flow c.requires.ready.file c.requires.ready.entries c.as_slice.ensures c.requires.known c.index-as_slice-k.is

pub bounds-envs-step-2 : goal.bounds-envs-step-2
bounds-envs-step-2 c =
    one_step.to_in c.args.candidate.now.observer.now c.args.candidate.now.flow.now c.args.candidate.now.envs.now c.args.k c.index-as_slice-k.result c.as_slice.result.now
    c.requires.ready.flow c.requires.ready.file c.requires.ready.entries c.as_slice.ensures c.requires.known c.index-as_slice-k.is

pub run-requires-clause-short : goal.run-requires-clause-short
run-requires-clause-short c =
    one_step.few_primitives c.args.candidate.now.observer.now c.args.candidate.now.flow.now c.args.candidate.now.envs.now c.args.k c.index-as_slice-k.result c.as_slice.result.now
    c.requires.ready.flow c.requires.ready.file c.requires.ready.entries c.as_slice.ensures c.requires.known c.index-as_slice-k.is c.as_slice-prims.result.now c.as_slice-prims.ensures

pub run-requires-clause-fits : goal.run-requires-clause-fits
run-requires-clause-fits c =
    one_step.from_fits c.args.candidate.now.observer.now c.args.candidate.now.flow.now c.args.candidate.now.envs.now c.args.k c.index-as_slice-k.result c.as_slice.result.now
    c.requires.ready.flow c.requires.ready.file c.requires.ready.entries c.as_slice.ensures c.requires.known c.index-as_slice-k.is
    c.len-shared.result c.len-shared.ensures c.index-envs-step.result c.index-envs-step.is

pub returns-in-FailsAt : goal.returns-in-FailsAt
returns-in-FailsAt c =
    one_step.fails_there c.args.candidate.now.observer.now c.args.candidate.now.flow.now c.args.candidate.now.envs.now c.args.k c.index-as_slice-k.result c.as_slice.result.now
    c.requires.ready.flow c.requires.ready.file c.requires.ready.entries c.as_slice.ensures c.requires.known c.index-as_slice-k.is
    c.len-shared.result c.len-shared.ensures c.index-envs-step.result c.index-envs-step.is c.as_slice-prims.result.now c.as_slice-prims.ensures c.requires.before c.in-FailsAt.prim
    (rw c.in-FailsAt.is at c.in_ok-prim.ensures)

pub first_above-requires-clause-same : goal.first_above-requires-clause-same
first_above-requires-clause-same c =
    one_step.as_many c.args.candidate.now.observer.now c.args.candidate.now.flow.now c.args.candidate.now.envs.now c.args.k c.index-as_slice-k.result c.as_slice.result.now
    c.requires.ready.flow c.requires.ready.file c.requires.ready.entries c.as_slice.ensures c.requires.known c.index-as_slice-k.is
    c.len-shared.result c.len-shared.ensures c.index-envs-step.result c.index-envs-step.is c.as_slice-prims.result.now c.as_slice-prims.ensures c.in-LeadsTo.reached
    (rw c.in-LeadsTo.is at c.in_ok-prim.ensures) c.index-envs-step-2.result c.index-envs-step-2.is

pub first_above-requires-clause-few : goal.first_above-requires-clause-few
first_above-requires-clause-few c =
    one_step.few_reached c.args.candidate.now.observer.now c.args.candidate.now.flow.now c.args.candidate.now.envs.now c.args.k c.index-as_slice-k.result c.as_slice.result.now
    c.requires.ready.flow c.requires.ready.file c.requires.ready.entries c.as_slice.ensures c.requires.known c.index-as_slice-k.is
    c.len-shared.result c.len-shared.ensures c.index-envs-step.result c.index-envs-step.is c.as_slice-prims.result.now c.as_slice-prims.ensures c.in-LeadsTo.reached
    (rw c.in-LeadsTo.is at c.in_ok-prim.ensures)

pub returns-in-Some : goal.returns-in-Some
returns-in-Some c =
    one_step.fails_after c.args.candidate.now.observer.now c.args.candidate.now.flow.now c.args.candidate.now.envs.now c.args.k c.index-as_slice-k.result c.as_slice.result.now
    c.requires.ready.flow c.requires.ready.file c.requires.ready.entries c.as_slice.ensures c.requires.known c.index-as_slice-k.is
    c.len-shared.result c.len-shared.ensures c.index-envs-step.result c.index-envs-step.is c.as_slice-prims.result.now c.as_slice-prims.ensures c.in-LeadsTo.reached
    (rw c.in-LeadsTo.is at c.in_ok-prim.ensures) c.index-envs-step-2.result c.index-envs-step-2.is c.requires.before c.in-Some.var c.in-Some.ensures

pub returns : goal.returns
returns c =
    one_step.holds c.args.candidate.now.observer.now c.args.candidate.now.flow.now c.args.candidate.now.envs.now c.args.k c.index-as_slice-k.result c.as_slice.result.now
    c.requires.ready.flow c.requires.ready.file c.requires.ready.entries c.as_slice.ensures c.requires.known c.index-as_slice-k.is
    c.len-shared.result c.len-shared.ensures c.index-envs-step.result c.index-envs-step.is c.as_slice-prims.result.now c.as_slice-prims.ensures c.in-LeadsTo.reached
    (rw c.in-LeadsTo.is at c.in_ok-prim.ensures) c.index-envs-step-2.result c.index-envs-step-2.is c.in-None.ensures
