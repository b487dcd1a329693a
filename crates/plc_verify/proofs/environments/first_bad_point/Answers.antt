use Rattle.std.proofs.Common.{subst, ◌≤◌, List, length, arith}
use Rattle.plc_lang.specs.declared.syntax.Op.{Op}
use Rattle.plc_verify.proofs.Fitting.{gate_ends, next_holds, first_bad, all_hold}
use Rattle.plc_verify.proofs.environments.first_bad_point.Goals as goal

pub first_unfit-requires : goal.first_unfit-requires
first_unfit-requires c =
    gate_ends c.args.flow.now c.requires.flow c.args.observer.now c.args.envs.now c.requires.one_each c.loop-k.k
    c.as_slice-gates.result.now c.as_slice-ops.result.now c.index-ops-k.result c.count_pointers.result
    c.as_slice-gates.ensures c.as_slice-ops.ensures c.loop-k-test.true c.index-ops-k.is c.count_pointers.ensures

pub returns-in-Some : goal.returns-in-Some
returns-in-Some c =
    first_bad c.args.flow.now c.requires.flow c.args.observer.now c.args.envs.now c.requires.one_each c.loop-k.k
    c.as_slice-gates.result.now c.as_slice-ops.result.now c.index-ops-k.result c.count_pointers.result
    c.as_slice-gates.ensures c.as_slice-ops.ensures c.loop-k-test.true c.index-ops-k.is c.count_pointers.ensures
    c.loop-k.invariant c.in-Some.p c.in-Some.ensures

pub loop-k-preserved : goal.loop-k-preserved
loop-k-preserved c =
    next_holds c.args.flow.now c.requires.flow c.args.observer.now c.args.envs.now c.requires.one_each c.loop-k.k
    c.as_slice-gates.result.now c.as_slice-ops.result.now c.index-ops-k.result c.count_pointers.result
    c.as_slice-gates.ensures c.as_slice-ops.ensures c.loop-k-test.true c.index-ops-k.is c.count_pointers.ensures
    c.loop-k.invariant c.in-None.ensures

pub returns : goal.returns
returns c =
    let f = c.args.flow.now in
    let past : length f.file.ops ≤ c.loop-k.k = subst (λ (os : List Op). length os ≤ c.loop-k.k) c.as_slice-ops.ensures c.loop-k-test.false in
    all_hold f c.requires.flow c.args.observer.now c.args.envs.now c.requires.one_each c.loop-k.k (let n = c.requires.flow.gates in omega arith) c.loop-k.invariant
