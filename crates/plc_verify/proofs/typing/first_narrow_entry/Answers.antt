use Rattle.std.proofs.Common.{inl, inr, ◌≤◌, List, length, subst, arith, below_more}
use Rattle.std.proofs.lemmas.Bool.{cases_lt}
use Rattle.plc_flow.specs.declared.flow.Gate.{Gate}
use Rattle.plc_flow.specs.Skeleton.{skeleton_of}
use Rattle.plc_verify.specs.Environments.{EntryHolds}
use Rattle.plc_verify.proofs.Passages.{entry_in, entry_holds, entry_fails, no_entry}
use Rattle.plc_verify.proofs.typing.first_narrow_entry.Goals as goal

pub bounds-envs-gate : goal.bounds-envs-gate
bounds-envs-gate c =
    entry_in c.args.observer.now c.args.flow.now c.args.envs.now c.requires.flow c.requires.one_each c.loop-o.o c.as_slice-gate-items.result.now
    c.as_slice-gate-items.ensures c.loop-o-test.true

pub returns-then-not-within : goal.returns-then-not-within
returns-then-not-within c = record {
  before = c.loop-o.invariant;
  fails = entry_fails c.args.observer.now c.args.flow.now c.args.envs.now c.requires.flow c.requires.one_each c.loop-o.o c.as_slice-gate-items.result.now
      c.as_slice-gate-items.ensures c.loop-o-test.true c.index-envs-gate.result c.index-envs-gate.is c.all-all.result c.all-all.ensures
      c.within.result c.within.ensures c.if-not-within.true;
}

pub loop-o-preserved : goal.loop-o-preserved
loop-o-preserved c =
    below_more (EntryHolds c.args.observer.now (skeleton_of c.args.flow.now) c.args.envs.now) c.loop-o.o c.loop-o.invariant
    (entry_holds c.args.observer.now c.args.flow.now c.args.envs.now c.requires.flow c.requires.one_each c.loop-o.o c.as_slice-gate-items.result.now
    c.as_slice-gate-items.ensures c.loop-o-test.true c.index-envs-gate.result c.index-envs-gate.is c.all-all.result c.all-all.ensures
    c.within.result c.within.ensures c.if-not-within.false)

pub returns : goal.returns
returns c = λ i.
    let past : length c.args.flow.now.gates ≤ c.loop-o.o = subst (λ (gs : List Gate). length gs ≤ c.loop-o.o) c.as_slice-gate-items.ensures c.loop-o-test.false in
    elim (cases_lt i c.loop-o.o) [
      | inl low ↦ c.loop-o.invariant i low
      | inr high ↦ no_entry c.args.observer.now c.args.flow.now c.args.envs.now i (omega arith)
    ]
