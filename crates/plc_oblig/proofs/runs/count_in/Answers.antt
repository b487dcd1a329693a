use Rattle.std.proofs.Common.{length, ap, ◌∙◌, arith}
use Rattle.plc_oblig.specs.Runs.{one_if}
use Rattle.plc_oblig.proofs.Joined.{at_index, entry_count, own_counted, claim_count}
use Rattle.plc_oblig.proofs.PointCounts.{no_gate, entry_within, last_within}
use Rattle.plc_oblig.proofs.runs.count_in.Goals as goal

pub count_of-requires-clause-point : goal.count_of-requires-clause-point
count_of-requires-clause-point c =
    let part = rw c.in-Entries.is at c.requires.part in
    entry_within c.args.o.flow.now c.args.o.outline.now c.args.k _ c.requires.fits
    (at_index c.args.o.flow.now.gates c.as_slice.result.now c.args.k no_gate c.as_slice.ensures (omega (arith, ap length c.as_slice.ensures, part)))

pub count_of-requires-in-OwnSteps-clause-point : goal.count_of-requires-in-OwnSteps-clause-point
count_of-requires-in-OwnSteps-clause-point c =
    let part = rw c.in-OwnSteps.is at c.requires.part in
    last_within c.args.o.flow.now c.args.o.outline.now c.args.k _ c.requires.fits
    (at_index c.args.o.flow.now.steps c.as_slice-in-OwnSteps.result.now c.args.k c.index-as_slice-k.result c.as_slice-in-OwnSteps.ensures
    (omega (arith, ap length c.as_slice-in-OwnSteps.ensures, part)))

pub returns-in-Entries : goal.returns-in-Entries
returns-in-Entries c =
    let part = rw c.in-Entries.is at c.requires.part in
    entry_count c.args.o.flow.now c.args.o.outline.now c.args.group c.args.k c.count_of.result _ c.in-Entries.is
    (at_index c.args.o.flow.now.gates c.as_slice.result.now c.args.k no_gate c.as_slice.ensures (omega (arith, ap length c.as_slice.ensures, part)))
    c.count_of.ensures.count

pub returns-in-OwnSteps : goal.returns-in-OwnSteps
returns-in-OwnSteps c =
    let part = rw c.in-OwnSteps.is at c.requires.part in
    own_counted c.args.o.flow.now c.args.o.outline.now c.args.group c.args.k _ _ c.in-OwnSteps.is
    (at_index c.args.o.flow.now.steps c.as_slice-in-OwnSteps.result.now c.args.k c.index-as_slice-k.result c.as_slice-in-OwnSteps.ensures
    (omega (arith, ap length c.as_slice-in-OwnSteps.ensures, part)))
    (omega (arith, c.len-in-OwnSteps.ensures, c.count_of-in-OwnSteps.ensures.count))

pub returns-in-Claims : goal.returns-in-Claims
returns-in-Claims c =
    let part = rw c.in-Claims.is at c.requires.part in
    claim_count c.args.o.flow.now c.args.o.outline.now c.args.group c.args.k c.one_if.result c.in-Claims.step _ c.in-Claims.is
    (at_index _ c.prims_of.result.now c.args.k _ c.prims_of.ensures (omega (arith, ap length c.prims_of.ensures, part)))
    (c.one_if.ensures ∙ ap one_if c.is_claim.ensures)
