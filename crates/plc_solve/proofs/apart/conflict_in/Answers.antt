use Rattle.std.proofs.Common.{arith, ◌<◌, ◌∙◌, length}
use Rattle.std.specs.Prelude.{slice_index}
use Rattle.std.proofs.lemmas.List.{length-set}
use Rattle.plc_solve.proofs.Grouping.{term_at, class_at, passes_more, passes_all}
use Rattle.plc_solve.proofs.apart.conflict_in.Goals as goal

pub bounds-class-i : goal.bounds-class-i
bounds-class-i c =
    let within = term_at c.args.set.now c.args.group.now c.requires.group c.loop-k.k c.loop-k-test.true in omega (arith, within, c.requires.classed.one_each)

pub bounds-last-own : goal.bounds-last-own
bounds-last-own c =
    let own = class_at c.args.set.now c.args.group.now c.args.class.now c.requires.group c.requires.classed.one_each c.requires.classed.no_later c.loop-k.k c.loop-k-test.true in omega (arith, own, c.loop-k.invariant.last)

pub is_conflict-requires-clause-first : goal.is_conflict-requires-clause-first
is_conflict-requires-clause-first c = term_at c.args.set.now c.args.group.now c.requires.group c.loop-k.k c.loop-k-test.true

pub bounds-last-own-in-loop-k : goal.bounds-last-own-in-loop-k
bounds-last-own-in-loop-k c =
    let own = class_at c.args.set.now c.args.group.now c.args.class.now c.requires.group c.requires.classed.one_each c.requires.classed.no_later c.loop-k.k c.loop-k-test.true in omega (arith, own, c.loop-k.invariant.last)

pub loop-k-preserved : goal.loop-k-preserved
loop-k-preserved c =
    let i = slice_index c.args.group.now c.loop-k.k in
    let own : slice_index c.args.class.now i < length c.loop-k.last =
    let le = class_at c.args.set.now c.args.group.now c.args.class.now c.requires.group c.requires.classed.one_each c.requires.classed.no_later c.loop-k.k c.loop-k-test.true in omega (arith, le, c.loop-k.invariant.last) in
    record {
      passes = passes_more c.args.set.now c.requires.classed.well c.args.group.now c.args.class.now c.loop-k.last c.loop-k.k c.requires.group c.loop-k.invariant.passes c.loop-k-test.true own
          (λ h. let t = c.is_conflict.ensures.no h in let f = c.if-is_conflict.false in absurd (grind arith));
      last = length-set c.loop-k.last (slice_index c.args.class.now i) i ∙ c.loop-k.invariant.last;
    }

pub returns-then-is_conflict-clause-some : goal.returns-then-is_conflict-clause-some
returns-then-is_conflict-clause-some c = c.is_conflict.ensures.yes c.if-is_conflict.true

pub returns-clause-none : goal.returns-clause-none
returns-clause-none c = passes_all c.args.set.now c.args.group.now c.args.class.now c.loop-k.last c.loop-k.k c.loop-k.invariant.passes (omega arith)
