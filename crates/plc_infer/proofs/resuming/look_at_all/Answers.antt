use Rattle.std.proofs.Common.{◌<◌, ◌+◌, ◌∷◌, ℕ, drop, get_or, subst}
use Rattle.std.proofs.lemmas.List.{drop_more}
use Rattle.plc_infer.specs.Programs.{program_of}
use Rattle.plc_infer.specs.Graphs.{graph_of}
use Rattle.plc_infer.specs.Starts.{starts_of}
use Rattle.plc_infer.specs.WorkLists.{UnderWay}
use Rattle.plc_infer.specs.Trials.{MeetsAll, LooksAt}
use Rattle.plc_infer.proofs.Lists.{among_drop}
use Rattle.plc_infer.proofs.Leaving.{may_run}
use Rattle.plc_infer.proofs.Listed.{gains_more}
use Rattle.plc_infer.proofs.Noted.{noted_more}
use Rattle.plc_infer.proofs.Trying.{none_meets, tried}
use Rattle.plc_infer.proofs.Programs.{program_laws, program_starts}
use Rattle.plc_infer.proofs.resuming.look_at_all.Goals as goal

pub look_at-requires : goal.look_at-requires
look_at-requires c = record {
  run = may_run c.args.observer.now c.args.program.now (MeetsAll (graph_of c.args.observer.now (program_of c.args.program.now))) c.loop-k.envs.items c.loop-k.work.list.queue.items
      c.loop-k.work.list.marks.items c.args.steps.now c.loop-k.k-index c.requires.program c.loop-k-test.true c.loop-k.invariant.under_way;
  marks = c.loop-k.invariant.under_way.count;
  points = c.loop-k.invariant.noted.within;
}

pub returns-then-not-branch : goal.returns-then-not-branch
returns-then-not-branch c =
    let o = c.args.observer.now in
    let s = program_of c.args.program.now in
    let k = get_or c.args.steps.now c.loop-k.k-index 0 in
    let before = c.loop-k.work.list in
    let after = c.look_at.new.work.list in
    let fails = subst (LooksAt (graph_of o s) k c.loop-k.envs.items c.look_at.new.envs.items before.queue.items after.queue.items before.marks.items after.marks.items)
    c.if-not-branch.true c.in_ok-look_at.ensures.tried in
    record {
      tried = none_meets (graph_of o s) (program_laws o s c.requires.program) (starts_of o s) c.loop-k.envs.items k
          (c.loop-k.invariant.under_way.steps k (among_drop c.args.steps.now c.loop-k.k-index c.loop-k-test.true)) c.loop-k.invariant.under_way.rising fails;
      noted = noted_more c.args.envs.now.items c.loop-k.envs.items c.look_at.new.envs.items c.args.work.now.replaced.items c.loop-k.work.replaced.items c.look_at.new.work.replaced.items
          c.loop-k.invariant.noted c.in_ok-look_at.ensures.noted;
    }

pub loop-k-preserved : goal.loop-k-preserved
loop-k-preserved c =
    let o = c.args.observer.now in
    let s = program_of c.args.program.now in
    let graph = graph_of o s in
    let before = c.loop-k.work.list in
    let after = c.look_at.new.work.list in
    let old = c.loop-k.envs.items in
    let new = c.look_at.new.envs.items in
    let k = get_or c.args.steps.now c.loop-k.k-index 0 in
    let todo = drop (c.loop-k.k-index + 1) c.args.steps.now in
    let under_way : UnderWay graph (MeetsAll graph) (starts_of o s) old before.queue.items before.marks.items
    (k ∷ todo) =
    subst (UnderWay graph (MeetsAll graph) (starts_of o s) old before.queue.items before.marks.items)
    (drop_more c.args.steps.now c.loop-k.k-index 0 c.loop-k-test.true) c.loop-k.invariant.under_way in
    let held = subst (LooksAt graph k old new before.queue.items after.queue.items before.marks.items after.marks.items)
    c.if-not-branch.false c.in_ok-look_at.ensures.tried in
    let now = tried graph (program_laws o s c.requires.program) (starts_of o s) old new before.queue.items
    after.queue.items before.marks.items after.marks.items k todo (program_starts o s c.requires.program) under_way
    held in
    record {
      under_way = now.0;
      gains = gains_more graph c.args.envs.now.items old new c.args.work.now.list.queue.items before.queue.items
          after.queue.items c.loop-k.invariant.gains now.1;
      noted = noted_more c.args.envs.now.items old new c.args.work.now.replaced.items c.loop-k.work.replaced.items
          c.look_at.new.work.replaced.items c.loop-k.invariant.noted c.in_ok-look_at.ensures.noted;
    }
