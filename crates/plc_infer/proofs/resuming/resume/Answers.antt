use Rattle.std.proofs.Common.{◌≡◌, ℕ, suc, ◌+◌, ◌<◌, ◌≤◌, List, [], length, get_or, refl, sym, ap, subst, ◌∙◌, arith}
use Rattle.std.proofs.lemmas.List.Elements.{All-nil, All-same}
use Rattle.plc_infer.specs.declared.resuming.Replaced.{Replaced}
use Rattle.plc_type.specs.declared.env.Env.{Env}
use Rattle.plc_infer.specs.Programs.{program_of}
use Rattle.plc_infer.specs.Graphs.{graph_of}
use Rattle.plc_infer.specs.Iteration.{total}
use Rattle.plc_infer.specs.Starts.{starts_of}
use Rattle.plc_infer.specs.Trials.{MeetsAll, LooksAtAll, IsNoted}
use Rattle.plc_infer.proofs.Climb.{total_most}
use Rattle.plc_infer.proofs.Leaving.{leaving_taken}
use Rattle.plc_infer.proofs.Programs.{program_laws, steps_length}
use Rattle.plc_infer.proofs.Noted.{noted_more}
use Rattle.plc_infer.proofs.Trying.{begun_under_way, given_up, reached}
use Rattle.plc_infer.proofs.resuming.resume.Goals as goal

pub look_at_all-requires : goal.look_at_all-requires
look_at_all-requires c =
    let p = c.args.program.now in
    let changed = c.args.changed.now in
    record {
      program = c.requires.program;
      under_way = begun_under_way c.args.observer.now (program_of p) c.requires.program c.args.envs.now.items changed c.requires.begun
          (λ k d small. subst (λ (n : ℕ). get_or changed k d < n) (sym (steps_length p)) (c.requires.known k d small))
          c.in_ok-list.list.queue.items c.in_ok-list.list.marks.items c.in_ok-list.ensures.0 c.in_ok-list.ensures.1;
      points = All-same (λ (r : Replaced). r.point.0 < length c.args.envs.now.items) _ [] c.new-replaced.ensures.items
          (All-nil (λ (r : Replaced). r.point.0 < length c.args.envs.now.items));
    }

pub put_back-requires : goal.put_back-requires
put_back-requires c = c.in_ok-look_at_all.ensures.noted.within

pub put_back-requires-then-not-branch-2 : goal.put_back-requires-then-not-branch-2
put_back-requires-then-not-branch-2 c = c.in_ok-look_at_all-2.ensures.noted.within

pub returns-then-not-branch : goal.returns-then-not-branch
returns-then-not-branch c =
    let o = c.args.observer.now in
    let s = program_of c.args.program.now in
    let came = c.look_at_all.new in
    given_up o s c.requires.program c.args.envs.now.items came.envs.items _ _ came.work.replaced.items
    (subst (LooksAtAll (graph_of o s) (starts_of o s) c.args.envs.now.items came.envs.items c.in_ok-list.list.queue.items
    came.work.list.queue.items came.work.list.marks.items) c.if-not-branch.true c.in_ok-look_at_all.ensures.tried)
    c.in_ok-look_at_all.ensures.noted c.new-replaced.ensures.items c.put_back.ensures

pub look_at_all-requires-in-Some : goal.look_at_all-requires-in-Some
look_at_all-requires-in-Some c =
    let p = c.args.program.now in
    let list = c.loop-point.work.list in
    record {
      program = c.requires.program;
      under_way = leaving_taken c.args.observer.now p c.requires.program (MeetsAll (graph_of c.args.observer.now (program_of p)))
          c.loop-point.envs.items c.in-Some.point list.queue.items c.take.new.self.queue.items c.leaving-steps.result.now
          list.marks.items c.take.new.self.marks.items
          c.loop-point.invariant.under_way c.in-Some.ensures.0 c.in-Some.ensures.1
          (c.leaving-steps.ensures ∙ c.requires.index c.in-Some.point);
      points = c.loop-point.invariant.noted.within;
    }

pub returns-then-not-branch-2 : goal.returns-then-not-branch-2
returns-then-not-branch-2 c =
    let o = c.args.observer.now in
    let s = program_of c.args.program.now in
    let came = c.look_at_all-in-Some.new in
    given_up o s c.requires.program c.args.envs.now.items came.envs.items _ [] came.work.replaced.items
    (subst (LooksAtAll (graph_of o s) (starts_of o s) c.loop-point.envs.items came.envs.items c.take.new.self.queue.items
    came.work.list.queue.items came.work.list.marks.items) c.if-not-branch-2.true c.in_ok-look_at_all-2.ensures.tried)
    (noted_more c.args.envs.now.items c.loop-point.envs.items came.envs.items [] c.loop-point.work.replaced.items came.work.replaced.items
    c.loop-point.invariant.noted c.in_ok-look_at_all-2.ensures.noted) refl c.put_back-then-not-branch-2.ensures

pub loop-point-smaller : goal.loop-point-smaller
loop-point-smaller c =
    let o = c.args.observer.now in
    let s = program_of c.args.program.now in
    let graph = graph_of o s in
    let left = c.take.new.self.queue.items in
    let came = c.look_at_all-in-Some.new in
    let queue = came.work.list.queue.items in
    let held = subst (LooksAtAll graph (starts_of o s) c.loop-point.envs.items came.envs.items left queue came.work.list.marks.items)
    c.if-not-branch-2.false c.in_ok-look_at_all-2.ensures.tried in
    let most = total_most graph (program_laws o s c.requires.program) came.envs.items held.0.rising.shaped in
    let gained : length queue + total graph c.loop-point.envs.items ≤ length left + total graph came.envs.items = held.1 in
    let one_less : length c.loop-point.work.list.queue.items ≡ suc (length left) = ap length c.in-Some.ensures.0 in
    omega (arith, most, gained, one_less)

pub returns : goal.returns
returns c =
    reached c.args.observer.now (program_of c.args.program.now) c.requires.program c.loop-point.envs.items
    c.loop-point.work.list.queue.items c.loop-point.work.list.marks.items c.loop-point.invariant.under_way
    c.in_default.ensures.0
