use Rattle.std.proofs.Common.{◌≡◌, suc, ◌+◌, ◌≤◌, length, ap, ◌∙◌, arith}
use Rattle.plc_infer.specs.Programs.{program_of}
use Rattle.plc_infer.specs.Graphs.{graph_of}
use Rattle.plc_infer.specs.Iteration.{total}
use Rattle.plc_infer.specs.Starts.{starts_of}
use Rattle.plc_infer.specs.WorkLists.{Unasked}
use Rattle.plc_infer.proofs.Climb.{total_most}
use Rattle.plc_infer.proofs.Leaving.{leaving_taken}
use Rattle.plc_infer.proofs.Listed.{begun}
use Rattle.plc_infer.proofs.Programs.{program_laws, program_starts}
use Rattle.plc_infer.proofs.fixpoint.strongest.Goals as goal

pub loop-point-init : goal.loop-point-init
loop-point-init c =
    let o = c.args.observer.now in
    let s = program_of c.args.program.now in
    rw c.in_ok-envs.ensures
    (begun (graph_of o s) (program_laws o s c.requires) (starts_of o s) c.in_ok-list.list.queue.items c.in_ok-list.list.marks.items (program_starts o s c.requires) c.in_ok-list.ensures.0 c.in_ok-list.ensures.1)

pub relax_all-requires : goal.relax_all-requires
relax_all-requires c = record {
  program = c.requires;
  under_way = leaving_taken c.args.observer.now c.args.program.now c.requires Unasked c.loop-point.envs.items c.in-Some.point
      c.loop-point.list.queue.items c.take.new.self.queue.items c.leaving-steps.result.now
      c.loop-point.list.marks.items c.take.new.self.marks.items c.loop-point.invariant c.in-Some.ensures.0
      c.in-Some.ensures.1 (c.leaving-steps.ensures ∙ c.in_ok-index.ensures c.in-Some.point);
}

pub loop-point-smaller : goal.loop-point-smaller
loop-point-smaller c =
    let o = c.args.observer.now in
    let s = program_of c.args.program.now in
    let graph = graph_of o s in
    let most = total_most graph (program_laws o s c.requires) c.relax_all.new.envs.items c.in_ok-relax_all.ensures.under_way.rising.shaped in
    let gained : length c.relax_all.new.list.queue.items + total graph c.loop-point.envs.items ≤ length c.take.new.self.queue.items + total graph c.relax_all.new.envs.items = c.in_ok-relax_all.ensures.gains in
    let one_less : length c.loop-point.list.queue.items ≡ suc (length c.take.new.self.queue.items) = ap length c.in-Some.ensures.0 in
    omega (arith, most, gained, one_less)
