use Rattle.std.proofs.Common.{◌<◌, ◌+◌, ◌∷◌, ℕ, List, length, drop, get_or, subst, arith}
use Rattle.std.proofs.lemmas.List.{drop_more}
use Rattle.plc_infer.specs.Programs.{program_of}
use Rattle.plc_infer.specs.Graphs.{graph_of}
use Rattle.plc_infer.specs.Starts.{starts_of}
use Rattle.plc_infer.specs.WorkLists.{UnderWay, Unasked}
use Rattle.plc_infer.proofs.Lists.{among_drop}
use Rattle.plc_infer.proofs.Listed.{looked, gains, gains_more}
use Rattle.plc_infer.proofs.Leaving.{may_run}
use Rattle.plc_infer.proofs.Programs.{program_laws, program_starts}
use Rattle.plc_infer.proofs.fixpoint.relax_all.Goals as goal

pub relax_listed-requires-clause-run : goal.relax_listed-requires-clause-run
relax_listed-requires-clause-run c =
    may_run c.args.observer.now c.args.program.now Unasked c.loop-k.envs.items c.loop-k.list.queue.items
    c.loop-k.list.marks.items c.args.steps.now c.loop-k.k-index c.requires.program (omega arith)
    c.loop-k.invariant.under_way

pub loop-k-preserved : goal.loop-k-preserved
loop-k-preserved c =
    let s = program_of c.args.program.now in
    let graph = graph_of c.args.observer.now s in
    let starts = starts_of c.args.observer.now s in
    let laws = program_laws c.args.observer.now s c.requires.program in
    let inside : c.loop-k.k-index < length c.args.steps.now = omega arith in
    let k = get_or c.args.steps.now c.loop-k.k-index 0 in
    let todo = drop (c.loop-k.k-index + 1) c.args.steps.now in
    let small = c.loop-k.invariant.under_way.steps k (among_drop c.args.steps.now c.loop-k.k-index inside) in
    let before : UnderWay graph Unasked starts c.loop-k.envs.items c.loop-k.list.queue.items c.loop-k.list.marks.items (k ∷ todo) =
    subst (λ (ks : List ℕ). UnderWay graph Unasked starts c.loop-k.envs.items c.loop-k.list.queue.items c.loop-k.list.marks.items ks) (drop_more c.args.steps.now c.loop-k.k-index 0 inside) c.loop-k.invariant.under_way in
    record {
      under_way = looked graph laws Unasked starts c.loop-k.envs.items c.relax_listed.new.envs.items c.loop-k.list.queue.items c.relax_listed.new.list.queue.items c.loop-k.list.marks.items c.relax_listed.new.list.marks.items k todo
          (program_starts c.args.observer.now s c.requires.program) before c.in_ok-relax_listed.ensures tt;
      gains = gains_more graph c.args.envs.now.items c.loop-k.envs.items c.relax_listed.new.envs.items c.args.list.now.queue.items c.loop-k.list.queue.items c.relax_listed.new.list.queue.items c.loop-k.invariant.gains
          (gains graph laws c.loop-k.envs.items c.relax_listed.new.envs.items c.loop-k.list.queue.items c.relax_listed.new.list.queue.items c.loop-k.list.marks.items c.relax_listed.new.list.marks.items k small before.rising.shaped c.in_ok-relax_listed.ensures);
    }
