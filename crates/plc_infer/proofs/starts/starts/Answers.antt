use Rattle.plc_infer.specs.Programs.{program_of}
use Rattle.plc_infer.specs.Starts.{start_at}
use Rattle.plc_infer.proofs.Lists.{table_push}
use Rattle.plc_infer.proofs.starts.starts.Goals as goal

pub loop-p-preserved : goal.loop-p-preserved
loop-p-preserved c =
    rw (c.in_ok-push.ensures.items, c.loop-p.invariant, c.in_ok-start.ensures) (table_push c.loop-p.p (start_at c.args.observer.now (program_of c.args.program.now)))
