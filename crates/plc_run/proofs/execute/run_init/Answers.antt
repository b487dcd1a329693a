use Rattle.plc_run.proofs.Executing.{init_ends}
use Rattle.plc_run.proofs.execute.run_init.Goals as goal

pub returns : goal.returns
returns c =
    init_ends c.args.memory.now c.execute.new.memory c.args.events.now.items c.execute.new.events.items c.args.flow.now.file.init c.as_slice-init.result.now c.in_ok-me.me c.execute.new.me c.execute.result c.in_ok-me.ensures c.as_slice-init.ensures c.execute.ensures.ends c.execute.ensures.kept
