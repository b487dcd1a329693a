use Rattle.plc_infer.proofs.Flows.{lists_are}
use Rattle.plc_infer.proofs.flow_lists.FlowLists.of.Goals as goal

pub returns : goal.returns
returns c =
    lists_are c.args.flow.now (record { shared = c.len.result; locals = c.in_ok-locals.locals; entries = c.in_ok-entries.entries; steps = c.in_ok-steps.steps })
    c.len.ensures c.in_ok-locals.ensures c.in_ok-entries.ensures c.in_ok-steps.ensures
