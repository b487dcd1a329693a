use Rattle.plc_trace.proofs.Showing.{if_shown}
use Rattle.plc_trace.proofs.page.replay_page.Goals as goal

pub returns-in-Ok : goal.returns-in-Ok
returns-in-Ok g c =
    if_shown c.scheduled_page.result c.args.name.now _ c.args.bytes.now c.args.second.now c.in-Ok.judged c.in-Ok.ensures.loaded c.scheduled_page.ensures
