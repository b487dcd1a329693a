use Rattle.plc_page.proofs.Showing.{if_counted, if_refused}
use Rattle.plc_page.proofs.plain.plain_lines.Goals as goal

pub returns-in-Ok : goal.returns-in-Ok
returns-in-Ok c = if_counted c.loaded_lines.result c.args.bytes.now c.in-Ok.loaded.judged c.in-Ok.ensures.judged c.loaded_lines.ensures

pub returns-in-Err : goal.returns-in-Err
returns-in-Err c =
    if_refused c.refused_lines.result c.args.bytes.now c.in-Err.fault c.in-Err.ensures.refused c.refused_lines.ensures.status
    c.refused_lines.ensures.told
