use Rattle.plc_page.proofs.Showing.{if_shown}
use Rattle.plc_page.proofs.page.file_page.Goals as goal

pub returns-in-Ok : goal.returns-in-Ok
returns-in-Ok c = if_shown c.loaded_page.result c.args.name.now c.args.bytes.now c.in-Ok.loaded.judged c.in-Ok.ensures.judged c.loaded_page.ensures
