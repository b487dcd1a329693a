use Rattle.plc_cli.proofs.Answering.{if_loaded}
use Rattle.plc_cli.proofs.asking.answer_bytes.Goals as goal

pub returns-in-Ok : goal.returns-in-Ok
returns-in-Ok g c =
    if_loaded c.answer_loaded.result (g.Q.Question.due c.args.question.now) c.args.bytes.now c.in-Ok.judged c.in-Ok.ensures.loaded c.answer_loaded.ensures
