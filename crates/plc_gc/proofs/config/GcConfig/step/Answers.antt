use Rattle.plc_gc.proofs.Stepping.{step_answers, step_run}
use Rattle.plc_gc.proofs.config.GcConfig.step.Goals as goal

pub returns-clause-answers : goal.returns-clause-answers
returns-clause-answers c = step_answers c.args.flow.now c.args.self.now c.advance.new.self c.args.m.now c.advance.result c.advance.ensures.answer c.advance.ensures.after

pub returns-clause-of_run : goal.returns-clause-of_run
returns-clause-of_run c = step_run c.args.flow.now c.args.self.now c.advance.new.self c.args.m.now c.advance.result c.requires.of_run c.advance.ensures.after c.advance.ensures.err
