use Rattle.plc_moves.specs.declared.words.Move.TheVariants.{Free}
use Rattle.plc_explore.proofs.Missing.{passed_follows}
use Rattle.plc_explore.proofs.follow.Made.free.Goals as goal

pub returns-in-Ok-None-clause-follows : goal.returns-in-Ok-None-clause-follows
returns-in-Ok-None-clause-follows g c = λ goes.
    passed_follows c.args.program.now c.args.config.now c.make.new.config (Free c.args.a)
    (rw c.in-Ok-None.field-0-is at (c.in-Ok-None.ensures.follows goes))
