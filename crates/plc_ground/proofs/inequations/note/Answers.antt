use Rattle.plc_ground.proofs.Noting.{notes_inequation}
use Rattle.plc_ground.proofs.inequations.note.Goals as goal

pub returns-in_ok-insert : goal.returns-in_ok-insert
returns-in_ok-insert c = notes_inequation c.args.unequal.now.keys c.insert.new.self.keys c.args.l c.in_ok-insert.ensures.keys
