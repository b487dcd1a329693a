use Rattle.std.proofs.Common.{rules}
use Rattle.plc_solve.proofs.place.go_up.Goals as goal

pub returns : goal.returns
returns c = record { branch = search rules; class = c.take_back.ensures.class; trail = c.take_back.ensures.trail }
