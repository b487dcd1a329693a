use Rattle.std.proofs.Common.{sym}
use Rattle.plc_oblig.proofs.Joined.{all_left}
use Rattle.plc_oblig.proofs.walk.Walk.new.Goals as goal

pub returns : goal.returns
returns c = rw c.at.ensures (sym (all_left c.args.flow.now c.args.outline.now))
