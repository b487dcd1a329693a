use Rattle.std.proofs.Common.{None, sym}
use Rattle.plc_base.proofs.Tables.{put_is_set}
use Rattle.plc_moves.proofs.standing.set_point.Goals as goal

pub returns-clause-put : goal.returns-clause-put
returns-clause-put c = sym (put_is_set None c.args.points.now.items c.args.t c.args.p c.requires)
