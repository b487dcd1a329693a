use Rattle.std.proofs.Common.{sym, ap}
use Rattle.std.proofs.lemmas.Iterator.Adapters.{position_from-zero}
use Rattle.plc_vocabulary.specs.Parts.{has_point, locals_or_none}
use Rattle.plc_vocabulary.proofs.parts.point_locals.Goals as goal

pub loop-op-init : goal.loop-op-init
loop-op-init c =
    ap (locals_or_none c.args.flow.now) (sym (position_from-zero (has_point c.args.point.0) c.args.flow.now.gates))
