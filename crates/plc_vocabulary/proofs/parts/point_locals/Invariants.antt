use Rattle.std.proofs.Common.{◌≡◌, drop}
use Rattle.std.specs.List.{position_from}
use Rattle.plc_vocabulary.specs.Parts.{has_point, locals_or_none, point_locals}
use Rattle.plc_vocabulary.proofs.parts.point_locals.Given as goal

abbrev pub invariant-loop-op : goal.invariant-loop-op
invariant-loop-op l = locals_or_none l.flow (position_from (has_point l.point.0) l.op (drop l.op l.flow.gates)) ≡ point_locals l.flow l.point.0
