use Rattle.std.proofs.Common.{◌≡◌, length, map, take}
use Rattle.plc_vocabulary.specs.Points.{count_at}
use Rattle.plc_vocabulary.specs.Setting.{below}
use Rattle.plc_oblig.proofs.runs.count_points.Given as goal

abbrev pub invariant-loop-p : goal.invariant-loop-p
invariant-loop-p l = (length l.counts ≡ 4096) × (take l.p l.counts ≡ map (count_at l.flow l.outline) (below l.p))
