-- A flow as the plain lists over which typings are defined.
use Rattle.std.specs.Prelude.{ℕ, ◌-◌, List, [], ◌∷◌, ◌++◌, length, map, replicate}
use Rattle.plc_lang.specs.declared.syntax.Op.{Op}
use Rattle.plc_lang.specs.Locals.{pointers_of}
use Rattle.plc_lang.specs.Skeleton.{Skeleton, Passage}
use Rattle.plc_flow.specs.declared.flow.Step.{Step}
use Rattle.plc_flow.specs.declared.flow.Gate.{Gate}
use Rattle.plc_flow.specs.declared.flow.Flow.{Flow}

-- the number of pointer locals of each point, operation by operation
abbrev pub pointers_by_point : List Op → List Gate → List ℕ
pointers_by_point (o ∷ os) (g ∷ gs) = replicate (g.after - g.first) (pointers_of o) ++ pointers_by_point os gs
pointers_by_point [] gs = []
pointers_by_point (o ∷ os) [] = []

-- a step as a passage
abbrev pub passage_of : Step → Passage
passage_of s = record { from = s.from.0; to = s.to.0; prims = s.prims }

-- a flow as plain lists
abbrev pub skeleton_of : Flow → Skeleton
skeleton_of flow = record {
  shared = length flow.file.shared;
  locals = pointers_by_point flow.file.ops flow.gates;
  entries = map (λ (g : Gate). g.entry.0) flow.gates;
  passages = map passage_of flow.steps;
}
