-- The steps that leave each point, by their numbers.
use Rattle.std.specs.Prelude.{◌≡◌, ◌==◌, ◌+◌, ℕ, if◌then◌else◌, List, [], ◌∷◌, get_or, map}
use Rattle.plc_base.specs.declared.ids.PointId.{PointId}
use Rattle.plc_flow.specs.declared.flow.Step.{Step}
use Rattle.plc_flow.specs.declared.flow.Flow.{Flow}
use Rattle.plc_flow.specs.declared.steps_by_point.StepsByPoint.{StepsByPoint}

-- the places of a point in a list whose first place is k, in order
abbrev pub places_from : ℕ → ℕ → List PointId → List ℕ
places_from k p [] = []
places_from k p (q ∷ qs) = if q.0 == p then k ∷ places_from (k + 1) p qs else places_from (k + 1) p qs

-- the index of steps with these first points: for each point the places where it is the first point
abbrev pub IsIndexOf : List PointId → StepsByPoint → Type 0
IsIndexOf firsts index = (p : ℕ) → get_or index.rows p [] ≡ places_from 0 p firsts

-- the first points of a flow's steps
abbrev pub first_points : Flow → List PointId
first_points flow = map (λ (s : Step). s.from) flow.steps
