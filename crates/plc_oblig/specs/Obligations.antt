-- The obligations of an outline, in order.
use Rattle.std.specs.Prelude.{ℕ, ◌+◌, if◌then◌else◌, List, [], ◌∷◌, ◌++◌, length, map}
use Rattle.plc_base.specs.declared.ids.OpId.{OpId}
use Rattle.plc_base.specs.declared.ids.PointId.{PointId}
use Rattle.plc_base.specs.declared.ids.StepId.{StepId}
use Rattle.plc_lang.specs.declared.syntax.Primitive.{Primitive}
use Rattle.plc_lang.specs.WellSorted.{is_claim}
use Rattle.plc_flow.specs.declared.flow.Gate.{Gate}
use Rattle.plc_flow.specs.declared.flow.Step.{Step}
use Rattle.plc_flow.specs.declared.flow.Flow.{Flow}
use Rattle.plc_logic.specs.declared.clause.Outline.{Outline}
use Rattle.plc_vocabulary.specs.declared.obligations.Obligation.{Obligation}
use Rattle.plc_vocabulary.specs.declared.obligations.Obligation.TheVariants.{Start, Enter, Own, Other, Claim}
use Rattle.plc_vocabulary.specs.Points.{count_at}
use Rattle.plc_vocabulary.specs.Setting.{below}

-- numbers as the program writes them: of an operation, of a step, of a point
abbrev pub op_id : ℕ → OpId
op_id o = record { 0 = o }

abbrev pub step_id : ℕ → StepId
step_id k = record { 0 = k }

abbrev pub point_id : ℕ → PointId
point_id p = record { 0 = p }

-- what each item gives with its number, where so many items stand before, one after the other
abbrev pub parts_from : {A X : Type 0} → (ℕ → A → List X) → ℕ → List A → List X
parts_from part k [] = []
parts_from part k (a ∷ more) = part k a ++ parts_from part (k + 1) more

-- one for each invariant
abbrev pub starts : Outline → List Obligation
starts outline = map Start (below (length outline.invariants))

-- of an operation: one for each clause of its entry
abbrev pub enters_of : Flow → Outline → ℕ → Gate → List Obligation
enters_of flow outline o g = map (Enter (op_id o)) (below (count_at flow outline g.entry.0))

-- how many clauses a step leads to: the invariants, then those of its last point
abbrev pub own_count : Flow → Outline → Step → ℕ
own_count flow outline s = length outline.invariants + count_at flow outline s.to.0

-- of a step: one for each clause that it leads to
abbrev pub owns_of : Flow → Outline → ℕ → Step → List Obligation
owns_of flow outline k s = map (Own (step_id k)) (below (own_count flow outline s))

-- of a step and a point: one for each clause of the point
abbrev pub others_at : Flow → Outline → ℕ → ℕ → ℕ → List Obligation
others_at flow outline k place p = map (Other (step_id k) (point_id p)) (below (count_at flow outline p))

-- of a step: those at each point
abbrev pub others_of : Flow → Outline → ℕ → Step → List Obligation
others_of flow outline k s = parts_from (others_at flow outline k) 0 (below flow.points)

-- of the primitives of a step, from number j on: one for each claim
abbrev pub claims_in : ℕ → ℕ → List Primitive → List Obligation
claims_in k j [] = []
claims_in k j (p ∷ ps) = if is_claim p then Claim (step_id k) j ∷ claims_in k (j + 1) ps else claims_in k (j + 1) ps

-- of a step: one for each claim
abbrev pub claims_of : ℕ → Step → List Obligation
claims_of k s = claims_in k 0 s.prims

-- those of each kind
abbrev pub enters : Flow → Outline → List Obligation
enters flow outline = parts_from (enters_of flow outline) 0 flow.gates

abbrev pub owns : Flow → Outline → List Obligation
owns flow outline = parts_from (owns_of flow outline) 0 flow.steps

abbrev pub others : Flow → Outline → List Obligation
others flow outline = parts_from (others_of flow outline) 0 flow.steps

abbrev pub claims : Flow → List Obligation
claims flow = parts_from claims_of 0 flow.steps

-- all of them, kind by kind
unfoldable pub obligations : Flow → Outline → List Obligation
obligations flow outline =
    starts outline ++ (enters flow outline ++ (owns flow outline ++ (others flow outline ++ claims flow)))
