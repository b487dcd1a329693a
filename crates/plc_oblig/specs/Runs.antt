-- The list of obligations as runs that stand one after another: which there are, and what is left from a place on.
use Rattle.std.specs.Prelude.{◌≡◌, ℕ, ◌+◌, Bool, true, false, Option, Some, None, Result, Ok, Err}
use Rattle.std.specs.Prelude.{List, [], ◌∷◌, ◌++◌, length, map, drop, flat_map, slice_get}
use Rattle.plc_base.specs.declared.ids.StepId.{StepId}
use Rattle.plc_lang.specs.declared.syntax.Primitive.{Primitive}
use Rattle.plc_lang.specs.WellSorted.{is_claim}
use Rattle.plc_flow.specs.declared.flow.Gate.{Gate}
use Rattle.plc_flow.specs.declared.flow.Flow.{Flow}
use Rattle.plc_logic.specs.declared.clause.Outline.{Outline}
use Rattle.plc_vocabulary.specs.declared.obligations.Obligation.{Obligation}
use Rattle.plc_vocabulary.specs.declared.obligations.Obligation.TheVariants.{Start, Enter, Own, Other, Claim}
use Rattle.plc_vocabulary.specs.Parts.{step_prims}
use Rattle.plc_vocabulary.specs.Points.{count_at}
use Rattle.plc_vocabulary.specs.Setting.{below}
use Rattle.plc_oblig.specs.declared.runs.Group.{Group}
use Rattle.plc_oblig.specs.declared.runs.Group.TheVariants.{Starts, Entries, OwnSteps, AtPoints, Claims}
use Rattle.plc_oblig.specs.declared.runs.Place.{Place}
use Rattle.plc_oblig.specs.Obligations.{op_id, step_id, point_id, own_count}

-- ---- groups, parts and runs

-- the groups in order: the last ones are those of each step
abbrev pub step_groups : (StepId → Group) → Flow → List Group
step_groups group flow = map (λ k. group (step_id k)) (below (length flow.steps))

unfoldable pub groups : Flow → List Group
groups flow = Starts ∷ Entries ∷ OwnSteps ∷ (step_groups AtPoints flow ++ step_groups Claims flow)

-- how many parts a group has: operations, steps, points, primitives
abbrev pub parts_of : Flow → Group → ℕ
parts_of flow Starts = 1
parts_of flow Entries = length flow.gates
parts_of flow OwnSteps = length flow.steps
parts_of flow (AtPoints s) = flow.points
parts_of flow (Claims s) = length (step_prims flow s.0)

-- so many of the item with a number, and none where there is no such item
abbrev pub count_if : {A : Type 0} → (A → ℕ) → Option A → ℕ
count_if count None = 0
count_if count (Some a) = count a

-- one for a claim
abbrev pub one_if : Bool → ℕ
one_if true = 1
one_if false = 0

-- how many obligations a part has
abbrev pub count_in : Flow → Outline → Group → ℕ → ℕ
count_in flow outline Starts k = length outline.invariants
count_in flow outline Entries k = count_if (λ (g : Gate). count_at flow outline g.entry.0) (slice_get flow.gates k)
count_in flow outline OwnSteps k = count_if (own_count flow outline) (slice_get flow.steps k)
count_in flow outline (AtPoints s) k = count_at flow outline k
count_in flow outline (Claims s) k =
    count_if (λ (p : Primitive). one_if (is_claim p)) (slice_get (step_prims flow s.0) k)

-- the obligation of a part with a number
abbrev pub in_part : Group → ℕ → ℕ → Obligation
in_part Starts k n = Start n
in_part Entries k n = Enter (op_id k) n
in_part OwnSteps k n = Own (step_id k) n
in_part (AtPoints s) k n = Other s (point_id k) n
in_part (Claims s) k n = Claim s k

-- a run: the obligations of a part
abbrev pub run : Flow → Outline → Group → ℕ → List Obligation
run flow outline group k = map (in_part group k) (below (count_in flow outline group k))

-- the runs of a group from part k on
abbrev pub from_part : Flow → Outline → Group → ℕ → List Obligation
from_part flow outline group k = flat_map (run flow outline group) (drop k (below (parts_of flow group)))

-- those of a whole group
abbrev pub runs : Flow → Outline → Group → List Obligation
runs flow outline group = from_part flow outline group 0

-- ---- what is left

-- how many clauses there are at each point
abbrev pub counts_of : Flow → Outline → List ℕ
counts_of flow outline = map (count_at flow outline) (below flow.points)

-- of an item, and nothing where there is none
abbrev pub part_if : {A X : Type 0} → (A → List X) → Option A → List X
part_if part None = []
part_if part (Some a) = part a

-- what is left from part k of the group with a number on
unfoldable pub from_group : Flow → Outline → ℕ → ℕ → List Obligation
from_group flow outline g k =
    part_if (λ group. from_part flow outline group k) (slice_get (groups flow) g)
    ++ flat_map (runs flow outline) (drop (g + 1) (groups flow))

-- what is left from a place on
abbrev pub left_at : Flow → Outline → Place → List Obligation
left_at flow outline at = drop at.number (from_group flow outline at.group at.part)

-- so many obligations after the beginning of a part of a group stands the one of a part and a number, or the group has
-- fewer; whatever comes after the group
abbrev pub IsFoundFrom : Flow → Outline → Group → ℕ → ℕ → Result (ℕ × ℕ) ℕ → Type 0
IsFoundFrom flow outline group part number (Ok found) = (more : List Obligation)
    → drop number (from_part flow outline group part ++ more)
    ≡ in_part group found.0 found.1 ∷ drop (found.1 + 1) (from_part flow outline group found.0 ++ more)
IsFoundFrom flow outline group part number (Err left) = (more : List Obligation)
    → drop number (from_part flow outline group part ++ more) ≡ drop left more

-- an obligation stands first, and what is left after its place follows; or none is left
abbrev pub IsFirst : Flow → Outline → List Obligation → Option (Obligation × Place) → Type 0
IsFirst flow outline list (Some found) = list ≡ found.0 ∷ left_at flow outline found.1
IsFirst flow outline list None = list ≡ []
