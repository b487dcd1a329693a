-- The steps of a flow with lists of primitives in place of their own.
use Rattle.std.specs.Prelude.{◌≡◌, ℕ, ◌+◌, ◌<◌, List, [], ◌∷◌, ◌++◌, length, map, get_or}
use Rattle.plc_lang.specs.declared.syntax.Primitive.{Primitive}
use Rattle.plc_lang.specs.Skeleton.{Passage}
use Rattle.plc_flow.specs.declared.flow.Step.{Step}
use Rattle.plc_flow.specs.declared.flow.Flow.{Flow}
use Rattle.plc_flow.specs.Skeleton.{passage_of}
use Rattle.plc_infer.specs.declared.program.Edge.{Edge}
use Rattle.plc_infer.specs.Programs.{edge_of}
use Rattle.plc_suggest.specs.declared.spot.Spot.{Spot}
use Rattle.plc_suggest.specs.Spots.{claims_at, marked_from}

-- a spot stands in front of one of so many steps
abbrev pub IsOfStep : ℕ → Spot → Type 0
IsOfStep n x = x.step.0 < n

-- the steps of spots
abbrev pub steps_of : List Spot → List ℕ
steps_of spots = map (λ (x : Spot). x.step.0) spots

-- the lists with the claims of spots put at their ends
pub record HasClaims (old new : List (List Primitive)) (spots : List Spot) : Type 0 where
  pub count : length new ≡ length old
  pub each : (k : ℕ) → k < length old → get_or new k [] ≡ get_or old k [] ++ claims_at spots k

-- the primitives of step k
abbrev pub prims_at : Flow → ℕ → List Primitive
prims_at flow k = get_or (map (λ (x : Step). x.prims) flow.steps) k []

-- the primitives of steps, of which the first has the number k, each with its claims in front
abbrev pub lists_of : List Spot → ℕ → List Step → List (List Primitive)
lists_of spots k [] = []
lists_of spots k (x ∷ xs) = (claims_at spots k ++ x.prims) ∷ lists_of spots (k + 1) xs

-- steps as passages, each with a list in place of its primitives
abbrev pub with_lists : List (List Primitive) → List Step → List Passage
with_lists [] xs = []
with_lists (l ∷ ls) [] = []
with_lists (l ∷ ls) (x ∷ xs) = record { from = x.from.0; to = x.to.0; prims = l } ∷ with_lists ls xs

-- these steps are the flow's, each with a list in place of its primitives
abbrev pub HaveLists : Flow → List (List Primitive) → List Edge → Type 0
HaveLists flow lists edges = map edge_of edges ≡ with_lists lists flow.steps

-- the steps of a flow, each with the claims of spots in front of its primitives
abbrev pub AreMarked : Flow → List Spot → List Edge → Type 0
AreMarked flow spots edges = map edge_of edges ≡ marked_from spots 0 (map passage_of flow.steps)
