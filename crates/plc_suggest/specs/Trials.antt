-- What a trial begins with, and what it leads to.
use Rattle.std.specs.Prelude.{◌≡◌, ℕ, ◌≤◌, ◌<◌, ◌++◌, Bool, true, false, All}
use Rattle.std.specs.Prelude.{List, length, map, take, drop, slice_get, Some}
use Rattle.plc_lang.specs.Skeleton.{Skeleton}
use Rattle.plc_auto.specs.declared.observer.Observer.{Observer}
use Rattle.plc_type.specs.declared.env.Env.{Env}
use Rattle.plc_flow.specs.declared.flow.Gate.{Gate}
use Rattle.plc_flow.specs.WellFormed.{IsWellFormed}
use Rattle.plc_flow.specs.Skeleton.{skeleton_of, pointers_by_point}
use Rattle.plc_flow.specs.StepsByPoint.{IsIndexOf, first_points}
use Rattle.plc_infer.specs.declared.program.Program.{Program}
use Rattle.plc_infer.specs.Programs.{program_of, first_points as first_points_of}
use Rattle.plc_infer.specs.Resuming as resuming
use Rattle.plc_infer.specs.Resuming.{IsBegun}
use Rattle.plc_suggest.specs.declared.spot.Spot.{Spot}
use Rattle.plc_suggest.specs.declared.parts.Parts.{Parts}
use Rattle.plc_suggest.specs.Spots.{spots_of, marked}
use Rattle.plc_suggest.specs.Needed.{IsTypable, chosen, tried}
use Rattle.plc_suggest.specs.Suggestions.{most_spots}
use Rattle.plc_suggest.specs.Marking.{IsOfStep}

-- the parts are those of their flow
pub record AreParts (p : Parts) : Type 0 where
  pub well : IsWellFormed p.flow.now
  pub shared : p.shared ≡ length p.flow.now.file.shared
  pub locals : p.locals.now ≡ pointers_by_point p.flow.now.file.ops p.flow.now.gates
  pub entries : p.entries.now ≡ map (λ (g : Gate). g.entry) p.flow.now.gates
  pub index : IsIndexOf (first_points p.flow.now) p.index.now
  pub spots : p.spots.now ≡ spots_of (skeleton_of p.flow.now)
  pub few : length p.spots.now ≤ most_spots

-- a program is that of the flow, marked by these spots
pub record IsMarkedProgram (p : Parts) (spots : List Spot) (program : Program) : Type 0 where
  pub is : program_of program ≡ marked spots (skeleton_of p.flow.now)
  pub firsts : first_points_of program ≡ first_points p.flow.now
  pub count : length program.steps.now ≡ length p.flow.now.steps

-- these environments are the strongest pre-typing of the program marked by these spots, and a typing
abbrev pub IsReached : Parts → List Spot → List Env → Type 0
IsReached p spots envs = resuming.IsReached p.observer.now (marked spots (skeleton_of p.flow.now)) envs

-- inference may go on with the program that is marked by the spots of two lists
pub record CanGoOn (p : Parts) (xs ys : List Spot) (changed : List ℕ) (envs : List Env) : Type 0 where
  pub parts : AreParts p
  pub first : All (IsOfStep (length p.flow.now.steps)) xs
  pub rest : All (IsOfStep (length p.flow.now.steps)) ys
  pub few : length (xs ++ ys) ≤ most_spots
  pub known : All (λ (k : ℕ). k < length p.flow.now.steps) changed
  pub begun : IsBegun p.observer.now (marked (xs ++ ys) (skeleton_of p.flow.now)) envs changed

-- the spots between two places may be tried to be left out: with them, those that are kept and those after them, the
-- program has a typing, which the environments are
pub record CanTry (p : Parts) (kept : List Spot) (at after : ℕ) (envs : List Env) : Type 0 where
  pub parts : AreParts p
  pub known : All (IsOfStep (length p.flow.now.steps)) kept
  pub few : length kept ≤ at
  pub order : at ≤ after
  pub within : after ≤ length p.spots.now
  pub reached : IsReached p (kept ++ drop at p.spots.now) envs

-- what a trial answers: that a typing was reached, or that there is none, and the environments are as before
abbrev pub IsTrialOf : Parts → List Spot → List Env → List Env → Bool → Type 0
IsTrialOf p spots old new typed =
    resuming.IsResumed p.observer.now (marked spots (skeleton_of p.flow.now)) old new typed

-- of the spots before one these are kept: those without which the program has no typing beside those kept before them
-- and all spots after them
pub record AreKept (o : Observer) (s : Skeleton) (kept : List Spot) (at : ℕ) : Type 0 where
  pub flags : List Bool
  pub count : length flags ≡ at
  pub within : at ≤ length (spots_of s)
  pub are : kept ≡ chosen flags (take at (spots_of s))
  pub needed : (i : ℕ) → slice_get flags i ≡ Some true → IsTypable o s (tried flags i (spots_of s)) → ⊥
  pub needless : (i : ℕ) → slice_get flags i ≡ Some false → IsTypable o s (tried flags i (spots_of s))
