-- A borrowed program as plain lists, and what inference asks of one.
use Rattle.std.specs.Prelude.{◌≡◌, ℕ, ◌<◌, ◌≤◌, List, length, map, slice_get, get_or, Some, []}
use Rattle.plc_base.specs.Limits.{most}
use Rattle.plc_base.specs.declared.limits.What1.TheVariants as limits
use Rattle.plc_base.specs.declared.ids.PointId.{PointId}
use Rattle.plc_lang.specs.Skeleton.{Skeleton, Passage, locals_at}
use Rattle.plc_infer.specs.declared.program.Edge.{Edge}
use Rattle.plc_infer.specs.declared.program.Program.{Program}

-- a step as a passage
abbrev pub edge_of : Edge → Passage
edge_of e = record { from = e.from.0; to = e.to.0; prims = e.prims.now }

-- the number of a point
abbrev pub number_of : PointId → ℕ
number_of p = p.0

-- plain lists of these parts
abbrev pub skeleton_with : ℕ → List ℕ → List PointId → List Edge → Skeleton
skeleton_with shared locals entries steps =
    record { shared = shared; locals = locals; entries = map number_of entries; passages = map edge_of steps }

-- a program as plain lists
abbrev pub program_of : Program → Skeleton
program_of p = skeleton_with p.shared p.locals.now p.entries.now p.steps.now

-- the first points of a program's steps
abbrev pub first_points : Program → List PointId
first_points p = map (λ (e : Edge). e.from) p.steps.now

-- a passage that stands in no program
abbrev pub some_passage : Passage
some_passage = record { from = 0; to = 0; prims = [] }

-- the k-th passage
abbrev pub passage_at : Skeleton → ℕ → Passage
passage_at s k = get_or s.passages k some_passage

-- both ends of a step are points with as many pointer locals, operations begin at points, and points, steps and
-- primitives can be numbered
pub record IsProgram (s : Skeleton) : Type 0 where
  pub few : length s.locals ≤ most limits.Points
  pub few_steps : length s.passages < 65536
  pub short : (k : ℕ) → k < length s.passages → length (passage_at s k).prims < 65536
  pub from_in : (k : ℕ) → k < length s.passages → (passage_at s k).from < length s.locals
  pub to_in : (k : ℕ) → k < length s.passages → (passage_at s k).to < length s.locals
  pub same_locals : (k : ℕ) → k < length s.passages
      → locals_at s (passage_at s k).to ≡ locals_at s (passage_at s k).from
  pub entries_in : (i p : ℕ) → slice_get s.entries i ≡ Some p → p < length s.locals
