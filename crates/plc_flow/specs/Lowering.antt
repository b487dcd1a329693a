-- What each statement makes: points, steps and labels in order, and the point that it goes on from.
use Rattle.std.specs.Prelude.{◌≡◌, ℕ, ◌+◌, ◌<◌, ◌≤◌, List, []}
use Rattle.std.specs.Prelude.{◌∷◌, ◌++◌, map, Option, Some, None, Result, Ok, Err}
use Rattle.plc_base.specs.Limits.{most}
use Rattle.plc_base.specs.declared.ids.FuncId.{FuncId}
use Rattle.plc_base.specs.declared.ids.PointId.{PointId}
use Rattle.plc_base.specs.declared.limits.What1.TheVariants as limits
use Rattle.plc_lang.specs.declared.syntax.Primitive.{Primitive}
use Rattle.plc_lang.specs.declared.syntax.Primitive.TheVariants as prims
use Rattle.plc_lang.specs.declared.syntax.Op.{Op}
use Rattle.plc_lang.specs.declared.syntax.File.{File}
use Rattle.plc_lang.specs.Statements.{Statement, One, Atomic, Call, If, Choose, Loop, Break, Return, Skip, Label}
use Rattle.plc_lang.specs.Statements.{Statements, Empty, Then, Blocks, NoBlock, And}
use Rattle.plc_flow.specs.declared.flow.Step.{Step}
use Rattle.plc_flow.specs.declared.flow.Gate.{Gate}
use Rattle.plc_flow.specs.declared.flow.Flow.{Flow}
use Rattle.plc_flow.specs.declared.flow.FlowFault.{FlowFault}
use Rattle.plc_flow.specs.declared.flow.FlowFault.TheVariants as faults
use Rattle.plc_flow.specs.declared.builder.Here.{Here}
use Rattle.plc_flow.specs.Sides.{true_side, false_side, call_side}

-- how many points are made, the steps and the labelled points in order, and the point that it goes on from
pub record Made : Type 0 where
  pub points : ℕ
  pub steps : List Step
  pub labels : List PointId
  pub last : ℕ

-- where it stands, how many points there are before, and from which point it begins
abbrev pub Lowered : Type 0
Lowered = Here → ℕ → ℕ → Made

-- what blocks side by side make, with the end of each in place of one point
pub record Branches : Type 0 where
  pub points : ℕ
  pub steps : List Step
  pub labels : List PointId
  pub ends : List PointId

-- the point of this number
abbrev pub point_of : ℕ → PointId
point_of a = record { 0 = a }

-- a step from one point to another
abbrev pub from_to : Here → ℕ → ℕ → List Primitive → Step
from_to h a b prims = record { op = h.op; from = point_of a; to = point_of b; prims = prims; line = h.line }

-- nothing, after this point
abbrev pub nothing_made : ℕ → Made
nothing_made c = record { points = 0; steps = []; labels = []; last = c }

-- one after another
abbrev pub joined : Made → Made → Made
joined a b =
    record { points = a.points + b.points; steps = a.steps ++ b.steps; labels = a.labels ++ b.labels; last = b.last }

-- primitives that are one step: point n; step c to n
abbrev pub one_made : List Primitive → Lowered
one_made prims h n c = record { points = 1; steps = from_to h c n prims ∷ []; labels = []; last = n }

-- the point that a call's `during` names
abbrev pub during_made : Option ℕ → ℕ → List PointId
during_made (Some l) m = point_of m ∷ []
during_made None m = []

-- a call: points n and n + 1; step c to n with the call; step n to n + 1 with the return; `during` names n
abbrev pub call_made : FuncId → List Primitive → Option ℕ → Lowered
call_made func call during h n c = record {
  points = 2;
  steps = from_to h c n call ∷ from_to h n (n + 1) (prims.Done func ∷ []) ∷ [];
  labels = during_made during n;
  last = n + 1;
}

-- `label`: it names c
abbrev pub label_made : ℕ → Made
label_made c = record { points = 0; steps = []; labels = point_of c ∷ []; last = c }

-- one side: point n; step c to n; the block from n
abbrev pub side_made : List Primitive → Lowered → Lowered
side_made prims block h n c = let inner = block h (n + 1) n in record {
  points = 1 + inner.points;
  steps = from_to h c n prims ∷ inner.steps;
  labels = inner.labels;
  last = inner.last;
}

-- `if`: the side on which the condition holds; the other; point j; a step from the end of each to j
abbrev pub if_made : Lowered → Lowered → Lowered
if_made yes_side no_side h n c =
    let first = yes_side h n c in
    let second = no_side h (n + first.points) c in
    let j = n + first.points + second.points in
    record {
      points = first.points + second.points + 1;
      steps = first.steps ++ second.steps ++ from_to h first.last j [] ∷ from_to h second.last j [] ∷ [];
      labels = first.labels ++ second.labels;
      last = j;
    }

-- a step from each end to the point where they join
abbrev pub joins : Here → List PointId → ℕ → List Step
joins h ends j = map (λ d. from_to h d.0 j []) ends

-- `choose`: each block after a step without primitives; point j; a step from the end of each to j
abbrev pub choose_made : (Here → ℕ → ℕ → Branches) → Lowered
choose_made branches h n c =
    let all = branches h n c in
    let j = n + all.points in
    record {
      points = all.points + 1;
      steps = all.steps ++ joins h all.ends j;
      labels = all.labels;
      last = j;
    }

-- `loop`: points n and n + 1; step c to n; the block from n; a step from its end to n; a `break` in it leads to n + 1
abbrev pub loop_made : Lowered → Lowered
loop_made block h n c =
    let inner = block (record h { after = point_of (n + 1) }) (n + 2) n in
    record {
      points = 2 + inner.points;
      steps = from_to h c n [] ∷ inner.steps ++ from_to h inner.last n [] ∷ [];
      labels = inner.labels;
      last = n + 1;
    }

-- `break` and `return`: a step from c to where they lead; point n, to which no step leads
abbrev pub leave_made : (Here → PointId) → Lowered
leave_made target h n c = record { points = 1; steps = from_to h c (target h).0 [] ∷ []; labels = []; last = n }

-- the table of the statements
abbrev mutual
  pub statement_made : Statement → Lowered
  statement_made (One k) = one_made (k ∷ [])
  statement_made (Atomic ks) = one_made ks
  statement_made Skip = one_made []
  statement_made (Call func arg active during) = call_made func (call_side active func arg) during
  statement_made (Label l) = λ h n c. label_made c
  statement_made (If cond y n) =
      if_made (side_made (true_side cond) (statements_made y)) (side_made (false_side cond) (statements_made n))
  statement_made (Choose bs) = choose_made (blocks_made bs)
  statement_made (Loop b) = loop_made (statements_made b)
  statement_made Break = leave_made (λ h. h.after)
  statement_made Return = leave_made (λ h. h.exit)

  -- statements in order, each from where the one before goes on; a step's line is that of its statement
  pub statements_made : Statements → Lowered
  statements_made Empty h n c = nothing_made c
  statements_made (Then line s b) h n c =
      let first = statement_made s (record h { line = line }) n c in
      joined first (statements_made b h (n + first.points) first.last)

  -- blocks side by side from one point
  pub blocks_made : Blocks → Here → ℕ → ℕ → Branches
  blocks_made NoBlock h n c = record { points = 0; steps = []; labels = []; ends = [] }
  blocks_made (And b bs) h n c =
      let first = side_made [] (statements_made b) h n c in
      let others = blocks_made bs h (n + first.points) c in
      record {
        points = first.points + others.points;
        steps = first.steps ++ others.steps;
        labels = first.labels ++ others.labels;
        ends = point_of first.last ∷ others.ends;
      }

-- an operation: its entry, its exit, its body from the entry, and a step without primitives from where the body ends
-- to the exit; no `break` stands outside of loops
abbrev pub op_made : ℕ → Op → ℕ → Made
op_made id o n =
    let exit = point_of (n + 1) in
    let h : Here = record { op = record { 0 = id }; exit = exit; after = exit; line = o.line } in
    let inner = statements_made o.body h (n + 2) n in
    record {
      points = 2 + inner.points;
      steps = inner.steps ++ from_to h inner.last (n + 1) [] ∷ [];
      labels = inner.labels;
      last = n + 1;
    }

-- the gate of an operation that begins with this point
abbrev pub gate_made : ℕ → ℕ → Gate
gate_made n points = record { entry = point_of n; exit = point_of (n + 1); first = n; after = n + points }

-- what the operations make
pub record MadeOps : Type 0 where
  pub points : ℕ
  pub steps : List Step
  pub labels : List PointId
  pub gates : List Gate

-- the operations from number id on, where n points stand before
abbrev pub ops_made : ℕ → List Op → ℕ → MadeOps
ops_made id [] n = record { points = 0; steps = []; labels = []; gates = [] }
ops_made id (o ∷ os) n =
    let first = op_made id o n in
    let others = ops_made (id + 1) os (n + first.points) in
    record {
      points = first.points + others.points;
      steps = first.steps ++ others.steps;
      labels = first.labels ++ others.labels;
      gates = gate_made n first.points ∷ others.gates;
    }

-- the flow of a file, before any limit
abbrev pub made_of : File → MadeOps
made_of file = ops_made 0 file.ops 0

-- how many points a flow may have
abbrev pub most_points : ℕ
most_points = most limits.Points

-- the file with the points, steps and labels that it makes
abbrev pub flow_of : File → Flow
flow_of file =
    let made = made_of file in
    record { file = file; gates = made.gates; steps = made.steps; points = made.points; labels = made.labels }

-- the answer of the lowering
abbrev pub IsLowered : File → Result Flow FlowFault → Type 0
IsLowered file (Ok flow) = (flow ≡ flow_of file) × ((made_of file).points ≤ most_points)
IsLowered file (Err (faults.TooManyPoints count)) = (count ≡ most_points + 1) × (most_points < (made_of file).points)
IsLowered file (Err faults.Memory) = Unit {0}
