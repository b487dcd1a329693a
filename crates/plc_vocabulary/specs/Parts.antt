-- The parts of an obligation: what is executed, whose locals it names, what holds before and what is to hold after.
use Rattle.std.specs.Prelude.{ℕ, Bool, ◌&&◌, ◌++◌, nat_le, nat_lt, List, [], take}
use Rattle.std.specs.Prelude.{Option, Some, None, is_some, slice_get}
use Rattle.std.specs.List.{position}
use Rattle.plc_base.specs.declared.ids.PointId.{PointId}
use Rattle.plc_lang.specs.declared.syntax.Local.{Local}
use Rattle.plc_lang.specs.declared.syntax.Primitive.{Primitive}
use Rattle.plc_lang.specs.Locals.{locals_of}
use Rattle.plc_flow.specs.declared.flow.Gate.{Gate}
use Rattle.plc_flow.specs.declared.flow.Step.{Step}
use Rattle.plc_flow.specs.declared.flow.Flow.{Flow}
use Rattle.plc_logic.specs.declared.clause.Clause.{Clause}
use Rattle.plc_logic.specs.declared.clause.Outline.{Outline}
use Rattle.plc_vocabulary.specs.declared.obligations.Obligation.{Obligation}
use Rattle.plc_vocabulary.specs.declared.obligations.Obligation.TheVariants.{Start, Enter, Own, Other, Claim}
use Rattle.plc_vocabulary.specs.Points.{clauses_at}

-- ---- steps, operations and points

abbrev pub prims_of : Option Step → List Primitive
prims_of None = []
prims_of (Some s) = s.prims

-- the primitives of the step with a number
abbrev pub step_prims : Flow → ℕ → List Primitive
step_prims flow k = prims_of (slice_get flow.steps k)

abbrev pub locals_of_step : Flow → Option Step → List Local
locals_of_step flow None = []
locals_of_step flow (Some s) = locals_of flow.file.ops s.op.0

-- the locals of the operation of the step with a number
abbrev pub step_locals : Flow → ℕ → List Local
step_locals flow k = locals_of_step flow (slice_get flow.steps k)

-- a point of the operation
abbrev pub has_point : ℕ → Gate → Bool
has_point p g = nat_le g.first p && nat_lt p g.after

abbrev pub locals_or_none : Flow → Option ℕ → List Local
locals_or_none flow None = []
locals_or_none flow (Some o) = locals_of flow.file.ops o

-- the locals of the operation that has the point
abbrev pub point_locals : Flow → ℕ → List Local
point_locals flow p = locals_or_none flow (position (has_point p) flow.gates)

-- those of the thread that stands at the point, and none where no thread stands
abbrev pub locals_at : Flow → Option PointId → List Local
locals_at flow None = []
locals_at flow (Some p) = point_locals flow p.0

-- the clauses at a point, and none where no thread stands
abbrev pub clauses_of : Flow → Outline → Option PointId → List Clause
clauses_of flow outline None = []
clauses_of flow outline (Some p) = clauses_at flow outline p.0

-- the clauses of the first point of a step, of its last point, and of the entry of an operation
abbrev pub clauses_before : Flow → Outline → Option Step → List Clause
clauses_before flow outline None = []
clauses_before flow outline (Some s) = clauses_at flow outline s.from.0

abbrev pub clauses_after : Flow → Outline → Option Step → List Clause
clauses_after flow outline None = []
clauses_after flow outline (Some s) = clauses_at flow outline s.to.0

abbrev pub entry_clauses : Flow → Outline → Option Gate → List Clause
entry_clauses flow outline None = []
entry_clauses flow outline (Some g) = clauses_at flow outline g.entry.0

-- ---- obligations

-- the executed part: a claim's are the primitives before it
abbrev pub executed : Flow → Obligation → List Primitive
executed flow (Start i) = flow.file.init
executed flow (Enter o c) = []
executed flow (Own k c) = step_prims flow k.0
executed flow (Other k p c) = step_prims flow k.0
executed flow (Claim k j) = take j (step_prims flow k.0)

-- the locals of the acting thread; `init` has none
abbrev pub acting_locals : Flow → Obligation → List Local
acting_locals flow (Start i) = []
acting_locals flow (Enter o c) = locals_of flow.file.ops o.0
acting_locals flow (Own k c) = step_locals flow k.0
acting_locals flow (Other k p c) = step_locals flow k.0
acting_locals flow (Claim k j) = step_locals flow k.0

-- the point at which the owner of the clause stands, where that is a second thread
abbrev pub owner_point : Obligation → Option PointId
owner_point (Start i) = None
owner_point (Enter o c) = None
owner_point (Own k c) = None
owner_point (Other k p c) = Some p
owner_point (Claim k j) = None

-- whether the clause is such a thread's
abbrev pub has_owner : Obligation → Bool
has_owner o = is_some (owner_point o)

-- the locals of the owner
abbrev pub owner_locals : Flow → Obligation → List Local
owner_locals flow o = locals_at flow (owner_point o)

-- what holds before and is read for the acting thread: the invariants, but not before `init`; then the clauses of the
-- step's first point
abbrev pub acting_premises : Flow → Outline → Obligation → List Clause
acting_premises flow outline (Start i) = []
acting_premises flow outline (Enter o c) = outline.invariants
acting_premises flow outline (Own k c) = outline.invariants ++ clauses_before flow outline (slice_get flow.steps k.0)
acting_premises flow outline (Other k p c) =
    outline.invariants ++ clauses_before flow outline (slice_get flow.steps k.0)
acting_premises flow outline (Claim k j) = outline.invariants ++ clauses_before flow outline (slice_get flow.steps k.0)

-- what holds before and is read for the owner: the clauses of its point
abbrev pub owner_premises : Flow → Outline → Obligation → List Clause
owner_premises flow outline o = clauses_of flow outline (owner_point o)

-- the conclusion, where it is a clause
abbrev pub conclusion : Flow → Outline → Obligation → Option Clause
conclusion flow outline (Start i) = slice_get outline.invariants i
conclusion flow outline (Enter o c) = slice_get (entry_clauses flow outline (slice_get flow.gates o.0)) c
conclusion flow outline (Own k c) =
    slice_get (outline.invariants ++ clauses_after flow outline (slice_get flow.steps k.0)) c
conclusion flow outline (Other k p c) = slice_get (clauses_at flow outline p.0) c
conclusion flow outline (Claim k j) = None

-- the conclusion, where it is a claim: the primitive that makes it
abbrev pub claim_made : Flow → Obligation → Option Primitive
claim_made flow (Start i) = None
claim_made flow (Enter o c) = None
claim_made flow (Own k c) = None
claim_made flow (Other k p c) = None
claim_made flow (Claim k j) = slice_get (step_prims flow k.0) j

-- ---- what holds before, by the points at which the threads stand

abbrev pub first_point : Option Step → Option PointId
first_point None = None
first_point (Some s) = Some s.from

-- the point at which the acting thread stands before, if it is in an operation
abbrev pub acting_point : Flow → Obligation → Option PointId
acting_point flow (Start i) = None
acting_point flow (Enter o c) = None
acting_point flow (Own k c) = first_point (slice_get flow.steps k.0)
acting_point flow (Other k p c) = first_point (slice_get flow.steps k.0)
acting_point flow (Claim k j) = first_point (slice_get flow.steps k.0)

-- the invariants, but not before `init`
abbrev pub invariants_before : Outline → Obligation → List Clause
invariants_before outline (Start i) = []
invariants_before outline (Enter o c) = outline.invariants
invariants_before outline (Own k c) = outline.invariants
invariants_before outline (Other k p c) = outline.invariants
invariants_before outline (Claim k j) = outline.invariants
