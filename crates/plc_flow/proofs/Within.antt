-- Each step of a lowered file is between points of its own operation, each label is a point of it, the gates stand one after another, and there are at most twice as many steps as points.
use Rattle.std.proofs.Common.{◌≡◌, ℕ, suc, ◌+◌, ◌*◌, ◌<◌, ◌≤◌, Some, List, [], ◌∷◌, ◌++◌, Option, None, length, slice_get, refl, ap, subst, arith, length-append}
use Rattle.plc_base.specs.declared.ids.FuncId.{FuncId}
use Rattle.plc_base.specs.declared.ids.PointId.{PointId}
use Rattle.plc_lang.specs.declared.syntax.Primitive.{Primitive}
use Rattle.plc_lang.specs.declared.syntax.Op.{Op}
use Rattle.plc_lang.specs.declared.syntax.File.{File}
use Rattle.plc_lang.specs.Statements.{Statement, One, Atomic, Call, If, Choose, Loop, Break, Return, Skip, Label, Statements, Empty, Then, Blocks, NoBlock, And}
use Rattle.plc_flow.specs.declared.flow.Step.{Step}
use Rattle.plc_flow.specs.declared.flow.Gate.{Gate}
use Rattle.plc_flow.specs.declared.builder.Here.{Here}
use Rattle.plc_flow.specs.Sides.{true_side, false_side, call_side}
use Rattle.plc_flow.specs.Lowering.{Made, Branches, Lowered, point_of, from_to, joins, during_made, one_made, call_made, label_made, side_made, if_made, choose_made, loop_made, leave_made, statement_made, statements_made, blocks_made, op_made, ops_made, gate_made, made_of, flow_of}
use Rattle.plc_flow.specs.WellFormed.{IsPointOf, StepWithin, GatesFrom}
use Rattle.plc_flow.proofs.Each.{Each, each_get, each_both, each_so}

-- a point of a range
pub record InRange (first after : ℕ) (p : PointId) : Type 0 where
  pub low : first ≤ p.0
  pub high : p.0 < after

-- a step of an operation between points of a range
pub record Inside (op first after : ℕ) (s : Step) : Type 0 where
  pub same : s.op.0 ≡ op
  pub from : InRange first after s.from
  pub to : InRange first after s.to

range_more : (first after later : ℕ) → after ≤ later → (p : PointId) → InRange first after p → InRange first later p
range_more first after later more p i = record { low = i.low; high = omega (arith, i.high) }

inside_more : (op first after later : ℕ) → after ≤ later → (s : Step) → Inside op first after s → Inside op first later s
inside_more op first after later more s i = record { same = i.same; from = range_more first after later more s.from i.from; to = range_more first after later more s.to i.to }

steps_more : (op first after later : ℕ) → after ≤ later → (xs : List Step) → Each (Inside op first after) xs → Each (Inside op first later) xs
steps_more op first after later more = each_so (Inside op first after) (Inside op first later) (inside_more op first after later more)

points_more : (first after later : ℕ) → after ≤ later → (xs : List PointId) → Each (InRange first after) xs → Each (InRange first later) xs
points_more first after later more = each_so (InRange first after) (InRange first later) (range_more first after later more)

steps_both : (op first a b all : ℕ) → a ≤ all → b ≤ all → (xs ys : List Step) → Each (Inside op first a) xs → Each (Inside op first b) ys → Each (Inside op first all) (xs ++ ys)
steps_both op first a b all m n xs ys p q = each_both (Inside op first all) xs ys (steps_more op first a all m xs p) (steps_more op first b all n ys q)

points_both : (first a b all : ℕ) → a ≤ all → b ≤ all → (xs ys : List PointId) → Each (InRange first a) xs → Each (InRange first b) ys → Each (InRange first all) (xs ++ ys)
points_both first a b all m n xs ys p q = each_both (InRange first all) xs ys (points_more first a all m xs p) (points_more first b all n ys q)

-- the points to which a statement may lead besides its own
pub record Around (h : Here) (first n : ℕ) : Type 0 where
  pub exit : InRange first n h.exit
  pub after : InRange first n h.after

around_more : (h : Here) (first n m : ℕ) → n ≤ m → Around h first n → Around h first m
around_more h first n m more a = record { exit = range_more first n m more h.exit a.exit; after = range_more first n m more h.after a.after }

-- what is made stays in the range that begins at `first`
pub record Stays (op first n : ℕ) (m : Made) : Type 0 where
  pub steps : Each (Inside op first (n + m.points)) m.steps
  pub labels : Each (InRange first (n + m.points)) m.labels
  pub last : InRange first (n + m.points) (point_of m.last)
  pub few : length m.steps ≤ 2 * m.points

abbrev pub StaysIn : Lowered → Type 0
StaysIn l = (h : Here) (first n c : ℕ) → Around h first n → InRange first n (point_of c) → Stays h.op.0 first n (l h n c)

-- the same of blocks side by side, of which each end is left by one step more
pub record BranchesStay (op first n : ℕ) (m : Branches) : Type 0 where
  pub steps : Each (Inside op first (n + m.points)) m.steps
  pub labels : Each (InRange first (n + m.points)) m.labels
  pub ends : Each (InRange first (n + m.points)) m.ends
  pub few : length m.steps + length m.ends ≤ 2 * m.points

abbrev pub BranchesStayIn : (Here → ℕ → ℕ → Branches) → Type 0
BranchesStayIn l = (h : Here) (first n c : ℕ) → Around h first n → InRange first n (point_of c) → BranchesStay h.op.0 first n (l h n c)

-- a step between two points that there are
between : (h : Here) (first after a b : ℕ) (prims : List Primitive) → InRange first after (point_of a) → InRange first after (point_of b) → Inside h.op.0 first after (from_to h a b prims)
between h first after a b prims p q = record { same = refl; from = p; to = q }

-- the point that is made first
made_here : (first n c after : ℕ) → n < after → InRange first n (point_of c) → InRange first after (point_of n)
made_here first n c after more r = record { low = omega (arith, r.low, r.high); high = more }

one_stays : (prims : List Primitive) → StaysIn (one_made prims)
one_stays prims h first n c a r = record {
  steps = (between h first (n + 1) c n prims (range_more first n (n + 1) (omega arith) (point_of c) r) (made_here first n c (n + 1) (omega arith) r), tt);
  labels = tt;
  last = made_here first n c (n + 1) (omega arith) r;
  few = omega arith;
}

during_stays : (first after m : ℕ) (during : Option ℕ) → InRange first after (point_of m) → Each (InRange first after) (during_made during m)
during_stays first after m (Some l) r = (r, tt)
during_stays first after m None r = tt

call_stays : (func : FuncId) (call : List Primitive) (during : Option ℕ) → StaysIn (call_made func call during)
call_stays func call during h first n c a r =
    let called = made_here first n c (n + 2) (omega arith) r in
    let done : InRange first (n + 2) (point_of (n + 1)) = record { low = omega (arith, called.low); high = omega arith } in
    record {
      steps = (between h first (n + 2) c n call (range_more first n (n + 2) (omega arith) (point_of c) r) called, (between h first (n + 2) n (n + 1) _ called done, tt));
      labels = during_stays first (n + 2) n during called;
      last = done;
      few = omega arith;
    }

label_stays : StaysIn (λ h n c. label_made c)
label_stays h first n c a r =
    let there = range_more first n (n + 0) (omega arith) (point_of c) r in
    record { steps = tt; labels = (there, tt); last = there; few = omega arith }

leave_stays : (target : Here → PointId) → ((h : Here) (first n : ℕ) → Around h first n → InRange first n (target h)) → StaysIn (leave_made target)
leave_stays target there h first n c a r = record {
  steps = (between h first (n + 1) c (target h).0 [] (range_more first n (n + 1) (omega arith) (point_of c) r) (range_more first n (n + 1) (omega arith) (target h) (there h first n a)), tt);
  labels = tt;
  last = made_here first n c (n + 1) (omega arith) r;
  few = omega arith;
}

side_stays : (prims : List Primitive) (block : Lowered) → StaysIn block → StaysIn (side_made prims block)
side_stays prims block b h first n c a r =
    let head = made_here first n c (n + 1) (omega arith) r in
    let inner = block h (n + 1) n in
    let i = b h first (n + 1) n (around_more h first n (n + 1) (omega arith) a) head in
    let all = n + (1 + inner.points) in
    record {
      steps = (between h first all c n prims (range_more first n all (omega arith) (point_of c) r) (range_more first (n + 1) all (omega arith) (point_of n) head), steps_more h.op.0 first (n + 1 + inner.points) all (omega arith) inner.steps i.steps);
      labels = points_more first (n + 1 + inner.points) all (omega arith) inner.labels i.labels;
      last = range_more first (n + 1 + inner.points) all (omega arith) (point_of inner.last) i.last;
      few = omega (arith, i.few);
    }

-- one side has a step fewer than twice its points, so that one more leads from its end to the join
side_few : (prims : List Primitive) (block : Lowered) → StaysIn block → (h : Here) (first n c : ℕ) → Around h first n → InRange first n (point_of c) → length (side_made prims block h n c).steps + 1 ≤ 2 * (side_made prims block h n c).points
side_few prims block b h first n c a r =
    let i = b h first (n + 1) n (around_more h first n (n + 1) (omega arith) a) (made_here first n c (n + 1) (omega arith) r) in
    omega (arith, i.few)

if_stays : (yes_side no_side : Lowered) → StaysIn yes_side → StaysIn no_side → StaysIn (if_made yes_side no_side)
if_stays yes_side no_side x y h first n c a r =
    let one = yes_side h n c in
    let k = one.points in
    let p = x h first n c a r in
    let two = no_side h (n + k) c in
    let q = y h first (n + k) c (around_more h first n (n + k) (omega arith) a) (range_more first n (n + k) (omega arith) (point_of c) r) in
    let j = n + k + two.points in
    let all = n + (k + two.points + 1) in
    let join : InRange first all (point_of j) = record { low = omega (arith, r.low, r.high); high = omega arith } in
    let joining = from_to h one.last j [] ∷ from_to h two.last j [] ∷ [] in
    record {
      steps = steps_both h.op.0 first j all all (omega arith) (omega arith) (one.steps ++ two.steps) joining
          (steps_both h.op.0 first (n + k) j j (omega arith) (omega arith) one.steps two.steps p.steps q.steps)
          (between h first all one.last j [] (range_more first (n + k) all (omega arith) (point_of one.last) p.last) join, (between h first all two.last j [] (range_more first j all (omega arith) (point_of two.last) q.last) join, tt));
      labels = points_both first (n + k) j all (omega arith) (omega arith) one.labels two.labels p.labels q.labels;
      last = join;
      few = omega (arith, length-append (one.steps ++ two.steps) joining, length-append one.steps two.steps, p.few, q.few);
    }

joins_within : (h : Here) (first after j : ℕ) (ends : List PointId) → InRange first after (point_of j) → Each (InRange first after) ends → Each (Inside h.op.0 first after) (joins h ends j)
joins_within h first after j [] r a = tt
joins_within h first after j (d ∷ ends) r a = (between h first after d.0 j [] a.0 r, joins_within h first after j ends r a.1)

joins_counted : (h : Here) (j : ℕ) (ends : List PointId) → length (joins h ends j) ≡ length ends
joins_counted h j [] = refl
joins_counted h j (d ∷ ends) = ap suc (joins_counted h j ends)

choose_stays : (branches : Here → ℕ → ℕ → Branches) → BranchesStayIn branches → StaysIn (choose_made branches)
choose_stays branches b h first n c a r =
    let parts = branches h n c in
    let i = b h first n c a r in
    let j = n + parts.points in
    let all = n + (parts.points + 1) in
    let join : InRange first all (point_of j) = record { low = omega (arith, r.low, r.high); high = omega arith } in
    record {
      steps = steps_both h.op.0 first j all all (omega arith) (omega arith) parts.steps (joins h parts.ends j) i.steps (joins_within h first all j parts.ends join (points_more first j all (omega arith) parts.ends i.ends));
      labels = points_more first j all (omega arith) parts.labels i.labels;
      last = join;
      few = omega (arith, length-append parts.steps (joins h parts.ends j), joins_counted h j parts.ends, i.few);
    }

loop_stays : (block : Lowered) → StaysIn block → StaysIn (loop_made block)
loop_stays block b h first n c a r =
    let g : Here = record h { after = point_of (n + 1) } in
    let head = made_here first n c (n + 2) (omega arith) r in
    let after : InRange first (n + 2) (point_of (n + 1)) = record { low = omega (arith, head.low); high = omega arith } in
    let inner = block g (n + 2) n in
    let i = b g first (n + 2) n (record { exit = range_more first n (n + 2) (omega arith) h.exit a.exit; after = after }) head in
    let all = n + (2 + inner.points) in
    let back = from_to h inner.last n [] ∷ [] in
    record {
      steps = (
        between h first all c n [] (range_more first n all (omega arith) (point_of c) r) (range_more first (n + 2) all (omega arith) (point_of n) head),
        steps_both h.op.0 first (n + 2 + inner.points) all all (omega arith) (omega arith) inner.steps back i.steps
            (between h first all inner.last n [] (range_more first (n + 2 + inner.points) all (omega arith) (point_of inner.last) i.last) (range_more first (n + 2) all (omega arith) (point_of n) head), tt),
      );
      labels = points_more first (n + 2 + inner.points) all (omega arith) inner.labels i.labels;
      last = range_more first (n + 2) all (omega arith) (point_of (n + 1)) after;
      few = omega (arith, length-append inner.steps back, i.few);
    }

-- one row for each statement
mutual
  statement_stays : (s : Statement) → StaysIn (statement_made s)
  statement_stays (One k) = one_stays (k ∷ [])
  statement_stays (Atomic ks) = one_stays ks
  statement_stays Skip = one_stays []
  statement_stays (Call func arg active during) = call_stays func (call_side active func arg) during
  statement_stays (Label l) = label_stays
  statement_stays (If cond y n) = if_stays (side_made (true_side cond) (statements_made y)) (side_made (false_side cond) (statements_made n)) (side_stays (true_side cond) (statements_made y) (statements_stay y)) (side_stays (false_side cond) (statements_made n) (statements_stay n))
  statement_stays (Choose bs) = choose_stays (blocks_made bs) (blocks_stay bs)
  statement_stays (Loop b) = loop_stays (statements_made b) (statements_stay b)
  statement_stays Break = leave_stays (λ h. h.after) (λ h first n a. a.after)
  statement_stays Return = leave_stays (λ h. h.exit) (λ h first n a. a.exit)

  statements_stay : (b : Statements) → StaysIn (statements_made b)
  statements_stay Empty h first n c a r = record { steps = tt; labels = tt; last = range_more first n (n + 0) (omega arith) (point_of c) r; few = omega arith }
  statements_stay (Then line s b) h first n c a r =
      let g : Here = record h { line = line } in
      let one = statement_made s g n c in
      let p = statement_stays s g first n c (record { exit = a.exit; after = a.after }) r in
      let k = n + one.points in
      let others = statements_made b h k one.last in
      let q = statements_stay b h first k one.last (around_more h first n k (omega arith) a) p.last in
      let all = n + (one.points + others.points) in
      record {
        steps = steps_both h.op.0 first k (k + others.points) all (omega arith) (omega arith) one.steps others.steps p.steps q.steps;
        labels = points_both first k (k + others.points) all (omega arith) (omega arith) one.labels others.labels p.labels q.labels;
        last = range_more first (k + others.points) all (omega arith) (point_of others.last) q.last;
        few = omega (arith, length-append one.steps others.steps, p.few, q.few);
      }

  blocks_stay : (bs : Blocks) → BranchesStayIn (blocks_made bs)
  blocks_stay NoBlock h first n c a r = record { steps = tt; labels = tt; ends = tt; few = omega arith }
  blocks_stay (And b bs) h first n c a r =
      let one = side_made [] (statements_made b) h n c in
      let p = side_stays [] (statements_made b) (statements_stay b) h first n c a r in
      let fewer = side_few [] (statements_made b) (statements_stay b) h first n c a r in
      let k = n + one.points in
      let others = blocks_made bs h k c in
      let q = blocks_stay bs h first k c (around_more h first n k (omega arith) a) (range_more first n k (omega arith) (point_of c) r) in
      let all = n + (one.points + others.points) in
      record {
        steps = steps_both h.op.0 first k (k + others.points) all (omega arith) (omega arith) one.steps others.steps p.steps q.steps;
        labels = points_both first k (k + others.points) all (omega arith) (omega arith) one.labels others.labels p.labels q.labels;
        ends = (range_more first k all (omega arith) (point_of one.last) p.last, points_more first (k + others.points) all (omega arith) others.ends q.ends);
        few = omega (arith, length-append one.steps others.steps, fewer, q.few);
      }

pub op_stays : (id : ℕ) (o : Op) (n : ℕ) → Stays id n n (op_made id o n)
op_stays id o n =
    let h : Here = record { op = record { 0 = id }; exit = point_of (n + 1); after = point_of (n + 1); line = o.line } in
    let exit : InRange n (n + 2) (point_of (n + 1)) = record { low = omega arith; high = omega arith } in
    let inner = statements_made o.body h (n + 2) n in
    let i = statements_stay o.body h n (n + 2) n (record { exit = exit; after = exit }) (record { low = omega arith; high = omega arith }) in
    let all = n + (2 + inner.points) in
    let closing = from_to h inner.last (n + 1) [] ∷ [] in
    record {
      steps = steps_both id n (n + 2 + inner.points) all all (omega arith) (omega arith) inner.steps closing i.steps
          (between h n all inner.last (n + 1) [] (range_more n (n + 2 + inner.points) all (omega arith) (point_of inner.last) i.last) (range_more n (n + 2) all (omega arith) (point_of (n + 1)) exit), tt);
      labels = points_more n (n + 2 + inner.points) all (omega arith) inner.labels i.labels;
      last = range_more n (n + 2) all (omega arith) (point_of (n + 1)) exit;
      few = omega (arith, length-append inner.steps closing, i.few);
    }

-- the step is between points of its gate, where the gates begin with that of operation id
pub record OfGate (gates : List Gate) (id : ℕ) (s : Step) : Type 0 where
  pub nth : ℕ
  pub gate : Gate
  pub op : s.op.0 ≡ id + nth
  pub there : slice_get gates nth ≡ Some gate
  pub from : IsPointOf gate s.from.0
  pub to : IsPointOf gate s.to.0

of_first : (g : Gate) (gs : List Gate) (id : ℕ) (s : Step) → Inside id g.first g.after s → OfGate (g ∷ gs) id s
of_first g gs id s i = record { nth = 0; gate = g; op = omega (arith, i.same); there = refl; from = (i.from.low, i.from.high); to = (i.to.low, i.to.high) }

of_later : (g : Gate) (gs : List Gate) (id : ℕ) (s : Step) → OfGate gs (id + 1) s → OfGate (g ∷ gs) id s
of_later g gs id s o = record { nth = suc o.nth; gate = o.gate; op = omega (arith, o.op); there = o.there; from = o.from; to = o.to }

ops_within : (id : ℕ) (os : List Op) (n : ℕ) → Each (OfGate (ops_made id os n).gates id) (ops_made id os n).steps
ops_within id [] n = tt
ops_within id (o ∷ os) n =
    let first = op_made id o n in
    let others = ops_made (id + 1) os (n + first.points) in
    let g = gate_made n first.points in
    let gates = g ∷ others.gates in
    each_both (OfGate gates id) first.steps others.steps
    (each_so (Inside id n (n + first.points)) (OfGate gates id) (of_first g others.gates id) first.steps (op_stays id o n).steps)
    (each_so (OfGate others.gates (id + 1)) (OfGate gates id) (of_later g others.gates id) others.steps (ops_within (id + 1) os (n + first.points)))

lower_start : (n first after : ℕ) → n ≤ first → (p : PointId) → InRange first after p → InRange n after p
lower_start n first after less p i = record { low = omega (arith, i.low); high = i.high }

ops_labels : (id : ℕ) (os : List Op) (n : ℕ) → Each (InRange n (n + (ops_made id os n).points)) (ops_made id os n).labels
ops_labels id [] n = tt
ops_labels id (o ∷ os) n =
    let first = op_made id o n in
    let k = n + first.points in
    let others = ops_made (id + 1) os k in
    points_both n k (k + others.points) (n + (first.points + others.points)) (omega arith) (omega arith) first.labels others.labels (op_stays id o n).labels
    (each_so (InRange k (k + others.points)) (InRange n (k + others.points)) (lower_start n k (k + others.points) (omega arith)) others.labels (ops_labels (id + 1) os k))

pub ops_few : (id : ℕ) (os : List Op) (n : ℕ) → length (ops_made id os n).steps ≤ 2 * (ops_made id os n).points
ops_few id [] n = omega arith
ops_few id (o ∷ os) n =
    let first = op_made id o n in
    let others = ops_made (id + 1) os (n + first.points) in
    omega (arith, length-append first.steps others.steps, (op_stays id o n).few, ops_few (id + 1) os (n + first.points))

pub ops_gates : (id : ℕ) (os : List Op) (n : ℕ) → GatesFrom n (ops_made id os n).gates (n + (ops_made id os n).points)
ops_gates id [] n = omega arith
ops_gates id (o ∷ os) n =
    let first = op_made id o n in
    let others = ops_made (id + 1) os (n + first.points) in
    (refl, refl, refl, omega arith, subst (λ m. GatesFrom (n + first.points) others.gates m) (omega arith) (ops_gates (id + 1) os (n + first.points)))

pub ops_counted : (id : ℕ) (os : List Op) (n : ℕ) → length (ops_made id os n).gates ≡ length os
ops_counted id [] n = refl
ops_counted id (o ∷ os) n = ap suc (ops_counted (id + 1) os (n + (op_made id o n).points))

-- both ends of each step of a lowered file are points of its operation, whatever the number of points
pub flow_steps_within : (file : File) (k : ℕ) (s : Step) → slice_get (flow_of file).steps k ≡ Some s → StepWithin (flow_of file) s
flow_steps_within file k s e =
    let o = each_get (OfGate (made_of file).gates 0) (made_of file).steps (ops_within 0 file.ops 0) k s e in
    let same : o.nth ≡ s.op.0 = omega (arith, o.op) in
    (o.gate, subst (λ i. slice_get (made_of file).gates i ≡ Some o.gate) same o.there, o.from, o.to)

-- each label of a lowered file is a point that there is
pub flow_labels_within : (file : File) (k : ℕ) (p : PointId) → slice_get (flow_of file).labels k ≡ Some p → p.0 < (flow_of file).points
flow_labels_within file k p e =
    let there = each_get (InRange 0 (0 + (made_of file).points)) (made_of file).labels (ops_labels 0 file.ops 0) k p e in
    omega (arith, there.high)
