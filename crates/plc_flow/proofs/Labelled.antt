-- The labelled points of a file are as many as its labels, and each is a point of the operation whose statements have its label.
use Rattle.std.proofs.Common.{◌≡◌, ℕ, zero, suc, ◌+◌, ◌<◌, ◌≤◌, ◌==◌, true, false, cond, Option, Some, None, List, [], ◌∷◌, ◌++◌, length, slice_get, refl, sym, ap, ◌∙◌, subst, arith, inl, inr, ◌⊎◌, length-append}
use Rattle.std.specs.List.{concat, range_with_len, position_from}
use Rattle.std.proofs.lemmas.List.FromFn.{length-range_with_len}
use Rattle.std.proofs.lemmas.Bool.{cases_eq, eq-eqb, ne_eqb}
use Rattle.plc_base.specs.declared.ids.PointId.{PointId}
use Rattle.plc_lang.specs.declared.syntax.Op.{Op}
use Rattle.plc_lang.specs.declared.syntax.File.{File}
use Rattle.plc_lang.specs.Labels.{label_or_none, statement_labels, block_labels, blocks_labels, labels_by_op, has_label}
use Rattle.plc_lang.specs.Statements.{Statement, One, Atomic, Call, If, Choose, Loop, Break, Return, Skip, Label, Statements, Empty, Then, Blocks, NoBlock, And}
use Rattle.plc_lang.specs.WellSorted.{LabelsAreNumbered}
use Rattle.plc_flow.specs.declared.flow.Gate.{Gate}
use Rattle.plc_flow.specs.declared.builder.Here.{Here}
use Rattle.plc_flow.specs.Sides.{true_side, false_side}
use Rattle.plc_flow.specs.Lowering.{during_made, point_of, side_made, statement_made, statements_made, blocks_made, op_made, ops_made, gate_made, flow_of}
use Rattle.plc_flow.specs.WellFormed.{IsPointOf}
use Rattle.plc_flow.specs.WellSorted.{IsPointOfLabel}
use Rattle.plc_flow.proofs.Each.{each_get}
use Rattle.plc_flow.proofs.Within.{InRange, op_stays}

-- ---- as many points as labels

both_counted : (xs ys : List PointId) (ls ms : List ℕ) → length xs ≡ length ls → length ys ≡ length ms → length (xs ++ ys) ≡ length (ls ++ ms)
both_counted xs ys ls ms e f = omega (arith, length-append xs ys, length-append ls ms, e, f)

during_counted : (during : Option ℕ) (m : ℕ) → length (during_made during m) ≡ length (label_or_none during)
during_counted None m = refl
during_counted (Some l) m = refl

mutual
  statement_counted : (s : Statement) (h : Here) (n c : ℕ) → length (statement_made s h n c).labels ≡ length (statement_labels s)
  statement_counted (One k) h n c = refl
  statement_counted (Atomic ks) h n c = refl
  statement_counted Skip h n c = refl
  statement_counted (Call func arg active during) h n c = during_counted during n
  statement_counted (Label l) h n c = refl
  statement_counted (If cond y z) h n c =
      let first = side_made (true_side cond) (statements_made y) h n c in
      let second = side_made (false_side cond) (statements_made z) h (n + first.points) c in
      both_counted first.labels second.labels (block_labels y) (block_labels z) (statements_counted y h (n + 1) n) (statements_counted z h (n + first.points + 1) (n + first.points))
  statement_counted (Choose bs) h n c = blocks_counted bs h n c
  statement_counted (Loop b) h n c = statements_counted b (record h { after = point_of (n + 1) }) (n + 2) n
  statement_counted Break h n c = refl
  statement_counted Return h n c = refl

  statements_counted : (b : Statements) (h : Here) (n c : ℕ) → length (statements_made b h n c).labels ≡ length (block_labels b)
  statements_counted Empty h n c = refl
  statements_counted (Then line s b) h n c =
      let g : Here = record h { line = line } in
      let first = statement_made s g n c in
      both_counted first.labels (statements_made b h (n + first.points) first.last).labels (statement_labels s) (block_labels b) (statement_counted s g n c) (statements_counted b h (n + first.points) first.last)

  blocks_counted : (bs : Blocks) (h : Here) (n c : ℕ) → length (blocks_made bs h n c).labels ≡ length (blocks_labels bs)
  blocks_counted NoBlock h n c = refl
  blocks_counted (And b bs) h n c =
      let first = side_made [] (statements_made b) h n c in
      both_counted first.labels (blocks_made bs h (n + first.points) c).labels (block_labels b) (blocks_labels bs) (statements_counted b h (n + 1) n) (blocks_counted bs h (n + first.points) c)

op_counted : (id : ℕ) (o : Op) (n : ℕ) → length (op_made id o n).labels ≡ length (block_labels o.body)
op_counted id o n = statements_counted o.body (record { op = record { 0 = id }; exit = point_of (n + 1); after = point_of (n + 1); line = o.line }) (n + 2) n

ops_labels_counted : (id : ℕ) (os : List Op) (n : ℕ) → length (ops_made id os n).labels ≡ length (concat (labels_by_op os))
ops_labels_counted id [] n = refl
ops_labels_counted id (o ∷ os) n =
    let first = op_made id o n in
    both_counted first.labels (ops_made (id + 1) os (n + first.points)).labels (block_labels o.body) (concat (labels_by_op os)) (op_counted id o n) (ops_labels_counted (id + 1) os (n + first.points))

pub flow_labels_counted : (file : File) → LabelsAreNumbered file → length (flow_of file).labels ≡ length file.labels
flow_labels_counted file numbered = ops_labels_counted 0 file.ops 0 ∙ ap length numbered ∙ length-range_with_len 0 (length file.labels)

-- ---- numbers in order

-- the labels are numbered from b
abbrev NumberedFrom : ℕ → List ℕ → Type 0
NumberedFrom b [] = Unit {0}
NumberedFrom b (x ∷ xs) = (x ≡ b) × NumberedFrom (b + 1) xs

range_numbered : (b n : ℕ) → NumberedFrom b (range_with_len b n)
range_numbered b zero = tt
range_numbered b (suc n) = (refl, range_numbered (b + 1) n)

first_numbered : (b : ℕ) (xs ys : List ℕ) → NumberedFrom b (xs ++ ys) → NumberedFrom b xs
first_numbered b [] ys k = tt
first_numbered b (x ∷ xs) ys k = (k.0, first_numbered (b + 1) xs ys k.1)

others_numbered : (b : ℕ) (xs ys : List ℕ) → NumberedFrom b (xs ++ ys) → NumberedFrom (b + length xs) ys
others_numbered b [] ys k = subst (λ m. NumberedFrom m ys) (omega arith) k
others_numbered b (x ∷ xs) ys k = subst (λ m. NumberedFrom m ys) (omega arith) (others_numbered (b + 1) xs ys k.1)

has_there : (b l : ℕ) (xs : List ℕ) → NumberedFrom b xs → b ≤ l → l < b + length xs → has_label l xs ≡ true
has_there b l [] k low high = absurd (omega arith)
has_there b l (x ∷ xs) k low high = elim (cases_eq l b) [
  | inl e ↦ (let same : (x == l) ≡ true = eq-eqb x l (k.0 ∙ sym e) in rw same refl)
  | inr ne ↦ (let other : (x == l) ≡ false = ne_eqb x l (λ e. ne (sym e ∙ k.0)) in rw other (has_there (b + 1) l xs k.1 (omega (arith, ne)) (omega arith)))
]

has_not : (b l : ℕ) (xs : List ℕ) → NumberedFrom b xs → b + length xs ≤ l → has_label l xs ≡ false
has_not b l [] k high = refl
has_not b l (x ∷ xs) k high =
    let other : (x == l) ≡ false = ne_eqb x l (λ e. absurd (omega (arith, e, k.0))) in
    rw other (has_not (b + 1) l xs k.1 (omega arith))

-- ---- each label is a point of its operation

-- where an item of two lists stands
abbrev StandsInOne : List PointId → List PointId → ℕ → PointId → Type 0
StandsInOne xs ys l p = ((slice_get xs l ≡ Some p) × (l < length xs)) ⊎ ((m : ℕ) × (l ≡ length xs + m) × (slice_get ys m ≡ Some p))

in_one : (xs ys : List PointId) (l : ℕ) (p : PointId) → slice_get (xs ++ ys) l ≡ Some p → StandsInOne xs ys l p
in_one [] ys l p at = inr (l, omega arith, at)
in_one (x ∷ xs) ys zero p at = inl (at, omega arith)
in_one (x ∷ xs) ys (suc l) p at = elim (in_one xs ys l p at) [
  | inl here ↦ inl (here.0, omega (arith, here.1))
  | inr there ↦ inr (there.0, omega (arith, there.1), there.2)
]

-- the first operation with the label, counted from j on, and its gate
record Stands (by_op : List (List ℕ)) (gates : List Gate) (j label : ℕ) (p : PointId) : Type 0 where
  nth : ℕ
  gate : Gate
  stands : position_from (has_label label) j by_op ≡ Some (j + nth)
  opens : slice_get gates nth ≡ Some gate
  within : IsPointOf gate p.0

stands_first : (id : ℕ) (o : Op) (os : List Op) (n b j l : ℕ) (p : PointId) → NumberedFrom b (block_labels o.body) → slice_get (op_made id o n).labels l ≡ Some p → l < length (op_made id o n).labels
    → Stands (labels_by_op (o ∷ os)) (ops_made id (o ∷ os) n).gates j (b + l) p
stands_first id o os n b j l p k at small =
    let first = op_made id o n in
    let there = each_get (InRange n (n + first.points)) first.labels (op_stays id o n).labels l p at in
    let has : has_label (b + l) (block_labels o.body) ≡ true = has_there b (b + l) (block_labels o.body) k (omega arith) (omega (arith, op_counted id o n)) in
    record {
      nth = 0;
      gate = gate_made n first.points;
      stands = ap (λ x. cond x (Some j) (position_from (has_label (b + l)) (j + 1) (labels_by_op os))) has ∙ ap Some (omega arith);
      opens = refl;
      within = (there.low, there.high);
    }

stands_later : (id : ℕ) (o : Op) (os : List Op) (n b j l m : ℕ) (p : PointId) → NumberedFrom b (block_labels o.body) → l ≡ length (op_made id o n).labels + m
    → Stands (labels_by_op os) (ops_made (id + 1) os (n + (op_made id o n).points)).gates (j + 1) (b + length (block_labels o.body) + m) p
    → Stands (labels_by_op (o ∷ os)) (ops_made id (o ∷ os) n).gates j (b + l) p
stands_later id o os n b j l m p k is r =
    let same : b + length (block_labels o.body) + m ≡ b + l = omega (arith, is, op_counted id o n) in
    let not : has_label (b + l) (block_labels o.body) ≡ false = has_not b (b + l) (block_labels o.body) k (omega (arith, is, op_counted id o n)) in
    record {
      nth = suc r.nth;
      gate = r.gate;
      stands = ap (λ x. cond x (Some j) (position_from (has_label (b + l)) (j + 1) (labels_by_op os))) not
          ∙ subst (λ x. position_from (has_label x) (j + 1) (labels_by_op os) ≡ Some (j + 1 + r.nth)) same r.stands ∙ ap Some (omega arith);
      opens = r.opens;
      within = r.within;
    }

ops_stand : (id : ℕ) (os : List Op) (n b j l : ℕ) (p : PointId) → NumberedFrom b (concat (labels_by_op os)) → slice_get (ops_made id os n).labels l ≡ Some p → Stands (labels_by_op os) (ops_made id os n).gates j (b + l) p
ops_stand id [] n b j l p k at = cc
ops_stand id (o ∷ os) n b j l p k at =
    let first = op_made id o n in
    let others = ops_made (id + 1) os (n + first.points) in
    let mine = first_numbered b (block_labels o.body) (concat (labels_by_op os)) k in
    elim (in_one first.labels others.labels l p at) [
      | inl here ↦ stands_first id o os n b j l p mine here.0 here.1
      | inr there ↦ stands_later id o os n b j l there.0 p mine there.1
          (ops_stand (id + 1) os (n + first.points) (b + length (block_labels o.body)) (j + 1) there.0 p (others_numbered b (block_labels o.body) (concat (labels_by_op os)) k) there.2)
    ]

-- each labelled point of the flow of a file that was read
pub flow_labels_stand : (file : File) → LabelsAreNumbered file → (l : ℕ) (p : PointId) → slice_get (flow_of file).labels l ≡ Some p → IsPointOfLabel (flow_of file) l p
flow_labels_stand file numbered l p at =
    let k = subst (NumberedFrom 0) (sym numbered) (range_numbered 0 (length file.labels)) in
    let r = ops_stand 0 file.ops 0 0 0 l p k at in
    let label : 0 + l ≡ l = omega arith in
    let op : 0 + r.nth ≡ r.nth = omega arith in
    record {
      op = r.nth;
      gate = r.gate;
      stands = subst (λ x. position_from (has_label x) 0 (labels_by_op file.ops) ≡ Some r.nth) label (r.stands ∙ ap Some op);
      opens = r.opens;
      within = r.within;
    }
