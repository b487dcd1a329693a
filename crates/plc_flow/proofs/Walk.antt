-- What holds of the primitives of each step that statements make, from what holds of the lists of primitives that statements put into steps.
use Rattle.std.proofs.Common.{◌≡◌, ℕ, suc, ◌+◌, Some, List, [], ◌∷◌, ◌++◌, slice_get, refl, ap, ◌∙◌, subst, arith}
use Rattle.plc_base.specs.declared.ids.PointId.{PointId}
use Rattle.plc_base.specs.declared.ids.OpId.{OpId}
use Rattle.plc_lang.specs.declared.syntax.Primitive.{Primitive}
use Rattle.plc_lang.specs.declared.syntax.Primitive.TheVariants as prims
use Rattle.plc_lang.specs.declared.syntax.Op.{Op}
use Rattle.plc_lang.specs.declared.syntax.File.{File}
use Rattle.plc_lang.specs.Statements.{Statement, One, Atomic, Call, If, Choose, Loop, Break, Return, Skip, Label, Statements, Empty, Then, Blocks, NoBlock, And}
use Rattle.plc_flow.specs.declared.flow.Step.{Step}
use Rattle.plc_flow.specs.declared.builder.Here.{Here}
use Rattle.plc_flow.specs.Sides.{true_side, false_side, call_side}
use Rattle.plc_flow.specs.Lowering.{Branches, Lowered, joins, side_made, if_made, choose_made, loop_made, statement_made, statements_made, blocks_made, op_made, ops_made, made_of, flow_of}
use Rattle.plc_flow.proofs.Each.{Each, each_get, each_both, each_so}

-- the lists of primitives that a statement puts into steps have P; the first four put none there
abbrev mutual
  pub StatementHas : (List Primitive → Type 0) → Statement → Type 0
  StatementHas P Break = Unit {0}
  StatementHas P Return = Unit {0}
  StatementHas P Skip = Unit {0}
  StatementHas P (Label l) = Unit {0}
  StatementHas P (One k) = P (k ∷ [])
  StatementHas P (Atomic ks) = P ks
  StatementHas P (Call f a b d) = P (call_side b f a) × P (prims.Done f ∷ [])
  StatementHas P (If c y n) = P (true_side c) × P (false_side c) × StatementsHave P y × StatementsHave P n
  StatementHas P (Choose bs) = BlocksHave P bs
  StatementHas P (Loop b) = StatementsHave P b

  pub StatementsHave : (List Primitive → Type 0) → Statements → Type 0
  StatementsHave P Empty = Unit {0}
  StatementsHave P (Then l s b) = StatementHas P s × StatementsHave P b

  pub BlocksHave : (List Primitive → Type 0) → Blocks → Type 0
  BlocksHave P NoBlock = Unit {0}
  BlocksHave P (And b bs) = StatementsHave P b × BlocksHave P bs

-- a step of the operation whose primitives have P
abbrev Has : (List Primitive → Type 0) → OpId → Step → Type 0
Has P op s = (s.op ≡ op) × P s.prims

module _ (P : List Primitive → Type 0) (none : P []) where
  abbrev Make : Lowered → Type 0
  Make l = (h : Here) (n c : ℕ) → Each (Has P h.op) (l h n c).steps

  abbrev BranchesMake : (Here → ℕ → ℕ → Branches) → Type 0
  BranchesMake l = (h : Here) (n c : ℕ) → Each (Has P h.op) (l h n c).steps

  joins_have : (h : Here) (ends : List PointId) (j : ℕ) → Each (Has P h.op) (joins h ends j)
  joins_have h [] j = tt
  joins_have h (d ∷ ends) j = ((refl, none), joins_have h ends j)

  side_has : (prims : List Primitive) (block : Lowered) → P prims → Make block → Make (side_made prims block)
  side_has prims block i b h n c = ((refl, i), b h (n + 1) n)

  if_has : (yes_side no_side : Lowered) → Make yes_side → Make no_side → Make (if_made yes_side no_side)
  if_has yes_side no_side x y h n c =
      let one = yes_side h n c in
      let two = no_side h (n + one.points) c in
      each_both (Has P h.op) (one.steps ++ two.steps) _ (each_both (Has P h.op) one.steps two.steps (x h n c) (y h (n + one.points) c)) ((refl, none), ((refl, none), tt))

  choose_has : (branches : Here → ℕ → ℕ → Branches) → BranchesMake branches → Make (choose_made branches)
  choose_has branches b h n c =
      let parts = branches h n c in
      each_both (Has P h.op) parts.steps (joins h parts.ends (n + parts.points)) (b h n c) (joins_have h parts.ends (n + parts.points))

  loop_has : (block : Lowered) → Make block → Make (loop_made block)
  loop_has block b h n c =
      let g : Here = record h { after = record { 0 = n + 1 } } in
      ((refl, none), each_both (Has P h.op) (block g (n + 2) n).steps _ (b g (n + 2) n) ((refl, none), tt))

  mutual
    statement_has : (s : Statement) → StatementHas P s → Make (statement_made s)
    statement_has (One k) i = λ h n c. ((refl, i), tt)
    statement_has (Atomic ks) i = λ h n c. ((refl, i), tt)
    statement_has Skip i = λ h n c. ((refl, none), tt)
    statement_has (Call func arg active during) i = λ h n c. ((refl, i.0), ((refl, i.1), tt))
    statement_has (Label l) i = λ h n c. tt
    statement_has (If cond y n) i = if_has (side_made (true_side cond) (statements_made y)) (side_made (false_side cond) (statements_made n))
        (side_has (true_side cond) (statements_made y) i.0 (statements_have y i.2)) (side_has (false_side cond) (statements_made n) i.1 (statements_have n i.3))
    statement_has (Choose bs) i = choose_has (blocks_made bs) (blocks_have bs i)
    statement_has (Loop b) i = loop_has (statements_made b) (statements_have b i)
    statement_has Break i = λ h n c. ((refl, none), tt)
    statement_has Return i = λ h n c. ((refl, none), tt)

    statements_have : (b : Statements) → StatementsHave P b → Make (statements_made b)
    statements_have Empty i h n c = tt
    statements_have (Then line s b) i h n c =
        let g : Here = record h { line = line } in
        let one = statement_made s g n c in
        each_both (Has P h.op) one.steps (statements_made b h (n + one.points) one.last).steps (statement_has s i.0 g n c) (statements_have b i.1 h (n + one.points) one.last)

    blocks_have : (bs : Blocks) → BlocksHave P bs → BranchesMake (blocks_made bs)
    blocks_have NoBlock i h n c = tt
    blocks_have (And b bs) i h n c =
        let one = side_made [] (statements_made b) h n c in
        each_both (Has P h.op) one.steps (blocks_made bs h (n + one.points) c).steps (side_has [] (statements_made b) none (statements_have b i.0) h n c) (blocks_have bs i.1 h (n + one.points) c)

op_has : (P : List Primitive → Type 0) → P [] → (id : ℕ) (o : Op) (n : ℕ) → StatementsHave P o.body → Each (Has P (record { 0 = id })) (op_made id o n).steps
op_has P none id o n i =
    let h : Here = record { op = record { 0 = id }; exit = record { 0 = n + 1 }; after = record { 0 = n + 1 }; line = o.line } in
    each_both (Has P h.op) (statements_made o.body h (n + 2) n).steps _ (statements_have P none o.body i h (n + 2) n) ((refl, none), tt)

-- ---- the operations of a file

-- the primitives of a step have what those of its operation have
abbrev pub IsOfOp : (Op → List Primitive → Type 0) → List Op → Step → Type 0
IsOfOp P ops s = (o : Op) × (slice_get ops s.op.0 ≡ Some o) × P o s.prims

of_op : (P : Op → List Primitive → Type 0) (ops : List Op) (id : ℕ) (o : Op) → slice_get ops id ≡ Some o → (s : Step) → Has (P o) (record { 0 = id }) s → IsOfOp P ops s
of_op P ops id o at s i = (o, ap (λ (x : OpId). slice_get ops x.0) i.0 ∙ at, i.1)

ops_have : (P : Op → List Primitive → Type 0) (ops : List Op) → ((o : Op) → P o []) → (id : ℕ) (os : List Op) (n : ℕ)
    → ((k : ℕ) (o : Op) → slice_get os k ≡ Some o → slice_get ops (id + k) ≡ Some o) → ((k : ℕ) (o : Op) → slice_get os k ≡ Some o → StatementsHave (P o) o.body)
    → Each (IsOfOp P ops) (ops_made id os n).steps
ops_have P ops none id [] n at i = tt
ops_have P ops none id (o ∷ os) n at i =
    let first = op_made id o n in
    let here : slice_get ops id ≡ Some o = subst (λ m. slice_get ops m ≡ Some o) (omega arith) (at 0 o refl) in
    each_both (IsOfOp P ops) first.steps (ops_made (id + 1) os (n + first.points)).steps
    (each_so (Has (P o) (record { 0 = id })) (IsOfOp P ops) (of_op P ops id o here) first.steps (op_has (P o) (none o) id o n (i 0 o refl)))
    (ops_have P ops none (id + 1) os (n + first.points) (λ k p e. subst (λ m. slice_get ops m ≡ Some p) (omega arith) (at (suc k) p e)) (λ k p e. i (suc k) p e))

-- each step of the flow of a file has what the statements of its operation put into steps
pub flow_steps_have : (P : Op → List Primitive → Type 0) (file : File) → ((o : Op) → P o []) → ((k : ℕ) (o : Op) → slice_get file.ops k ≡ Some o → StatementsHave (P o) o.body)
    → (k : ℕ) (s : Step) → slice_get (flow_of file).steps k ≡ Some s → IsOfOp P file.ops s
flow_steps_have P file none i =
    each_get (IsOfOp P file.ops) (made_of file).steps (ops_have P file.ops none 0 file.ops 0 (λ k o e. subst (λ m. slice_get file.ops m ≡ Some o) (omega arith) e) i)
