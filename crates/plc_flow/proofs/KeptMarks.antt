-- The steps that statements make speak of marks exactly where the statements do. No side of a condition and no call
-- adds a primitive that does, and the opposite of a mark test is one, which stands beside the test itself.
use Rattle.std.proofs.Common.{◌≡◌, ℕ, Bool, true, false, ◌||◌, ◌+◌, Option, Some, None, List, [], ◌∷◌, ◌++◌}
use Rattle.std.proofs.Common.{refl, sym, ap, ◌∙◌}
use Rattle.std.specs.List.{list_any}
use Rattle.std.proofs.lemmas.List.Folds.{list_any-append}
use Rattle.plc_base.proofs.Booleans.{or_false}
use Rattle.plc_base.specs.declared.ids.FuncId.{FuncId}
use Rattle.plc_base.specs.declared.ids.PointId.{PointId}
use Rattle.plc_lang.specs.declared.syntax.Primitive.{Primitive}
use Rattle.plc_lang.specs.declared.syntax.Primitive.TheVariants as prims
use Rattle.plc_lang.specs.declared.syntax.Rel.TheVariants as rels
use Rattle.plc_lang.specs.declared.syntax.Var.{Var}
use Rattle.plc_lang.specs.declared.syntax.Arg.{Arg}
use Rattle.plc_lang.specs.declared.syntax.Arg.TheVariants as args
use Rattle.plc_lang.specs.declared.syntax.Cond.{Cond}
use Rattle.plc_lang.specs.declared.syntax.Cond.TheVariants as conds
use Rattle.plc_lang.specs.declared.syntax.Op.{Op}
use Rattle.plc_lang.specs.Statements.{Statement, One, Atomic, Call, If, Choose, Loop, Break, Return, Skip, Label}
use Rattle.plc_lang.specs.Statements.{Statements, Empty, Then, Blocks, NoBlock, And}
use Rattle.plc_lang.specs.Marks.{speaks_of_marks, speak_of_marks, condition_uses_marks, statement_uses_marks}
use Rattle.plc_lang.specs.Marks.{statements_use_marks, blocks_use_marks}
use Rattle.plc_flow.specs.declared.flow.Step.{Step}
use Rattle.plc_flow.specs.declared.builder.Here.{Here}
use Rattle.plc_flow.specs.Sides.{opposite, claim, equals, differs, becomes, true_side, false_side, call_side}
use Rattle.plc_flow.specs.Lowering.{Lowered, joins, side_made, if_made, statement_made, statements_made, blocks_made}
use Rattle.plc_flow.specs.Lowering.{op_made, ops_made}
use Rattle.plc_flow.specs.Laws.{LoweringKeepsMarks}

-- ---- lists

-- one of the steps speaks of marks
abbrev steps_use_marks : List Step → Bool
steps_use_marks steps = list_any (λ (s : Step). speak_of_marks s.prims) steps

steps_both : (xs ys : List Step) → steps_use_marks (xs ++ ys) ≡ (steps_use_marks xs || steps_use_marks ys)
steps_both = list_any-append (λ (s : Step). speak_of_marks s.prims)

-- steps that say nothing of marks change nothing at the end
then_silent : (xs ys : List Step) → steps_use_marks ys ≡ false → steps_use_marks (xs ++ ys) ≡ steps_use_marks xs
then_silent xs ys e = steps_both xs ys ∙ ap (λ b. steps_use_marks xs || b) e ∙ or_false (steps_use_marks xs)

-- ---- the sides of a condition, and calls

opposite_speaks : (k : Primitive) → speaks_of_marks (opposite k) ≡ speaks_of_marks k
opposite_speaks (prims.DataTest rels.Eq x e) = refl
opposite_speaks (prims.DataTest rels.Ne x e) = refl
opposite_speaks (prims.DataTest rels.Lt x e) = refl
opposite_speaks (prims.DataTest rels.Ge x e) = refl
opposite_speaks k = refl

claimed_silent : (active : Bool) (p : Var) (ks : List Primitive) → speak_of_marks ks ≡ false
    → speak_of_marks (claim active p ++ ks) ≡ false
claimed_silent true p ks e = e
claimed_silent false p ks e = e

written_silent : (p : Var) (old new : Option Var) → speak_of_marks (equals p old ∷ becomes p new ∷ []) ≡ false
written_silent p (Some a) (Some b) = refl
written_silent p (Some a) None = refl
written_silent p None (Some b) = refl
written_silent p None None = refl

differing_silent : (p : Var) (old : Option Var) → speak_of_marks (differs p old ∷ []) ≡ false
differing_silent p (Some a) = refl
differing_silent p None = refl

true_side_speaks : (c : Cond) → speak_of_marks (true_side c) ≡ condition_uses_marks c
true_side_speaks (conds.Test k) = or_false (speaks_of_marks k)
true_side_speaks (conds.Refresh k) = or_false (speaks_of_marks k)
true_side_speaks (conds.Cas active p old new) = claimed_silent active p _ (written_silent p old new)

-- the false side speaks of marks only where the true side does
false_side_speaks : (c : Cond) → speak_of_marks (false_side c) ≡ true → condition_uses_marks c ≡ true
false_side_speaks (conds.Test k) e = sym (or_false (speaks_of_marks (opposite k)) ∙ opposite_speaks k) ∙ e
false_side_speaks (conds.Refresh k) e = cc
false_side_speaks (conds.Cas active p old new) e =
    let no : true ≡ false = sym e ∙ claimed_silent active p (differs p old ∷ []) (differing_silent p old) in cc

call_silent : (active : Bool) (f : FuncId) (a : Arg) → speak_of_marks (call_side active f a) ≡ false
call_silent active f (args.Var p) = claimed_silent active p (prims.Call f (args.Var p) ∷ []) refl
call_silent active f args.Null = refl
call_silent active f args.None = refl

-- two sides, of which the second adds nothing of its own
two_sides : (t f y n : Bool) → (f ≡ true → t ≡ true) → (t || y || (f || n)) ≡ (t || y || n)
two_sides true f y n i = refl
two_sides false false y n i = refl
two_sides false true y n i = let e = i refl in cc

-- ---- statements

-- what is made speaks of marks where the truth value says so
abbrev Speaks : Bool → Lowered → Type 0
Speaks b l = (h : Here) (n c : ℕ) → steps_use_marks (l h n c).steps ≡ b

joins_silent : (h : Here) (ends : List PointId) (j : ℕ) → steps_use_marks (joins h ends j) ≡ false
joins_silent h [] j = refl
joins_silent h (d ∷ ends) j = joins_silent h ends j

side_speaks : (b : Bool) (ks : List Primitive) (block : Lowered) → Speaks b block
    → Speaks (speak_of_marks ks || b) (side_made ks block)
side_speaks b ks block is h n c = ap (λ x. speak_of_marks ks || x) (is h (n + 1) n)

if_speaks : (a b : Bool) (yes_side no_side : Lowered) → Speaks a yes_side → Speaks b no_side
    → Speaks (a || b) (if_made yes_side no_side)
if_speaks a b yes_side no_side x y h n c =
    let one = yes_side h n c in
    let two = no_side h (n + one.points) c in
    then_silent (one.steps ++ two.steps) _ refl ∙ steps_both one.steps two.steps
    ∙ (λ i. x h n c i || y h (n + one.points) c i)

mutual
  statement_speaks : (s : Statement) → Speaks (statement_uses_marks s) (statement_made s)
  statement_speaks (One k) h n c = or_false (speaks_of_marks k || false) ∙ or_false (speaks_of_marks k)
  statement_speaks (Atomic ks) h n c = or_false (speak_of_marks ks)
  statement_speaks Skip h n c = refl
  statement_speaks (Call f a active during) h n c = ap (λ b. b || false) (call_silent active f a)
  statement_speaks (Label l) h n c = refl
  statement_speaks (If k y z) h n c =
      if_speaks _ _ (side_made (true_side k) (statements_made y)) (side_made (false_side k) (statements_made z))
      (side_speaks _ (true_side k) (statements_made y) (statements_speak y))
      (side_speaks _ (false_side k) (statements_made z) (statements_speak z)) h n c
      ∙ ap (λ b. b || statements_use_marks y || (speak_of_marks (false_side k) || statements_use_marks z))
      (true_side_speaks k)
      ∙ two_sides (condition_uses_marks k) (speak_of_marks (false_side k)) _ _ (false_side_speaks k)
  statement_speaks (Choose bs) h n c =
      let all = blocks_made bs h n c in
      then_silent all.steps _ (joins_silent h all.ends (n + all.points)) ∙ blocks_speak bs h n c
  statement_speaks (Loop b) h n c =
      let g : Here = record h { after = record { 0 = n + 1 } } in
      then_silent (statements_made b g (n + 2) n).steps _ refl ∙ statements_speak b g (n + 2) n
  statement_speaks Break h n c = refl
  statement_speaks Return h n c = refl

  statements_speak : (b : Statements) → Speaks (statements_use_marks b) (statements_made b)
  statements_speak Empty h n c = refl
  statements_speak (Then line s b) h n c =
      let g : Here = record h { line = line } in
      let one = statement_made s g n c in
      steps_both one.steps (statements_made b h (n + one.points) one.last).steps
      ∙ (λ i. statement_speaks s g n c i || statements_speak b h (n + one.points) one.last i)

  blocks_speak : (bs : Blocks) (h : Here) (n c : ℕ)
      → steps_use_marks (blocks_made bs h n c).steps ≡ blocks_use_marks bs
  blocks_speak NoBlock h n c = refl
  blocks_speak (And b bs) h n c =
      let one = side_made [] (statements_made b) h n c in
      steps_both one.steps (blocks_made bs h (n + one.points) c).steps
      ∙ (λ i. side_speaks _ [] (statements_made b) (statements_speak b) h n c i
      || blocks_speak bs h (n + one.points) c i)

-- ---- operations and files

op_speaks : (id : ℕ) (o : Op) (n : ℕ) → steps_use_marks (op_made id o n).steps ≡ statements_use_marks o.body
op_speaks id o n =
    let exit : PointId = record { 0 = n + 1 } in
    let h : Here = record { op = record { 0 = id }; exit = exit; after = exit; line = o.line } in
    then_silent (statements_made o.body h (n + 2) n).steps _ refl ∙ statements_speak o.body h (n + 2) n

ops_speak : (id : ℕ) (os : List Op) (n : ℕ)
    → steps_use_marks (ops_made id os n).steps ≡ list_any (λ (o : Op). statements_use_marks o.body) os
ops_speak id [] n = refl
ops_speak id (o ∷ os) n =
    let first = op_made id o n in
    steps_both first.steps (ops_made (id + 1) os (n + first.points)).steps
    ∙ (λ i. op_speaks id o n i || ops_speak (id + 1) os (n + first.points) i)

pub marks_kept : LoweringKeepsMarks
marks_kept file = ap (λ b. speak_of_marks file.init || b) (ops_speak 0 file.ops 0)
