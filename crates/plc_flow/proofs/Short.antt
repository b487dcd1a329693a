-- Where each atomic block has few primitives, so has each step.
use Rattle.std.proofs.Common.{◌≡◌, ℕ, ◌+◌, ◌≤◌, Bool, true, false, Some, List, [], ◌∷◌, ◌++◌, length, slice_get, arith}
use Rattle.plc_base.specs.declared.ids.FuncId.{FuncId}
use Rattle.plc_lang.specs.declared.syntax.Primitive.{Primitive}
use Rattle.plc_lang.specs.declared.syntax.Primitive.TheVariants as prims
use Rattle.plc_lang.specs.declared.syntax.Var.{Var}
use Rattle.plc_lang.specs.declared.syntax.Arg.{Arg}
use Rattle.plc_lang.specs.declared.syntax.Arg.TheVariants as args
use Rattle.plc_lang.specs.declared.syntax.Cond.{Cond}
use Rattle.plc_lang.specs.declared.syntax.Cond.TheVariants as conds
use Rattle.plc_lang.specs.declared.syntax.File.{File}
use Rattle.plc_lang.specs.Statements.{Statement, One, Atomic, Call, If, Choose, Loop, Break, Return, Skip, Label, Statements, Empty, Then, Blocks, NoBlock, And}
use Rattle.plc_lang.specs.Fit.{StatementFits, StatementsFit, BlocksFit, FileFits}
use Rattle.plc_flow.specs.declared.flow.Step.{Step}
use Rattle.plc_flow.specs.Sides.{claim, equals, differs, becomes, true_side, false_side, call_side}
use Rattle.plc_flow.specs.Lowering.{flow_of}
use Rattle.plc_flow.specs.WellFormed.{most_step_primitives}
use Rattle.plc_flow.proofs.Walk.{StatementHas, StatementsHave, BlocksHave, flow_steps_have}

-- few primitives
abbrev IsShort : List Primitive → Type 0
IsShort ks = length ks ≤ most_step_primitives

claimed_short : (active : Bool) (p : Var) (ks : List Primitive) → length (claim active p ++ ks) ≤ 1 + length ks
claimed_short true p ks = omega arith
claimed_short false p ks = omega arith

true_short : (cond : Cond) → IsShort (true_side cond)
true_short (conds.Test k) = omega arith
true_short (conds.Refresh k) = omega arith
true_short (conds.Cas active p old new) = omega (arith, claimed_short active p (equals p old ∷ becomes p new ∷ []))

false_short : (cond : Cond) → IsShort (false_side cond)
false_short (conds.Test k) = omega arith
false_short (conds.Refresh k) = omega arith
false_short (conds.Cas active p old new) = omega (arith, claimed_short active p (differs p old ∷ []))

call_short : (active : Bool) (func : FuncId) (arg : Arg) → IsShort (call_side active func arg)
call_short active func (args.Var p) = omega (arith, claimed_short active p (prims.Call func (args.Var p) ∷ []))
call_short active func args.Null = omega arith
call_short active func args.None = omega arith

mutual
  statement_short : (s : Statement) → StatementFits s → StatementHas IsShort s
  statement_short (One k) f = omega arith
  statement_short (Atomic ks) f = omega (arith, f)
  statement_short Skip f = tt
  statement_short (Call func arg active during) f = (call_short active func arg, omega arith)
  statement_short (Label l) f = tt
  statement_short (If cond y n) f = (true_short cond, false_short cond, statements_short y f.0, statements_short n f.1)
  statement_short (Choose bs) f = blocks_short bs f
  statement_short (Loop b) f = statements_short b f
  statement_short Break f = tt
  statement_short Return f = tt

  statements_short : (b : Statements) → StatementsFit b → StatementsHave IsShort b
  statements_short Empty f = tt
  statements_short (Then line s b) f = (statement_short s f.0, statements_short b f.1)

  blocks_short : (bs : Blocks) → BlocksFit bs → BlocksHave IsShort bs
  blocks_short NoBlock f = tt
  blocks_short (And b bs) f = (statements_short b f.0, blocks_short bs f.1)

-- each step of the flow of a file within the limits has few primitives
pub flow_steps_short : (file : File) → FileFits file → (k : ℕ) (s : Step) → slice_get (flow_of file).steps k ≡ Some s → length s.prims ≤ most_step_primitives
flow_steps_short file fits k s at = (flow_steps_have (λ o. IsShort) file (λ o. omega arith) (λ n o e. statements_short o.body (fits.each_op n o e).body) k s at).2
