-- Where statements name what is there, so does each step that is made of them.
use Rattle.std.proofs.Common.{◌≡◌, ℕ, Bool, true, false, Option, Some, None, List, ◌++◌, slice_get, sym, ◌∙◌, subst}
use Rattle.plc_base.specs.declared.ids.FuncId.{FuncId}
use Rattle.plc_lang.specs.declared.syntax.Primitive.{Primitive}
use Rattle.plc_lang.specs.declared.syntax.Primitive.TheVariants as prims
use Rattle.plc_lang.specs.declared.syntax.Rel.TheVariants as rels
use Rattle.plc_lang.specs.declared.syntax.Var.{Var}
use Rattle.plc_lang.specs.declared.syntax.Arg.{Arg}
use Rattle.plc_lang.specs.declared.syntax.Arg.TheVariants as args
use Rattle.plc_lang.specs.declared.syntax.Cond.{Cond}
use Rattle.plc_lang.specs.declared.syntax.Cond.TheVariants as conds
use Rattle.plc_lang.specs.declared.syntax.Op.{Op}
use Rattle.plc_lang.specs.declared.syntax.File.{File}
use Rattle.plc_lang.specs.Statements.{Statement, One, Atomic, Call, If, Choose, Loop, Break, Return, Skip, Label, Statements, Empty, Then, Blocks, NoBlock, And}
use Rattle.plc_lang.specs.Shape.{Shape, shape_of, VarIn, VarOrNullIn, ArgIn, PrimitiveIn, PrimitivesIn, CondIn, StatementIn, StatementsIn, BlocksIn}
use Rattle.plc_lang.specs.Fit.{NamesWhatIsThere}
use Rattle.plc_flow.specs.declared.flow.Step.{Step}
use Rattle.plc_flow.specs.Sides.{opposite, claim, equals, differs, becomes, true_side, false_side, call_side}
use Rattle.plc_flow.specs.Lowering.{flow_of}
use Rattle.plc_flow.proofs.Walk.{StatementHas, StatementsHave, BlocksHave, flow_steps_have}

-- ---- the two sides of a condition, and calls

opposite_in : (h : Shape) (k : Primitive) → PrimitiveIn h k → PrimitiveIn h (opposite k)
opposite_in h (prims.Eq p q) i = i
opposite_in h (prims.Ne p q) i = i
opposite_in h (prims.IsNull p) i = i
opposite_in h (prims.NotNull p) i = i
opposite_in h (prims.DataTest rels.Eq x e) i = i
opposite_in h (prims.DataTest rels.Ne x e) i = i
opposite_in h (prims.DataTest rels.Lt x e) i = i
opposite_in h (prims.DataTest rels.Ge x e) i = i
opposite_in h (prims.Null p) i = i
opposite_in h (prims.Copy p q) i = i
opposite_in h (prims.New p) i = i
opposite_in h (prims.Load p q f) i = i
opposite_in h (prims.Store p f q) i = i
opposite_in h (prims.StoreNull p f) i = i
opposite_in h (prims.DataSet x e) i = i
opposite_in h (prims.DataLoad x q f) i = i
opposite_in h (prims.DataStore p f e) i = i
opposite_in h (prims.Refresh p q) i = i
opposite_in h (prims.RefreshLoad p q f) i = i
opposite_in h (prims.RefreshStore p f q) i = i
opposite_in h (prims.Mark p q) i = i
opposite_in h (prims.Unmark p q) i = i
opposite_in h (prims.MarkTest p m) i = i
opposite_in h (prims.Call f a) i = i
opposite_in h (prims.Done f) i = i
opposite_in h (prims.Active p) i = i
opposite_in h (prims.Ghost p g v) i = i

equals_in : (h : Shape) (p : Var) (e : Option Var) → VarIn h p → VarOrNullIn h e → PrimitiveIn h (equals p e)
equals_in h p (Some q) i j = (i, j)
equals_in h p None i j = i

differs_in : (h : Shape) (p : Var) (e : Option Var) → VarIn h p → VarOrNullIn h e → PrimitiveIn h (differs p e)
differs_in h p (Some q) i j = (i, j)
differs_in h p None i j = i

becomes_in : (h : Shape) (p : Var) (e : Option Var) → VarIn h p → VarOrNullIn h e → PrimitiveIn h (becomes p e)
becomes_in h p (Some q) i j = (i, j)
becomes_in h p None i j = i

claimed_in : (h : Shape) (active : Bool) (p : Var) (ks : List Primitive) → VarIn h p → PrimitivesIn h ks → PrimitivesIn h (claim active p ++ ks)
claimed_in h true p ks i j = (i, j)
claimed_in h false p ks i j = j

true_in : (h : Shape) (c : Cond) → CondIn h c → PrimitivesIn h (true_side c)
true_in h (conds.Test k) i = (i, tt)
true_in h (conds.Refresh k) i = (i, tt)
true_in h (conds.Cas active p old new) i = claimed_in h active p _ i.0 (equals_in h p old i.0 i.1, (becomes_in h p new i.0 i.2, tt))

false_in : (h : Shape) (c : Cond) → CondIn h c → PrimitivesIn h (false_side c)
false_in h (conds.Test k) i = (opposite_in h k i, tt)
false_in h (conds.Refresh k) i = tt
false_in h (conds.Cas active p old new) i = claimed_in h active p _ i.0 (differs_in h p old i.0 i.1, tt)

call_in : (h : Shape) (active : Bool) (func : FuncId) (arg : Arg) → ArgIn h arg → PrimitivesIn h (call_side active func arg)
call_in h active func (args.Var p) i = claimed_in h active p _ i (i, tt)
call_in h active func args.Null i = (tt, tt)
call_in h active func args.None i = (tt, tt)

-- ---- statements

mutual
  statement_in : (h : Shape) (s : Statement) → StatementIn h s → StatementHas (PrimitivesIn h) s
  statement_in h (One k) i = (i, tt)
  statement_in h (Atomic ks) i = i
  statement_in h Skip i = tt
  statement_in h (Call func arg active during) i = (call_in h active func arg i, (tt, tt))
  statement_in h (Label l) i = tt
  statement_in h (If cond y n) i = (true_in h cond i.0, false_in h cond i.0, statements_in h y i.1, statements_in h n i.2)
  statement_in h (Choose bs) i = blocks_in h bs i
  statement_in h (Loop b) i = statements_in h b i
  statement_in h Break i = tt
  statement_in h Return i = tt

  statements_in : (h : Shape) (b : Statements) → StatementsIn h b → StatementsHave (PrimitivesIn h) b
  statements_in h Empty i = tt
  statements_in h (Then line s b) i = (statement_in h s i.0, statements_in h b i.1)

  blocks_in : (h : Shape) (bs : Blocks) → BlocksIn h bs → BlocksHave (PrimitivesIn h) bs
  blocks_in h NoBlock i = tt
  blocks_in h (And b bs) i = (statements_in h b i.0, blocks_in h bs i.1)

some_same : (a b : Op) → Some a ≡ Some b → a ≡ b
some_same a b e = cc

-- each step of the flow of a file that was read does
pub flow_steps_named : (file : File) → NamesWhatIsThere file → (k : ℕ) (s : Step) (o : Op) → slice_get (flow_of file).steps k ≡ Some s → slice_get file.ops s.op.0 ≡ Some o → PrimitivesIn (shape_of file o) s.prims
flow_steps_named file named k s o there at =
    let r = flow_steps_have (λ o. PrimitivesIn (shape_of file o)) file (λ o. tt) (λ n o e. statements_in (shape_of file o) o.body (named.each_op n o e)) k s there in
    let same : r.0 ≡ o = some_same r.0 o (sym r.1 ∙ at) in
    subst (λ q. PrimitivesIn (shape_of file q) s.prims) same r.2
