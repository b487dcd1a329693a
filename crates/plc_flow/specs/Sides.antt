-- The primitives of the two sides of a condition, and of a call.
use Rattle.std.specs.Prelude.{Bool, true, false, not, List, [], ◌∷◌, ◌++◌, Option, Some, None}
use Rattle.plc_base.specs.declared.ids.FuncId.{FuncId}
use Rattle.plc_lang.specs.declared.syntax.Primitive.{Primitive}
use Rattle.plc_lang.specs.declared.syntax.Primitive.TheVariants as prims
use Rattle.plc_lang.specs.declared.syntax.Rel.TheVariants as rels
use Rattle.plc_lang.specs.declared.syntax.Var.{Var}
use Rattle.plc_lang.specs.declared.syntax.Arg.{Arg}
use Rattle.plc_lang.specs.declared.syntax.Arg.TheVariants as args
use Rattle.plc_lang.specs.declared.syntax.Cond.{Cond}
use Rattle.plc_lang.specs.declared.syntax.Cond.TheVariants as conds

-- the opposite of a test; what is no test has none and stays. A test without a row here would be its own opposite,
-- which the law refuses that of a test and its opposite exactly one goes
abbrev pub opposite : Primitive → Primitive
opposite (prims.Eq p q) = prims.Ne p q
opposite (prims.Ne p q) = prims.Eq p q
opposite (prims.IsNull p) = prims.NotNull p
opposite (prims.NotNull p) = prims.IsNull p
opposite (prims.DataTest rels.Eq x e) = prims.DataTest rels.Ne x e
opposite (prims.DataTest rels.Ne x e) = prims.DataTest rels.Eq x e
opposite (prims.DataTest rels.Lt x e) = prims.DataTest rels.Ge x e
opposite (prims.DataTest rels.Ge x e) = prims.DataTest rels.Lt x e
opposite (prims.MarkTest p m) = prims.MarkTest p (not m)
opposite k = k

-- p == e, where nothing stands for null
abbrev pub equals : Var → Option Var → Primitive
equals p (Some q) = prims.Eq p q
equals p None = prims.IsNull p

-- p != e
abbrev pub differs : Var → Option Var → Primitive
differs p (Some q) = prims.Ne p q
differs p None = prims.NotNull p

-- p := e
abbrev pub becomes : Var → Option Var → Primitive
becomes p (Some q) = prims.Copy p q
becomes p None = prims.Null p

-- the claim that p is active, where it is made
abbrev pub claim : Bool → Var → List Primitive
claim true p = prims.Active p ∷ []
claim false p = []

-- the side on which the condition holds
abbrev pub true_side : Cond → List Primitive
true_side (conds.Test k) = k ∷ []
true_side (conds.Refresh k) = k ∷ []
true_side (conds.Cas active p old new) = claim active p ++ equals p old ∷ becomes p new ∷ []

-- the side on which it fails
abbrev pub false_side : Cond → List Primitive
false_side (conds.Test k) = opposite k ∷ []
false_side (conds.Refresh k) = []
false_side (conds.Cas active p old new) = claim active p ++ differs p old ∷ []

-- a call after the claim on its argument
abbrev pub call_side : Bool → FuncId → Arg → List Primitive
call_side active func (args.Var p) = claim active p ++ prims.Call func (args.Var p) ∷ []
call_side active func args.Null = prims.Call func args.Null ∷ []
call_side active func args.None = prims.Call func args.None ∷ []
