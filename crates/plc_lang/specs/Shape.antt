-- Which variables and fields primitives and statements may name: those that are there.
use Rattle.std.specs.Prelude.{ℕ, ◌+◌, ◌<◌, Option, Some, None, List, [], ◌∷◌, length, count_by}
use Rattle.plc_lang.specs.declared.syntax.Var.{Var}
use Rattle.plc_lang.specs.declared.syntax.Var.TheVariants.{Shared, Local}
use Rattle.plc_lang.specs.declared.syntax.Num.{Num}
use Rattle.plc_lang.specs.declared.syntax.Num.TheVariants.{Lit, Local as DataLocal}
use Rattle.plc_lang.specs.declared.syntax.Arg.{Arg}
use Rattle.plc_lang.specs.declared.syntax.Arg.TheVariants as args
use Rattle.plc_lang.specs.declared.syntax.Cond.{Cond}
use Rattle.plc_lang.specs.declared.syntax.Cond.TheVariants as conditions
use Rattle.plc_lang.specs.declared.syntax.Primitive.{Primitive}
use Rattle.plc_lang.specs.declared.syntax.Primitive.TheVariants.{Null, Copy, New, Load, Store, StoreNull}
use Rattle.plc_lang.specs.declared.syntax.Primitive.TheVariants.{DataSet, DataLoad, DataStore}
use Rattle.plc_lang.specs.declared.syntax.Primitive.TheVariants.{Eq, Ne, IsNull, NotNull, DataTest}
use Rattle.plc_lang.specs.declared.syntax.Primitive.TheVariants.{Refresh, RefreshLoad, RefreshStore, Call}
use Rattle.plc_lang.specs.declared.syntax.Primitive.TheVariants.{Done, Active, Ghost, Mark, Unmark, MarkTest}
use Rattle.plc_lang.specs.declared.syntax.Op.{Op}
use Rattle.plc_lang.specs.declared.syntax.File.{File}
use Rattle.plc_lang.specs.Statements.{Statement, One, Atomic, Call as CallStatement}
use Rattle.plc_lang.specs.Statements.{If, Choose, Loop, Break, Return, Skip, Label}
use Rattle.plc_lang.specs.Statements.{Statements, Empty, Then, Blocks, NoBlock, And}
use Rattle.plc_lang.specs.Locals.{is_pointer, is_parameter, is_other_data}

-- how many shared pointers, pointer locals, data locals and fields there are
pub record Shape : Type 0 where
  pub shared : ℕ
  pub pointers : ℕ
  pub values : ℕ
  pub fields : ℕ

-- what an operation of the file may name
abbrev pub shape_of : File → Op → Shape
shape_of file o = record {
  shared = length file.shared;
  pointers = count_by is_pointer o.locals;
  values = count_by is_parameter o.locals + count_by is_other_data o.locals;
  fields = length file.fields;
}

-- what `init` may name
abbrev pub init_shape : File → Shape
init_shape file = record { shared = length file.shared; pointers = 0; values = 0; fields = length file.fields }

-- a pointer variable that is there
abbrev pub VarIn : Shape → Var → Type 0
VarIn h (Shared i) = i < h.shared
VarIn h (Local v) = v < h.pointers

-- a number, or a data local that is there
abbrev pub NumIn : Shape → Num → Type 0
NumIn h (Lit n) = Unit {0}
NumIn h (DataLocal x) = x < h.values

-- an argument that is there, if it is a variable
abbrev pub ArgIn : Shape → Arg → Type 0
ArgIn h args.None = Unit {0}
ArgIn h args.Null = Unit {0}
ArgIn h (args.Var p) = VarIn h p

-- all that a primitive names is there
abbrev pub PrimitiveIn : Shape → Primitive → Type 0
PrimitiveIn h (Null p) = VarIn h p
PrimitiveIn h (Copy p q) = VarIn h p × VarIn h q
PrimitiveIn h (New p) = VarIn h p
PrimitiveIn h (Load p q f) = VarIn h p × VarIn h q × (f.0 < h.fields)
PrimitiveIn h (Store p f q) = VarIn h p × (f.0 < h.fields) × VarIn h q
PrimitiveIn h (StoreNull p f) = VarIn h p × (f.0 < h.fields)
PrimitiveIn h (DataSet x e) = (x < h.values) × NumIn h e
PrimitiveIn h (DataLoad x q f) = (x < h.values) × VarIn h q × (f.0 < h.fields)
PrimitiveIn h (DataStore p f e) = VarIn h p × (f.0 < h.fields) × NumIn h e
PrimitiveIn h (Eq p q) = VarIn h p × VarIn h q
PrimitiveIn h (Ne p q) = VarIn h p × VarIn h q
PrimitiveIn h (IsNull p) = VarIn h p
PrimitiveIn h (NotNull p) = VarIn h p
PrimitiveIn h (DataTest r x e) = (x < h.values) × NumIn h e
PrimitiveIn h (Refresh p q) = (p < h.pointers) × VarIn h q
PrimitiveIn h (RefreshLoad p q f) = (p < h.pointers) × VarIn h q × (f.0 < h.fields)
PrimitiveIn h (RefreshStore p f q) = VarIn h p × (f.0 < h.fields) × VarIn h q
PrimitiveIn h (Mark p q) = VarIn h p × VarIn h q
PrimitiveIn h (Unmark p q) = VarIn h p × VarIn h q
PrimitiveIn h (MarkTest p m) = VarIn h p
PrimitiveIn h (Call f a) = ArgIn h a
PrimitiveIn h (Done f) = Unit {0}
PrimitiveIn h (Active p) = VarIn h p
PrimitiveIn h (Ghost p g v) = VarIn h p

-- all that several primitives name is there
abbrev pub PrimitivesIn : Shape → List Primitive → Type 0
PrimitivesIn h [] = Unit {0}
PrimitivesIn h (k ∷ ks) = PrimitiveIn h k × PrimitivesIn h ks

-- a pointer variable that is there, or null
abbrev pub VarOrNullIn : Shape → Option Var → Type 0
VarOrNullIn h (Some p) = VarIn h p
VarOrNullIn h None = Unit {0}

-- all that a condition names is there
abbrev pub CondIn : Shape → Cond → Type 0
CondIn h (conditions.Test k) = PrimitiveIn h k
CondIn h (conditions.Refresh k) = PrimitiveIn h k
CondIn h (conditions.Cas a p old new) = VarIn h p × VarOrNullIn h old × VarOrNullIn h new

-- all that statements name is there
abbrev mutual
  pub StatementIn : Shape → Statement → Type 0
  StatementIn h (One k) = PrimitiveIn h k
  StatementIn h (Atomic ks) = PrimitivesIn h ks
  StatementIn h (CallStatement f a b d) = ArgIn h a
  StatementIn h (If c y n) = CondIn h c × StatementsIn h y × StatementsIn h n
  StatementIn h (Choose bs) = BlocksIn h bs
  StatementIn h (Loop b) = StatementsIn h b
  StatementIn h Break = Unit {0}
  StatementIn h Return = Unit {0}
  StatementIn h Skip = Unit {0}
  StatementIn h (Label l) = Unit {0}

  pub StatementsIn : Shape → Statements → Type 0
  StatementsIn h Empty = Unit {0}
  StatementsIn h (Then l s b) = StatementIn h s × StatementsIn h b

  pub BlocksIn : Shape → Blocks → Type 0
  BlocksIn h NoBlock = Unit {0}
  BlocksIn h (And b bs) = StatementsIn h b × BlocksIn h bs
