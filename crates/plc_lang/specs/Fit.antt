-- What every file keeps that was read: the limits, and that what its primitives name is there.
use Rattle.std.specs.Prelude.{◌≡◌, ℕ, ◌+◌, ◌≤◌, length, slice_get, Some}
use Rattle.plc_base.specs.Limits.{most}
use Rattle.plc_base.specs.declared.limits.What1.TheVariants as limits
use Rattle.plc_lang.specs.declared.syntax.Ghost.{Ghost}
use Rattle.plc_lang.specs.declared.syntax.File.{File}
use Rattle.plc_lang.specs.declared.syntax.Op.{Op}
use Rattle.plc_lang.specs.Shape.{shape_of, init_shape, PrimitivesIn, StatementsIn}
use Rattle.plc_lang.specs.Statements.{Statement, One, Atomic, Call, If, Choose, Loop, Break, Return, Skip, Label}
use Rattle.plc_lang.specs.Statements.{Statements, Empty, Then, Blocks, NoBlock, And}

-- the functions of a file: those that it may declare, and `retire`
abbrev pub most_functions : ℕ
most_functions = most limits.Calls + 1

-- every atomic block in these statements is a step of few enough primitives
abbrev mutual
  pub StatementFits : Statement → Type 0
  StatementFits (One k) = Unit {0}
  StatementFits (Atomic ks) = length ks ≤ most limits.Prims
  StatementFits (Call f a b d) = Unit {0}
  StatementFits (If c y n) = StatementsFit y × StatementsFit n
  StatementFits (Choose bs) = BlocksFit bs
  StatementFits (Loop b) = StatementsFit b
  StatementFits Break = Unit {0}
  StatementFits Return = Unit {0}
  StatementFits Skip = Unit {0}
  StatementFits (Label l) = Unit {0}

  pub StatementsFit : Statements → Type 0
  StatementsFit Empty = Unit {0}
  StatementsFit (Then l s b) = StatementFits s × StatementsFit b

  pub BlocksFit : Blocks → Type 0
  BlocksFit NoBlock = Unit {0}
  BlocksFit (And b bs) = StatementsFit b × BlocksFit bs

-- an operation within the limits
pub record OpFits (o : Op) : Type 0 where
  pub locals : length o.locals ≤ most limits.Locals
  pub body : StatementsFit o.body

-- the limits on what a file declares
pub record FileFits (file : File) : Type 0 where
  pub fields : length file.fields ≤ most limits.Fields
  pub shared : length file.shared ≤ most limits.Shared
  pub funcs : length file.funcs ≤ most_functions
  pub ghosts : length file.ghosts ≤ most limits.Ghosts
  pub values : (k : ℕ) (g : Ghost) → slice_get file.ghosts k ≡ Some g → length g.values ≤ most limits.Values
  pub init : length file.init ≤ most limits.Prims
  pub ops : length file.ops ≤ most limits.Ops
  pub each_op : (k : ℕ) (o : Op) → slice_get file.ops k ≡ Some o → OpFits o
  pub labels : length file.labels ≤ most limits.Labels

-- `init` and the operations name what is there
pub record NamesWhatIsThere (file : File) : Type 0 where
  pub init : PrimitivesIn (init_shape file) file.init
  pub each_op : (k : ℕ) (o : Op) → slice_get file.ops k ≡ Some o → StatementsIn (shape_of file o) o.body
