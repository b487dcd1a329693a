-- What else every file keeps that was read, beside the limits and that what it names is there: each thing stands
-- where its kind may stand.
use Rattle.std.specs.Prelude.{◌≡◌, ◌≤◌, ◌<◌, ◌+◌, ℕ, Bool, true, false, not, ◌&&◌}
use Rattle.std.specs.Prelude.{List, [], ◌∷◌, ◌++◌, length, filter, count_by, slice_get, Some}
use Rattle.std.specs.List.{list_any, concat, range_with_len}
use Rattle.plc_base.specs.Functions.{retire, is_retire}
use Rattle.plc_base.specs.declared.ids.FieldId.{FieldId}
use Rattle.plc_base.specs.declared.ids.FuncId.{FuncId}
use Rattle.plc_lang.specs.declared.syntax.Arg.{Arg}
use Rattle.plc_lang.specs.declared.syntax.Arg.TheVariants as args
use Rattle.plc_lang.specs.declared.syntax.Cond.{Cond}
use Rattle.plc_lang.specs.declared.syntax.Cond.TheVariants as conditions
use Rattle.plc_lang.specs.declared.syntax.Field.{Field}
use Rattle.plc_lang.specs.declared.syntax.Func.{Func}
use Rattle.plc_lang.specs.declared.syntax.Ghost.{Ghost as AuxiliaryField}
use Rattle.plc_lang.specs.declared.syntax.GhostVal.{GhostVal}
use Rattle.plc_lang.specs.declared.syntax.GhostVal.TheVariants as values
use Rattle.plc_lang.specs.declared.syntax.Local.{Local}
use Rattle.plc_lang.specs.declared.syntax.Op.{Op}
use Rattle.plc_lang.specs.declared.syntax.File.{File}
use Rattle.plc_lang.specs.declared.syntax.Primitive.{Primitive}
use Rattle.plc_lang.specs.declared.syntax.Primitive.TheVariants.{Null, Copy, New, Load, Store, StoreNull}
use Rattle.plc_lang.specs.declared.syntax.Primitive.TheVariants.{DataSet, DataLoad, DataStore}
use Rattle.plc_lang.specs.declared.syntax.Primitive.TheVariants.{Eq, Ne, IsNull, NotNull, DataTest}
use Rattle.plc_lang.specs.declared.syntax.Primitive.TheVariants.{Refresh, RefreshLoad, RefreshStore, Call}
use Rattle.plc_lang.specs.declared.syntax.Primitive.TheVariants.{Done, Active, Ghost, Mark, Unmark, MarkTest}
use Rattle.plc_lang.specs.Allocation.{is_new}
use Rattle.plc_lang.specs.Labels.{labels_by_op}
use Rattle.plc_lang.specs.Locals.{is_pointer, is_parameter}
use Rattle.plc_lang.specs.Statements.{Statement, One, Atomic, Call as CallStatement}
use Rattle.plc_lang.specs.Statements.{If, Choose, Loop, Break, Return, Skip, Label}
use Rattle.plc_lang.specs.Statements.{Statements, Empty, Then, Blocks, NoBlock, And}

-- ---- what a primitive names

-- a field that is there: a pointer field or a data field, as is asked
abbrev pub FieldIs : File → Bool → FieldId → Type 0
FieldIs file wanted f = (d : Field) × (slice_get file.fields f.0 ≡ Some d) × (d.pointer ≡ wanted)

-- a function that is declared: one that takes a pointer or one that takes none, as is asked
abbrev pub FunctionIs : File → Bool → FuncId → Type 0
FunctionIs file wanted f = (d : Func) × (slice_get file.funcs f.0 ≡ Some d) × (d.pointer ≡ wanted)

-- an argument stands exactly where the function takes a pointer; `retire` is never called with null
abbrev pub CallIsWellSorted : File → FuncId → Arg → Type 0
CallIsWellSorted file f args.None = FunctionIs file false f
CallIsWellSorted file f args.Null = FunctionIs file true f × (is_retire f ≡ false)
CallIsWellSorted file f (args.Var p) = FunctionIs file true f

-- one of the field's values, or a thread where the field has none
abbrev pub ValueFits : AuxiliaryField → GhostVal → Type 0
ValueFits g (values.Value v) = v < length g.values
ValueFits g values.Me = g.values ≡ []
ValueFits g values.None = g.values ≡ []

-- an auxiliary field that is there, and a value that fits it
abbrev pub WriteIsWellSorted : File → ℕ → GhostVal → Type 0
WriteIsWellSorted file g v = (d : AuxiliaryField) × (slice_get file.ghosts g ≡ Some d) × ValueFits d v

-- fields, functions and auxiliary fields are of the kind that their place asks
abbrev pub IsWellSorted : File → Primitive → Type 0
IsWellSorted file (Null p) = Unit {0}
IsWellSorted file (Copy p q) = Unit {0}
IsWellSorted file (New p) = Unit {0}
IsWellSorted file (Load p q f) = FieldIs file true f
IsWellSorted file (Store p f q) = FieldIs file true f
IsWellSorted file (StoreNull p f) = FieldIs file true f
IsWellSorted file (DataSet x e) = Unit {0}
IsWellSorted file (DataLoad x q f) = FieldIs file false f
IsWellSorted file (DataStore p f e) = FieldIs file false f
IsWellSorted file (Eq p q) = Unit {0}
IsWellSorted file (Ne p q) = Unit {0}
IsWellSorted file (IsNull p) = Unit {0}
IsWellSorted file (NotNull p) = Unit {0}
IsWellSorted file (DataTest r x e) = Unit {0}
IsWellSorted file (Refresh p q) = Unit {0}
IsWellSorted file (RefreshLoad p q f) = FieldIs file true f
IsWellSorted file (RefreshStore p f q) = FieldIs file true f
IsWellSorted file (Mark p q) = Unit {0}
IsWellSorted file (Unmark p q) = Unit {0}
IsWellSorted file (MarkTest p m) = Unit {0}
IsWellSorted file (Call f a) = CallIsWellSorted file f a
IsWellSorted file (Done f) = f.0 < length file.funcs
IsWellSorted file (Active p) = Unit {0}
IsWellSorted file (Ghost p g v) = WriteIsWellSorted file g v

-- several primitives are well-sorted
abbrev pub AreWellSorted : File → List Primitive → Type 0
AreWellSorted file [] = Unit {0}
AreWellSorted file (k ∷ ks) = IsWellSorted file k × AreWellSorted file ks

-- ---- kinds of primitives. A primitive without a row is of no kind. Where it should be a claim, a test, a refresh or
-- one that `init` may have, what is read isn't well-sorted, and the proofs of the parser and of the flow refuse that; a
-- call without a row is refused by nothing

-- calls and returns of reclaimer functions
abbrev pub is_call : Primitive → Bool
is_call (Call f a) = true
is_call (Done f) = true
is_call k = false

-- claims
abbrev pub is_claim : Primitive → Bool
is_claim (Active p) = true
is_claim k = false

-- tests, of which each has an opposite
abbrev pub is_test : Primitive → Bool
is_test (Eq p q) = true
is_test (Ne p q) = true
is_test (IsNull p) = true
is_test (NotNull p) = true
is_test (DataTest r x e) = true
is_test (MarkTest p m) = true
is_test k = false

-- refreshes of a variable
abbrev pub is_refresh : Primitive → Bool
is_refresh (Refresh p q) = true
is_refresh (RefreshLoad p q f) = true
is_refresh k = false

-- whether the acting thread is put into an auxiliary field
abbrev pub is_me : GhostVal → Bool
is_me values.Me = true
is_me (values.Value v) = false
is_me values.None = false

-- assignments and auxiliary writes without `me`, of which `init` is made
abbrev pub is_initial : Primitive → Bool
is_initial (Null p) = true
is_initial (Copy p q) = true
is_initial (New p) = true
is_initial (Load p q f) = true
is_initial (Store p f q) = true
is_initial (StoreNull p f) = true
is_initial (DataSet x e) = true
is_initial (DataLoad x q f) = true
is_initial (DataStore p f e) = true
is_initial (Mark p q) = true
is_initial (Unmark p q) = true
is_initial (Ghost p g v) = not (is_me v)
is_initial k = false

-- ---- steps, where claims may stand in front of what the text has

-- at most one primitive allocates; beside a call or a return there are claims alone
pub record StepIsWellSorted (file : File) (ks : List Primitive) : Type 0 where
  pub each : AreWellSorted file ks
  pub one_new : count_by is_new ks ≤ 1
  pub calls_alone : list_any is_call ks ≡ true → count_by (λ k. not (is_claim k)) ks ≡ 1

-- `init`
pub record InitIsWellSorted (file : File) : Type 0 where
  pub each : AreWellSorted file file.init
  pub one_new : count_by is_new file.init ≤ 1
  pub initial : list_any (λ k. not (is_initial k)) file.init ≡ false

-- ---- statements, within a loop or not

-- a test is one, a refresh is one of a variable
abbrev pub ConditionIsWellSorted : File → Cond → Type 0
ConditionIsWellSorted file (conditions.Test k) = is_test k ≡ true
ConditionIsWellSorted file (conditions.Refresh k) = IsWellSorted file k × (is_refresh k ≡ true)
ConditionIsWellSorted file (conditions.Cas a p old new) = Unit {0}

-- an argument that is claimed to be active is a variable
abbrev pub ClaimFits : Bool → Arg → Type 0
ClaimFits claimed (args.Var p) = Unit {0}
ClaimFits claimed args.Null = claimed ≡ false
ClaimFits claimed args.None = claimed ≡ false

-- an atomic block: no call within, and one `new` at most
pub record BlockIsWellSorted (file : File) (ks : List Primitive) : Type 0 where
  pub each : AreWellSorted file ks
  pub one_new : count_by is_new ks ≤ 1
  pub no_call : list_any is_call ks ≡ false

-- how many blocks a choice has
abbrev pub count_of_blocks : Blocks → ℕ
count_of_blocks NoBlock = 0
count_of_blocks (And b bs) = 1 + count_of_blocks bs

-- `break` in a loop alone, choices of two blocks or more
abbrev mutual
  pub StatementIsWellSorted : File → Bool → Statement → Type 0
  StatementIsWellSorted file in_loop (One k) = IsWellSorted file k × (is_call k ≡ false)
  StatementIsWellSorted file in_loop (Atomic ks) = BlockIsWellSorted file ks
  StatementIsWellSorted file in_loop (CallStatement f a claimed d) = CallIsWellSorted file f a × ClaimFits claimed a
  StatementIsWellSorted file in_loop (If c y n) =
      ConditionIsWellSorted file c × StatementsAreWellSorted file in_loop y × StatementsAreWellSorted file in_loop n
  StatementIsWellSorted file in_loop (Choose bs) = (2 ≤ count_of_blocks bs) × BlocksAreWellSorted file in_loop bs
  StatementIsWellSorted file in_loop (Loop b) = StatementsAreWellSorted file true b
  StatementIsWellSorted file in_loop Break = in_loop ≡ true
  StatementIsWellSorted file in_loop Return = Unit {0}
  StatementIsWellSorted file in_loop Skip = Unit {0}
  StatementIsWellSorted file in_loop (Label l) = Unit {0}

  pub StatementsAreWellSorted : File → Bool → Statements → Type 0
  StatementsAreWellSorted file in_loop Empty = Unit {0}
  StatementsAreWellSorted file in_loop (Then l s b) = StatementIsWellSorted file in_loop s
      × StatementsAreWellSorted file in_loop b

  pub BlocksAreWellSorted : File → Bool → Blocks → Type 0
  BlocksAreWellSorted file in_loop NoBlock = Unit {0}
  BlocksAreWellSorted file in_loop (And b bs) = StatementsAreWellSorted file in_loop b
      × BlocksAreWellSorted file in_loop bs

-- ---- operations and files

-- parameters stand first, and are data
pub record ParametersAreFirst (locals : List Local) : Type 0 where
  pub first : locals ≡ filter is_parameter locals ++ filter (λ l. not (is_parameter l)) locals
  pub data_alone : list_any (λ l. is_parameter l && is_pointer l) locals ≡ false

-- an operation; no `break` stands outside of its loops
pub record OpIsWellSorted (file : File) (o : Op) : Type 0 where
  pub parameters : ParametersAreFirst o.locals
  pub body : StatementsAreWellSorted file false o.body

-- the labels of all operations, in the order of the text, are numbered from 0
abbrev pub LabelsAreNumbered : File → Type 0
LabelsAreNumbered file = concat (labels_by_op file.ops) ≡ range_with_len 0 (length file.labels)

-- a file; its first function is `retire`, which takes a pointer
pub record FileIsWellSorted (file : File) : Type 0 where
  pub retires : FunctionIs file true retire
  pub init : InitIsWellSorted file
  pub each_op : (k : ℕ) (o : Op) → slice_get file.ops k ≡ Some o → OpIsWellSorted file o
  pub labels : LabelsAreNumbered file
