-- What the trees of a file mean. Names are looked up from left to right, and a fault is told at the name, word or
-- number that is at fault, so the first fault is the one at the least token.
use Rattle.std.specs.Prelude.{◌&&◌, ◌||◌, ◌+◌, ℕ, Bool, true, false, if◌then◌else◌, List, [], ◌∷◌, length, get_or}
use Rattle.std.specs.Prelude.{Option, Some, None, Result, Ok, Err}
use Rattle.plc_base.specs.declared.limits.What1.TheVariants as limits
use Rattle.plc_base.specs.Limits.{most}
use Rattle.plc_lang.specs.declared.syntax.Primitive.{Primitive}
use Rattle.plc_lang.specs.Allocation.{is_new}
use Rattle.plc_lang.specs.declared.syntax.File.{File}
use Rattle.plc_lang.specs.declared.syntax.Op.{Op}
use Rattle.plc_lang.specs.declared.syntax.Field.{Field}
use Rattle.plc_lang.specs.declared.syntax.Func.{Func}
use Rattle.plc_lang.specs.declared.syntax.Ghost.{Ghost}
use Rattle.plc_lang.specs.Statements.{Statement, One, Atomic, Call, If, Choose, Loop, Break, Return, Skip, Label}
use Rattle.plc_lang.specs.Statements.{Statements, Empty, Then, Blocks, NoBlock, And}
use Rattle.plc_auto.specs.declared.observer.Observer.{Observer}
use Rattle.plc_auto.specs.declared.observer.Observer.TheVariants.{Plain, Hazard, Epoch}
use Rattle.plc_syntax.specs.Trees.{Text, Placed, FieldTree, PointerField as PointerFieldTree}
use Rattle.plc_syntax.specs.Trees.{DataField as DataFieldTree, FunctionTree, Declares, WatchTree, UseHazard, UseEpoch}
use Rattle.plc_syntax.specs.Trees.{OneOf, OfThreads, GhostTree, Auxiliary as AuxiliaryTree, InitialTree, PrimitiveTree}
use Rattle.plc_syntax.specs.Trees.{StatementTree, PrimitiveStatement, AtomicStatement, CallStatement, IfStatement}
use Rattle.plc_syntax.specs.Trees.{ChooseStatement, LoopStatement, BreakStatement, ReturnStatement, LabelStatement}
use Rattle.plc_syntax.specs.Trees.{BlockTree, NoStatement, Then as ThenStatement, ElseTree, NoElse, ElseBlock, OrTree}
use Rattle.plc_syntax.specs.Trees.{NoOr, OrBlock, OpTree, Operates, OutlineTree, FileTree}
use Rattle.plc_scope.specs.declared.fault.ParseFault.{ParseFault}
use Rattle.plc_scope.specs.declared.fault.ParseFault.TheVariants as faults
use Rattle.plc_scope.specs.declared.scope.Scope.{Scope}
use Rattle.plc_scope.specs.declared.binding.Binding.TheVariants.{Taken, Shared, PointerField, DataField, Function}
use Rattle.plc_scope.specs.declared.binding.Binding.TheVariants.{Auxiliary, Value}
use Rattle.plc_scope.specs.Scope.{◌>>=◌, first_scope, declared, declared_label, declared_local, declared_parameter}
use Rattle.plc_scope.specs.Scope.{without_locals, role_as, as_protecting, as_without_pointer}
use Rattle.plc_scope.specs.Limits.{within_limit, stands_at}
use Rattle.plc_scope.specs.Primitives.{primitive_means, initial_means, condition_means, call_means}
use Rattle.plc_logic.specs.declared.clause.Outline.{Outline}
use Rattle.plc_outparse.specs.Meaning.{in_turn, outline_means}
use Rattle.plc_parse.specs.declared.unit.Unit.{Unit as FileUnit}

-- ---- atomic blocks and `init`

-- one primitive more at a place, with the number of those before and whether one of them allocates: at most 64, and
-- one `new`, whose place is the word
abbrev pub counted : ℕ → Bool → ℕ → Result (Option Primitive) ParseFault → Result (Option Primitive) ParseFault
counted n has_new at (Ok None) = Ok None
counted n has_new at (Ok (Some k)) =
    within_limit n limits.Prims
    (if has_new && is_new k then Err (faults.Limit limits.News (most limits.News + 1)) else Ok (Some k))
counted n has_new at (Err e) = if stands_at at e then Err e else within_limit n limits.Prims (Err e)

-- how many primitives a form is
abbrev pub count_of : Option Primitive → ℕ
count_of None = 0
count_of (Some k) = 1

-- whether one allocates
abbrev pub allocates : Option Primitive → Bool
allocates None = false
allocates (Some k) = is_new k

-- a primitive, if there is one, before others
abbrev pub before : Option Primitive → List Primitive → List Primitive
before None ks = ks
before (Some k) ks = k ∷ ks

-- forms in order
abbrev pub forms_mean : {X : Type 0} → (X → Result (Option Primitive) ParseFault) → ℕ → Bool → List (Placed X)
    → Result (List Primitive) ParseFault
forms_mean means n has_new [] = Ok []
forms_mean means n has_new (x ∷ xs) = do
  k ← counted n has_new x.at (means x.value)
  others ← forms_mean means (n + count_of k) (has_new || allocates k) xs
  Ok (before k others)

-- the primitives of an atomic block; `skip` is none
abbrev pub atomic_means : Scope → List (Placed PrimitiveTree) → Result (List Primitive) ParseFault
atomic_means s ps = forms_mean (primitive_means s) 0 false ps

-- ---- statements; the line of each is that of its first token

-- the line of the token at a place
abbrev pub line_at : List ℕ → ℕ → ℕ
line_at lines at = get_or lines at 0

-- `skip` is a statement
abbrev pub one_or_skip : Option Primitive → Statement
one_or_skip None = Skip
one_or_skip (Some k) = One k

-- a label has the number of those before
abbrev pub label_means : Scope → Placed Text → Result (ℕ × Scope) ParseFault
label_means s n = within_limit (length s.labels) limits.Labels (do
  t ← declared_label s n
  Ok (length s.labels, t))

-- the label of a call
abbrev pub during_means : Scope → Option (Placed Text) → Result (Option ℕ × Scope) ParseFault
during_means s None = Ok (None, s)
during_means s (Some n) = label_means s n >>= λ l. Ok (Some l.0, l.1)

-- a statement at its place, within a loop or not, and blocks of statements; labels stay declared after them
abbrev mutual
  pub statement_means : List ℕ → Scope → Bool → ℕ → StatementTree → Result (Statement × Scope) ParseFault
  statement_means lines s in_loop at (PrimitiveStatement p) = primitive_means s p >>= λ k. Ok (one_or_skip k, s)
  statement_means lines s in_loop at (AtomicStatement ps) = atomic_means s ps >>= λ ks. Ok (Atomic ks, s)
  statement_means lines s in_loop at (CallStatement f a d) = do
    c ← call_means s f a
    l ← during_means s d
    Ok (Call c.0 c.1 c.2 l.0, l.1)
  statement_means lines s in_loop at (IfStatement c b e) = do
    k ← condition_means s c
    x ← statements_mean lines s in_loop b
    y ← else_means lines x.1 in_loop e
    Ok (If k x.0 y.0, y.1)
  statement_means lines s in_loop at (ChooseStatement a b os) = do
    x ← statements_mean lines s in_loop a
    y ← statements_mean lines x.1 in_loop b
    z ← or_means lines y.1 in_loop os
    Ok (Choose (And x.0 (And y.0 z.0)), z.1)
  statement_means lines s in_loop at (LoopStatement b) = statements_mean lines s true b >>= λ x. Ok (Loop x.0, x.1)
  statement_means lines s true at BreakStatement = Ok (Break, s)
  statement_means lines s false at BreakStatement = Err (faults.Undeclared at)
  statement_means lines s in_loop at ReturnStatement = Ok (Return, s)
  statement_means lines s in_loop at (LabelStatement n) = label_means s n >>= λ l. Ok (Label l.0, l.1)

  -- statements in order
  pub statements_mean : List ℕ → Scope → Bool → BlockTree → Result (Statements × Scope) ParseFault
  statements_mean lines s in_loop NoStatement = Ok (Empty, s)
  statements_mean lines s in_loop (ThenStatement at st b) = do
    first ← statement_means lines s in_loop at st
    others ← statements_mean lines first.1 in_loop b
    Ok (Then (line_at lines at) first.0 others.0, others.1)

  -- an absent `else` is an empty block
  pub else_means : List ℕ → Scope → Bool → ElseTree → Result (Statements × Scope) ParseFault
  else_means lines s in_loop NoElse = Ok (Empty, s)
  else_means lines s in_loop (ElseBlock b) = statements_mean lines s in_loop b

  -- the blocks of a choice after its second
  pub or_means : List ℕ → Scope → Bool → OrTree → Result (Blocks × Scope) ParseFault
  or_means lines s in_loop NoOr = Ok (NoBlock, s)
  or_means lines s in_loop (OrBlock b os) = do
    x ← statements_mean lines s in_loop b
    y ← or_means lines x.1 in_loop os
    Ok (And x.0 y.0, y.1)

-- ---- declarations; n counts those before, and the limit's place is the first token of the declaration past it

-- declarations of one kind in order, each with the number of those before
abbrev pub listed : {X Y : Type 0} → (Scope → ℕ → X → Result (Y × Scope) ParseFault) → Scope → ℕ → List X
    → Result (List Y × Scope) ParseFault
listed means s n [] = Ok ([], s)
listed means s n (x ∷ xs) = do
  first ← means s n x
  others ← listed means first.1 (n + 1) xs
  Ok (first.0 ∷ others.0, others.1)

-- a field of the struct
abbrev pub field_means : Scope → ℕ → FieldTree → Result (Field × Scope) ParseFault
field_means s n (PointerFieldTree name) = within_limit n limits.Fields (do
  t ← declared s name (PointerField (record { 0 = n }))
  Ok (record { name = length s.names.names; pointer = true }, t))
field_means s n (DataFieldTree name) = within_limit n limits.Fields (do
  t ← declared s name (DataField (record { 0 = n }))
  Ok (record { name = length s.names.names; pointer = false }, t))

-- a shared pointer
abbrev pub shared_means : Scope → ℕ → Placed Text → Result (ℕ × Scope) ParseFault
shared_means s n name = within_limit n limits.Shared (do
  t ← declared s name (Shared n)
  Ok (length s.names.names, t))

-- a function, whose number is one more than that of those before, since `retire` is the first of a file
abbrev pub function_means : Scope → ℕ → FunctionTree → Result (Func × Scope) ParseFault
function_means s n (Declares name takes_pointer) = within_limit n limits.Calls (do
  t ← declared s name (Function (record { 0 = n + 1 }) takes_pointer)
  Ok (record { name = length s.names.names; pointer = takes_pointer }, t))

-- a value of auxiliary field g, with k before it; it is its name alone, so a name that is there is the fault before
-- the limit
abbrev pub value_means : ℕ → Scope → ℕ → Placed Text → Result (ℕ × Scope) ParseFault
value_means g s k name =
    declared s name (Value g k) >>= λ t. within_limit k limits.Values (Ok (length s.names.names, t))

-- an auxiliary field: a thread, or one of its values
abbrev pub ghost_means : Scope → ℕ → GhostTree → Result (Ghost × Scope) ParseFault
ghost_means s n (AuxiliaryTree name OfThreads) = within_limit n limits.Ghosts (do
  t ← declared s name (Auxiliary n true)
  Ok (record { name = length s.names.names; values = [] }, t))
ghost_means s n (AuxiliaryTree name (OneOf v vs)) = within_limit n limits.Ghosts (do
  t ← declared s name (Auxiliary n false)
  values ← listed (value_means n) t 0 (v ∷ vs)
  Ok (record { name = length s.names.names; values = values.0 }, values.1))

-- a function with a pointer for `hazard`, two without for `epoch`; `plain` where the file names none
abbrev pub watch_means : Scope → Option WatchTree → Result Observer ParseFault
watch_means s None = Ok Plain
watch_means s (Some (UseHazard f)) = role_as as_protecting s f >>= λ g. Ok (Hazard g)
watch_means s (Some (UseEpoch e l)) = do
  f ← role_as as_without_pointer s e
  g ← role_as as_without_pointer s l
  Ok (Epoch f g)

-- nothing where no `init` stands
abbrev pub init_means : Scope → Option (List (Placed InitialTree)) → Result (List Primitive) ParseFault
init_means s None = Ok []
init_means s (Some is) = forms_mean (initial_means s) 0 false is

-- ---- operations

-- a local
abbrev pub local_means : Scope → FieldTree → Result Scope ParseFault
local_means s (PointerFieldTree name) = declared_local s name true
local_means s (DataFieldTree name) = declared_local s name false

-- an operation on a line: its name, its parameters, its locals and its statements
abbrev pub op_means : List ℕ → ℕ → Scope → ℕ → OpTree → Result (Op × Scope) ParseFault
op_means lines line s n (Operates name parameters locals body) = within_limit n limits.Ops (do
  t ← declared s name Taken
  p ← in_turn declared_parameter t parameters
  l ← in_turn local_means p locals
  b ← statements_mean lines l false body
  Ok (record { name = length s.names.names; locals = l.locals; body = b.0; line = line }, without_locals b.1))

-- an operation at its place
abbrev pub placed_op_means : List ℕ → Scope → ℕ → Placed OpTree → Result (Op × Scope) ParseFault
placed_op_means lines s n o = op_means lines (line_at lines o.at) s n o.value

-- ---- the outline

-- what an outline is that isn't there: it says nothing
abbrev pub empty_outline : Outline
empty_outline = record { depth = 0; invariants = []; items = [] }

-- the outline after the operations, in the scope that they leave
abbrev pub outlined_means : Scope → List Op → Option OutlineTree → Result Outline ParseFault
outlined_means s ops None = Ok empty_outline
outlined_means s ops (Some t) = outline_means s ops t

-- ---- the file

-- `retire` is the first function of a file
abbrev pub retire : Func
retire = record { name = 0; pointer = true }

-- a file of its parts: `retire` stands before the functions that it declares, and the names and labels are those in
-- reach at its end
abbrev pub file_from : List Field → List ℕ → List Func → List Ghost → List Primitive → List Op → Scope → File
file_from fields pointers functions ghosts starts ops end = record {
  names = end.names;
  fields = fields;
  shared = pointers;
  funcs = retire ∷ functions;
  ghosts = ghosts;
  init = starts;
  ops = ops;
  labels = end.labels;
}

-- the parts of a file in order; lines are those of the tokens
unfoldable pub file_means : List ℕ → FileTree → Result FileUnit ParseFault
file_means lines f = do
  s ← declared first_scope f.name Taken
  fields ← listed field_means s 0 f.fields
  pointers ← listed shared_means fields.1 0 f.pointers
  functions ← listed function_means pointers.1 0 f.functions
  observer ← watch_means functions.1 f.watched
  ghosts ← listed ghost_means functions.1 0 f.ghosts
  starts ← init_means ghosts.1 f.starts
  ops ← listed (placed_op_means lines) ghosts.1 0 f.ops
  outline ← outlined_means ops.1 ops.0 f.outlined
  Ok (record {
    file = file_from fields.0 pointers.0 functions.0 ghosts.0 starts ops.0 ops.1;
    observer = observer;
    outline = outline;
  })
