-- What holds of the parts of a statement and goes up to the whole holds of each statement that is read: one induction
-- over the trees for all such facts. Along the way something holds of the scope, which labels leave so.
use Rattle.std.proofs.Common.{ℕ, Bool, true, false, Option, Some, None, Result, Ok, Err, List}
use Rattle.plc_lang.specs.declared.syntax.Primitive.{Primitive}
use Rattle.plc_lang.specs.declared.syntax.Cond.{Cond}
use Rattle.plc_lang.specs.Statements.{Statement, Atomic, Call, If, Choose, Loop, Break, Return, Label, Statements}
use Rattle.plc_lang.specs.Statements.{Empty, Then, Blocks, NoBlock, And}
use Rattle.plc_syntax.specs.Trees.{Text, Placed, ConditionTree, PrimitiveTree, ArgumentTree, StatementTree}
use Rattle.plc_syntax.specs.Trees.{PrimitiveStatement, AtomicStatement, CallStatement, IfStatement, ChooseStatement}
use Rattle.plc_syntax.specs.Trees.{LoopStatement, BreakStatement, ReturnStatement, LabelStatement, BlockTree}
use Rattle.plc_syntax.specs.Trees.{NoStatement, Then as ThenStatement, ElseTree, NoElse, ElseBlock, OrTree, NoOr}
use Rattle.plc_syntax.specs.Trees.{OrBlock}
use Rattle.plc_scope.specs.declared.fault.ParseFault.{ParseFault}
use Rattle.plc_scope.specs.declared.scope.Scope.{Scope}
use Rattle.plc_scope.specs.Primitives.{primitive_means, condition_means, CallMeaning, call_means}
use Rattle.plc_parse.specs.Meaning.{atomic_means, one_or_skip, label_means, during_means, statement_means}
use Rattle.plc_parse.specs.Meaning.{statements_mean, else_means, or_means}
use Rattle.plc_scope.proofs.Holds.{Has, next}

-- what is asked of conditions, statements, blocks and blocks side by side
pub record Facts : Type 1 where
  pub Condition : Cond → Type 0
  pub One : Statement → Type 0
  pub Many : Statements → Type 0
  pub Several : Blocks → Type 0

-- what has no parts has it
pub record Leaves (f : Facts) : Type 0 where
  pub of_break : f.One Break
  pub of_return : f.One Return
  pub of_label : (l : ℕ) → f.One (Label l)
  pub of_empty : f.Many Empty
  pub of_none : f.Several NoBlock

-- the whole has it where its parts do
pub record GoesUp (f : Facts) : Type 0 where
  pub of_if : (k : Cond) (a b : Statements) → f.Condition k → f.Many a → f.Many b → f.One (If k a b)
  pub of_choice : (bs : Blocks) → f.Several bs → f.One (Choose bs)
  pub of_loop : (b : Statements) → f.Many b → f.One (Loop b)
  pub leaves : Leaves f
  pub of_more : (line : ℕ) (st : Statement) (b : Statements) → f.One st → f.Many b → f.Many (Then line st b)
  pub of_further : (b : Statements) (bs : Blocks) → f.Many b → f.Several bs → f.Several (And b bs)

-- a primitive, the primitives of a step, and a call with whatever label
abbrev pub PrimitiveHas : Facts → Option Primitive → Type 0
PrimitiveHas f k = f.One (one_or_skip k)

abbrev pub AtomicHas : Facts → List Primitive → Type 0
AtomicHas f ks = f.One (Atomic ks)

abbrev pub CallHas : Facts → CallMeaning → Type 0
CallHas f c = (l : Option ℕ) → f.One (Call c.0 c.1 c.2 l)

-- what a label was read as, and a scope of which this holds
abbrev pub LabelRead : (Scope → Type 0) → {Y : Type 0} → Y × Scope → Type 0
LabelRead State r = State r.1

-- what was read, and what holds of the scope after it
pub record Read (State : Scope → Type 0) {Y : Type 0} (P : Y → Type 0) (r : Y × Scope) : Type 0 where
  pub is : P r.0
  pub state : State r.1

-- the parts have it, read in such a scope
pub record PartsHave (State : Scope → Type 0) (f : Facts) : Type 0 where
  pub primitive : (s : Scope) (p : PrimitiveTree) → State s → Has (PrimitiveHas f) (primitive_means s p)
  pub atomic : (s : Scope) (ps : List (Placed PrimitiveTree)) → State s → Has (AtomicHas f) (atomic_means s ps)
  pub call : (s : Scope) (n : Placed Text) (a : ArgumentTree) → State s → Has (CallHas f) (call_means s n a)
  pub condition : (s : Scope) (c : ConditionTree) → State s → Has f.Condition (condition_means s c)
  pub label : (s : Scope) (n : Placed Text) → State s → Has (LabelRead State) (label_means s n)

-- whatever the answer, where this holds of all
pub all_have : {A : Type 0} (P : A → Type 0) (r : Result A ParseFault) → ((x : A) → P x) → Has P r
all_have P (Ok x) h = h x
all_have P (Err e) h = tt

module _ (State : Scope → Type 0) (f : Facts) (up : GoesUp f) (parts : PartsHave State f) (lines : List ℕ) where
  abbrev OneRead : Statement × Scope → Type 0
  OneRead = Read State f.One

  abbrev ManyRead : Statements × Scope → Type 0
  ManyRead = Read State f.Many

  abbrev SeveralRead : Blocks × Scope → Type 0
  SeveralRead = Read State f.Several

  during_read : (s : Scope) (d : Option (Placed Text)) → State s → Has (LabelRead State) (during_means s d)
  during_read s None h = h
  during_read s (Some n) h = next (LabelRead State) (LabelRead State) (label_means s n) _ (parts.label s n h) (λ l k. k)

  mutual
    statement_read : (s : Scope) (in_loop : Bool) (at : ℕ) (st : StatementTree) → State s → Has OneRead (statement_means lines s in_loop at st)
    statement_read s in_loop at (PrimitiveStatement p) h = next (PrimitiveHas f) OneRead (primitive_means s p) _ (parts.primitive s p h) (λ k a. record { is = a; state = h })
    statement_read s in_loop at (AtomicStatement ps) h = next (AtomicHas f) OneRead (atomic_means s ps) _ (parts.atomic s ps h) (λ b a. record { is = a; state = h })
    statement_read s in_loop at (CallStatement n a d) h = next (CallHas f) OneRead (call_means s n a) _ (parts.call s n a h) (λ c b.
        next (LabelRead State) OneRead (during_means s d) _ (during_read s d h) (λ l k. record { is = b l.0; state = k }))
    statement_read s in_loop at (IfStatement c b e) h = next f.Condition OneRead (condition_means s c) _ (parts.condition s c h) (λ k a.
        next ManyRead OneRead (statements_mean lines s in_loop b) _ (statements_read s in_loop b h) (λ x yes.
        next ManyRead OneRead (else_means lines x.1 in_loop e) _ (else_read x.1 in_loop e yes.state) (λ y no.
        record { is = up.of_if k x.0 y.0 a yes.is no.is; state = no.state })))
    statement_read s in_loop at (ChooseStatement a b os) h =
        next ManyRead OneRead (statements_mean lines s in_loop a) _ (statements_read s in_loop a h) (λ x first.
        next ManyRead OneRead (statements_mean lines x.1 in_loop b) _ (statements_read x.1 in_loop b first.state) (λ y second.
        next SeveralRead OneRead (or_means lines y.1 in_loop os) _ (ors_read y.1 in_loop os second.state) (λ z others.
        record { is = up.of_choice (And x.0 (And y.0 z.0)) (up.of_further x.0 (And y.0 z.0) first.is (up.of_further y.0 z.0 second.is others.is)); state = others.state })))
    statement_read s in_loop at (LoopStatement b) h = next ManyRead OneRead (statements_mean lines s true b) _ (statements_read s true b h) (λ x body. record { is = up.of_loop x.0 body.is; state = body.state })
    statement_read s true at BreakStatement h = record { is = up.leaves.of_break; state = h }
    statement_read s false at BreakStatement h = tt
    statement_read s in_loop at ReturnStatement h = record { is = up.leaves.of_return; state = h }
    statement_read s in_loop at (LabelStatement n) h = next (LabelRead State) OneRead (label_means s n) _ (parts.label s n h) (λ l k. record { is = up.leaves.of_label l.0; state = k })

    pub statements_read : (s : Scope) (in_loop : Bool) (b : BlockTree) → State s → Has ManyRead (statements_mean lines s in_loop b)
    statements_read s in_loop NoStatement h = record { is = up.leaves.of_empty; state = h }
    statements_read s in_loop (ThenStatement at st b) h = next OneRead ManyRead (statement_means lines s in_loop at st) _ (statement_read s in_loop at st h) (λ first a.
        next ManyRead ManyRead (statements_mean lines first.1 in_loop b) _ (statements_read first.1 in_loop b a.state) (λ others c.
        record { is = up.of_more _ first.0 others.0 a.is c.is; state = c.state }))

    else_read : (s : Scope) (in_loop : Bool) (e : ElseTree) → State s → Has ManyRead (else_means lines s in_loop e)
    else_read s in_loop NoElse h = record { is = up.leaves.of_empty; state = h }
    else_read s in_loop (ElseBlock b) h = statements_read s in_loop b h

    ors_read : (s : Scope) (in_loop : Bool) (os : OrTree) → State s → Has SeveralRead (or_means lines s in_loop os)
    ors_read s in_loop NoOr h = record { is = up.leaves.of_none; state = h }
    ors_read s in_loop (OrBlock b os) h = next ManyRead SeveralRead (statements_mean lines s in_loop b) _ (statements_read s in_loop b h) (λ x a.
        next SeveralRead SeveralRead (or_means lines x.1 in_loop os) _ (ors_read x.1 in_loop os a.state) (λ y c.
        record { is = up.of_further x.0 y.0 a.is c.is; state = c.state }))
