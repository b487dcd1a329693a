-- Where each thing stands in a file where its kind may stand, so it does in its flow.
use Rattle.std.proofs.Common.{◌≡◌, ℕ, ◌≤◌, ◌<◌, Bool, true, false, cond, ◌+◌, Option, Some, None, List, [], ◌∷◌, ◌++◌, length, slice_get, count_by, refl, arith}
use Rattle.std.specs.List.{list_any}
use Rattle.std.proofs.lemmas.Option.{slice_get_within}
use Rattle.plc_base.specs.declared.ids.FuncId.{FuncId}
use Rattle.plc_lang.specs.declared.syntax.Primitive.{Primitive}
use Rattle.plc_lang.specs.declared.syntax.Primitive.TheVariants as prims
use Rattle.plc_lang.specs.declared.syntax.Var.{Var}
use Rattle.plc_lang.specs.declared.syntax.Arg.{Arg}
use Rattle.plc_lang.specs.declared.syntax.Arg.TheVariants as args
use Rattle.plc_lang.specs.declared.syntax.Cond.{Cond}
use Rattle.plc_lang.specs.declared.syntax.Cond.TheVariants as conds
use Rattle.plc_lang.specs.declared.syntax.File.{File}
use Rattle.plc_lang.specs.Allocation.{is_new}
use Rattle.plc_lang.specs.Statements.{Statement, One, Atomic, Call, If, Choose, Loop, Break, Return, Skip, Label, Statements, Empty, Then, Blocks, NoBlock, And}
use Rattle.plc_lang.specs.WellSorted.{IsWellSorted, AreWellSorted, CallIsWellSorted, ConditionIsWellSorted, is_call, is_test, is_refresh, StepIsWellSorted, StatementIsWellSorted, StatementsAreWellSorted, BlocksAreWellSorted, FileIsWellSorted}
use Rattle.plc_flow.specs.declared.flow.Step.{Step}
use Rattle.plc_flow.specs.Sides.{opposite, claim, equals, differs, becomes, true_side, false_side, call_side}
use Rattle.plc_flow.specs.Lowering.{flow_of}
use Rattle.plc_flow.proofs.Opposites.{of_each_test, opposites_are_tests}
use Rattle.plc_flow.proofs.Walk.{StatementHas, StatementsHave, BlocksHave, flow_steps_have}

-- ---- steps without calls

-- at most one primitive of a list of one allocates
one_new_alone : (k : Primitive) → count_by is_new (k ∷ []) ≤ 1
one_new_alone k = go (is_new k)
  where
    go : (b : Bool) → 0 + cond b 1 0 ≤ 1
    go true = omega arith
    go false = omega arith

-- nothing calls
uncalled : (file : File) (ks : List Primitive) → AreWellSorted file ks → count_by is_new ks ≤ 1 → list_any is_call ks ≡ false → StepIsWellSorted file ks
uncalled file ks each one none = record { each = each; one_new = one; calls_alone = λ some. (let e = none in cc) }

nothing_sorted : (file : File) → StepIsWellSorted file []
nothing_sorted file = uncalled file [] tt (omega arith) refl

alone_sorted : (file : File) (k : Primitive) → IsWellSorted file k → is_call k ≡ false → StepIsWellSorted file (k ∷ [])
alone_sorted file k i none = uncalled file (k ∷ []) (i, tt) (one_new_alone k) (rw none refl)

test_sorted : (file : File) (k : Primitive) → is_test k ≡ true → StepIsWellSorted file (k ∷ [])
test_sorted file = of_each_test (λ k. StepIsWellSorted file (k ∷ [])) (λ p q. alone_sorted file (prims.Eq p q) tt refl)
    (λ p q. alone_sorted file (prims.Ne p q) tt refl) (λ p. alone_sorted file (prims.IsNull p) tt refl)
    (λ p. alone_sorted file (prims.NotNull p) tt refl) (λ r x n. alone_sorted file (prims.DataTest r x n) tt refl)
    (λ p m. alone_sorted file (prims.MarkTest p m) tt refl)

opposite_sorted : (file : File) (k : Primitive) → is_test k ≡ true → StepIsWellSorted file (opposite k ∷ [])
opposite_sorted file k e = test_sorted file (opposite k) (opposites_are_tests.tests k e)

refresh_sorted : (file : File) (k : Primitive) → IsWellSorted file k → is_refresh k ≡ true → StepIsWellSorted file (k ∷ [])
refresh_sorted file (prims.Refresh p q) i e = alone_sorted file (prims.Refresh p q) i refl
refresh_sorted file (prims.RefreshLoad p q f) i e = alone_sorted file (prims.RefreshLoad p q f) i refl
refresh_sorted file k i e = cc

-- a claim in front changes nothing
claimed_sorted : (file : File) (active : Bool) (p : Var) (ks : List Primitive) → StepIsWellSorted file ks → StepIsWellSorted file (claim active p ++ ks)
claimed_sorted file false p ks i = i
claimed_sorted file true p ks i = record { each = (tt, i.each); one_new = omega (arith, i.one_new); calls_alone = λ some. omega (arith, i.calls_alone some) }

written_sorted : (file : File) (p : Var) (old new : Option Var) → StepIsWellSorted file (equals p old ∷ becomes p new ∷ [])
written_sorted file p (Some a) (Some b) = uncalled file _ (tt, (tt, tt)) (omega arith) refl
written_sorted file p (Some a) None = uncalled file _ (tt, (tt, tt)) (omega arith) refl
written_sorted file p None (Some b) = uncalled file _ (tt, (tt, tt)) (omega arith) refl
written_sorted file p None None = uncalled file _ (tt, (tt, tt)) (omega arith) refl

differing_sorted : (file : File) (p : Var) (old : Option Var) → StepIsWellSorted file (differs p old ∷ [])
differing_sorted file p (Some a) = alone_sorted file (prims.Ne p a) tt refl
differing_sorted file p None = alone_sorted file (prims.NotNull p) tt refl

true_sorted : (file : File) (c : Cond) → ConditionIsWellSorted file c → StepIsWellSorted file (true_side c)
true_sorted file (conds.Test k) i = test_sorted file k i
true_sorted file (conds.Refresh k) i = refresh_sorted file k i.0 i.1
true_sorted file (conds.Cas active p old new) i = claimed_sorted file active p _ (written_sorted file p old new)

false_sorted : (file : File) (c : Cond) → ConditionIsWellSorted file c → StepIsWellSorted file (false_side c)
false_sorted file (conds.Test k) i = opposite_sorted file k i
false_sorted file (conds.Refresh k) i = nothing_sorted file
false_sorted file (conds.Cas active p old new) i = claimed_sorted file active p _ (differing_sorted file p old)

-- ---- calls and returns

called : (file : File) (f : FuncId) (a : Arg) → CallIsWellSorted file f a → StepIsWellSorted file (prims.Call f a ∷ [])
called file f a i = record { each = (i, tt); one_new = omega arith; calls_alone = λ some. refl }

call_sorted : (file : File) (active : Bool) (f : FuncId) (a : Arg) → CallIsWellSorted file f a → StepIsWellSorted file (call_side active f a)
call_sorted file active f (args.Var p) i = claimed_sorted file active p _ (called file f (args.Var p) i)
call_sorted file active f args.Null i = called file f args.Null i
call_sorted file active f args.None i = called file f args.None i

declared : (file : File) (f : FuncId) (a : Arg) → CallIsWellSorted file f a → f.0 < length file.funcs
declared file f (args.Var p) i = slice_get_within file.funcs f.0 i.0 i.1
declared file f args.Null i = slice_get_within file.funcs f.0 i.0.0 i.0.1
declared file f args.None i = slice_get_within file.funcs f.0 i.0 i.1

returned : (file : File) (f : FuncId) → f.0 < length file.funcs → StepIsWellSorted file (prims.Done f ∷ [])
returned file f i = record { each = (i, tt); one_new = omega arith; calls_alone = λ some. refl }

-- ---- statements

mutual
  statement_sorted : (file : File) (in_loop : Bool) (s : Statement) → StatementIsWellSorted file in_loop s → StatementHas (StepIsWellSorted file) s
  statement_sorted file in_loop (One k) i = alone_sorted file k i.0 i.1
  statement_sorted file in_loop (Atomic ks) i = uncalled file ks i.each i.one_new i.no_call
  statement_sorted file in_loop Skip i = tt
  statement_sorted file in_loop (Call f a active during) i = (call_sorted file active f a i.0, returned file f (declared file f a i.0))
  statement_sorted file in_loop (Label l) i = tt
  statement_sorted file in_loop (If c y n) i = (true_sorted file c i.0, false_sorted file c i.0, statements_sorted file in_loop y i.1, statements_sorted file in_loop n i.2)
  statement_sorted file in_loop (Choose bs) i = blocks_sorted file in_loop bs i.1
  statement_sorted file in_loop (Loop b) i = statements_sorted file true b i
  statement_sorted file in_loop Break i = tt
  statement_sorted file in_loop Return i = tt

  statements_sorted : (file : File) (in_loop : Bool) (b : Statements) → StatementsAreWellSorted file in_loop b → StatementsHave (StepIsWellSorted file) b
  statements_sorted file in_loop Empty i = tt
  statements_sorted file in_loop (Then line s b) i = (statement_sorted file in_loop s i.0, statements_sorted file in_loop b i.1)

  blocks_sorted : (file : File) (in_loop : Bool) (bs : Blocks) → BlocksAreWellSorted file in_loop bs → BlocksHave (StepIsWellSorted file) bs
  blocks_sorted file in_loop NoBlock i = tt
  blocks_sorted file in_loop (And b bs) i = (statements_sorted file in_loop b i.0, blocks_sorted file in_loop bs i.1)

-- each step of the flow of a file that was read
pub flow_steps_sorted : (file : File) → FileIsWellSorted file → (k : ℕ) (s : Step) → slice_get (flow_of file).steps k ≡ Some s → StepIsWellSorted file s.prims
flow_steps_sorted file sorted k s at =
    (flow_steps_have (λ o. StepIsWellSorted file) file (λ o. nothing_sorted file) (λ n o e. statements_sorted file false o.body (sorted.each_op n o e).body) k s at).2
