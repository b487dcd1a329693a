-- Statements that are read are spelled by the normal tree of those they were read from, without places, and the normal tree means the same.
use Rattle.std.proofs.Common.{◌≡◌, ℕ, Bool, true, false, Option, Some, None, Result, Ok, List, refl, sym, ap, ap₂, ◌∙◌, subst}
use Rattle.plc_lang.specs.declared.syntax.File.{File}
use Rattle.plc_lang.specs.declared.syntax.Local.{Local}
use Rattle.plc_lang.specs.declared.syntax.Cond.{Cond}
use Rattle.plc_lang.specs.declared.syntax.Primitive.{Primitive}
use Rattle.plc_lang.specs.Statements.{Statement, If, Statements, Empty, Then, Blocks}
use Rattle.plc_syntax.specs.Trees.{Placed, PrimitiveTree, StatementTree, PrimitiveStatement, AtomicStatement, CallStatement, IfStatement, ChooseStatement, LoopStatement, BreakStatement, ReturnStatement, LabelStatement, BlockTree, NoStatement, Then as ThenStatement, ElseTree, NoElse, ElseBlock, OrTree, NoOr, OrBlock}
use Rattle.plc_syntax.proofs.Unplaced.{unplaced_primitive, unplaced_statement, unplaced_block, unplaced_else, unplaced_ors}
use Rattle.plc_scope.specs.declared.fault.ParseFault.{ParseFault}
use Rattle.plc_scope.specs.declared.scope.Scope.{Scope}
use Rattle.plc_scope.specs.Primitives.{primitive_means, condition_means, call_means}
use Rattle.plc_parse.specs.Meaning.{atomic_means, one_or_skip, label_means, during_means, statement_means, statements_mean, else_means, or_means}
use Rattle.plc_scope.proofs.Holds.{Has, next, weaker}
use Rattle.plc_print.specs.Canonical.{primitive_tree, condition_tree, statement_tree, block_tree, blocks_tree}
use Rattle.plc_print.specs.Outlines.{bare}
use Rattle.plc_print.proofs.NormalTrees.{stays, normal_statement, normal_block, normal_else, normal_or}
use Rattle.plc_print.proofs.Steps.{after, along}
use Rattle.plc_print.proofs.SpelledNames.{Bound, Ends}
use Rattle.plc_print.proofs.SpelledPrimitives.{IsPrimitive, primitive_found, IsCondition, condition_found, IsCall, call_found}
use Rattle.plc_print.proofs.GrowingScopes.{Goes, goes_nowhere, goes_on, ends_before, LabelRead, label_found, DuringRead, during_found}
use Rattle.plc_print.proofs.SpelledForms.{FormsRead, forms_found}

-- what was read leaves the locals, is spelled by the tree, and is what the normal form means
pub record Read {X Y : Type 0} (file : File) (spell : List Local → Y → X) (means : Result (Y × Scope) ParseFault) (s : Scope) (x : X) (r : Y × Scope) : Type 0 where
  pub goes : Goes file s r.1
  pub locals : r.1.locals ≡ s.locals
  pub tree : Ends file r.1 → spell s.locals r.0 ≡ x
  pub again : means ≡ Ok r

module _ (file : File) (lines : List ℕ) where
  abbrev else_tree : List Local → Statements → ElseTree
  else_tree locals Empty = NoElse
  else_tree locals (Then l x b) = ElseBlock (block_tree file locals (Then l x b))

  if_tree : (locals : List Local) (c : Cond) (y n : Statements) → statement_tree file locals (If c y n) ≡ IfStatement (condition_tree file locals c) (block_tree file locals y) (else_tree locals n)
  if_tree locals c y Empty = refl
  if_tree locals c y (Then l x b) = refl

  abbrev StatementRead : Scope → Bool → ℕ → StatementTree → Statement × Scope → Type 0
  StatementRead s in_loop at st r = Read file (statement_tree file) (statement_means lines s in_loop at (normal_statement st)) s (unplaced_statement (normal_statement st)) r

  abbrev pub BlockRead : Scope → Bool → BlockTree → Statements × Scope → Type 0
  BlockRead s in_loop b r = Read file (block_tree file) (statements_mean lines s in_loop (normal_block b)) s (unplaced_block (normal_block b)) r

  abbrev ElseRead : Scope → Bool → ElseTree → Statements × Scope → Type 0
  ElseRead s in_loop e r = Read file else_tree (else_means lines s in_loop (normal_else e)) s (unplaced_else (normal_else e)) r

  abbrev OrRead : Scope → Bool → OrTree → Blocks × Scope → Type 0
  OrRead s in_loop os r = Read file (blocks_tree file) (or_means lines s in_loop (normal_or os)) s (unplaced_ors (normal_or os)) r

  -- ---- a primitive, and the primitives of an atomic block

  one_tree : (s : Scope) (bound : Bound file s) (k : Option Primitive) (p : PrimitiveTree) → IsPrimitive file s bound p k → Ends file s → statement_tree file s.locals (one_or_skip k) ≡ PrimitiveStatement (unplaced_primitive p)
  one_tree s bound None p h e = ap (λ q. PrimitiveStatement (unplaced_primitive q)) (sym h)
  one_tree s bound (Some k) p h e = ap PrimitiveStatement (h.1 e)

  abbrev AtomicRead : (s : Scope) → Bound file s → List (Placed PrimitiveTree) → List Primitive → Type 0
  AtomicRead s bound ps ks = FormsRead (primitive_means s) unplaced_primitive stays (IsPrimitive file s bound) (Ends file s) (primitive_tree file s.locals)
      (λ p h. ap stays h) (λ p k h. h) (primitive_found file s bound) 0 false ps ks

  primitives_found : (s : Scope) (bound : Bound file s) (ps : List (Placed PrimitiveTree)) → Has (AtomicRead s bound ps) (atomic_means s ps)
  primitives_found s bound ps = forms_found (primitive_means s) unplaced_primitive stays (IsPrimitive file s bound) (Ends file s) (primitive_tree file s.locals) (λ p h. ap stays h) (λ p k h. h) (primitive_found file s bound) 0 false ps

  -- an `else` that has statements is spelled
  with_statements : (locals : List Local) (y : Statements) (at : ℕ) (st : StatementTree) (b : BlockTree) → block_tree file locals y ≡ ThenStatement at st b → else_tree locals y ≡ ElseBlock (ThenStatement at st b)
  with_statements locals Empty at st b e = absurd cc
  with_statements locals (Then l x y) at st b e = ap ElseBlock e

  mutual
    statement_found : (s : Scope) (in_loop : Bool) (at : ℕ) (st : StatementTree) → Bound file s → Has (StatementRead s in_loop at st) (statement_means lines s in_loop at st)
    statement_found s in_loop at (PrimitiveStatement p) bound =
        along (IsPrimitive file s bound p) _ (primitive_means s p) _ (primitive_found file s bound p) (λ k f e. record {
          goes = goes_nowhere file s;
          locals = refl;
          tree = one_tree s bound k p f;
          again = after _ _ _ _ e refl;
        })
    statement_found s in_loop at (AtomicStatement ps) bound =
        next (AtomicRead s bound ps) _ (atomic_means s ps) _ (primitives_found s bound ps) (λ ks f. record {
          goes = goes_nowhere file s;
          locals = refl;
          tree = λ e. ap AtomicStatement (f.tree e);
          again = after _ _ _ _ f.again refl;
        })
    statement_found s in_loop at (CallStatement n a d) bound =
        along (IsCall file s bound n a) _ (call_means s n a) _ (call_found file s bound n a) (λ c f e.
        along (DuringRead file s d) _ (during_means s d) _ (during_found file s d) (λ l g i. record {
          goes = g.goes;
          locals = g.locals;
          tree = λ e. let here = ends_before file s l.1 g.goes e in rw (f.function here, f.argument here, g.name e) refl;
          again = after _ _ _ _ e (after _ _ _ _ i refl);
        }))
    statement_found s in_loop at (IfStatement c b o) bound =
        along (IsCondition file s bound c) _ (condition_means s c) _ (condition_found file s bound c) (λ k f i.
        next (BlockRead s in_loop b) _ (statements_mean lines s in_loop b) _ (block_found s in_loop b bound) (λ x g.
        next (ElseRead x.1 in_loop o) _ (else_means lines x.1 in_loop o) _ (else_found x.1 in_loop o (g.goes.bound bound)) (λ y h. record {
          goes = goes_on file s x.1 y.1 g.goes h.goes;
          locals = h.locals ∙ g.locals;
          tree = λ e.
              let middle = ends_before file x.1 y.1 h.goes e in
              let after_block : else_tree s.locals y.0 ≡ unplaced_else (normal_else o) = subst (λ ls. else_tree ls y.0 ≡ unplaced_else (normal_else o)) g.locals (h.tree e) in
              if_tree s.locals k x.0 y.0 ∙ rw (f (ends_before file s x.1 g.goes middle), g.tree middle, after_block) refl;
          again = after _ _ _ _ i (after _ _ _ _ g.again (after _ _ _ _ h.again refl));
        })))
    statement_found s in_loop at (ChooseStatement a b os) bound =
        next (BlockRead s in_loop a) _ (statements_mean lines s in_loop a) _ (block_found s in_loop a bound) (λ x f.
        next (BlockRead x.1 in_loop b) _ (statements_mean lines x.1 in_loop b) _ (block_found x.1 in_loop b (f.goes.bound bound)) (λ y g.
        next (OrRead y.1 in_loop os) _ (or_means lines y.1 in_loop os) _ (or_found y.1 in_loop os (g.goes.bound (f.goes.bound bound))) (λ z h. record {
          goes = goes_on file s x.1 z.1 f.goes (goes_on file x.1 y.1 z.1 g.goes h.goes);
          locals = h.locals ∙ g.locals ∙ f.locals;
          tree = λ e.
              let third = ends_before file y.1 z.1 h.goes e in
              let second : block_tree file s.locals y.0 ≡ unplaced_block (normal_block b) = subst (λ ls. block_tree file ls y.0 ≡ unplaced_block (normal_block b)) f.locals (g.tree third) in
              let others : blocks_tree file s.locals z.0 ≡ unplaced_ors (normal_or os) = subst (λ ls. blocks_tree file ls z.0 ≡ unplaced_ors (normal_or os)) (g.locals ∙ f.locals) (h.tree e) in
              rw (f.tree (ends_before file x.1 y.1 g.goes third), second, others) refl;
          again = after _ _ _ _ f.again (after _ _ _ _ g.again (after _ _ _ _ h.again refl));
        })))
    statement_found s in_loop at (LoopStatement b) bound =
        next (BlockRead s true b) _ (statements_mean lines s true b) _ (block_found s true b bound) (λ x f. record {
          goes = f.goes;
          locals = f.locals;
          tree = λ e. ap LoopStatement (f.tree e);
          again = after _ _ _ _ f.again refl;
        })
    statement_found s true at BreakStatement bound = record { goes = goes_nowhere file s; locals = refl; tree = λ e. refl; again = refl }
    statement_found s false at BreakStatement bound = tt
    statement_found s in_loop at ReturnStatement bound = record { goes = goes_nowhere file s; locals = refl; tree = λ e. refl; again = refl }
    statement_found s in_loop at (LabelStatement n) bound =
        along (LabelRead file s n.value) _ (label_means s n) _ (label_found file s n) (λ l f e. record {
          goes = f.goes;
          locals = f.locals;
          tree = λ e. ap (λ m. LabelStatement (bare m)) (f.name e);
          again = after _ _ _ _ e refl;
        })

    pub block_found : (s : Scope) (in_loop : Bool) (b : BlockTree) → Bound file s → Has (BlockRead s in_loop b) (statements_mean lines s in_loop b)
    block_found s in_loop NoStatement bound = record { goes = goes_nowhere file s; locals = refl; tree = λ e. refl; again = refl }
    block_found s in_loop (ThenStatement at st b) bound =
        next (StatementRead s in_loop at st) _ (statement_means lines s in_loop at st) _ (statement_found s in_loop at st bound) (λ x f.
        next (BlockRead x.1 in_loop b) _ (statements_mean lines x.1 in_loop b) _ (block_found x.1 in_loop b (f.goes.bound bound)) (λ y g. record {
          goes = goes_on file s x.1 y.1 f.goes g.goes;
          locals = g.locals ∙ f.locals;
          tree = λ e.
              let others : block_tree file s.locals y.0 ≡ unplaced_block (normal_block b) = subst (λ ls. block_tree file ls y.0 ≡ unplaced_block (normal_block b)) f.locals (g.tree e) in
              ap₂ (λ (u : StatementTree) (v : BlockTree). ThenStatement 0 u v) (f.tree (ends_before file x.1 y.1 g.goes e)) others;
          again = after _ _ _ _ f.again (after _ _ _ _ g.again refl);
        }))

    else_found : (s : Scope) (in_loop : Bool) (o : ElseTree) → Bound file s → Has (ElseRead s in_loop o) (else_means lines s in_loop o)
    else_found s in_loop NoElse bound = record { goes = goes_nowhere file s; locals = refl; tree = λ e. refl; again = refl }
    else_found s in_loop (ElseBlock NoStatement) bound = record { goes = goes_nowhere file s; locals = refl; tree = λ e. refl; again = refl }
    else_found s in_loop (ElseBlock (ThenStatement at st b)) bound =
        weaker (BlockRead s in_loop (ThenStatement at st b)) _ (statements_mean lines s in_loop (ThenStatement at st b)) (λ x f. record {
          goes = f.goes;
          locals = f.locals;
          tree = λ e. with_statements s.locals x.0 0 (unplaced_statement (normal_statement st)) (unplaced_block (normal_block b)) (f.tree e);
          again = f.again;
        }) (block_found s in_loop (ThenStatement at st b) bound)

    or_found : (s : Scope) (in_loop : Bool) (os : OrTree) → Bound file s → Has (OrRead s in_loop os) (or_means lines s in_loop os)
    or_found s in_loop NoOr bound = record { goes = goes_nowhere file s; locals = refl; tree = λ e. refl; again = refl }
    or_found s in_loop (OrBlock b os) bound =
        next (BlockRead s in_loop b) _ (statements_mean lines s in_loop b) _ (block_found s in_loop b bound) (λ x f.
        next (OrRead x.1 in_loop os) _ (or_means lines x.1 in_loop os) _ (or_found x.1 in_loop os (f.goes.bound bound)) (λ y g. record {
          locals = g.locals ∙ f.locals;
          goes = goes_on file s x.1 y.1 f.goes g.goes;
          tree = λ e.
              let others : blocks_tree file s.locals y.0 ≡ unplaced_ors (normal_or os) = subst (λ ls. blocks_tree file ls y.0 ≡ unplaced_ors (normal_or os)) f.locals (g.tree e) in
              ap₂ (λ (u : BlockTree) (v : OrTree). OrBlock u v) (f.tree (ends_before file x.1 y.1 g.goes e)) others;
          again = after _ _ _ _ f.again (after _ _ _ _ g.again refl);
        }))
