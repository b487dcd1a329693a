-- The law of each form that holds lists or blocks, by its reader's shape: what is read of it are the tokens of its
-- tree, or the beginning of one.
use Rattle.std.proofs.Common.{◌≡◌, ℕ, zero, suc, true, Option, List, [], ◌∷◌, refl, arith}
use Rattle.plc_lex.specs.declared.token.TokenKind.{TokenKind}
use Rattle.plc_lex.specs.declared.token.TokenKind.TheVariants.{Word, Name, Symbol}
use Rattle.plc_lex.specs.declared.token.Keyword.TheVariants.{Struct, Ghost, Thread, Init, Op, Atomic, If, Else, Loop}
use Rattle.plc_lex.specs.declared.token.Keyword.TheVariants.{Break, Return, Choose, Or, Label, Null, Outline, Inv, Over}
use Rattle.plc_lex.specs.declared.token.Keyword.TheVariants.{At}
use Rattle.plc_lex.specs.declared.token.Symbol.TheVariants.{Equal, OpenBrace, CloseBrace, OpenParen, CloseParen}
use Rattle.plc_lex.specs.declared.token.Symbol.TheVariants.{Semicolon, Colon}
use Rattle.plc_syntax.specs.Trees as trees
use Rattle.plc_syntax.specs.Trees.{Text, Placed, Pieces, word, word_at, symbol, name, placed_then, kinds_of, each_then}
use Rattle.plc_syntax.specs.Trees.{maybe_then}
use Rattle.plc_syntax.specs.Syntax.{Spelling}
use Rattle.plc_syntax.proofs.Pieces.{begun_there, some_begun}
use Rattle.plc_syntax.proofs.Combinators.{Fuelled, same, Law, Early, Choice, takes, takes_at, leaves, last, fault}
use Rattle.plc_syntax.proofs.Combinators.{early_fault, led_law, early_led, then_form, then_whole, within, any_fuel}
use Rattle.plc_syntax.proofs.Combinators.{then_symbol, then_word, ended_by_law, a_name, a_name_fits, name_law}
use Rattle.plc_syntax.proofs.Combinators.{name_and_law, placed_law, early_placed}
use Rattle.plc_syntax.proofs.Lists.{listed, list_law}
use Rattle.plc_syntax.specs.Forms.{at_place, placed_of, first_is}
use Rattle.plc_syntax.proofs.FormLaws.{condition_law, named_tail_law, primitive_line_law, initial_law, argument_law}
use Rattle.plc_syntax.proofs.FormLaws.{during_law, comma_name_law, field_law, shared_law, function_law, watch_law}
use Rattle.plc_syntax.proofs.FormLaws.{literal_law, or_literal_law, bound_law, depth_law}
use Rattle.plc_tree.specs.Forms as forms

-- ---- a form between symbols

braced_law : {X : Type 0} {n : ℕ} {s : Spelling X} {f : Fuelled X} → Law n s same (λ m at ts. f m at ts)
    → Law n (λ x q. symbol OpenBrace ∷ s x q) same (λ m at ts. forms.braced_of (f m) at ts)
braced_law law = then_symbol OpenBrace (within (λ q. symbol OpenBrace ∷ q) law)

closed_law : {X : Type 0} {n : ℕ} {s : Spelling X} {f : Fuelled X} → Law n s same (λ m at ts. f m at ts)
    → Law n (λ x q. s x (symbol CloseBrace ∷ q)) same (λ m at ts. forms.closed_of (f m) at ts)
closed_law law = ended_by_law CloseBrace law

-- ---- what may be left out

abbrev starts_then : Spelling (Option (List (Placed trees.InitialTree)))
starts_then i q = maybe_then trees.init_then i q

abbrev outlined_then : Spelling (Option trees.OutlineTree)
outlined_then o q = maybe_then trees.outline_then o q

-- ---- primitives

pub line_begun : (p : trees.PrimitiveTree) (q : Pieces)
    → first_is forms.begins_primitive (kinds_of (trees.primitive_line_then p q)) ≡ true
line_begun (trees.SetPrimitive (trees.SetName k v)) q = refl
line_begun (trees.SetPrimitive (trees.SetField k f a)) q = refl
line_begun (trees.RefreshPrimitive (trees.RefreshName k p)) q = refl
line_begun (trees.RefreshPrimitive (trees.RefreshField k f r)) q = refl
line_begun (trees.GhostPrimitive (trees.SetGhost k g v)) q = refl
line_begun (trees.ActivePrimitive k) q = refl
line_begun (trees.AssumePrimitive t) q = refl
line_begun trees.SkipPrimitive q = refl

primitives_law : (n : ℕ) → Law n (λ ps q. each_then (placed_then trees.primitive_line_then) ps q) same
    (λ m at ts. forms.primitives_of m at ts)
primitives_law = list_law forms.begins_primitive
    (begun_there trees.primitive_line_then forms.begins_primitive line_begun)
    (any_fuel (λ n. placed_law (some_begun trees.primitive_line_then forms.begins_primitive line_begun)
    (primitive_line_law n)))

-- ---- the assignments of `init`

pub initial_begun : (i : trees.InitialTree) (q : Pieces)
    → first_is forms.begins_initial (kinds_of (trees.initial_then i q)) ≡ true
initial_begun (trees.InitialSet (trees.SetName k v)) q = refl
initial_begun (trees.InitialSet (trees.SetField k f a)) q = refl
initial_begun (trees.InitialGhost (trees.SetGhost k g v)) q = refl

initials_law : (n : ℕ) → Law n (λ is q. each_then (placed_then trees.initial_then) is q) same
    (λ m at ts. forms.initials_of m at ts)
initials_law = list_law forms.begins_initial (begun_there trees.initial_then forms.begins_initial initial_begun)
    (any_fuel (λ n. placed_law (some_begun trees.initial_then forms.begins_initial initial_begun) (initial_law n)))

-- ---- statements without blocks of statements

call_law : {n : ℕ} (k : Placed Text)
    → Law n trees.statement_then (λ q. name k ∷ symbol OpenParen ∷ q) (λ m at ts. forms.call_of k at ts)
call_law k = then_form argument_law (λ a. then_symbol CloseParen (then_form during_law (λ d.
    then_symbol Semicolon (last (λ q. refl)))))

named_statement_choice : {n : ℕ} (k : Placed Text) (at : ℕ) (t : TokenKind)
    → Choice n trees.statement_then (λ q. name k ∷ q) (λ m. forms.named_statement_next k) at t
named_statement_choice k at (Symbol OpenParen) = takes _ (λ m. refl) (call_law k)
named_statement_choice k at _ = leaves (λ m. refl)

named_statement_law : {n : ℕ} (k : Placed Text)
    → Law n trees.statement_then (λ q. name k ∷ q) (λ m at ts. forms.named_statement_of k at ts)
named_statement_law k = led_law (named_statement_choice k)
    (then_whole (named_tail_law k) (λ p. then_symbol Semicolon (last (λ q. refl))))

atomic_law : (n : ℕ) → Law n trees.statement_then (λ q. word Atomic ∷ q) (λ m at ts. forms.atomic_of m at ts)
atomic_law n = then_form (braced_law (closed_law (primitives_law n))) (λ ps. last (λ q. refl))

ended_law : {n : ℕ} (s : trees.StatementTree) (pre : Pieces → Pieces)
    → ((q : Pieces) → trees.statement_then s q ≡ pre (symbol Semicolon ∷ q))
    → Law n trees.statement_then pre (λ m at ts. forms.ended_of s at ts)
ended_law s pre h = then_symbol Semicolon (last h)

label_law : {n : ℕ} → Law n trees.statement_then (λ q. word Label ∷ q) (λ m at ts. forms.label_of at ts)
label_law = then_form (name_and_law Semicolon) (λ k. last (λ q. refl))

guard_law : {n : ℕ} → Law n (λ c q. symbol OpenParen ∷ trees.condition_then c (symbol CloseParen ∷ q)) same
    (λ m at ts. forms.guard_of at ts)
guard_law = then_symbol OpenParen (within (λ q. symbol OpenParen ∷ q) (ended_by_law CloseParen condition_law))

step_law : (n : ℕ) → Law n trees.statement_then same (λ m at ts. forms.step_of at ts)
step_law n = then_form (primitive_line_law n) (λ p. last (λ q. refl))

-- ---- blocks

abbrev pub block_then : Spelling trees.BlockTree
block_then b q = trees.statements_then b (symbol CloseBrace ∷ q)

abbrev braced_then : Spelling trees.BlockTree
braced_then b q = symbol OpenBrace ∷ block_then b q

pub statement_begun : (s : trees.StatementTree) (q : Pieces)
    → first_is forms.begins_statement (kinds_of (trees.statement_then s q)) ≡ true
statement_begun (trees.PrimitiveStatement (trees.SetPrimitive (trees.SetName k v))) q = refl
statement_begun (trees.PrimitiveStatement (trees.SetPrimitive (trees.SetField k f a))) q = refl
statement_begun (trees.PrimitiveStatement (trees.RefreshPrimitive (trees.RefreshName k p))) q = refl
statement_begun (trees.PrimitiveStatement (trees.RefreshPrimitive (trees.RefreshField k f r))) q = refl
statement_begun (trees.PrimitiveStatement (trees.GhostPrimitive (trees.SetGhost k g v))) q = refl
statement_begun (trees.PrimitiveStatement (trees.ActivePrimitive k)) q = refl
statement_begun (trees.PrimitiveStatement (trees.AssumePrimitive t)) q = refl
statement_begun (trees.PrimitiveStatement trees.SkipPrimitive) q = refl
statement_begun (trees.AtomicStatement ps) q = refl
statement_begun (trees.CallStatement f a d) q = refl
statement_begun (trees.IfStatement c b e) q = refl
statement_begun (trees.ChooseStatement a b os) q = refl
statement_begun (trees.LoopStatement b) q = refl
statement_begun trees.BreakStatement q = refl
statement_begun trees.ReturnStatement q = refl
statement_begun (trees.LabelStatement k) q = refl

-- a further block of a choice
abbrev or_block_then : Spelling trees.BlockTree
or_block_then b q = word Or ∷ braced_then b q

-- statements, and further blocks of a choice
record Blocks (n : ℕ) : Type 0 where
  pub statements : Law n trees.statements_then same (λ m at ts. forms.statements_of m at ts)
  pub ors : Law n trees.or_then same (λ m at ts. forms.ors_of m at ts)

module _ {n : ℕ} (b : Blocks n) where
  block_law : Law n block_then same (λ m at ts. forms.block_of m at ts)
  block_law = closed_law b.statements

  braced_block_law : Law n braced_then same (λ m at ts. forms.braced_of (forms.block_of m) at ts)
  braced_block_law = braced_law block_law

  loop_law : Law n trees.statement_then (λ q. word Loop ∷ q) (λ m at ts. forms.loop_of (forms.block_of m) at ts)
  unfolding forms.loop_of
  loop_law = then_form braced_block_law (λ b. last (λ q. refl))

  else_choice : (at : ℕ) (t : TokenKind) → Choice n trees.else_then same (λ m. forms.else_next (forms.block_of m)) at t
  else_choice at (Word Else) = takes _ (λ m. refl) (then_form braced_block_law (λ b. last (λ q. refl)))
  else_choice at _ = leaves (λ m. refl)

  else_law : Law n trees.else_then same (λ m at ts. forms.else_of (forms.block_of m) at ts)
  unfolding forms.else_of
  else_law = led_law else_choice (last (λ q. refl))

  if_law : Law n trees.statement_then (λ q. word If ∷ q) (λ m at ts. forms.if_of (forms.block_of m) at ts)
  unfolding forms.if_of
  if_law = then_form guard_law (λ c. then_form braced_block_law (λ b. then_form else_law (λ e. last (λ q. refl))))

  choose_law : Law n trees.statement_then (λ q. word Choose ∷ q)
      (λ m at ts. forms.choose_of (forms.block_of m) (forms.ors_of m) at ts)
  unfolding forms.choose_of
  choose_law = then_form braced_block_law (λ a. then_word Or (then_form braced_block_law (λ c.
      then_form b.ors (λ os. last (λ q. refl)))))

  statement_choice : (at : ℕ) (t : TokenKind) → Choice n trees.statement_then same
      (λ m. forms.statement_next (forms.block_of m) (forms.ors_of m) m) at t
  statement_choice at (Name k) = takes_at _ (λ m. refl) (named_statement_law (at_place at k))
  statement_choice at (Word Atomic) = takes _ (λ m. refl) (atomic_law n)
  statement_choice at (Word If) = takes _ (λ m. refl) if_law
  statement_choice at (Word Choose) = takes _ (λ m. refl) choose_law
  statement_choice at (Word Loop) = takes _ (λ m. refl) loop_law
  statement_choice at (Word Break) =
      takes _ (λ m. refl) (ended_law trees.BreakStatement (λ q. word Break ∷ q) (λ q. refl))
  statement_choice at (Word Return) =
      takes _ (λ m. refl) (ended_law trees.ReturnStatement (λ q. word Return ∷ q) (λ q. refl))
  statement_choice at (Word Label) = takes _ (λ m. refl) label_law
  statement_choice at _ = leaves (λ m. refl)

  statement_law : Early n trees.statement_then same
      (λ m at ts. forms.statement_of (forms.block_of m) (forms.ors_of m) m at ts)
  unfolding forms.statement_of
  statement_law = early_led statement_choice (any_fuel step_law n)

  or_block_choice : (at : ℕ) (t : TokenKind) → Choice n or_block_then same
      (λ m. forms.or_block_next (forms.block_of m)) at t
  or_block_choice at (Word Or) = takes _ (λ m. refl) (within (λ q. word Or ∷ q) braced_block_law)
  or_block_choice at _ = leaves (λ m. refl)

  or_block_law : Early n or_block_then same (λ m at ts. forms.or_block_of (forms.block_of m) at ts)
  or_block_law = early_led or_block_choice
      (early_fault trees.NoStatement (word Or ∷ symbol OpenBrace ∷ symbol CloseBrace ∷ []) (tt, (tt, (tt, tt)))
      (λ q. refl))

  next_statements : Law (suc n) trees.statements_then same (λ m at ts. forms.statements_of m at ts)
  next_statements = listed (placed_then trees.statement_then) (λ s b. trees.Then s.at s.value b) trees.NoStatement
      trees.statements_then forms.begins_statement
      (λ m at ts. placed_of (forms.statement_of (forms.block_of m) (forms.ors_of m) m) at ts)
      (λ m at ts. forms.statements_of m at ts) (λ q. refl) (λ s b q. refl)
      (begun_there trees.statement_then forms.begins_statement statement_begun) (λ m at ts. refl) n b.statements
      (early_placed (some_begun trees.statement_then forms.begins_statement statement_begun) statement_law)

  next_ors : Law (suc n) trees.or_then same (λ m at ts. forms.ors_of m at ts)
  next_ors = listed or_block_then trees.OrBlock trees.NoOr trees.or_then forms.begins_or
      (λ m at ts. forms.or_block_of (forms.block_of m) at ts) (λ m at ts. forms.ors_of m at ts) (λ q. refl)
      (λ b os q. refl) (λ b q. refl) (λ m at ts. refl) n b.ors or_block_law

blocks : (n : ℕ) → Blocks n
blocks zero = record { statements = λ at ts l. absurd (omega arith); ors = λ at ts l. absurd (omega arith) }
blocks (suc n) = record { statements = next_statements (blocks n); ors = next_ors (blocks n) }

-- ---- names after a comma

abbrev names_then : Spelling (List (Placed Text))
names_then ns q = each_then trees.comma_name_then ns q

comma_names_law : (n : ℕ) → Law n names_then same (λ m at ts. forms.comma_names_of m at ts)
comma_names_law = list_law forms.begins_comma_name (λ k q. refl) (any_fuel comma_name_law)

-- ---- declarations

pub field_begun : (f : trees.FieldTree) (q : Pieces)
    → first_is forms.begins_field (kinds_of (trees.field_then f q)) ≡ true
field_begun (trees.PointerField k) q = refl
field_begun (trees.DataField k) q = refl

fields_law : (n : ℕ) → Law n (λ fs q. each_then trees.field_then fs q) same (λ m at ts. forms.fields_of m at ts)
fields_law = list_law forms.begins_field field_begun (any_fuel field_law)

pointers_law : (n : ℕ) → Law n (λ ps q. each_then trees.shared_then ps q) same
    (λ m at ts. forms.pointers_of m at ts)
pointers_law = list_law forms.begins_shared (λ k q. refl) (any_fuel shared_law)

pub function_begun : (f : trees.FunctionTree) (q : Pieces)
    → first_is forms.begins_function (kinds_of (trees.function_then f q)) ≡ true
function_begun (trees.Declares k w) q = refl

functions_law : (n : ℕ) → Law n (λ fs q. each_then trees.function_then fs q) same
    (λ m at ts. forms.functions_of m at ts)
functions_law = list_law forms.begins_function function_begun (any_fuel function_law)

values_law : (n : ℕ) → Law n trees.ghost_kind_then (λ q. symbol OpenBrace ∷ q) (λ m at ts. forms.values_of m at ts)
values_law n = then_form name_law (λ v. then_form (closed_law (comma_names_law n)) (λ vs. last (λ q. refl)))

ghost_kind_choice : {n : ℕ} (at : ℕ) (t : TokenKind) → Choice n trees.ghost_kind_then same
    (λ m. forms.ghost_kind_next m) at t
ghost_kind_choice at (Symbol OpenBrace) = takes _ (λ m. refl) (values_law _)
ghost_kind_choice at (Word Thread) = takes _ (λ m. refl) (last (λ q. refl))
ghost_kind_choice at _ = leaves (λ m. refl)

ghost_kind_law : {n : ℕ} → Law n trees.ghost_kind_then same (λ m at ts. forms.ghost_kind_of m at ts)
ghost_kind_law = led_law ghost_kind_choice (fault trees.OfThreads (word Thread ∷ []) (tt, tt) (λ q. refl))

ghost_tail_law : {n : ℕ} → Law n trees.ghost_then (λ q. word Ghost ∷ q) (λ m at ts. forms.ghost_tail_of m at ts)
ghost_tail_law = then_form name_law (λ k. then_form ghost_kind_law (λ x. then_symbol Semicolon (last (λ q. refl))))

ghost_choice : {n : ℕ} (at : ℕ) (t : TokenKind) → Choice n trees.ghost_then same (λ m. forms.ghost_next m) at t
ghost_choice at (Word Ghost) = takes _ (λ m. refl) ghost_tail_law
ghost_choice at _ = leaves (λ m. refl)

ghost_law : (n : ℕ) → Early n trees.ghost_then same (λ m at ts. forms.ghost_of m at ts)
ghost_law n = early_led ghost_choice
    (early_fault (trees.Auxiliary a_name trees.OfThreads)
    (word Ghost ∷ name a_name ∷ word Thread ∷ symbol Semicolon ∷ []) (tt, (a_name_fits, (tt, (tt, tt)))) (λ q. refl))

pub ghost_begun : (g : trees.GhostTree) (q : Pieces)
    → first_is forms.begins_ghost (kinds_of (trees.ghost_then g q)) ≡ true
ghost_begun (trees.Auxiliary k x) q = refl

ghosts_law : (n : ℕ) → Law n (λ gs q. each_then trees.ghost_then gs q) same (λ m at ts. forms.ghosts_of m at ts)
ghosts_law = list_law forms.begins_ghost ghost_begun ghost_law

init_choice : {n : ℕ} (at : ℕ) (t : TokenKind) → Choice n starts_then same (λ m. forms.init_next m) at t
init_choice at (Word Init) =
    takes _ (λ m. refl) (then_form (braced_law (closed_law (initials_law _))) (λ is. last (λ q. refl)))
init_choice at _ = leaves (λ m. refl)

init_law : {n : ℕ} → Law n starts_then same (λ m at ts. forms.init_of m at ts)
init_law = led_law init_choice (last (λ q. refl))

-- ---- operations

abbrev parameters_end : Spelling (List (Placed Text))
parameters_end ps q = trees.parameters_then ps (symbol CloseParen ∷ q)

parameters_choice : {n : ℕ} (at : ℕ) (t : TokenKind) → Choice n parameters_end same (λ m. forms.parameters_next m) at t
parameters_choice at (Name k) =
    takes_at _ (λ m. refl) (then_form (ended_by_law CloseParen (comma_names_law _)) (λ ks. last (λ q. refl)))
parameters_choice at (Symbol CloseParen) = takes _ (λ m. refl) (last (λ q. refl))
parameters_choice at _ = leaves (λ m. refl)

parameters_law : {n : ℕ} → Law n parameters_end same (λ m at ts. forms.parameters_of m at ts)
parameters_law = led_law parameters_choice (fault [] (symbol CloseParen ∷ []) (tt, tt) (λ q. refl))

op_tail_law : (n : ℕ) → Law n trees.op_then (λ q. word Op ∷ q) (λ m at ts. forms.op_tail_of m at ts)
op_tail_law n = then_form (name_and_law OpenParen) (λ k. then_form parameters_law (λ ps.
    then_symbol OpenBrace (then_form (fields_law n) (λ ls. then_form (block_law (blocks n)) (λ b.
    last (λ q. refl))))))

op_choice : {n : ℕ} (at : ℕ) (t : TokenKind) → Choice n trees.op_then same (λ m. forms.op_next m) at t
op_choice at (Word Op) = takes _ (λ m. refl) (op_tail_law _)
op_choice at _ = leaves (λ m. refl)

op_law : (n : ℕ) → Early n trees.op_then same (λ m at ts. forms.op_of m at ts)
op_law n = early_led op_choice
    (early_fault (trees.Operates a_name [] [] trees.NoStatement)
    (word Op ∷ name a_name ∷ symbol OpenParen ∷ symbol CloseParen ∷ symbol OpenBrace ∷ symbol CloseBrace ∷ [])
    (tt, (a_name_fits, (tt, (tt, (tt, (tt, tt)))))) (λ q. refl))

pub op_begun : (o : trees.OpTree) (q : Pieces) → first_is forms.begins_op (kinds_of (trees.op_then o q)) ≡ true
op_begun (trees.Operates k ps ls b) q = refl

ops_law : (n : ℕ) → Law n (λ os q. each_then (placed_then trees.op_then) os q) same (λ m at ts. forms.ops_of m at ts)
ops_law = list_law forms.begins_op (begun_there trees.op_then forms.begins_op op_begun)
    (λ n. early_placed (some_begun trees.op_then forms.begins_op op_begun) (op_law n))

-- ---- clauses of an outline

or_literals_law : (n : ℕ) → Law n (λ ls q. each_then trees.or_literal_then ls q) same
    (λ m at ts. forms.or_literals_of m at ts)
or_literals_law = list_law forms.begins_or (λ l q. refl) (any_fuel or_literal_law)

abbrev clause_line_then : Spelling trees.ClauseTree
clause_line_then c q = trees.clause_then c (symbol Semicolon ∷ q)

clause_law : (n : ℕ) → Law n clause_line_then same (λ m at ts. forms.clause_of m at ts)
clause_law n = then_form bound_law (λ b. then_form literal_law (λ l.
    then_form (ended_by_law Semicolon (or_literals_law n)) (λ ls. last (λ q. refl))))

-- ---- items, and the outline

over_law : (n : ℕ) → Law n trees.item_then (λ q. word Over ∷ q) (λ m at ts. forms.over_of m at ts)
over_law n = then_form (name_and_law Colon) (λ k. then_form (clause_law n) (λ c. last (λ q. refl)))

at_law : (n : ℕ) → Law n trees.item_then (λ q. word At ∷ q) (λ m at ts. forms.at_of m at ts)
at_law n = then_form name_law (λ k. then_form (ended_by_law Colon (comma_names_law n)) (λ ks.
    then_form (clause_law n) (λ c. last (λ q. refl))))

item_choice : {n : ℕ} (at : ℕ) (t : TokenKind) → Choice n trees.item_then same (λ m. forms.item_next m) at t
item_choice at (Word Inv) = takes _ (λ m. refl) (then_form (clause_law _) (λ c. last (λ q. refl)))
item_choice at (Word Over) = takes _ (λ m. refl) (over_law _)
item_choice at (Word At) = takes _ (λ m. refl) (at_law _)
item_choice at _ = leaves (λ m. refl)

abbrev some_clause : trees.ClauseTree
some_clause = trees.Claims trees.NoBound (trees.EqualityLiteral (trees.NullTerm 0) true (trees.NullTerm 0)) []

item_law : (n : ℕ) → Early n trees.item_then same (λ m at ts. forms.item_of m at ts)
item_law n = early_led item_choice
    (early_fault (trees.InvariantItem some_clause)
    (word Inv ∷ word_at 0 Null ∷ symbol Equal ∷ word_at 0 Null ∷ symbol Semicolon ∷ []) (tt, (tt, (tt, (tt, (tt, tt)))))
    (λ q. refl))

pub item_begun : (i : trees.ItemTree) (q : Pieces) → first_is forms.begins_item (kinds_of (trees.item_then i q)) ≡ true
item_begun (trees.InvariantItem c) q = refl
item_begun (trees.OverItem k c) q = refl
item_begun (trees.AtItem k ks c) q = refl

items_law : (n : ℕ) → Law n (λ is q. each_then trees.item_then is q) same (λ m at ts. forms.items_of m at ts)
items_law = list_law forms.begins_item item_begun item_law

outline_tail_law : (n : ℕ) → Law n trees.outline_then (λ q. word Outline ∷ q) (λ m at ts. forms.outline_tail_of m at ts)
outline_tail_law n = then_symbol OpenBrace (then_form depth_law (λ d. then_form (closed_law (items_law n)) (λ is.
    last (λ q. refl))))

pub outline_law : (n : ℕ) → Law n trees.outline_then same (λ m at ts. forms.outline_of m at ts)
outline_law n = then_word Outline (outline_tail_law n)

outlined_choice : {n : ℕ} (at : ℕ) (t : TokenKind) → Choice n outlined_then same (λ m. forms.outlined_next m) at t
outlined_choice at (Word Outline) = takes _ (λ m. refl) (then_whole (outline_tail_law _) (λ o. last (λ q. refl)))
outlined_choice at _ = leaves (λ m. refl)

outlined_law : {n : ℕ} → Law n outlined_then same (λ m at ts. forms.outlined_of m at ts)
outlined_law = led_law outlined_choice (last (λ q. refl))

-- ---- the file

abbrev struct_then : Spelling (Placed Text × List trees.FieldTree)
struct_then s q = trees.struct_then s.0 s.1 q

struct_law : (n : ℕ) → Law n struct_then same (λ m at ts. forms.struct_of m at ts)
struct_law n = then_word Struct (then_form name_law (λ k. then_form (braced_law (closed_law (fields_law n))) (λ fs.
    last (λ q. refl))))

-- what stands before the operations
abbrev pub heading_then : Spelling trees.FileTree
heading_then f q = trees.struct_then f.name f.fields (each_then trees.shared_then f.pointers
    (each_then trees.function_then f.functions (maybe_then trees.watch_then f.watched
    (each_then trees.ghost_then f.ghosts (maybe_then trees.init_then f.starts q)))))

heading_law : (n : ℕ) → Law n heading_then same (λ m at ts. forms.heading_of m at ts)
heading_law n = then_form (struct_law n) (λ s. then_form (pointers_law n) (λ ps. then_form (functions_law n) (λ fs.
    then_form watch_law (λ w. then_form (ghosts_law n) (λ gs. then_form init_law (λ i. last (λ q. refl)))))))

pub file_law : (n : ℕ) → Law n trees.file_then same (λ m at ts. forms.file_of m at ts)
file_law n = then_form (heading_law n) (λ h. then_form (ops_law n) (λ os. then_form outlined_law (λ o.
    last (λ q. refl))))
