-- The readers of forms that hold lists or blocks read the tokens of every tree, whatever stands after them, given fuel:
-- a row for each constructor. Read is the tree but for its places, and the tree itself where each place in it is that
-- of its token. Only what may be left out asks that what follows is no beginning of it.
use Rattle.std.proofs.Common.{◌≡◌, ◌∙◌, ◌+◌, ℕ, false, Option, Some, None, List, [], ◌∷◌, map, Ok, refl, sym, ap, subst}
use Rattle.plc_lex.specs.declared.token.TokenKind.TheVariants.{Word}
use Rattle.plc_lex.specs.declared.token.Keyword.TheVariants as words
use Rattle.plc_lex.specs.declared.token.Symbol.TheVariants.{OpenBrace, CloseBrace, CloseParen, Semicolon, Colon}
use Rattle.plc_syntax.specs.Trees as trees
use Rattle.plc_syntax.specs.Trees.{Text, Placed, Pieces, word, symbol, name, from_place, placed_then, kinds_of}
use Rattle.plc_syntax.specs.Trees.{AreInPlace}
use Rattle.plc_syntax.specs.Trees.{each_then, maybe_then}
use Rattle.plc_syntax.proofs.Pieces.{Tokens, from_kinds, begun_there, some_begun}
use Rattle.plc_syntax.proofs.Combinators.{Fuelled}
use Rattle.plc_syntax.proofs.FormLaws.{some_literal}
use Rattle.plc_syntax.proofs.Unplaced as bare
use Rattle.plc_syntax.proofs.Unplaced.{unplaced, unplaced_by, unplaced_maybe}
use Rattle.plc_syntax.specs.Forms.{at_place, placed_of, first_is, comma_name_of, primitive_line_of, initial_of}
use Rattle.plc_syntax.specs.Forms.{field_of}
use Rattle.plc_syntax.specs.Forms.{shared_of, function_of, watch_next, argument_of, during_of, literal_of}
use Rattle.plc_syntax.specs.Forms.{or_literal_of, depth_next}
use Rattle.plc_syntax.proofs.Again.{Gets, done, then, from_given, one_more, gets_by, where_true, where_false, Leaves}
use Rattle.plc_syntax.proofs.Again.{left_out, there, both, three, list_gets, placed_gets, NoDot, condition_gets}
use Rattle.plc_syntax.proofs.Again.{primitive_gets, line_gets, initial_gets, literal_gets, bound_of_literal, bound_gets}
use Rattle.plc_syntax.proofs.Again.{depth_gets, function_gets, watch_gets}
use Rattle.plc_tree.specs.Forms as forms
use Rattle.plc_tree.proofs.FormLaws.{block_then, line_begun, initial_begun, statement_begun, field_begun, heading_then}
use Rattle.plc_tree.proofs.FormLaws.{function_begun, ghost_begun, op_begun, item_begun}

comma_name_gets : (k : Placed Text) (at : ℕ) (r : Pieces)
    → Gets unplaced (AreInPlace at (trees.comma_name_then k r))
    (λ m. comma_name_of at (kinds_of (trees.comma_name_then k r))) k r
comma_name_gets k at r = done refl (λ p. (there k p.1.0.0, p.1.1))

names_get : (ks : List (Placed Text)) (at : ℕ) (r : Pieces) → first_is forms.begins_comma_name (kinds_of r) ≡ false
    → Gets bare.unplaced_names (AreInPlace at (each_then trees.comma_name_then ks r))
    (λ m. forms.comma_names_of m at (kinds_of (each_then trees.comma_name_then ks r))) ks r
names_get ks at r none = list_gets trees.comma_name_then unplaced forms.begins_comma_name
    (λ m at ts. comma_name_of at ts) (λ k q. refl) r none
    (λ k at ks. comma_name_gets k at (each_then trees.comma_name_then ks r)) ks at

-- ---- primitives, in an atomic block and as statements

primitives_get : (ps : List (Placed trees.PrimitiveTree)) (at : ℕ) (r : Pieces) → let q = symbol CloseBrace ∷ r in
    Gets (map (unplaced_by bare.unplaced_primitive))
    (AreInPlace at (each_then (placed_then trees.primitive_line_then) ps q))
    (λ m. forms.primitives_of m at (kinds_of (each_then (placed_then trees.primitive_line_then) ps q))) ps q
primitives_get ps at r =
    let line = trees.primitive_line_then in
    let q = symbol CloseBrace ∷ r in
    list_gets (placed_then line) (unplaced_by bare.unplaced_primitive) forms.begins_primitive
    (λ m at ts. placed_of primitive_line_of at ts) (begun_there line forms.begins_primitive line_begun) q refl
    (λ p at ps. let us = each_then (placed_then line) ps q in
    placed_gets line (λ m at ts. primitive_line_of at ts) p at us
    (some_begun line forms.begins_primitive line_begun p.value us) (line_gets p.value at us)) ps at

initials_get : (is : List (Placed trees.InitialTree)) (at : ℕ) (r : Pieces) → let q = symbol CloseBrace ∷ r in
    Gets bare.unplaced_sets (AreInPlace at (each_then (placed_then trees.initial_then) is q))
    (λ m. forms.initials_of m at (kinds_of (each_then (placed_then trees.initial_then) is q))) is q
initials_get is at r =
    let set = trees.initial_then in
    let q = symbol CloseBrace ∷ r in
    list_gets (placed_then set) (unplaced_by bare.unplaced_initial) forms.begins_initial
    (λ m at ts. placed_of initial_of at ts) (begun_there set forms.begins_initial initial_begun) q refl
    (λ i at is. let us = each_then (placed_then set) is q in
    placed_gets set (λ m at ts. initial_of at ts) i at us
    (some_begun set forms.begins_initial initial_begun i.value us) (initial_gets i.value at us)) is at

-- ---- statements

-- no `else`, `or`, `ptr` and `data` stand in front
record Ends (r : Tokens) : Type 0 where
  pub no_else : (block : forms.BlockReader) → Leaves (forms.else_next block) r
  pub no_or : first_is forms.begins_or r ≡ false
  pub no_field : first_is forms.begins_field r ≡ false

statement_ends : (s : trees.StatementTree) (r : Pieces) → Ends (kinds_of (trees.statement_then s r))
statement_ends (trees.PrimitiveStatement (trees.SetPrimitive (trees.SetName k v))) r =
    record { no_else = λ block at. refl; no_or = refl; no_field = refl }
statement_ends (trees.PrimitiveStatement (trees.SetPrimitive (trees.SetField k f a))) r =
    record { no_else = λ block at. refl; no_or = refl; no_field = refl }
statement_ends (trees.PrimitiveStatement (trees.RefreshPrimitive (trees.RefreshName k p))) r =
    record { no_else = λ block at. refl; no_or = refl; no_field = refl }
statement_ends (trees.PrimitiveStatement (trees.RefreshPrimitive (trees.RefreshField k f q))) r =
    record { no_else = λ block at. refl; no_or = refl; no_field = refl }
statement_ends (trees.PrimitiveStatement (trees.GhostPrimitive (trees.SetGhost k g v))) r =
    record { no_else = λ block at. refl; no_or = refl; no_field = refl }
statement_ends (trees.PrimitiveStatement (trees.ActivePrimitive k)) r =
    record { no_else = λ block at. refl; no_or = refl; no_field = refl }
statement_ends (trees.PrimitiveStatement (trees.AssumePrimitive t)) r =
    record { no_else = λ block at. refl; no_or = refl; no_field = refl }
statement_ends (trees.PrimitiveStatement trees.SkipPrimitive) r =
    record { no_else = λ block at. refl; no_or = refl; no_field = refl }
statement_ends (trees.AtomicStatement ps) r = record { no_else = λ block at. refl; no_or = refl; no_field = refl }
statement_ends (trees.CallStatement f a d) r = record { no_else = λ block at. refl; no_or = refl; no_field = refl }
statement_ends (trees.IfStatement c x e) r = record { no_else = λ block at. refl; no_or = refl; no_field = refl }
statement_ends (trees.ChooseStatement x y os) r = record { no_else = λ block at. refl; no_or = refl; no_field = refl }
statement_ends (trees.LoopStatement x) r = record { no_else = λ block at. refl; no_or = refl; no_field = refl }
statement_ends trees.BreakStatement r = record { no_else = λ block at. refl; no_or = refl; no_field = refl }
statement_ends trees.ReturnStatement r = record { no_else = λ block at. refl; no_or = refl; no_field = refl }
statement_ends (trees.LabelStatement k) r = record { no_else = λ block at. refl; no_or = refl; no_field = refl }

ends : (b : trees.BlockTree) (r : Pieces) → Ends (kinds_of (block_then b r))
ends trees.NoStatement r = record { no_else = λ block at. refl; no_or = refl; no_field = refl }
ends (trees.Then at s b) r = subst (λ ts. Ends ts) (sym (from_kinds at (trees.statement_then s (block_then b r))))
    (statement_ends s (block_then b r))

argument_gets : (a : trees.ArgumentTree) (at : ℕ) (r : Pieces) → let q = symbol CloseParen ∷ r in
    Gets bare.unplaced_argument (AreInPlace at (trees.argument_then a q))
    (λ m. argument_of at (kinds_of (trees.argument_then a q))) a q
argument_gets trees.NoArgument at r = done refl (λ p. (refl, p))
argument_gets trees.NullArgument at r = done refl (λ p. (refl, p.1))
argument_gets (trees.NameArgument k) at r = done refl (λ p. (ap trees.NameArgument (there k p.0.0), p.1))
argument_gets (trees.ActiveArgument k) at r = done refl (λ p. (ap trees.ActiveArgument (there k p.1.0.0), p.1.1))

during_gets : (d : Option (Placed Text)) (at : ℕ) (r : Pieces) → let q = symbol Semicolon ∷ r in
    Gets bare.unplaced_label (AreInPlace at (maybe_then trees.during_then d q))
    (λ m. during_of at (kinds_of (maybe_then trees.during_then d q))) d q
during_gets None at r = done refl (λ p. (refl, p))
during_gets (Some k) at r = done refl (λ p. (ap Some (there k p.1.0.0), p.1.1))

-- from after the parenthesis
abbrev call_tail : trees.ArgumentTree → Option (Placed Text) → Pieces → Pieces
call_tail a d r = trees.argument_then a (symbol CloseParen ∷ maybe_then trees.during_then d (symbol Semicolon ∷ r))

call_gets : (k l : Placed Text) (a : trees.ArgumentTree) (d : Option (Placed Text)) (at : ℕ) (r : Pieces)
    → unplaced k ≡ unplaced l → Gets bare.unplaced_statement ((k ≡ l) × AreInPlace at (call_tail a d r))
    (λ m. forms.call_of k at (kinds_of (call_tail a d r))) (trees.CallStatement l a d) r
call_gets k l a d at r e =
    then _ (λ p. p.1) (argument_gets a at (maybe_then trees.during_then d (symbol Semicolon ∷ r))) (λ b at f s.
    then _ (λ p. (s p).1.1) (during_gets d (at + 1) r) (λ c at g t. done (three trees.CallStatement e f g)
    (λ p. (three trees.CallStatement p.0 (s p).0 (t p).0, (t p).1.1))))

abbrev statement_of : Fuelled trees.StatementTree
statement_of m at ts = forms.statement_of (forms.block_of m) (forms.ors_of m) m at ts

abbrev ReadsPrimitive : trees.PrimitiveTree → Type 0
ReadsPrimitive p = (at : ℕ) (r : Pieces) → let q = trees.primitive_then p (symbol Semicolon ∷ r) in
    Gets bare.unplaced_statement (AreInPlace at q) (λ m. statement_of m at (kinds_of q)) (trees.PrimitiveStatement p) r

primitive_statement_gets : (p : trees.PrimitiveTree) → ReadsPrimitive p
unfolding forms.statement_of
primitive_statement_gets (trees.SetPrimitive (trees.SetName k v)) = λ at r.
    then _ (λ p. p) (primitive_gets (trees.SetPrimitive (trees.SetName k v)) at r)
    (λ y q e s. done (ap trees.PrimitiveStatement e) (λ p. (ap trees.PrimitiveStatement (s p).0, (s p).1.1)))
primitive_statement_gets (trees.SetPrimitive (trees.SetField k f a)) = λ at r.
    then _ (λ p. p) (primitive_gets (trees.SetPrimitive (trees.SetField k f a)) at r)
    (λ y q e s. done (ap trees.PrimitiveStatement e) (λ p. (ap trees.PrimitiveStatement (s p).0, (s p).1.1)))
primitive_statement_gets (trees.RefreshPrimitive (trees.RefreshName k x)) = λ at r.
    then _ (λ p. p) (primitive_gets (trees.RefreshPrimitive (trees.RefreshName k x)) at r)
    (λ y q e s. done (ap trees.PrimitiveStatement e) (λ p. (ap trees.PrimitiveStatement (s p).0, (s p).1.1)))
primitive_statement_gets (trees.RefreshPrimitive (trees.RefreshField k f l)) = λ at r.
    done refl (λ p. (
      three (λ k f l. trees.PrimitiveStatement (trees.RefreshPrimitive (trees.RefreshField k f l)))
          (there k p.0.0) (there f p.1.1.0.0) (there l p.1.1.1.1.0.0),
      p.1.1.1.1.1.1,
    ))
primitive_statement_gets (trees.GhostPrimitive (trees.SetGhost k g v)) = λ at r.
    then _ (λ p. p) (line_gets (trees.GhostPrimitive (trees.SetGhost k g v)) at r)
    (λ y q e s. done (ap trees.PrimitiveStatement e) (λ p. (ap trees.PrimitiveStatement (s p).0, (s p).1)))
primitive_statement_gets (trees.ActivePrimitive k) = λ at r.
    done refl
    (λ p. (ap (λ k. trees.PrimitiveStatement (trees.ActivePrimitive k)) (there k p.1.0.0), p.1.1.1))
primitive_statement_gets (trees.AssumePrimitive t) = λ at r.
    then _ (λ p. p) (line_gets (trees.AssumePrimitive t) at r)
    (λ y q e s. done (ap trees.PrimitiveStatement e) (λ p. (ap trees.PrimitiveStatement (s p).0, (s p).1)))
primitive_statement_gets trees.SkipPrimitive = λ at r. done refl (λ p. (refl, p.1.1))

-- statements and a closing brace are a block
closed_gets : (b : trees.BlockTree) (at : ℕ) (r : Pieces)
    → Gets bare.unplaced_block (AreInPlace at (block_then b r))
    (λ m. forms.statements_of m at (kinds_of (block_then b r))) b (symbol CloseBrace ∷ r)
    → Gets bare.unplaced_block (AreInPlace at (block_then b r))
    (λ m. forms.block_of m at (kinds_of (block_then b r))) b r
closed_gets b at r h = then _ (λ p. p) h (λ y q e s. done e (λ p. ((s p).0, (s p).1.1)))

mutual
  unfolding forms.statement_of forms.loop_of forms.if_of forms.choose_of forms.else_of

  statement_gets : (s : trees.StatementTree) (at : ℕ) (r : Pieces) → Ends (kinds_of r)
      → Gets bare.unplaced_statement (AreInPlace at (trees.statement_then s r))
      (λ m. statement_of m at (kinds_of (trees.statement_then s r))) s r
  statement_gets (trees.PrimitiveStatement p) at r h = primitive_statement_gets p at r
  statement_gets (trees.CallStatement k a d) at r h =
      from_given (λ p. (there k p.0.0, p.1.1)) (call_gets (at_place at k.value) k a d (at + 1 + 1) r refl)
  statement_gets (trees.AtomicStatement ps) at r h =
      then {us = r} _ (λ p. p.1.1) (then _ (λ p. p) (primitives_get ps (at + 1 + 1) r)
      (λ y q e s. done e (λ p. ((s p).0, (s p).1.1))))
      (λ y q e s. done (ap trees.AtomicStatement e) (λ p. (ap trees.AtomicStatement (s p).0, (s p).1)))
  statement_gets (trees.IfStatement c b e) at r h =
      let other = trees.else_then e r in
      let yes = symbol OpenBrace ∷ block_then b other in
      then {us = yes} _ (λ p. p.1.1) (then _ (λ p. p) (condition_gets c (at + 1 + 1) yes)
      (λ y q f s. done f (λ p. ((s p).0, (s p).1.1)))) (λ d at f s.
      then _ (λ p. (s p).1.1) (closed_gets b (at + 1) other (statements_get b (at + 1) other)) (λ y at g t.
      then _ (λ p. (t p).1) (else_gets e at r h) (λ n at i u. done (three trees.IfStatement f g i)
      (λ p. (three trees.IfStatement (s p).0 (t p).0 (u p).0, (u p).1)))))
  statement_gets (trees.ChooseStatement a b os) at r h =
      let others = trees.or_then os r in
      let second = word words.Or ∷ symbol OpenBrace ∷ block_then b others in
      then _ (λ p. p.1.1) (closed_gets a (at + 1 + 1) second (statements_get a (at + 1 + 1) second)) (λ x at e s.
      then _ (λ p. (s p).1.1.1) (closed_gets b (at + 1 + 1) others (statements_get b (at + 1 + 1) others)) (λ y at f t.
      then _ (λ p. (t p).1) (ors_get os at r h) (λ z at g u. done (three trees.ChooseStatement e f g)
      (λ p. (three trees.ChooseStatement (s p).0 (t p).0 (u p).0, (u p).1)))))
  statement_gets (trees.LoopStatement b) at r h =
      then _ (λ p. p.1.1) (closed_gets b (at + 1 + 1) r (statements_get b (at + 1 + 1) r))
      (λ y q e s. done (ap trees.LoopStatement e) (λ p. (ap trees.LoopStatement (s p).0, (s p).1)))
  statement_gets trees.BreakStatement at r h = done refl (λ p. (refl, p.1.1))
  statement_gets trees.ReturnStatement at r h = done refl (λ p. (refl, p.1.1))
  statement_gets (trees.LabelStatement k) at r h =
      done refl (λ p. (ap trees.LabelStatement (there k p.1.0.0), p.1.1.1))

  statements_get : (b : trees.BlockTree) (at : ℕ) (r : Pieces)
      → Gets bare.unplaced_block (AreInPlace at (block_then b r))
      (λ m. forms.statements_of m at (kinds_of (block_then b r))) b (symbol CloseBrace ∷ r)
  statements_get trees.NoStatement at r = one_more (done refl (λ p. (refl, p)))
  statements_get (trees.Then place s b) at r =
      let begun = begun_there trees.statement_then forms.begins_statement statement_begun (at_place place s)
      (block_then b r) in
      one_more (where_true _ begun (then _ (λ p. p) (placed_gets trees.statement_then statement_of (at_place place s) at
      (block_then b r) (some_begun trees.statement_then forms.begins_statement statement_begun s (block_then b r))
      (statement_gets s at (block_then b r) (ends b r))) (λ y at e t.
      then _ (λ p. (t p).1) (statements_get b at r) (λ z at f u. done (both (λ s b. trees.Then s.at s.value b) e f)
      (λ p. (both (λ s b. trees.Then s.at s.value b) (t p).0 (u p).0, (u p).1))))))

  else_gets : (e : trees.ElseTree) (at : ℕ) (r : Pieces) → Ends (kinds_of r)
      → Gets bare.unplaced_else (AreInPlace at (trees.else_then e r))
      (λ m. forms.else_of (forms.block_of m) at (kinds_of (trees.else_then e r))) e r
  else_gets trees.NoElse at r h = gets_by (λ m. left_out (forms.else_next (forms.block_of m))
      (Ok (trees.NoElse, at, kinds_of r)) at (kinds_of r) (h.no_else (forms.block_of m))) (done refl (λ p. (refl, p)))
  else_gets (trees.ElseBlock b) at r h =
      then _ (λ p. p.1.1) (closed_gets b (at + 1 + 1) r (statements_get b (at + 1 + 1) r))
      (λ y q e s. done (ap trees.ElseBlock e) (λ p. (ap trees.ElseBlock (s p).0, (s p).1)))

  ors_get : (os : trees.OrTree) (at : ℕ) (r : Pieces) → Ends (kinds_of r)
      → Gets bare.unplaced_ors (AreInPlace at (trees.or_then os r))
      (λ m. forms.ors_of m at (kinds_of (trees.or_then os r))) os r
  ors_get trees.NoOr at r h = one_more (where_false _ h.no_or (done refl (λ p. (refl, p))))
  ors_get (trees.OrBlock b os) at r h =
      let others = trees.or_then os r in
      one_more (then _ (λ p. p.1.1) (closed_gets b (at + 1 + 1) others (statements_get b (at + 1 + 1) others))
      (λ y at e s. then _ (λ p. (s p).1) (ors_get os at r h) (λ z at f t. done (both trees.OrBlock e f)
      (λ p. (both trees.OrBlock (s p).0 (t p).0, (t p).1)))))

block_gets : (b : trees.BlockTree) (at : ℕ) (r : Pieces)
    → Gets bare.unplaced_block (AreInPlace at (block_then b r))
    (λ m. forms.block_of m at (kinds_of (block_then b r))) b r
block_gets b at r = closed_gets b at r (statements_get b at r)

-- ---- operations

field_gets : (f : trees.FieldTree) (at : ℕ) (r : Pieces)
    → Gets bare.unplaced_field (AreInPlace at (trees.field_then f r))
    (λ m. field_of at (kinds_of (trees.field_then f r))) f r
field_gets (trees.PointerField k) at r = done refl (λ p. (ap trees.PointerField (there k p.1.0.0), p.1.1.1))
field_gets (trees.DataField k) at r = done refl (λ p. (ap trees.DataField (there k p.1.0.0), p.1.1.1))

fields_get : (fs : List trees.FieldTree) (at : ℕ) (r : Pieces) → first_is forms.begins_field (kinds_of r) ≡ false
    → Gets (map bare.unplaced_field) (AreInPlace at (each_then trees.field_then fs r))
    (λ m. forms.fields_of m at (kinds_of (each_then trees.field_then fs r))) fs r
fields_get fs at r none = list_gets trees.field_then bare.unplaced_field forms.begins_field
    (λ m at ts. field_of at ts) field_begun r none
    (λ f at fs. field_gets f at (each_then trees.field_then fs r)) fs at

parameters_get : (ps : List (Placed Text)) (at : ℕ) (r : Pieces)
    → let q = trees.parameters_then ps (symbol CloseParen ∷ r) in
    Gets bare.unplaced_names (AreInPlace at q) (λ m. forms.parameters_of m at (kinds_of q)) ps r
parameters_get [] at r = done refl (λ p. (refl, p.1))
parameters_get (k ∷ ks) at r =
    then {us = r} _ (λ p. p.1) (then _ (λ p. p) (names_get ks (at + 1) (symbol CloseParen ∷ r) refl)
    (λ y q e s. done e (λ p. ((s p).0, (s p).1.1))))
    (λ y q e s. done (ap (λ ks. unplaced k ∷ ks) e)
    (λ p. (both (λ k ks. k ∷ ks) (there k p.0.0) (s p).0, (s p).1)))

op_gets : (o : trees.OpTree) (at : ℕ) (r : Pieces) → Gets bare.unplaced_op (AreInPlace at (trees.op_then o r))
    (λ m. forms.op_of m at (kinds_of (trees.op_then o r))) o r
op_gets (trees.Operates k ps ls b) at r =
    let body = block_then b r in
    then _ (λ p. p.1.1.1) (parameters_get ps (at + 1 + 1 + 1) (symbol OpenBrace ∷ each_then trees.field_then ls body))
    (λ qs at2 e s. then _ (λ p. (s p).1.1) (fields_get ls (at2 + 1) body (ends b r).no_field)
    (λ ms at3 f t. then _ (λ p. (t p).1) (block_gets b at3 r)
    (λ c at4 g u. done (three (trees.Operates (unplaced k)) e f g)
    (λ p. (
      ap (λ k. trees.Operates k qs ms c) (there k p.1.0.0)
          ∙ three (trees.Operates k) (s p).0 (t p).0 (u p).0,
      (u p).1,
    )))))

-- ---- clauses of an outline

-- what follows a literal is no dot
or_is_no_dot : (ls : List (Placed trees.LiteralTree)) (r : Pieces)
    → NoDot (each_then trees.or_literal_then ls (symbol Semicolon ∷ r))
or_is_no_dot [] r = λ k at. refl
or_is_no_dot (l ∷ ls) r = λ k at. refl

or_literal_gets : (l : Placed trees.LiteralTree) (at : ℕ) (r : Pieces) → NoDot r
    → Gets (unplaced_by bare.unplaced_literal) (AreInPlace at (trees.or_literal_then l r))
    (λ m. or_literal_of at (kinds_of (trees.or_literal_then l r))) l r
or_literal_gets l at r h = from_given (λ p. p.1)
    (placed_gets trees.literal_then (λ m at ts. literal_of at ts) l (at + 1) r
    (some_literal l.value r) (literal_gets l.value (at + 1) r h))

or_literals_get : (ls : List (Placed trees.LiteralTree)) (at : ℕ) (r : Pieces) → let q = symbol Semicolon ∷ r in
    Gets (map (unplaced_by bare.unplaced_literal)) (AreInPlace at (each_then trees.or_literal_then ls q))
    (λ m. forms.or_literals_of m at (kinds_of (each_then trees.or_literal_then ls q))) ls q
or_literals_get ls at r =
    let q = symbol Semicolon ∷ r in
    list_gets trees.or_literal_then (unplaced_by bare.unplaced_literal) forms.begins_or
    (λ m at ts. or_literal_of at ts) (λ l q. refl) q refl
    (λ l at ls. or_literal_gets l at (each_then trees.or_literal_then ls q) (or_is_no_dot ls r)) ls at

clause_gets : (c : trees.ClauseTree) (at : ℕ) (r : Pieces) → let q = trees.clause_then c (symbol Semicolon ∷ r) in
    Gets bare.unplaced_clause (AreInPlace at q) (λ m. forms.clause_of m at (kinds_of q)) c r
clause_gets (trees.Claims b l ls) at r =
    let others = each_then trees.or_literal_then ls (symbol Semicolon ∷ r) in
    then _ (λ p. p) (bound_gets b at (trees.literal_then l others) (bound_of_literal l others)) (λ x at e s.
    then _ (λ p. (s p).1) (literal_gets l at others (or_is_no_dot ls r)) (λ y at f t.
    then {us = r} _ (λ p. (t p).1) (then _ (λ p. p) (or_literals_get ls at r)
    (λ z q g u. done g (λ p. ((u p).0, (u p).1.1)))) (λ z at g u. done (three trees.Claims e f g)
    (λ p. (three trees.Claims (s p).0 (t p).0 (u p).0, (u p).1)))))

-- ---- items, and the outline

item_gets : (i : trees.ItemTree) (at : ℕ) (r : Pieces) → Gets bare.unplaced_item (AreInPlace at (trees.item_then i r))
    (λ m. forms.item_of m at (kinds_of (trees.item_then i r))) i r
item_gets (trees.InvariantItem c) at r = then _ (λ p. p.1) (clause_gets c (at + 1) r)
    (λ y q e s. done (ap trees.InvariantItem e) (λ p. (ap trees.InvariantItem (s p).0, (s p).1)))
item_gets (trees.OverItem k c) at r = then _ (λ p. p.1.1.1) (clause_gets c (at + 1 + 1 + 1) r)
    (λ y q e s. done (ap (trees.OverItem (unplaced k)) e)
    (λ p. (both trees.OverItem (there k p.1.0.0) (s p).0, (s p).1)))
item_gets (trees.AtItem k ks c) at r =
    let clause = trees.clause_then c (symbol Semicolon ∷ r) in
    then {us = clause} _ (λ p. p.1.1) (then _ (λ p. p) (names_get ks (at + 1 + 1) (symbol Colon ∷ clause) refl)
    (λ y q e s. done e (λ p. ((s p).0, (s p).1.1)))) (λ js at2 e s.
    then _ (λ p. (s p).1) (clause_gets c at2 r) (λ d at3 f t. done (both (trees.AtItem (unplaced k)) e f)
    (λ p. (three trees.AtItem (there k p.1.0.0) (s p).0 (t p).0, (t p).1))))

items_get : (is : List trees.ItemTree) (at : ℕ) (r : Pieces) → let q = symbol CloseBrace ∷ r in
    Gets (map bare.unplaced_item) (AreInPlace at (each_then trees.item_then is q))
    (λ m. forms.items_of m at (kinds_of (each_then trees.item_then is q))) is q
items_get is at r =
    let q = symbol CloseBrace ∷ r in
    list_gets trees.item_then bare.unplaced_item forms.begins_item (λ m at ts. forms.item_of m at ts) item_begun q refl
    (λ i at is. item_gets i at (each_then trees.item_then is q)) is at

-- items and a closing brace are no depth
no_depth : (is : List trees.ItemTree) (r : Pieces)
    → Leaves depth_next (kinds_of (each_then trees.item_then is (symbol CloseBrace ∷ r)))
no_depth [] r = λ at. refl
no_depth (trees.InvariantItem c ∷ is) r = λ at. refl
no_depth (trees.OverItem k c ∷ is) r = λ at. refl
no_depth (trees.AtItem k ks c ∷ is) r = λ at. refl

pub outline_gets : (o : trees.OutlineTree) (at : ℕ) (r : Pieces)
    → Gets bare.unplaced_outline (AreInPlace at (trees.outline_then o r))
    (λ m. forms.outline_of m at (kinds_of (trees.outline_then o r))) o r
outline_gets (trees.Outlined d is) at r =
    then _ (λ p. p.1.1) (depth_gets d (at + 1 + 1) (each_then trees.item_then is (symbol CloseBrace ∷ r))
    (no_depth is r)) (λ x at e s.
    then {us = r} _ (λ p. (s p).1) (then _ (λ p. p) (items_get is at r)
    (λ y q f t. done f (λ p. ((t p).0, (t p).1.1)))) (λ y at f t. done (both trees.Outlined e f)
    (λ p. (both trees.Outlined (s p).0 (t p).0, (t p).1))))

-- ---- declarations

ghost_gets : (g : trees.GhostTree) (at : ℕ) (r : Pieces) → Gets bare.unplaced_ghost
    (AreInPlace at (trees.ghost_then g r))
    (λ m. forms.ghost_of m at (kinds_of (trees.ghost_then g r))) g r
ghost_gets (trees.Auxiliary k (trees.OneOf v vs)) at r =
    let end = symbol Semicolon ∷ r in
    then {us = end} _ (λ p. p.1.1) (then {us = end} _ (λ p. p.1.1)
    (then _ (λ p. p) (names_get vs (at + 1 + 1 + 1 + 1) (symbol CloseBrace ∷ end) refl)
    (λ y q e s. done e (λ p. ((s p).0, (s p).1.1))))
    (λ y q e s. done (ap (trees.OneOf (unplaced v)) e)
    (λ p. (both trees.OneOf (there v p.1.0.0) (s p).0, (s p).1))))
    (λ y q e s. done (ap (trees.Auxiliary (unplaced k)) e)
    (λ p. (both trees.Auxiliary (there k p.1.0.0) (s p).0, (s p).1.1)))
ghost_gets (trees.Auxiliary k trees.OfThreads) at r =
    done refl (λ p. (ap (λ k. trees.Auxiliary k trees.OfThreads) (there k p.1.0.0), p.1.1.1.1))

init_gets : (i : Option (List (Placed trees.InitialTree))) (at : ℕ) (r : Pieces)
    → ((m : ℕ) → Leaves (forms.init_next m) (kinds_of r))
    → Gets (unplaced_maybe bare.unplaced_sets) (AreInPlace at (maybe_then trees.init_then i r))
    (λ m. forms.init_of m at (kinds_of (maybe_then trees.init_then i r))) i r
init_gets None at r h =
    gets_by (λ m. left_out (forms.init_next m) (Ok (None, at, kinds_of r)) at (kinds_of r) (h m))
    (done refl (λ p. (refl, p)))
init_gets (Some is) at r h =
    then {us = r} _ (λ p. p.1.1) (then _ (λ p. p) (initials_get is (at + 1 + 1) r)
    (λ y q e s. done e (λ p. ((s p).0, (s p).1.1))))
    (λ y q e s. done (ap Some e) (λ p. (ap Some (s p).0, (s p).1)))

-- ---- the file: what holds of all beginnings of what may stand there holds of what stands there

-- what stands after each part of a file, the last first
abbrev outline_part : Option trees.OutlineTree → Pieces
outline_part o = maybe_then trees.outline_then o []

abbrev ops_part : trees.FileTree → Pieces
ops_part f = each_then (placed_then trees.op_then) f.ops (outline_part f.outlined)

abbrev init_part : trees.FileTree → Pieces
init_part f = maybe_then trees.init_then f.starts (ops_part f)

abbrev ghosts_part : trees.FileTree → Pieces
ghosts_part f = each_then trees.ghost_then f.ghosts (init_part f)

abbrev watch_part : trees.FileTree → Pieces
watch_part f = maybe_then trees.watch_then f.watched (ghosts_part f)

abbrev functions_part : trees.FileTree → Pieces
functions_part f = each_then trees.function_then f.functions (watch_part f)

module _ (P : Tokens → Type 0) (nothing : P []) (outline : (us : Tokens) → P (Word words.Outline ∷ us)) where
  outlined_is : (o : Option trees.OutlineTree) → P (kinds_of (outline_part o))
  outlined_is None = nothing
  outlined_is (Some (trees.Outlined d is)) = outline _

  module _ (op : (us : Tokens) → P (Word words.Op ∷ us)) where
    op_is : (at : ℕ) (x : trees.OpTree) (us : Pieces) → P (kinds_of (from_place at (trees.op_then x us)))
    op_is at (trees.Operates k ps ls b) us = op _

    ops_are : (os : List (Placed trees.OpTree)) (o : Option trees.OutlineTree)
        → P (kinds_of (each_then (placed_then trees.op_then) os (outline_part o)))
    ops_are [] o = outlined_is o
    ops_are (x ∷ os) o = op_is x.at x.value _

    module _ (init : (us : Tokens) → P (Word words.Init ∷ us)) where
      init_is : (f : trees.FileTree) → P (kinds_of (init_part f))
      init_is f = by f.starts
        where
          by : (i : Option (List (Placed trees.InitialTree))) → P (kinds_of (maybe_then trees.init_then i (ops_part f)))
          by None = ops_are f.ops f.outlined
          by (Some is) = init _

      module _ (ghost : (us : Tokens) → P (Word words.Ghost ∷ us)) where
        ghosts_are : (f : trees.FileTree) → P (kinds_of (ghosts_part f))
        ghosts_are f = by f.ghosts
          where
            by : (gs : List trees.GhostTree) → P (kinds_of (each_then trees.ghost_then gs (init_part f)))
            by [] = init_is f
            by (trees.Auxiliary k x ∷ gs) = ghost _

        module _ (watch : (us : Tokens) → P (Word words.Use ∷ us)) where
          watch_is : (f : trees.FileTree) → P (kinds_of (watch_part f))
          watch_is f = by f.watched
            where
              by : (w : Option trees.WatchTree) → P (kinds_of (maybe_then trees.watch_then w (ghosts_part f)))
              by None = ghosts_are f
              by (Some w) = watch _

          functions_are : (f : trees.FileTree) → ((us : Tokens) → P (Word words.Call ∷ us))
              → P (kinds_of (functions_part f))
          functions_are f call = by f.functions
            where
              by : (fs : List trees.FunctionTree) → P (kinds_of (each_then trees.function_then fs (watch_part f)))
              by [] = watch_is f
              by (trees.Declares k x ∷ fs) = call _

no_shared : (f : trees.FileTree) → first_is forms.begins_shared (kinds_of (functions_part f)) ≡ false
no_shared f = functions_are (λ ts. first_is forms.begins_shared ts ≡ false) refl (λ us. refl) (λ us. refl) (λ us. refl)
    (λ us. refl) (λ us. refl) f (λ us. refl)

no_function : (f : trees.FileTree) → first_is forms.begins_function (kinds_of (watch_part f)) ≡ false
no_function f = watch_is (λ ts. first_is forms.begins_function ts ≡ false) refl (λ us. refl) (λ us. refl) (λ us. refl)
    (λ us. refl) (λ us. refl) f

no_watch : (f : trees.FileTree) → Leaves watch_next (kinds_of (ghosts_part f))
no_watch f = ghosts_are (λ ts. Leaves watch_next ts) tt (λ us at. refl) (λ us at. refl) (λ us at. refl)
    (λ us at. refl) f

no_ghost : (f : trees.FileTree) → first_is forms.begins_ghost (kinds_of (init_part f)) ≡ false
no_ghost f = init_is (λ ts. first_is forms.begins_ghost ts ≡ false) refl (λ us. refl) (λ us. refl) (λ us. refl) f

no_init : (f : trees.FileTree) (m : ℕ) → Leaves (forms.init_next m) (kinds_of (ops_part f))
no_init f m = ops_are (λ ts. Leaves (forms.init_next m) ts) tt (λ us at. refl) (λ us at. refl) f.ops f.outlined

outlined_gets : (o : Option trees.OutlineTree) (at : ℕ)
    → Gets (unplaced_maybe bare.unplaced_outline) (AreInPlace at (outline_part o))
    (λ m. forms.outlined_of m at (kinds_of (outline_part o))) o []
outlined_gets None at = done refl (λ p. (refl, p))
outlined_gets (Some (trees.Outlined d is)) at = then _ (λ p. p) (outline_gets (trees.Outlined d is) at [])
    (λ y q e s. done (ap Some e) (λ p. (ap Some (s p).0, (s p).1)))

ops_get : (os : List (Placed trees.OpTree)) (o : Option trees.OutlineTree) (at : ℕ)
    → let q = each_then (placed_then trees.op_then) os (outline_part o) in
    Gets (map (unplaced_by bare.unplaced_op)) (AreInPlace at q) (λ m. forms.ops_of m at (kinds_of q)) os
    (outline_part o)
ops_get os o at =
    let op = trees.op_then in
    let r = outline_part o in
    list_gets (placed_then op) (unplaced_by bare.unplaced_op) forms.begins_op
    (λ m at ts. placed_of (forms.op_of m) at ts) (begun_there op forms.begins_op op_begun) r
    (outlined_is (λ ts. first_is forms.begins_op ts ≡ false) refl (λ us. refl) o)
    (λ x at xs. let us = each_then (placed_then op) xs r in
    placed_gets op (λ m at ts. forms.op_of m at ts) x at us (some_begun op forms.begins_op op_begun x.value us)
    (op_gets x.value at us)) os at

ghosts_get : (gs : List trees.GhostTree) (at : ℕ) (r : Pieces) → first_is forms.begins_ghost (kinds_of r) ≡ false
    → Gets (map bare.unplaced_ghost) (AreInPlace at (each_then trees.ghost_then gs r))
    (λ m. forms.ghosts_of m at (kinds_of (each_then trees.ghost_then gs r))) gs r
ghosts_get gs at r none = list_gets trees.ghost_then bare.unplaced_ghost forms.begins_ghost
    (λ m at ts. forms.ghost_of m at ts) ghost_begun r none
    (λ g at gs. ghost_gets g at (each_then trees.ghost_then gs r)) gs at

functions_get : (fs : List trees.FunctionTree) (at : ℕ) (r : Pieces)
    → first_is forms.begins_function (kinds_of r) ≡ false
    → Gets (map bare.unplaced_function) (AreInPlace at (each_then trees.function_then fs r))
    (λ m. forms.functions_of m at (kinds_of (each_then trees.function_then fs r))) fs r
functions_get fs at r none = list_gets trees.function_then bare.unplaced_function forms.begins_function
    (λ m at ts. function_of at ts) function_begun r none
    (λ f at fs. function_gets f at (each_then trees.function_then fs r)) fs at

pointer_gets : (k : Placed Text) (at : ℕ) (r : Pieces) → Gets unplaced (AreInPlace at (trees.shared_then k r))
    (λ m. shared_of at (kinds_of (trees.shared_then k r))) k r
pointer_gets k at r = done refl (λ p. (there k p.1.0.0, p.1.1.1))

pointers_get : (ps : List (Placed Text)) (at : ℕ) (r : Pieces) → first_is forms.begins_shared (kinds_of r) ≡ false
    → Gets bare.unplaced_names (AreInPlace at (each_then trees.shared_then ps r))
    (λ m. forms.pointers_of m at (kinds_of (each_then trees.shared_then ps r))) ps r
pointers_get ps at r none = list_gets trees.shared_then unplaced forms.begins_shared (λ m at ts. shared_of at ts)
    (λ k q. refl) r none (λ k at ks. pointer_gets k at (each_then trees.shared_then ks r)) ps at

abbrev unplaced_struct : Placed Text × List trees.FieldTree → Placed Text × List trees.FieldTree
unplaced_struct s = (unplaced s.0, map bare.unplaced_field s.1)

struct_gets : (k : Placed Text) (fs : List trees.FieldTree) (at : ℕ) (r : Pieces)
    → Gets unplaced_struct (AreInPlace at (trees.struct_then k fs r))
    (λ m. forms.struct_of m at (kinds_of (trees.struct_then k fs r))) (k, fs) r
struct_gets k fs at r =
    then {us = r} _ (λ p. p.1.1.1) (then _ (λ p. p) (fields_get fs (at + 1 + 1 + 1) (symbol CloseBrace ∷ r) refl)
    (λ y q e s. done e (λ p. ((s p).0, (s p).1.1))))
    (λ y q e s. done (ap (λ fs. (unplaced k, fs)) e)
    (λ p. (both (λ k fs. (k, fs)) (there k p.1.0.0) (s p).0, (s p).1)))

-- what stands before the operations
abbrev headed : Placed Text × List trees.FieldTree → List (Placed Text) → List trees.FunctionTree
    → Option trees.WatchTree → List trees.GhostTree → Option (List (Placed trees.InitialTree)) → trees.FileTree
headed s ps fs w gs i = record {
  name = s.0;
  fields = s.1;
  pointers = ps;
  functions = fs;
  watched = w;
  ghosts = gs;
  starts = i;
  ops = [];
  outlined = None;
}

abbrev heading_alone : trees.FileTree → trees.FileTree
heading_alone f = record f { ops = []; outlined = None }

heading_gets : (f : trees.FileTree) (at : ℕ)
    → Gets bare.unplaced_file (AreInPlace at (heading_then f (ops_part f)))
    (λ m. forms.heading_of m at (kinds_of (heading_then f (ops_part f)))) (heading_alone f) (ops_part f)
heading_gets f at =
    then _ (λ p. p) (struct_gets f.name f.fields at (each_then trees.shared_then f.pointers (functions_part f)))
    (λ x at e s. then _ (λ p. (s p).1) (pointers_get f.pointers at (functions_part f) (no_shared f))
    (λ ps at e2 s2. then _ (λ p. (s2 p).1) (functions_get f.functions at (watch_part f) (no_function f))
    (λ fs at e3 s3. then _ (λ p. (s3 p).1) (watch_gets f.watched at (ghosts_part f) (no_watch f))
    (λ w at e4 s4. then _ (λ p. (s4 p).1) (ghosts_get f.ghosts at (init_part f) (no_ghost f))
    (λ gs at e5 s5. then _ (λ p. (s5 p).1) (init_gets f.starts at (ops_part f) (no_init f))
    (λ i at e6 s6. done (six e e2 e3 e4 e5 e6)
    (λ p. (six (s p).0 (s2 p).0 (s3 p).0 (s4 p).0 (s5 p).0 (s6 p).0, (s6 p).1))))))))
  where
    six : {a a' : Placed Text × List trees.FieldTree} {b b' : List (Placed Text)} {c c' : List trees.FunctionTree}
        {d d' : Option trees.WatchTree} {g g' : List trees.GhostTree} {h h' : Option (List (Placed trees.InitialTree))}
        → a ≡ a' → b ≡ b' → c ≡ c' → d ≡ d' → g ≡ g' → h ≡ h' → headed a b c d g h ≡ headed a' b' c' d' g' h'
    six e1 e2 e3 e4 e5 e6 = cc

abbrev whole : trees.FileTree → List (Placed trees.OpTree) → Option trees.OutlineTree → trees.FileTree
whole h os o = record h { ops = os; outlined = o }

pub file_gets : (f : trees.FileTree) (at : ℕ) → Gets bare.unplaced_file (AreInPlace at (trees.file_then f []))
    (λ m. forms.file_of m at (kinds_of (trees.file_then f []))) f []
file_gets f at =
    then _ (λ p. p) (heading_gets f at) (λ h at e s. then _ (λ p. (s p).1) (ops_get f.ops f.outlined at)
    (λ os at e2 s2. then _ (λ p. (s2 p).1) (outlined_gets f.outlined at)
    (λ o at e3 s3. done (three whole e e2 e3) (λ p. (three whole (s p).0 (s2 p).0 (s3 p).0, (s3 p).1)))))
