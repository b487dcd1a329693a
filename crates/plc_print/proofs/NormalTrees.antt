-- The tree of a file's canonical text: as the file's own, but that `skip` in an atomic block, an `else` without statements, an `init` without primitives, a depth of 0
-- and an outline of depth 0 without items are left out, and that invariants go before the other items of an outline.
use Rattle.std.proofs.Common.{ℕ, zero, suc, Bool, true, false, not, Option, Some, None, List, [], ◌∷◌, ◌++◌, map, filter}
use Rattle.plc_syntax.specs.Trees.{Placed, InitialTree, PrimitiveTree, SkipPrimitive, StatementTree, PrimitiveStatement, AtomicStatement, CallStatement, IfStatement, ChooseStatement, LoopStatement, BreakStatement, ReturnStatement, LabelStatement, BlockTree, NoStatement, Then, ElseTree, NoElse, ElseBlock, OrTree, NoOr, OrBlock, OpTree, Operates, ItemTree, InvariantItem, OutlineTree, Outlined, FileTree}
use Rattle.plc_syntax.specs.Forms.{at_place}
use Rattle.plc_print.specs.Outlines.{unless_empty}

-- `skip` is no primitive of an atomic block
abbrev pub stays : PrimitiveTree → Bool
stays SkipPrimitive = false
stays _ = true

abbrev mutual
  pub normal_statement : StatementTree → StatementTree
  normal_statement (PrimitiveStatement p) = PrimitiveStatement p
  normal_statement (AtomicStatement ps) = AtomicStatement (filter (λ p. stays p.value) ps)
  normal_statement (CallStatement f a d) = CallStatement f a d
  normal_statement (IfStatement c b e) = IfStatement c (normal_block b) (normal_else e)
  normal_statement (ChooseStatement a b os) = ChooseStatement (normal_block a) (normal_block b) (normal_or os)
  normal_statement (LoopStatement b) = LoopStatement (normal_block b)
  normal_statement BreakStatement = BreakStatement
  normal_statement ReturnStatement = ReturnStatement
  normal_statement (LabelStatement n) = LabelStatement n

  pub normal_block : BlockTree → BlockTree
  normal_block NoStatement = NoStatement
  normal_block (Then at s b) = Then at (normal_statement s) (normal_block b)

  pub normal_else : ElseTree → ElseTree
  normal_else NoElse = NoElse
  normal_else (ElseBlock NoStatement) = NoElse
  normal_else (ElseBlock (Then at s b)) = ElseBlock (Then at (normal_statement s) (normal_block b))

  pub normal_or : OrTree → OrTree
  normal_or NoOr = NoOr
  normal_or (OrBlock b os) = OrBlock (normal_block b) (normal_or os)

-- an `init` without primitives
abbrev pub normal_starts : Option (List (Placed InitialTree)) → Option (List (Placed InitialTree))
normal_starts None = None
normal_starts (Some []) = None
normal_starts (Some (i ∷ is)) = Some (i ∷ is)

abbrev pub normal_op : OpTree → OpTree
normal_op (Operates n ps ls b) = Operates n ps ls (normal_block b)

-- an item that is an invariant
abbrev pub is_invariant : ItemTree → Bool
is_invariant (InvariantItem c) = true
is_invariant _ = false

-- invariants first, each kind in its own order
abbrev pub normal_items : List ItemTree → List ItemTree
normal_items xs = filter is_invariant xs ++ filter (λ x. not (is_invariant x)) xs

-- a depth of 0
abbrev pub nonzero : ℕ → ℕ → Option (Placed ℕ)
nonzero at zero = None
nonzero at (suc n) = Some (at_place at (suc n))

abbrev pub normal_depth : Option (Placed ℕ) → Option (Placed ℕ)
normal_depth None = None
normal_depth (Some d) = nonzero d.at d.value

-- an outline of depth 0 without items
abbrev pub normal_outline : Option OutlineTree → Option OutlineTree
normal_outline None = None
normal_outline (Some (Outlined d xs)) = unless_empty (normal_depth d) (normal_items xs)

abbrev pub normal_file : FileTree → FileTree
normal_file f = record f { starts = normal_starts f.starts; ops = map (λ o. at_place o.at (normal_op o.value)) f.ops; outlined = normal_outline f.outlined }
