-- A block as the constructors of its tree in postorder, from which the block is read back: how a proof tells blocks
-- apart. Nothing else rests on it.
use Rattle.std.proofs.Common.{◌≡◌, ℕ, ◌+◌, List, [], ◌∷◌, Option, refl, ap, ◌∙◌}
use Rattle.plc_syntax.specs.Trees.{Text, Placed, PrimitiveTree, ArgumentTree, ConditionTree, StatementTree}
use Rattle.plc_syntax.specs.Trees.{PrimitiveStatement}
use Rattle.plc_syntax.specs.Trees.{AtomicStatement, CallStatement, IfStatement, ChooseStatement, LoopStatement}
use Rattle.plc_syntax.specs.Trees.{BreakStatement, ReturnStatement, LabelStatement, BlockTree, NoStatement, Then}
use Rattle.plc_syntax.specs.Trees.{ElseTree, NoElse, ElseBlock, OrTree, NoOr, OrBlock}

-- how many statements and blocks there are within one another
abbrev mutual
  pub statement_size : StatementTree → ℕ
  statement_size (PrimitiveStatement p) = 1
  statement_size (AtomicStatement ps) = 1
  statement_size (CallStatement f a d) = 1
  statement_size (IfStatement c b e) = 1 + (block_size b + else_size e)
  statement_size (ChooseStatement a b os) = 1 + (block_size a + (block_size b + ors_size os))
  statement_size (LoopStatement b) = 1 + block_size b
  statement_size BreakStatement = 1
  statement_size ReturnStatement = 1
  statement_size (LabelStatement n) = 1

  pub block_size : BlockTree → ℕ
  block_size NoStatement = 1
  block_size (Then at s b) = statement_size s + block_size b

  pub else_size : ElseTree → ℕ
  else_size NoElse = 0
  else_size (ElseBlock b) = block_size b

  pub ors_size : OrTree → ℕ
  ors_size NoOr = 0
  ors_size (OrBlock b os) = block_size b + ors_size os

-- the head of a tree: its constructor, without the trees that it takes: those were read before
pub data Head : Type 0 where
  PrimitiveHead : PrimitiveTree → Head
  AtomicHead : List (Placed PrimitiveTree) → Head
  CallHead : Placed Text → ArgumentTree → Option (Placed Text) → Head
  IfHead : ConditionTree → Head
  ChooseHead : Head
  LoopHead : Head
  BreakHead : Head
  ReturnHead : Head
  LabelHead : Placed Text → Head
  EmptyHead : Head
  ThenHead : ℕ → Head
  NoElseHead : Head
  ElseHead : Head
  NoOrHead : Head
  OrHead : Head

-- the trees that a constructor takes, before itself
abbrev mutual
  pub statement_heads : StatementTree → List Head → List Head
  statement_heads (PrimitiveStatement p) rest = PrimitiveHead p ∷ rest
  statement_heads (AtomicStatement ps) rest = AtomicHead ps ∷ rest
  statement_heads (CallStatement f a d) rest = CallHead f a d ∷ rest
  statement_heads (IfStatement c b e) rest = block_heads b (else_heads e (IfHead c ∷ rest))
  statement_heads (ChooseStatement a b os) rest = block_heads a (block_heads b (ors_heads os (ChooseHead ∷ rest)))
  statement_heads (LoopStatement b) rest = block_heads b (LoopHead ∷ rest)
  statement_heads BreakStatement rest = BreakHead ∷ rest
  statement_heads ReturnStatement rest = ReturnHead ∷ rest
  statement_heads (LabelStatement n) rest = LabelHead n ∷ rest

  pub block_heads : BlockTree → List Head → List Head
  block_heads NoStatement rest = EmptyHead ∷ rest
  block_heads (Then at s b) rest = statement_heads s (block_heads b (ThenHead at ∷ rest))

  pub else_heads : ElseTree → List Head → List Head
  else_heads NoElse rest = NoElseHead ∷ rest
  else_heads (ElseBlock b) rest = block_heads b (ElseHead ∷ rest)

  pub ors_heads : OrTree → List Head → List Head
  ors_heads NoOr rest = NoOrHead ∷ rest
  ors_heads (OrBlock b os) rest = block_heads b (ors_heads os (OrHead ∷ rest))

-- what was read and isn't part of a tree yet, the last first
pub record Read : Type 0 where
  pub statements : List StatementTree
  pub blocks : List BlockTree
  pub elses : List ElseTree
  pub ors : List OrTree

abbrev pub with_statement : StatementTree → Read → Read
with_statement s r = record r { statements = s ∷ r.statements }

abbrev pub with_block : BlockTree → Read → Read
with_block b r = record r { blocks = b ∷ r.blocks }

abbrev pub with_else : ElseTree → Read → Read
with_else e r = record r { elses = e ∷ r.elses }

abbrev pub with_or : OrTree → Read → Read
with_or o r = record r { ors = o ∷ r.ors }

abbrev pub read_if : ConditionTree → List BlockTree → List ElseTree → Read → Read
read_if c (b ∷ bs) (e ∷ es) r =
    record { statements = IfStatement c b e ∷ r.statements; blocks = bs; elses = es; ors = r.ors }
read_if c [] es r = r
read_if c (b ∷ bs) [] r = r

abbrev pub read_loop : List BlockTree → Read → Read
read_loop (b ∷ bs) r =
    record { statements = LoopStatement b ∷ r.statements; blocks = bs; elses = r.elses; ors = r.ors }
read_loop [] r = r

abbrev pub read_choose : List BlockTree → List OrTree → Read → Read
read_choose (b ∷ a ∷ bs) (o ∷ os) r =
    record { statements = ChooseStatement a b o ∷ r.statements; blocks = bs; elses = r.elses; ors = os }
read_choose [] os r = r
read_choose (b ∷ []) os r = r
read_choose (b ∷ a ∷ bs) [] r = r

abbrev pub read_then : ℕ → List StatementTree → List BlockTree → Read → Read
read_then at (s ∷ ss) (b ∷ bs) r =
    record { statements = ss; blocks = Then at s b ∷ bs; elses = r.elses; ors = r.ors }
read_then at [] bs r = r
read_then at (s ∷ ss) [] r = r

abbrev pub read_else : List BlockTree → Read → Read
read_else (b ∷ bs) r =
    record { statements = r.statements; blocks = bs; elses = ElseBlock b ∷ r.elses; ors = r.ors }
read_else [] r = r

abbrev pub read_or : List BlockTree → List OrTree → Read → Read
read_or (b ∷ bs) (o ∷ os) r =
    record { statements = r.statements; blocks = bs; elses = r.elses; ors = OrBlock b o ∷ os }
read_or [] os r = r
read_or (b ∷ bs) [] r = r

-- one constructor more
abbrev pub read_head : Head → Read → Read
read_head (PrimitiveHead p) r = with_statement (PrimitiveStatement p) r
read_head (AtomicHead ps) r = with_statement (AtomicStatement ps) r
read_head (CallHead f a d) r = with_statement (CallStatement f a d) r
read_head (IfHead c) r = read_if c r.blocks r.elses r
read_head ChooseHead r = read_choose r.blocks r.ors r
read_head LoopHead r = read_loop r.blocks r
read_head BreakHead r = with_statement BreakStatement r
read_head ReturnHead r = with_statement ReturnStatement r
read_head (LabelHead n) r = with_statement (LabelStatement n) r
read_head EmptyHead r = with_block NoStatement r
read_head (ThenHead at) r = read_then at r.statements r.blocks r
read_head NoElseHead r = with_else NoElse r
read_head ElseHead r = read_else r.blocks r
read_head NoOrHead r = with_or NoOr r
read_head OrHead r = read_or r.blocks r.ors r

-- the constructors in order
abbrev pub read_heads : List Head → Read → Read
read_heads [] r = r
read_heads (m ∷ ms) r = read_heads ms (read_head m r)

abbrev pub first_block : List BlockTree → BlockTree
first_block [] = NoStatement
first_block (b ∷ bs) = b

-- nothing was read yet
abbrev pub unread : Read
unread = record { statements = []; blocks = []; elses = []; ors = [] }

abbrev pub heads_of : BlockTree → List Head
heads_of b = block_heads b []

abbrev pub read_block : List Head → BlockTree
read_block ms = first_block (read_heads ms unread).blocks

-- the constructors of a tree read the tree
mutual
  reads_statement : (s : StatementTree) (rest : List Head) (r : Read)
      → read_heads (statement_heads s rest) r ≡ read_heads rest (with_statement s r)
  reads_statement (PrimitiveStatement p) rest r = refl
  reads_statement (AtomicStatement ps) rest r = refl
  reads_statement (CallStatement f a d) rest r = refl
  reads_statement (IfStatement c b e) rest r = reads_block b (else_heads e (IfHead c ∷ rest)) r
      ∙ reads_else e (IfHead c ∷ rest) (with_block b r)
  reads_statement (ChooseStatement a b os) rest r =
      reads_block a (block_heads b (ors_heads os (ChooseHead ∷ rest))) r
      ∙ reads_block b (ors_heads os (ChooseHead ∷ rest)) (with_block a r)
      ∙ reads_ors os (ChooseHead ∷ rest) (with_block b (with_block a r))
  reads_statement (LoopStatement b) rest r = reads_block b (LoopHead ∷ rest) r
  reads_statement BreakStatement rest r = refl
  reads_statement ReturnStatement rest r = refl
  reads_statement (LabelStatement n) rest r = refl

  reads_block : (b : BlockTree) (rest : List Head) (r : Read)
      → read_heads (block_heads b rest) r ≡ read_heads rest (with_block b r)
  reads_block NoStatement rest r = refl
  reads_block (Then at s b) rest r = reads_statement s (block_heads b (ThenHead at ∷ rest)) r
      ∙ reads_block b (ThenHead at ∷ rest) (with_statement s r)

  reads_else : (e : ElseTree) (rest : List Head) (r : Read)
      → read_heads (else_heads e rest) r ≡ read_heads rest (with_else e r)
  reads_else NoElse rest r = refl
  reads_else (ElseBlock b) rest r = reads_block b (ElseHead ∷ rest) r

  reads_ors : (os : OrTree) (rest : List Head) (r : Read)
      → read_heads (ors_heads os rest) r ≡ read_heads rest (with_or os r)
  reads_ors NoOr rest r = refl
  reads_ors (OrBlock b os) rest r = reads_block b (ors_heads os (OrHead ∷ rest)) r
      ∙ reads_ors os (OrHead ∷ rest) (with_block b r)

-- nothing is lost
pub read_back : (b : BlockTree) → read_block (heads_of b) ≡ b
read_back b = ap (λ r. first_block r.blocks) (reads_block b [] unread)
