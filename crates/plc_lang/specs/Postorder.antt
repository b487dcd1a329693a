-- A block as the constructors of its tree in postorder, from which the block is read back: how a proof tells blocks
-- apart. Nothing else rests on it.
use Rattle.std.proofs.Common.{◌≡◌, ℕ, Bool, List, [], ◌∷◌, Option, refl, ap, ◌∙◌}
use Rattle.plc_base.specs.declared.ids.FuncId.{FuncId}
use Rattle.plc_lang.specs.declared.syntax.Primitive.{Primitive}
use Rattle.plc_lang.specs.declared.syntax.Arg.{Arg}
use Rattle.plc_lang.specs.declared.syntax.Cond.{Cond}
use Rattle.plc_lang.specs.Statements.{Statement, One, Atomic, Call, If, Choose, Loop, Break, Return, Skip, Label}
use Rattle.plc_lang.specs.Statements.{Statements, Empty, Then, Blocks, NoBlock, And}

-- the head of a tree: its constructor, without the trees that it takes: those were read before
pub data Head : Type 0 where
  OneHead : Primitive → Head
  AtomicHead : List Primitive → Head
  CallHead : FuncId → Arg → Bool → Option ℕ → Head
  IfHead : Cond → Head
  ChooseHead : Head
  LoopHead : Head
  BreakHead : Head
  ReturnHead : Head
  SkipHead : Head
  LabelHead : ℕ → Head
  EmptyHead : Head
  ThenHead : ℕ → Head
  NoBlockHead : Head
  AndHead : Head

-- the trees that a constructor takes, before itself
abbrev mutual
  pub statement_heads : Statement → List Head → List Head
  statement_heads (One k) rest = OneHead k ∷ rest
  statement_heads (Atomic ks) rest = AtomicHead ks ∷ rest
  statement_heads (Call f a b d) rest = CallHead f a b d ∷ rest
  statement_heads (If c y n) rest = block_heads y (block_heads n (IfHead c ∷ rest))
  statement_heads (Choose bs) rest = blocks_heads bs (ChooseHead ∷ rest)
  statement_heads (Loop b) rest = block_heads b (LoopHead ∷ rest)
  statement_heads Break rest = BreakHead ∷ rest
  statement_heads Return rest = ReturnHead ∷ rest
  statement_heads Skip rest = SkipHead ∷ rest
  statement_heads (Label l) rest = LabelHead l ∷ rest

  pub block_heads : Statements → List Head → List Head
  block_heads Empty rest = EmptyHead ∷ rest
  block_heads (Then l s b) rest = statement_heads s (block_heads b (ThenHead l ∷ rest))

  pub blocks_heads : Blocks → List Head → List Head
  blocks_heads NoBlock rest = NoBlockHead ∷ rest
  blocks_heads (And b bs) rest = block_heads b (blocks_heads bs (AndHead ∷ rest))

-- what was read and isn't part of a tree yet, the last first
pub record Read : Type 0 where
  pub statements : List Statement
  pub blocks : List Statements
  pub choices : List Blocks

abbrev pub with_statement : Statement → Read → Read
with_statement s r = record r { statements = s ∷ r.statements }

abbrev pub with_block : Statements → Read → Read
with_block b r = record r { blocks = b ∷ r.blocks }

abbrev pub with_choice : Blocks → Read → Read
with_choice bs r = record r { choices = bs ∷ r.choices }

abbrev pub read_if : Cond → List Statements → Read → Read
read_if c (n ∷ y ∷ bs) r = record { statements = If c y n ∷ r.statements; blocks = bs; choices = r.choices }
read_if c (n ∷ []) r = r
read_if c [] r = r

abbrev pub read_loop : List Statements → Read → Read
read_loop (b ∷ bs) r = record { statements = Loop b ∷ r.statements; blocks = bs; choices = r.choices }
read_loop [] r = r

abbrev pub read_choose : List Blocks → Read → Read
read_choose (c ∷ cs) r = record { statements = Choose c ∷ r.statements; blocks = r.blocks; choices = cs }
read_choose [] r = r

abbrev pub read_then : ℕ → List Statement → List Statements → Read → Read
read_then l (s ∷ ss) (b ∷ bs) r = record { statements = ss; blocks = Then l s b ∷ bs; choices = r.choices }
read_then l [] bs r = r
read_then l (s ∷ ss) [] r = r

abbrev pub read_and : List Statements → List Blocks → Read → Read
read_and (b ∷ bs) (c ∷ cs) r = record { statements = r.statements; blocks = bs; choices = And b c ∷ cs }
read_and [] cs r = r
read_and (b ∷ bs) [] r = r

-- one constructor more
abbrev pub read_head : Head → Read → Read
read_head (OneHead k) r = with_statement (One k) r
read_head (AtomicHead ks) r = with_statement (Atomic ks) r
read_head (CallHead f a b d) r = with_statement (Call f a b d) r
read_head (IfHead c) r = read_if c r.blocks r
read_head ChooseHead r = read_choose r.choices r
read_head LoopHead r = read_loop r.blocks r
read_head BreakHead r = with_statement Break r
read_head ReturnHead r = with_statement Return r
read_head SkipHead r = with_statement Skip r
read_head (LabelHead l) r = with_statement (Label l) r
read_head EmptyHead r = with_block Empty r
read_head (ThenHead l) r = read_then l r.statements r.blocks r
read_head NoBlockHead r = with_choice NoBlock r
read_head AndHead r = read_and r.blocks r.choices r

-- the constructors in order
abbrev pub read_heads : List Head → Read → Read
read_heads [] r = r
read_heads (m ∷ ms) r = read_heads ms (read_head m r)

abbrev pub first_block : List Statements → Statements
first_block [] = Empty
first_block (b ∷ bs) = b

abbrev pub heads_of : Statements → List Head
heads_of b = block_heads b []

abbrev pub read_block : List Head → Statements
read_block ms = first_block (read_heads ms (record { statements = []; blocks = []; choices = [] })).blocks

-- the constructors of a tree read the tree
mutual
  reads_statement : (s : Statement) (rest : List Head) (r : Read)
      → read_heads (statement_heads s rest) r ≡ read_heads rest (with_statement s r)
  reads_statement (One k) rest r = refl
  reads_statement (Atomic ks) rest r = refl
  reads_statement (Call f a b d) rest r = refl
  reads_statement (If c y n) rest r = reads_block y (block_heads n (IfHead c ∷ rest)) r
      ∙ reads_block n (IfHead c ∷ rest) (with_block y r)
  reads_statement (Choose bs) rest r = reads_blocks bs (ChooseHead ∷ rest) r
  reads_statement (Loop b) rest r = reads_block b (LoopHead ∷ rest) r
  reads_statement Break rest r = refl
  reads_statement Return rest r = refl
  reads_statement Skip rest r = refl
  reads_statement (Label l) rest r = refl

  reads_block : (b : Statements) (rest : List Head) (r : Read)
      → read_heads (block_heads b rest) r ≡ read_heads rest (with_block b r)
  reads_block Empty rest r = refl
  reads_block (Then l s b) rest r = reads_statement s (block_heads b (ThenHead l ∷ rest)) r
      ∙ reads_block b (ThenHead l ∷ rest) (with_statement s r)

  reads_blocks : (bs : Blocks) (rest : List Head) (r : Read)
      → read_heads (blocks_heads bs rest) r ≡ read_heads rest (with_choice bs r)
  reads_blocks NoBlock rest r = refl
  reads_blocks (And b bs) rest r = reads_block b (blocks_heads bs (AndHead ∷ rest)) r
      ∙ reads_blocks bs (AndHead ∷ rest) (with_block b r)

-- nothing is lost
pub read_back : (b : Statements) → read_block (heads_of b) ≡ b
read_back b = ap (λ r. first_block r.blocks) (reads_block b [] (record { statements = []; blocks = []; choices = [] }))
