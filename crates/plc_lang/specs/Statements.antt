-- Statements as contracts see them: trees, in which no list lies in memory.
use Rattle.std.specs.Prelude.{ℕ, ◌+◌, Bool, List, Option}
use Rattle.plc_base.specs.declared.ids.FuncId.{FuncId}
use Rattle.plc_lang.specs.declared.syntax.Primitive.{Primitive}
use Rattle.plc_lang.specs.declared.syntax.Arg.{Arg}
use Rattle.plc_lang.specs.declared.syntax.Cond.{Cond}

mutual
  -- a statement
  pub data Statement : Type 0 where
    One : Primitive → Statement
    Atomic : List Primitive → Statement
    Call : FuncId → Arg → Bool → Option ℕ → Statement
    If : Cond → Statements → Statements → Statement
    Choose : Blocks → Statement
    Loop : Statements → Statement
    Break : Statement
    Return : Statement
    Skip : Statement
    Label : ℕ → Statement

  -- statements in order, each after the line of its first token
  pub data Statements : Type 0 where
    Empty : Statements
    Then : ℕ → Statement → Statements → Statements

  -- blocks side by side
  pub data Blocks : Type 0 where
    NoBlock : Blocks
    And : Statements → Blocks → Blocks

-- how many statements and blocks there are within one another
abbrev mutual
  pub statement_size : Statement → ℕ
  statement_size (One k) = 1
  statement_size (Atomic ks) = 1
  statement_size (Call f a b d) = 1
  statement_size (If c y n) = 1 + (block_size y + block_size n)
  statement_size (Choose bs) = 1 + blocks_size bs
  statement_size (Loop b) = 1 + block_size b
  statement_size Break = 1
  statement_size Return = 1
  statement_size Skip = 1
  statement_size (Label l) = 1

  pub block_size : Statements → ℕ
  block_size Empty = 1
  block_size (Then l s b) = statement_size s + block_size b

  pub blocks_size : Blocks → ℕ
  blocks_size NoBlock = 0
  blocks_size (And b bs) = block_size b + blocks_size bs
