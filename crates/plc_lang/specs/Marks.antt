-- Which files use marks: those of which a primitive speaks of them.
use Rattle.std.specs.Prelude.{Bool, true, false, ◌||◌, List}
use Rattle.std.specs.List.{list_any}
use Rattle.plc_lang.specs.declared.syntax.Cond.{Cond}
use Rattle.plc_lang.specs.declared.syntax.Cond.TheVariants as conditions
use Rattle.plc_lang.specs.declared.syntax.File.{File}
use Rattle.plc_lang.specs.declared.syntax.Op.{Op}
use Rattle.plc_lang.specs.declared.syntax.Primitive.{Primitive}
use Rattle.plc_lang.specs.declared.syntax.Primitive.TheVariants.{Mark, Unmark, MarkTest}
use Rattle.plc_lang.specs.Statements.{Statement, One, Atomic, Call as CallStatement}
use Rattle.plc_lang.specs.Statements.{If, Choose, Loop, Break, Return, Skip, Label}
use Rattle.plc_lang.specs.Statements.{Statements, Empty, Then, Blocks, NoBlock, And}

-- the primitive speaks of marks
abbrev pub speaks_of_marks : Primitive → Bool
speaks_of_marks (Mark p q) = true
speaks_of_marks (Unmark p q) = true
speaks_of_marks (MarkTest p m) = true
speaks_of_marks k = false

-- one of several primitives does
abbrev pub speak_of_marks : List Primitive → Bool
speak_of_marks ks = list_any speaks_of_marks ks

-- the condition of an `if` does
abbrev pub condition_uses_marks : Cond → Bool
condition_uses_marks (conditions.Test k) = speaks_of_marks k
condition_uses_marks (conditions.Refresh k) = speaks_of_marks k
condition_uses_marks (conditions.Cas a p old new) = false

-- something in a statement, in statements or in blocks does
abbrev mutual
  pub statement_uses_marks : Statement → Bool
  statement_uses_marks (One k) = speaks_of_marks k
  statement_uses_marks (Atomic ks) = speak_of_marks ks
  statement_uses_marks (CallStatement f a claimed d) = false
  statement_uses_marks (If c y n) = condition_uses_marks c || statements_use_marks y || statements_use_marks n
  statement_uses_marks (Choose bs) = blocks_use_marks bs
  statement_uses_marks (Loop b) = statements_use_marks b
  statement_uses_marks Break = false
  statement_uses_marks Return = false
  statement_uses_marks Skip = false
  statement_uses_marks (Label l) = false

  pub statements_use_marks : Statements → Bool
  statements_use_marks Empty = false
  statements_use_marks (Then l s b) = statement_uses_marks s || statements_use_marks b

  pub blocks_use_marks : Blocks → Bool
  blocks_use_marks NoBlock = false
  blocks_use_marks (And b bs) = statements_use_marks b || blocks_use_marks bs

-- a file uses marks where `init` or an operation does
abbrev pub file_uses_marks : File → Bool
file_uses_marks file = speak_of_marks file.init || list_any (λ (o : Op). statements_use_marks o.body) file.ops
