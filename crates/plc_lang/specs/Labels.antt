-- The labels of statements, and in which operation a label stands: the one whose statements have it.
use Rattle.std.specs.Prelude.{◌==◌, ℕ, Bool, List, [], ◌∷◌, ◌++◌, map, Option, Some, None}
use Rattle.std.specs.List.{list_any, position_from}
use Rattle.plc_lang.specs.declared.syntax.Op.{Op}
use Rattle.plc_lang.specs.Statements.{Statement, One, Atomic, Call, If, Choose, Loop, Break, Return, Skip, Label}
use Rattle.plc_lang.specs.Statements.{Statements, Empty, Then, Blocks, NoBlock, And}

-- the label of a call, if it has one
abbrev pub label_or_none : Option ℕ → List ℕ
label_or_none None = []
label_or_none (Some l) = l ∷ []

-- the labels of statements, in order of the text
abbrev mutual
  pub statement_labels : Statement → List ℕ
  statement_labels (One k) = []
  statement_labels (Atomic ks) = []
  statement_labels (Call f a b d) = label_or_none d
  statement_labels (If c y n) = block_labels y ++ block_labels n
  statement_labels (Choose bs) = blocks_labels bs
  statement_labels (Loop b) = block_labels b
  statement_labels Break = []
  statement_labels Return = []
  statement_labels Skip = []
  statement_labels (Label l) = l ∷ []

  pub block_labels : Statements → List ℕ
  block_labels Empty = []
  block_labels (Then l s b) = statement_labels s ++ block_labels b

  pub blocks_labels : Blocks → List ℕ
  blocks_labels NoBlock = []
  blocks_labels (And b bs) = block_labels b ++ blocks_labels bs

-- the labels of each operation
abbrev pub labels_by_op : List Op → List (List ℕ)
labels_by_op ops = map (λ (o : Op). block_labels o.body) ops

-- whether a label is one of these
abbrev pub has_label : ℕ → List ℕ → Bool
has_label label labels = list_any (λ (n : ℕ). n == label) labels

-- the operation of a label
abbrev pub op_of_label : List (List ℕ) → ℕ → Option ℕ
op_of_label by_op label = position_from (has_label label) 0 by_op
