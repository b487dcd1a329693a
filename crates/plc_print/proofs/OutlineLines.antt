-- An outline means the same on whatever lines the operations before it stand: of an operation it asks for the name, the locals and the labels.
use Rattle.std.proofs.Common.{◌≡◌, ◌==◌, ℕ, zero, suc, ◌+◌, true, cond, List, [], ◌∷◌, ◌++◌, map, Option, Some, None, Result, Ok, refl, sym, ap, ap₂, ◌∙◌}
use Rattle.std.specs.List.{position_from}
use Rattle.plc_lang.specs.declared.syntax.Local.{Local}
use Rattle.plc_lang.specs.declared.syntax.Op.{Op}
use Rattle.plc_lang.specs.Locals.{locals_of}
use Rattle.plc_lang.specs.Statements.{Statement, One, Atomic, Call, If, Choose, Loop, Break, Return, Skip, Label, Statements, Empty, Then, Blocks, NoBlock, And}
use Rattle.plc_lang.specs.Labels.{statement_labels, block_labels, blocks_labels, labels_by_op}
use Rattle.plc_syntax.specs.Trees.{Text, Placed, ClauseTree, ItemTree, InvariantItem, OverItem, AtItem, OutlineTree, Outlined}
use Rattle.plc_scope.specs.declared.fault.ParseFault.{ParseFault}
use Rattle.plc_scope.specs.declared.scope.Scope.{Scope}
use Rattle.plc_scope.specs.Scope.{◌>>=◌}
use Rattle.plc_scope.proofs.Sequence.{bind_same}
use Rattle.plc_outparse.specs.Meaning.{in_turn, clause_means, op_named, op_at, Parts, item_step, depth_means, outline_means}
use Rattle.plc_parse.specs.Meaning.{outlined_means}
use Rattle.plc_print.specs.Laws.{statement_without_lines, without_lines, blocks_without_lines, op_without_lines}

-- ---- what is asked of operations

mutual
  same_statement : (s : Statement) → statement_labels (statement_without_lines s) ≡ statement_labels s
  same_statement (One k) = refl
  same_statement (Atomic ks) = refl
  same_statement (Call f a b d) = refl
  same_statement (If c y n) = ap₂ (λ (ls ms : List ℕ). ls ++ ms) (same_labels y) (same_labels n)
  same_statement (Choose bs) = same_choice bs
  same_statement (Loop b) = same_labels b
  same_statement Break = refl
  same_statement Return = refl
  same_statement Skip = refl
  same_statement (Label l) = refl

  same_labels : (b : Statements) → block_labels (without_lines b) ≡ block_labels b
  same_labels Empty = refl
  same_labels (Then l s b) = ap₂ (λ (ls ms : List ℕ). ls ++ ms) (same_statement s) (same_labels b)

  same_choice : (bs : Blocks) → blocks_labels (blocks_without_lines bs) ≡ blocks_labels bs
  same_choice NoBlock = refl
  same_choice (And b bs) = ap₂ (λ (ls ms : List ℕ). ls ++ ms) (same_labels b) (same_choice bs)

same_by_op : (ops : List Op) → labels_by_op (map op_without_lines ops) ≡ labels_by_op ops
same_by_op [] = refl
same_by_op (o ∷ ops) = ap₂ (λ (ls : List ℕ) (all : List (List ℕ)). ls ∷ all) (same_labels o.body) (same_by_op ops)

same_place : (name k : ℕ) (ops : List Op) → position_from (λ (o : Op). o.name == name) k (map op_without_lines ops) ≡ position_from (λ (o : Op). o.name == name) k ops
same_place name k [] = refl
same_place name k (o ∷ ops) = ap (λ (p : Option ℕ). cond (o.name == name) (Some k) p) (same_place name (k + 1) ops)

same_named : (ops : List Op) (name : Option ℕ) → op_named (map op_without_lines ops) name ≡ op_named ops name
same_named ops None = refl
same_named ops (Some name) = same_place name 0 ops

same_locals : (ops : List Op) (k : ℕ) → locals_of (map op_without_lines ops) k ≡ locals_of ops k
same_locals [] k = refl
same_locals (o ∷ ops) zero = refl
same_locals (o ∷ ops) (suc k) = same_locals ops k

-- ---- items

module _ (s : Scope) (ops : List Op) (by_op : List (List ℕ)) where
  same_clause : (k : ℕ) (c : ClauseTree) → clause_means s (locals_of (map op_without_lines ops) k) true c ≡ clause_means s (locals_of ops k) true c
  same_clause k c = ap (λ (ls : List Local). clause_means s ls true c) (same_locals ops k)

  same_op : (name : Placed Text) → op_at s (map op_without_lines ops) name ≡ op_at s ops name
  unfolding op_at
  same_op name = simp same_named

  same_item : (st : Parts) (x : ItemTree) → item_step s (map op_without_lines ops) by_op st x ≡ item_step s ops by_op st x
  unfolding item_step
  same_item st (InvariantItem c) = refl
  same_item st (OverItem name c) = simp (same_op, same_clause)
  same_item st (AtItem name names c) = simp same_clause

-- ---- outlines

same_turns : {S X : Type 0} (f g : S → X → Result S ParseFault) → ((s : S) (x : X) → f s x ≡ g s x) → (s : S) (xs : List X) → in_turn f s xs ≡ in_turn g s xs
same_turns f g same s [] = refl
same_turns f g same s (x ∷ xs) = ap (λ r. r >>= λ t. in_turn f t xs) (same s x) ∙ bind_same (g s x) (λ t. in_turn f t xs) (λ t. in_turn g t xs) (λ t. same_turns f g same t xs)

lineless : (s : Scope) (ops : List Op) (t : OutlineTree) → outline_means s (map op_without_lines ops) t ≡ outline_means s ops t
unfolding outline_means
lineless s ops (Outlined d xs) = bind_same (depth_means d) _ _ (λ depth.
    ap (λ (all : Result Parts ParseFault). all >>= λ p. Ok (record { depth = depth; invariants = p.0; items = p.1 }))
    (ap (λ (by_op : List (List ℕ)). in_turn (item_step s (map op_without_lines ops) by_op) ([], []) xs) (same_by_op ops)
    ∙ same_turns (item_step s (map op_without_lines ops) (labels_by_op ops)) (item_step s ops (labels_by_op ops)) (same_item s ops (labels_by_op ops)) ([], []) xs))

-- operations that are the same but for lines
pub same_outline : (s : Scope) (ops others : List Op) → map op_without_lines ops ≡ map op_without_lines others → (t : Option OutlineTree) → outlined_means s ops t ≡ outlined_means s others t
same_outline s ops others e None = refl
same_outline s ops others e (Some t) = sym (lineless s ops t) ∙ ap (λ (os : List Op). outline_means s os t) e ∙ lineless s others t
