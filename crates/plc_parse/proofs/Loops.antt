-- The loops over statements, blocks, declarations, values and primitives, each as parts that are made one after the
-- other.
use Rattle.std.proofs.Common.{◌≡◌, ◌∙◌, ◌+◌, ◌||◌, ℕ, Bool, List, [], ◌∷◌, ◌++◌, map, length, Option, Some, None}
use Rattle.std.proofs.Common.{Result, Ok, Err, refl, sym, ap, append_assoc, arith}
use Rattle.std.proofs.lemmas.List.{append-nil, length-append}
use Rattle.plc_syntax.specs.Views.{placed_as, field_tree}
use Rattle.plc_syntax.specs.declared.form.Placed.{Placed}
use Rattle.plc_syntax.specs.declared.form.Declaration.{Declaration}
use Rattle.plc_lang.specs.declared.syntax.Line.{Line}
use Rattle.plc_lang.specs.declared.syntax.Primitive.{Primitive}
use Rattle.plc_lang.specs.Statements.{Statement, Statements, Choose, Empty, Then, Blocks, NoBlock, And}
use Rattle.plc_lang.specs.Views.{statement_of, block_of, blocks_of}
use Rattle.plc_scope.specs.declared.fault.ParseFault.{ParseFault}
use Rattle.plc_scope.specs.declared.scope.Scope.{Scope}
use Rattle.plc_scope.specs.Scope.{◌>>=◌, declared_parameter}
use Rattle.plc_scope.proofs.Sequence.{bind_joins, bind_within}
use Rattle.plc_scope.proofs.Turns.{ahead}
use Rattle.plc_syntax.specs.Trees.{Text, Placed as PlacedTree, ChooseStatement, BlockTree}
use Rattle.plc_tree.specs.declared.tree.Stmt.{Stmt}
use Rattle.plc_tree.specs.Views.{statement_tree, block_tree, ors_tree}
use Rattle.plc_parse.specs.Meaning.{counted, count_of, allocates, before, forms_mean, line_at, statement_means}
use Rattle.plc_parse.specs.Meaning.{statements_mean, or_means, listed, local_means}
use Rattle.plc_outparse.specs.Meaning.{in_turn}
use Rattle.plc_parse.specs.Views.{with_form}

-- ---- the lines of a block

-- lines before a block
abbrev pub lines_before : List Line → Statements → Statements
lines_before [] b = b
lines_before (l ∷ ls) b = Then l.line (statement_of l.stmt) (lines_before ls b)

pub one_line_more : (ls : List Line) (l : Line) (b : Statements)
    → lines_before (ls ++ l ∷ []) b ≡ lines_before ls (Then l.line (statement_of l.stmt) b)
one_line_more [] l b = refl
one_line_more (k ∷ ks) l b = ap (Then k.line (statement_of k.stmt)) (one_line_more ks l b)

pub all_lines : (ls : List Line) → lines_before ls Empty ≡ block_of ls
all_lines [] = refl
all_lines (k ∷ ks) = ap (Then k.line (statement_of k.stmt)) (all_lines ks)

-- the statements of a block, with the scope after them
abbrev pub Block : Type 0
Block = Statements × Scope

abbrev pub line_made : ℕ × Statement → Block → Block
line_made x b = (Then x.0 x.1 b.0, b.1)

abbrev pub lines_made : List Line → Block → Block
lines_made ls b = (lines_before ls b.0, b.1)

-- the blocks of a choice, with the scope after them
abbrev pub Choices : Type 0
Choices = Blocks × Scope

abbrev pub block_made : Statements → Choices → Choices
block_made x b = (And x b.0, b.1)

module _ (lines : List ℕ) (in_loop : Bool) where
  abbrev pub statements_from : Scope → List (Placed Stmt) → Result Block ParseFault
  statements_from s ss = statements_mean lines s in_loop (block_tree ss)

  abbrev pub one_statement : Scope → Placed Stmt → Result ((ℕ × Statement) × Scope) ParseFault
  one_statement s x = statement_means lines s in_loop x.at (statement_tree x.value)
      >>= λ f. Ok ((line_at lines x.at, f.0), f.1)

  pub statements_go : (s : Scope) (x : Placed Stmt) (xs : List (Placed Stmt)) → statements_from s (x ∷ xs)
      ≡ (one_statement s x >>= λ f. statements_from f.1 xs >>= λ o. Ok (line_made f.0 o))
  statements_go s x xs = sym (bind_joins (statement_means lines s in_loop x.at (statement_tree x.value)) _ _)

  -- ---- the blocks of a choice

  abbrev pub ors_from : Scope → List BlockTree → Result Choices ParseFault
  ors_from s bs = or_means lines s in_loop (ors_tree bs)

  abbrev pub one_block : Scope → BlockTree → Result Block ParseFault
  one_block s b = statements_mean lines s in_loop b

  -- the blocks of a choice are its first two and the others
  pub choice_of : (s : Scope) (at : ℕ) (a b : BlockTree) (bs : List BlockTree)
      → statement_means lines s in_loop at (ChooseStatement a b (ors_tree bs))
      ≡ (ors_from s (a ∷ b ∷ bs) >>= λ c. Ok (Choose c.0, c.1))
  choice_of s at a b bs = bind_within (statements_mean lines s in_loop a) _ _ _ (λ x.
      let choose : Choices → Result (Statement × Scope) ParseFault = λ o. Ok (Choose (And x.0 o.0), o.1) in
      bind_within (statements_mean lines x.1 in_loop b) _ _ choose (λ y.
      bind_within (ors_from y.1 bs) _ _ choose (λ z. refl))
      ∙ sym (bind_joins (ors_from x.1 (b ∷ bs)) _ _))

  -- where the first two are known
  pub first_two : (s t u : Scope) (a b : BlockTree) (bs : List BlockTree) (x y : Statements)
      → one_block s a ≡ Ok (x, t) → one_block t b ≡ Ok (y, u)
      → (ors_from u bs >>= λ o. Ok (And x (And y o.0), o.1)) ≡ ors_from s (a ∷ b ∷ bs)
  first_two s t u a b bs x y first second = sym (
      ap (λ r. r >>= λ f. ors_from f.1 (b ∷ bs) >>= λ o. Ok (block_made f.0 o)) first
      ∙ ap (λ r. (r >>= λ f. ors_from f.1 bs >>= λ o. Ok (block_made f.0 o)) >>= λ o. Ok (block_made x o)) second
      ∙ bind_joins (ors_from u bs) (λ o. Ok (block_made y o)) (λ o. Ok (block_made x o)))

  pub ors_go : (s : Scope) (b : BlockTree) (bs : List BlockTree) → ors_from s (b ∷ bs)
      ≡ (one_block s b >>= λ f. ors_from f.1 bs >>= λ o. Ok (block_made f.0 o))
  ors_go s b bs = refl

-- blocks before others
abbrev pub blocks_before : List Statements → Blocks → Blocks
blocks_before [] b = b
blocks_before (x ∷ xs) b = And x (blocks_before xs b)

abbrev pub blocks_made : List Statements → Choices → Choices
blocks_made xs b = (blocks_before xs b.0, b.1)

pub one_block_more : (xs : List Statements) (x : Statements) (b : Blocks)
    → blocks_before (xs ++ x ∷ []) b ≡ blocks_before xs (And x b)
one_block_more [] x b = refl
one_block_more (y ∷ ys) x b = ap (And y) (one_block_more ys x b)

pub all_blocks : (xs : List Statements) → blocks_before xs NoBlock ≡ blocks_of xs
all_blocks [] = refl
all_blocks (x ∷ xs) = ap (And x) (all_blocks xs)

-- ---- what the loops keep

module _ (lines : List ℕ) (in_loop : Bool) where
  -- the lines made and those from a place on are a whole block's
  abbrev pub LinesAreAhead : List Line → Scope → List (Placed Stmt) → Scope → List (Placed Stmt) → Type 0
  LinesAreAhead made now rest start whole =
      ahead (statements_from lines in_loop) (one_statement lines in_loop) line_made lines_made
      (statements_go lines in_loop) made (statements_from lines in_loop now rest)
      ≡ statements_from lines in_loop start whole

  -- the blocks made and those from a place on are all blocks
  abbrev pub BlocksAreAhead : List Statements → Scope → List BlockTree → Scope → List BlockTree → Type 0
  BlocksAreAhead made now rest start whole =
      ahead (ors_from lines in_loop) (one_block lines in_loop) block_made blocks_made (ors_go lines in_loop) made
      (ors_from lines in_loop now rest) ≡ ors_from lines in_loop start whole

-- ---- declarations

-- the scope, and how many stand before
abbrev pub Before : Type 0
Before = Scope × ℕ

-- what was declared, with the scope after it
abbrev pub Declared : Type 0 → Type 0
Declared Y = List Y × Scope

abbrev pub one_declared : {Y : Type 0} → Y → Declared Y → Declared Y
one_declared y o = (y ∷ o.0, o.1)

abbrev pub all_declared : {Y : Type 0} → List Y → Declared Y → Declared Y
all_declared ys o = (ys ++ o.0, o.1)

module _ {F X Y : Type 0} (means : Scope → ℕ → X → Result (Y × Scope) ParseFault) (tree : F → X) where
  abbrev pub listed_from : Before → List F → Result (Declared Y) ParseFault
  listed_from s xs = listed means s.0 s.1 (map tree xs)

  abbrev pub one_listed : Before → F → Result (Y × Before) ParseFault
  one_listed s x = means s.0 s.1 (tree x) >>= λ f. Ok (f.0, (f.1, s.1 + 1))

  pub listed_go : (s : Before) (x : F) (xs : List F) → listed_from s (x ∷ xs)
      ≡ (one_listed s x >>= λ f. listed_from f.1 xs >>= λ o. Ok (one_declared f.0 o))
  listed_go s x xs = sym (bind_joins (means s.0 s.1 (tree x)) _ _)

-- one more at the end
pub one_more : {Y : Type 0} (ys zs : List Y) (y : Y) → zs ≡ ys ++ y ∷ [] → (o : Declared Y)
    → all_declared zs o ≡ all_declared ys (one_declared y o)
one_more ys zs y e o = ap (λ ws. (ws, o.1)) (ap (λ ws. ws ++ o.0) e ∙ append_assoc ys (y ∷ []) o.0)

pub all_of : {Y : Type 0} (ys : List Y) (s : Scope) → all_declared ys ([], s) ≡ (ys, s)
all_of ys s = ap (λ ws. (ws, s)) (append-nil ys)

-- ---- parameters and locals

module _ {N : Type 0} (name : N → PlacedTree Text) where
  abbrev pub parameters_from : Scope → List N → Result Scope ParseFault
  parameters_from s ns = in_turn declared_parameter s (map name ns)

  abbrev pub one_parameter : Scope → N → Result Scope ParseFault
  one_parameter s n = declared_parameter s (name n)

  pub parameters_go : (s : Scope) (n : N) (ns : List N)
      → parameters_from s (n ∷ ns) ≡ (one_parameter s n >>= λ t. parameters_from t ns)
  parameters_go s n ns = refl

abbrev pub locals_from : Scope → List Declaration → Result Scope ParseFault
locals_from s ls = in_turn local_means s (map field_tree ls)

abbrev pub one_local : Scope → Declaration → Result Scope ParseFault
one_local s l = local_means s (field_tree l)

pub locals_go : (s : Scope) (l : Declaration) (ls : List Declaration)
    → locals_from s (l ∷ ls) ≡ (one_local s l >>= λ t. locals_from t ls)
locals_go s l ls = refl

-- ---- primitives of a step

-- how many there are, and whether one of them allocates
abbrev pub Forms : Type 0
Forms = ℕ × Bool

module _ {F X : Type 0} (means : X → Result (Option Primitive) ParseFault) (tree : F → X) where
  abbrev pub forms_from : Forms → List (Placed F) → Result (List Primitive) ParseFault
  forms_from s xs = forms_mean means s.0 s.1 (map (placed_as tree) xs)

  abbrev pub one_form : Forms → Placed F → Result (Option Primitive × Forms) ParseFault
  one_form s x = counted s.0 s.1 x.at (means (tree x.value))
      >>= λ k. Ok (k, (s.0 + count_of k, s.1 || allocates k))

  pub forms_go : (s : Forms) (x : Placed F) (xs : List (Placed F)) → forms_from s (x ∷ xs)
      ≡ (one_form s x >>= λ f. forms_from f.1 xs >>= λ o. Ok (before f.0 o))
  forms_go s x xs = sym (bind_joins (counted s.0 s.1 x.at (means (tree x.value))) _ _)

-- a primitive, if there is one, at the end
pub one_form_more : (ks : List Primitive) (k : Option Primitive) (r : List Primitive)
    → ((ks ++ before k []) ++ r) ≡ ks ++ before k r
one_form_more ks None r = ap (λ ws. ws ++ r) (append-nil ks)
one_form_more ks (Some k) r = append_assoc ks (k ∷ []) r

pub one_form_long : (ks : List Primitive) (k : Option Primitive)
    → length (ks ++ before k []) ≡ length ks + count_of k
one_form_long ks None = ap length (append-nil ks) ∙ omega arith
one_form_long ks (Some k) = length-append ks (k ∷ [])

-- the primitive that was added
pub record Added (ks js : List Primitive) (had has : Bool) (at : ℕ) (m : Result (Option Primitive) ParseFault) : Type 0 where
  pub prim : Option Primitive
  pub is : counted (length ks) had at m ≡ Ok prim
  pub primitives : js ≡ ks ++ before prim []
  pub new : has ≡ (had || allocates prim)

abbrev with_one : List Primitive → Bool → Option Primitive → List Primitive × Bool
with_one ks had k = (ks ++ before k [], had || allocates k)

pub added : (ks js : List Primitive) (had has : Bool) (at : ℕ) (m : Result (Option Primitive) ParseFault)
    → with_form ks had at m ≡ Ok (js, has) → Added ks js had has at m
added ks js had has at m e = of (counted (length ks) had at m) refl e
  where
    of : (o : Result (Option Primitive) ParseFault) → counted (length ks) had at m ≡ o
        → (o >>= λ k. Ok (with_one ks had k)) ≡ Ok (js, has) → Added ks js had has at m
    of (Ok k) is e =
        let same : with_one ks had k ≡ (js, has) = cc in
        record { prim = k; is = is; primitives = sym (ap (λ p. p.0) same); new = sym (ap (λ p. p.1) same) }
    of (Err f) is e = absurd cc
