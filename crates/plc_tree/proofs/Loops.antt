-- A list that a loop reads: the items so far, before what is still to be read. One law for all lists; then the lists.
use Rattle.std.proofs.Common.{◌≡◌, ◌∙◌, ℕ, suc, Bool, true, false, cond, List, [], ◌∷◌, ◌++◌, Ok, Err, map, refl, sym}
use Rattle.std.proofs.Common.{ap}
use Rattle.plc_lex.specs.declared.token.TokenKind.{TokenKind}
use Rattle.plc_syntax.specs.declared.fault.Fault.{Fault}
use Rattle.plc_syntax.specs.declared.fault.Fault.TheVariants as faults
use Rattle.plc_syntax.specs.Trees.{Placed, StatementTree, BlockTree, NoStatement, Then, OrTree, NoOr, OrBlock}
use Rattle.plc_syntax.specs.Views.{placed_as}
use Rattle.plc_syntax.specs.declared.form.Placed.{Placed as PlacedForm}
use Rattle.plc_syntax.specs.Forms.{Read, ◌>>=◌, at_place, placed_of, first_is, list_of}
use Rattle.plc_syntax.specs.Answers.{FailsAs}
use Rattle.plc_tree.specs.declared.tree.Stmt.{Stmt}
use Rattle.plc_tree.specs.Forms.{begins_statement, begins_or, or_block_of, statement_of, statements_of, ors_of}
use Rattle.plc_tree.specs.Forms.{block_of}
use Rattle.plc_tree.specs.Views.{statement_tree, block_tree, ors_tree}

abbrev Tokens : Type 0
Tokens = List TokenKind

bind_joins : {A B C : Type 0} (r : Read A) (f : A → ℕ → Tokens → Read B) (g : B → ℕ → Tokens → Read C)
    → ((r >>= f) >>= g) ≡ (r >>= λ a at ts. f a at ts >>= g)
bind_joins (Ok a) f g = refl
bind_joins (Err e) f g = refl

bind_same : {A B : Type 0} (r : Read A) (f g : A → ℕ → Tokens → Read B)
    → ((a : A) (at : ℕ) (ts : Tokens) → f a at ts ≡ g a at ts) → (r >>= f) ≡ (r >>= g)
bind_same (Ok a) f g h = h a.0 a.1 a.2
bind_same (Err e) f g h = refl

fails_along : {A : Type 0} (e : Fault) (r total : Read A) → r ≡ total → FailsAs e r → FailsAs e total
fails_along (faults.Syntax at) r total same h = sym same ∙ h
fails_along faults.Memory r total same h = tt

fails_on : {A B : Type 0} (e : Fault) (r : Read A) (f : A → ℕ → Tokens → Read B) → FailsAs e r → FailsAs e (r >>= f)
fails_on (faults.Syntax at) r f h = ap (λ o. o >>= f) h
fails_on faults.Memory r f h = tt

-- X is an item as the program has it, T its tree, Y the tree of a list
module _ {X T Y : Type 0} (tree : X → T) (cons : T → Y → Y) where
  abbrev ahead : List X → Y → Y
  ahead [] y = y
  ahead (x ∷ xs) y = cons (tree x) (ahead xs y)

  ahead_more : (xs : List X) (x : X) (y : Y) → ahead (xs ++ x ∷ []) y ≡ ahead xs (cons (tree x) y)
  ahead_more [] x y = refl
  ahead_more (z ∷ xs) x y = ap (cons (tree z)) (ahead_more xs x y)

  -- items that were read before what is read
  abbrev pub before : List X → Read Y → Read Y
  before xs r = r >>= λ y at ts. Ok (ahead xs y, at, ts)

  pub none_before : (r : Read Y) → before [] r ≡ r
  none_before (Ok y) = refl
  none_before (Err e) = refl

  -- what is read with one fuel more, by whether an item begins
  abbrev Next : Bool → Y → Read T → (ℕ → Tokens → Read Y) → ℕ → Tokens → Read Y
  Next b nil item others at ts =
      cond b (item >>= λ x at ts. others at ts >>= λ y at ts. Ok (cons x y, at, ts)) (Ok (nil, at, ts))

  module _ (nil : Y) (list : List X → Y) (empty : list [] ≡ nil)
      (more : (x : X) (xs : List X) → list (x ∷ xs) ≡ cons (tree x) (list xs)) where
    ahead_all : (xs : List X) → ahead xs nil ≡ list xs
    ahead_all [] = sym empty
    ahead_all (x ∷ xs) = ap (cons (tree x)) (ahead_all xs) ∙ sym (more x xs)

    pub turn : (b : Bool) (item : Read T) (others : ℕ → Tokens → Read Y) (at at' : ℕ) (ts ts' : Tokens) (xs : List X)
        (x : X) → b ≡ true → item ≡ Ok (tree x, at', ts')
        → before xs (Next b nil item others at ts) ≡ before (xs ++ x ∷ []) (others at' ts')
    turn b item others at at' ts ts' xs x h said =
        ap (λ b. before xs (Next b nil item others at ts)) h
        ∙ ap (λ o. before xs (o >>= λ x at ts. others at ts >>= λ y at ts. Ok (cons x y, at, ts))) said
        ∙ bind_joins (others at' ts') _ _
        ∙ bind_same (others at' ts') _ _ (λ y at ts. ap (λ z. Ok (z, at, ts)) (sym (ahead_more xs x y)))

    pub end : (b : Bool) (item : Read T) (others : ℕ → Tokens → Read Y) (at : ℕ) (ts : Tokens) (xs : List X)
        (total : Read Y) → b ≡ false → before xs (Next b nil item others at ts) ≡ total → total ≡ Ok (list xs, at, ts)
    end b item others at ts xs total h so_far =
        sym so_far ∙ ap (λ b. before xs (Next b nil item others at ts)) h ∙ ap (λ z. Ok (z, at, ts)) (ahead_all xs)

  pub stop : (e : Fault) (nil : Y) (b : Bool) (item : Read T) (others : ℕ → Tokens → Read Y) (at : ℕ) (ts : Tokens)
      (xs : List X) (total : Read Y) → b ≡ true → FailsAs e item → before xs (Next b nil item others at ts) ≡ total
      → FailsAs e total
  stop e nil b item others at ts xs total h said so_far = fails_along e (before xs (Next true nil item others at ts))
      total (sym (ap (λ b. before xs (Next b nil item others at ts)) h) ∙ so_far)
      (fails_on e (Next true nil item others at ts) _ (fails_on e item _ said))

-- ---- a list whose items are read one by one

-- with fuel the first item is read, and without nothing
list_next : {T : Type 0} (begins : TokenKind → Bool) (item : ℕ → ℕ → Tokens → Read T) (k n at : ℕ) (ts : Tokens)
    → k ≡ suc n → list_of begins item k at ts
    ≡ Next {X = T} (λ t. t) (λ t ts. t ∷ ts) (first_is begins ts) [] (item n at ts) (list_of begins item n) at ts
unfolding list_of
list_next begins item k n at ts l = ap (λ (k : ℕ). list_of begins item k at ts) l

list_none : {T : Type 0} (begins : TokenKind → Bool) (item : ℕ → ℕ → Tokens → Read T) (k at : ℕ) (ts : Tokens)
    → k ≡ 0 → list_of begins item k at ts ≡ Err at
unfolding list_of
list_none begins item k at ts l = ap (λ (k : ℕ). list_of begins item k at ts) l

module _ {X T : Type 0} (tree : X → T) (begins : TokenKind → Bool) (item : ℕ → ℕ → Tokens → Read T) where
  abbrev pub list_before : List X → Read (List T) → Read (List T)
  list_before xs r = before tree (λ t ts. t ∷ ts) xs r

  pub list_turn : (k n at at' : ℕ) (ts ts' : Tokens) (xs : List X) (x : X) → k ≡ suc n → first_is begins ts ≡ true
      → item n at ts ≡ Ok (tree x, at', ts')
      → list_before xs (list_of begins item k at ts) ≡ list_before (xs ++ x ∷ []) (list_of begins item n at' ts')
  list_turn k n at at' ts ts' xs x l h said = ap (list_before xs) (list_next begins item k n at ts l)
      ∙ turn tree (λ t ts. t ∷ ts) [] (map tree) refl (λ x xs. refl) (first_is begins ts) (item n at ts)
      (list_of begins item n) at at' ts ts' xs x h said

  pub list_end : (k n at : ℕ) (ts : Tokens) (xs : List X) (total : Read (List T)) → k ≡ suc n
      → first_is begins ts ≡ false → list_before xs (list_of begins item k at ts) ≡ total
      → total ≡ Ok (map tree xs, at, ts)
  list_end k n at ts xs total l h so_far = end tree (λ t ts. t ∷ ts) [] (map tree) refl (λ x xs. refl)
      (first_is begins ts) (item n at ts) (list_of begins item n) at ts xs total h
      (sym (ap (list_before xs) (list_next begins item k n at ts l)) ∙ so_far)

  pub list_stop : (e : Fault) (k n at : ℕ) (ts : Tokens) (xs : List X) (total : Read (List T)) → k ≡ suc n
      → first_is begins ts ≡ true → FailsAs e (item n at ts) → list_before xs (list_of begins item k at ts) ≡ total
      → FailsAs e total
  list_stop e k n at ts xs total l h said so_far = stop tree (λ t ts. t ∷ ts) e [] (first_is begins ts) (item n at ts)
      (list_of begins item n) at ts xs total h said
      (sym (ap (list_before xs) (list_next begins item k n at ts l)) ∙ so_far)

  pub list_out : (k at : ℕ) (ts : Tokens) (xs : List X) (total : Read (List T)) → k ≡ 0
      → list_before xs (list_of begins item k at ts) ≡ total → total ≡ Err at
  list_out k at ts xs total l so_far = sym so_far ∙ ap (list_before xs) (list_none begins item k at ts l)

-- ---- statements, and further blocks of a choice

-- a statement after others
abbrev after : Placed StatementTree → BlockTree → BlockTree
after s b = Then s.at s.value b

abbrev placed_tree : PlacedForm Stmt → Placed StatementTree
placed_tree s = placed_as statement_tree s

abbrev pub statements_before : List (PlacedForm Stmt) → Read BlockTree → Read BlockTree
statements_before ss r = before placed_tree after ss r

abbrev pub blocks_before : List BlockTree → Read OrTree → Read OrTree
blocks_before bs r = before (λ b. b) OrBlock bs r

abbrev statement_item : ℕ → ℕ → Tokens → Read StatementTree
statement_item n at ts = statement_of (block_of n) (ors_of n) n at ts

abbrev or_item : ℕ → ℕ → Tokens → Read BlockTree
or_item n at ts = or_block_of (block_of n) at ts

statements_next : (k n at : ℕ) (ts : Tokens) → k ≡ suc n → statements_of k at ts
    ≡ Next placed_tree after (first_is begins_statement ts) NoStatement (placed_of (statement_item n) at ts)
    (statements_of n) at ts
statements_next k n at ts l = ap (λ (k : ℕ). statements_of k at ts) l

ors_next : (k n at : ℕ) (ts : Tokens) → k ≡ suc n → ors_of k at ts
    ≡ Next {X = BlockTree} (λ b. b) OrBlock (first_is begins_or ts) NoOr (or_item n at ts) (ors_of n) at ts
ors_next k n at ts l = ap (λ (k : ℕ). ors_of k at ts) l

pub statements_turn : (k n at at' : ℕ) (ts ts' : Tokens) (ss : List (PlacedForm Stmt)) (s : PlacedForm Stmt) → k ≡ suc n
    → first_is begins_statement ts ≡ true → s.at ≡ at → statement_item n at ts ≡ Ok (statement_tree s.value, at', ts')
    → statements_before ss (statements_of k at ts) ≡ statements_before (ss ++ s ∷ []) (statements_of n at' ts')
statements_turn k n at at' ts ts' ss s l h there said = ap (statements_before ss) (statements_next k n at ts l)
    ∙ turn placed_tree after NoStatement block_tree refl (λ x xs. refl) (first_is begins_statement ts)
    (placed_of (statement_item n) at ts) (statements_of n) at at' ts ts' ss s h
    (ap (λ o. o >>= λ x end ts. Ok (at_place at x, end, ts)) said
    ∙ ap (λ (a : ℕ). Ok (at_place a (statement_tree s.value), at', ts')) (sym there))

pub statements_end : (k n at : ℕ) (ts : Tokens) (ss : List (PlacedForm Stmt)) (total : Read BlockTree) → k ≡ suc n
    → first_is begins_statement ts ≡ false → statements_before ss (statements_of k at ts) ≡ total
    → total ≡ Ok (block_tree ss, at, ts)
statements_end k n at ts ss total l h so_far = end placed_tree after NoStatement block_tree refl (λ x xs. refl)
    (first_is begins_statement ts) (placed_of (statement_item n) at ts) (statements_of n) at ts ss total h
    (sym (ap (statements_before ss) (statements_next k n at ts l)) ∙ so_far)

pub statements_stop : (e : Fault) (k n at : ℕ) (ts : Tokens) (ss : List (PlacedForm Stmt)) (total : Read BlockTree)
    → k ≡ suc n → first_is begins_statement ts ≡ true → FailsAs e (statement_item n at ts)
    → statements_before ss (statements_of k at ts) ≡ total → FailsAs e total
statements_stop e k n at ts ss total l h said so_far = stop placed_tree after e NoStatement
    (first_is begins_statement ts) (placed_of (statement_item n) at ts) (statements_of n) at ts ss total h
    (fails_on e (statement_item n at ts) _ said)
    (sym (ap (statements_before ss) (statements_next k n at ts l)) ∙ so_far)

pub statements_out : (k at : ℕ) (ts : Tokens) (ss : List (PlacedForm Stmt)) (total : Read BlockTree) → k ≡ 0
    → statements_before ss (statements_of k at ts) ≡ total → total ≡ Err at
statements_out k at ts ss total l so_far =
    sym so_far ∙ ap (statements_before ss) (ap (λ (k : ℕ). statements_of k at ts) l)

pub ors_turn : (k n at at' : ℕ) (ts ts' : Tokens) (bs : List BlockTree) (b : BlockTree) → k ≡ suc n
    → first_is begins_or ts ≡ true → or_item n at ts ≡ Ok (b, at', ts')
    → blocks_before bs (ors_of k at ts) ≡ blocks_before (bs ++ b ∷ []) (ors_of n at' ts')
ors_turn k n at at' ts ts' bs b l h said = ap (blocks_before bs) (ors_next k n at ts l)
    ∙ turn (λ b. b) OrBlock NoOr ors_tree refl (λ x xs. refl) (first_is begins_or ts) (or_item n at ts) (ors_of n) at
    at' ts ts' bs b h said

pub ors_end : (k n at : ℕ) (ts : Tokens) (bs : List BlockTree) (total : Read OrTree) → k ≡ suc n
    → first_is begins_or ts ≡ false → blocks_before bs (ors_of k at ts) ≡ total → total ≡ Ok (ors_tree bs, at, ts)
ors_end k n at ts bs total l h so_far = end (λ b. b) OrBlock NoOr ors_tree refl (λ x xs. refl) (first_is begins_or ts)
    (or_item n at ts) (ors_of n) at ts bs total h (sym (ap (blocks_before bs) (ors_next k n at ts l)) ∙ so_far)

pub ors_stop : (e : Fault) (k n at : ℕ) (ts : Tokens) (bs : List BlockTree) (total : Read OrTree) → k ≡ suc n
    → first_is begins_or ts ≡ true → FailsAs e (or_item n at ts) → blocks_before bs (ors_of k at ts) ≡ total
    → FailsAs e total
ors_stop e k n at ts bs total l h said so_far = stop (λ b. b) OrBlock e NoOr (first_is begins_or ts) (or_item n at ts)
    (ors_of n) at ts bs total h said (sym (ap (blocks_before bs) (ors_next k n at ts l)) ∙ so_far)

pub ors_out : (k at : ℕ) (ts : Tokens) (bs : List BlockTree) (total : Read OrTree) → k ≡ 0
    → blocks_before bs (ors_of k at ts) ≡ total → total ≡ Err at
ors_out k at ts bs total l so_far = sym so_far ∙ ap (blocks_before bs) (ap (λ (k : ℕ). ors_of k at ts) l)
