-- How many clauses acts have, and how many of them read pointers, by their primitives.
use Rattle.std.proofs.Common.{◌≡◌, ℕ, ◌+◌, ◌*◌, Bool, true, false, cond, List, [], ◌∷◌, ◌++◌, flat_map, length}
use Rattle.std.proofs.Common.{count_by, sum_by, refl, sym, ap, ◌∙◌, arith}
use Rattle.std.proofs.lemmas.List.Sums.{sum_by-cons}
use Rattle.plc_base.specs.Functions.{is_retire}
use Rattle.plc_lang.specs.declared.syntax.Arg.{Arg}
use Rattle.plc_lang.specs.declared.syntax.Arg.TheVariants as args
use Rattle.plc_lang.specs.declared.syntax.Ghost.{Ghost as AuxiliaryField}
use Rattle.plc_lang.specs.declared.syntax.Rel.{Rel}
use Rattle.plc_lang.specs.declared.syntax.Rel.TheVariants as rels
use Rattle.plc_lang.specs.declared.syntax.Primitive.{Primitive}
use Rattle.plc_lang.specs.declared.syntax.Primitive.TheVariants.{Store, StoreNull, DataStore, DataTest, RefreshStore}
use Rattle.plc_lang.specs.declared.syntax.Primitive.TheVariants.{Call, Ghost}
use Rattle.plc_ground.specs.declared.terms.Symbol.{Symbol}
use Rattle.plc_ground.specs.declared.terms.Symbol.TheVariants as symbols
use Rattle.plc_symbolic.specs.declared.symbolic.NodeTerm.{NodeTerm}
use Rattle.plc_vocabulary.specs.declared.acts.Act.{Act}
use Rattle.plc_vocabulary.specs.declared.acts.Act.TheVariants.{Assign, Make, Fetch, FetchMarked, Update, Test, Differ, Skip}
use Rattle.plc_vocabulary.specs.declared.setting.Variables.{Variables}
use Rattle.plc_vocabulary.specs.Acts.{act_of, marked_acts, acts_of_primitive, acts_of, call_act, data_test}
use Rattle.plc_vocabulary.specs.Setting.{pointer_loads_from}
use Rattle.plc_encoding.specs.declared.execution.Execution.{Execution}
use Rattle.plc_encoding.specs.Execution.{act_clauses, executed_clauses, after, update_at, if_checked, not_null, version, held}
use Rattle.plc_oblig.specs.Size.{is_pointer_load, prim_size, call_size, store_size, test_size}
use Rattle.plc_oblig.proofs.Lengths.{tally, tallied, each_length, both, one_more}

-- ---- reads of pointers

abbrev reads_pointer : Act → Bool
reads_pointer (Fetch p q f pointer) = pointer
reads_pointer (FetchMarked p q f) = true
reads_pointer _ = false

acts_read : (k : ℕ) (acts : List Act) → length (pointer_loads_from k acts) ≡ tally reads_pointer acts
acts_read k [] = refl
acts_read k (Fetch p q f true ∷ more) = one_more (symbols.Loaded k) _ _ (acts_read (k + 1) more)
acts_read k (Fetch p q f false ∷ more) = acts_read (k + 1) more
acts_read k (FetchMarked p q f ∷ more) = one_more (symbols.Loaded k) _ _ (acts_read (k + 1) more)
acts_read k (_ ∷ more) = acts_read k more

test_reads : (r : Rel) (a b : Symbol) → reads_pointer (data_test r a b) ≡ false
test_reads rels.Eq a b = refl
test_reads rels.Ne a b = refl
test_reads rels.Lt a b = refl
test_reads rels.Ge a b = refl

call_reads : (v : Variables) (retires : Bool) (a : Arg) → reads_pointer (call_act v retires a) ≡ false
call_reads v true (args.Var p) = refl
call_reads v true args.Null = refl
call_reads v true args.None = refl
call_reads v false a = refl

reads_by : (ghosts : List AuxiliaryField) (v : Variables) (k : Primitive)
    → reads_pointer (act_of ghosts v k) ≡ is_pointer_load k
reads_by ghosts v (DataTest r x e) = test_reads r _ _
reads_by ghosts v (Call f a) = call_reads v (is_retire f) a
reads_by ghosts v _ = refl

-- where marks are used, a primitive is a list of acts
alone_reads : (ghosts : List AuxiliaryField) (v : Variables) (k : Primitive)
    → tally reads_pointer (act_of ghosts v k ∷ []) ≡ cond (is_pointer_load k) 1 0
alone_reads ghosts v k = ap (λ b. cond b 1 0) (reads_by ghosts v k)

marked_reads : (ghosts : List AuxiliaryField) (v : Variables) (k : Primitive)
    → tally reads_pointer (marked_acts ghosts v k) ≡ cond (is_pointer_load k) 1 0
marked_reads ghosts v (DataTest r x e) = alone_reads ghosts v (DataTest r x e)
marked_reads ghosts v (Call f a) = alone_reads ghosts v (Call f a)
marked_reads ghosts v _ = refl

primitive_reads : (marked : Bool) (ghosts : List AuxiliaryField) (v : Variables) (k : Primitive)
    → tally reads_pointer (acts_of_primitive marked ghosts v k) ≡ cond (is_pointer_load k) 1 0
primitive_reads true ghosts v k = marked_reads ghosts v k
primitive_reads false ghosts v k = alone_reads ghosts v k

tally_both : (xs ys : List Act) → tally reads_pointer (xs ++ ys) ≡ tally reads_pointer xs + tally reads_pointer ys
tally_both [] ys = omega arith
tally_both (x ∷ xs) ys = go (reads_pointer x) _ (tally reads_pointer xs) (tally reads_pointer ys) (tally_both xs ys)
  where
    go : (b : Bool) (l m n : ℕ) → l ≡ m + n → cond b (1 + l) l ≡ cond b (1 + m) m + n
    go true l m n e = omega arith
    go false l m n e = e

reads_tally : (marked : Bool) (ghosts : List AuxiliaryField) (v : Variables) (ks : List Primitive)
    → tally reads_pointer (acts_of marked ghosts v ks) ≡ tally is_pointer_load ks
reads_tally marked ghosts v [] = refl
reads_tally marked ghosts v (k ∷ ks) =
    tally_both (acts_of_primitive marked ghosts v k) (acts_of marked ghosts v ks)
    ∙ go (is_pointer_load k) _ _ (tally is_pointer_load ks) (primitive_reads marked ghosts v k)
    (reads_tally marked ghosts v ks)
  where
    go : (b : Bool) (l m n : ℕ) → l ≡ cond b 1 0 → m ≡ n → l + m ≡ cond b (1 + n) n
    go true l m n e f = omega arith
    go false l m n e f = omega arith

pub loads_length : (marked : Bool) (ghosts : List AuxiliaryField) (v : Variables) (ks : List Primitive)
    → length (pointer_loads_from 0 (acts_of marked ghosts v ks)) ≡ count_by is_pointer_load ks
loads_length marked ghosts v ks =
    acts_read 0 (acts_of marked ghosts v ks) ∙ reads_tally marked ghosts v ks ∙ tallied is_pointer_load ks

-- ---- clauses

abbrev checked_size : Bool → ℕ
checked_size true = 1
checked_size false = 0

abbrev act_size : ℕ → Act → ℕ
act_size nodes (Assign p e) = 0
act_size nodes (Make p) = 0
act_size nodes (Fetch p q f pointer) = 2
act_size nodes (FetchMarked p q f) = 3
act_size nodes (Update checked m p e) = checked_size checked + 2 * nodes
act_size nodes (Test a b equal) = 1
act_size nodes (Differ a b) = 1
act_size nodes Skip = 0

check_length : (checked : Bool) (x : Execution) (p : Symbol) → length (if_checked checked (not_null x p)) ≡ checked_size checked
check_length true x p = refl
check_length false x p = refl

twice : (m n : ℕ) → m ≡ n → m * 2 ≡ 2 * n
twice m n e = grind (arith, e)

act_length : (ts : List NodeTerm) (x : Execution) (a : Act) → length (act_clauses ts x a) ≡ act_size (length ts) a
act_length ts x (Assign p e) = refl
act_length ts x (Make p) = refl
act_length ts x (Fetch p q f pointer) = refl
act_length ts x (FetchMarked p q f) = refl
act_length ts x (Update checked m p e) =
    both (if_checked checked (not_null x p)) (flat_map (update_at m (version x m) (held x p) (held x e)) ts) (checked_size checked) (2 * length ts) (check_length checked x p) (each_length (update_at m (version x m) (held x p) (held x e)) 2 (λ t. refl) ts ∙ twice (length ts) (length ts) refl)
act_length ts x (Test a b equal) = refl
act_length ts x (Differ a b) = refl
act_length ts x Skip = refl

abbrev acts_size : ℕ → List Act → ℕ
acts_size nodes [] = 0
acts_size nodes (a ∷ more) = act_size nodes a + acts_size nodes more

acts_length : (ts : List NodeTerm) (x : Execution) (acts : List Act)
    → length (executed_clauses ts x acts) ≡ acts_size (length ts) acts
acts_length ts x [] = refl
acts_length ts x (a ∷ more) = both (act_clauses ts x a) (executed_clauses ts (after x a) more) _ _
    (act_length ts x a) (acts_length ts (after x a) more)

nothing_more : (n : ℕ) → n + 0 ≡ n
nothing_more n = omega arith

plain_store : (nodes : ℕ) → 1 + 2 * nodes ≡ store_size false nodes
plain_store nodes = omega arith

marked_store : (nodes : ℕ) → 1 + 2 * nodes + (0 + 2 * nodes + 0) ≡ store_size true nodes
marked_store nodes = omega arith

test_size_is : (nodes : ℕ) (r : Rel) (a b : Symbol) → act_size nodes (data_test r a b) ≡ test_size r
test_size_is nodes rels.Eq a b = refl
test_size_is nodes rels.Ne a b = refl
test_size_is nodes rels.Lt a b = refl
test_size_is nodes rels.Ge a b = refl

call_size_is : (nodes : ℕ) (v : Variables) (retires : Bool) (a : Arg) → act_size nodes (call_act v retires a) ≡ call_size nodes retires a
call_size_is nodes v true (args.Var p) = refl
call_size_is nodes v true args.Null = refl
call_size_is nodes v true args.None = refl
call_size_is nodes v false a = refl

size_by : (nodes : ℕ) (ghosts : List AuxiliaryField) (v : Variables) (k : Primitive)
    → act_size nodes (act_of ghosts v k) ≡ prim_size false nodes k
size_by nodes ghosts v (Store p f q) = plain_store nodes
size_by nodes ghosts v (StoreNull p f) = plain_store nodes
size_by nodes ghosts v (DataTest r x e) = test_size_is nodes r _ _
size_by nodes ghosts v (RefreshStore p f q) = plain_store nodes
size_by nodes ghosts v (Call f a) = call_size_is nodes v (is_retire f) a
size_by nodes ghosts v (Ghost p g e) = let z : 0 + 2 * nodes ≡ 2 * nodes = omega arith in z
size_by nodes ghosts v _ = refl

-- where marks are used
alone_size : (nodes : ℕ) (ghosts : List AuxiliaryField) (v : Variables) (k : Primitive)
    → acts_size nodes (act_of ghosts v k ∷ []) ≡ prim_size false nodes k
alone_size nodes ghosts v k = nothing_more _ ∙ size_by nodes ghosts v k

marked_size : (nodes : ℕ) (ghosts : List AuxiliaryField) (v : Variables) (k : Primitive)
    → acts_size nodes (marked_acts ghosts v k) ≡ prim_size true nodes k
marked_size nodes ghosts v (Store p f q) = marked_store nodes
marked_size nodes ghosts v (StoreNull p f) = marked_store nodes
marked_size nodes ghosts v (DataStore p f e) = alone_size nodes ghosts v (DataStore p f e)
marked_size nodes ghosts v (DataTest r x e) = alone_size nodes ghosts v (DataTest r x e)
marked_size nodes ghosts v (RefreshStore p f q) = marked_store nodes
marked_size nodes ghosts v (Call f a) = alone_size nodes ghosts v (Call f a)
marked_size nodes ghosts v (Ghost p g e) = alone_size nodes ghosts v (Ghost p g e)
marked_size nodes ghosts v _ = refl

primitive_size : (marked : Bool) (nodes : ℕ) (ghosts : List AuxiliaryField) (v : Variables) (k : Primitive)
    → acts_size nodes (acts_of_primitive marked ghosts v k) ≡ prim_size marked nodes k
primitive_size true nodes ghosts v k = marked_size nodes ghosts v k
primitive_size false nodes ghosts v k = alone_size nodes ghosts v k

size_both : (nodes : ℕ) (xs ys : List Act) → acts_size nodes (xs ++ ys) ≡ acts_size nodes xs + acts_size nodes ys
size_both nodes [] ys = omega arith
size_both nodes (x ∷ xs) ys = let rest = size_both nodes xs ys in omega arith

size_of_all : (marked : Bool) (nodes : ℕ) (ghosts : List AuxiliaryField) (v : Variables) (ks : List Primitive)
    → acts_size nodes (acts_of marked ghosts v ks) ≡ sum_by (prim_size marked nodes) ks
size_of_all marked nodes ghosts v [] = refl
size_of_all marked nodes ghosts v (k ∷ ks) =
    size_both nodes (acts_of_primitive marked ghosts v k) (acts_of marked ghosts v ks)
    ∙ ap (λ n. n + acts_size nodes (acts_of marked ghosts v ks)) (primitive_size marked nodes ghosts v k)
    ∙ ap (λ n. prim_size marked nodes k + n) (size_of_all marked nodes ghosts v ks)
    ∙ sym (sum_by-cons (prim_size marked nodes) k ks)

pub executed_length : (marked : Bool) (ghosts : List AuxiliaryField) (v : Variables) (ts : List NodeTerm) (x : Execution)
    (ks : List Primitive)
    → length (executed_clauses ts x (acts_of marked ghosts v ks)) ≡ sum_by (prim_size marked (length ts)) ks
executed_length marked ghosts v ts x ks =
    acts_length ts x (acts_of marked ghosts v ks) ∙ size_of_all marked (length ts) ghosts v ks
