-- Labels are numbered in the order of the text: each has the number of those before it in the file.
use Rattle.std.proofs.Common.{◌≡◌, ◌==◌, ℕ, ◌+◌, Bool, true, false, Option, Some, None, Ok, List, [], ◌∷◌, ◌++◌, length}
use Rattle.std.proofs.Common.{refl, sym, ap, ◌∙◌, subst, append_assoc, append-nil, arith}
use Rattle.std.specs.List.{concat, range_with_len}
use Rattle.std.proofs.lemmas.List.{length-append}
use Rattle.plc_base.specs.Limits.{most}
use Rattle.plc_base.specs.declared.limits.What1.TheVariants as limits
use Rattle.plc_base.specs.Names.{place_of}
use Rattle.plc_lang.specs.declared.syntax.Primitive.{Primitive}
use Rattle.plc_lang.specs.declared.syntax.Op.{Op}
use Rattle.plc_lang.specs.Labels.{label_or_none, statement_labels, block_labels, blocks_labels, labels_by_op}
use Rattle.plc_lang.specs.Statements.{Statement, Statements, Blocks}
use Rattle.plc_syntax.specs.Trees.{Text, Placed, StatementTree, PrimitiveStatement, AtomicStatement, CallStatement}
use Rattle.plc_syntax.specs.Trees.{IfStatement, ChooseStatement, LoopStatement, BreakStatement, ReturnStatement}
use Rattle.plc_syntax.specs.Trees.{LabelStatement, BlockTree, NoStatement, Then as ThenStatement, ElseTree, NoElse}
use Rattle.plc_syntax.specs.Trees.{ElseBlock, OrTree, NoOr, OrBlock}
use Rattle.plc_scope.specs.declared.scope.Scope.{Scope}
use Rattle.plc_scope.specs.declared.binding.Binding.TheVariants.{Taken}
use Rattle.plc_scope.specs.Scope.{◌>>=◌, if_new, with_name, with_label}
use Rattle.plc_scope.specs.Primitives.{primitive_means, condition_means, call_means}
use Rattle.plc_scope.proofs.Holds.{Has, next, any, unless}
use Rattle.plc_parse.specs.Meaning.{atomic_means, one_or_skip, label_means, during_means, statement_means}
use Rattle.plc_parse.specs.Meaning.{statements_mean, else_means, or_means}

-- ---- numbers in order

-- so many numbers follow one another
abbrev IsFrom : ℕ → List ℕ → Type 0
IsFrom n [] = Unit {0}
IsFrom n (x ∷ xs) = (x ≡ n) × IsFrom (n + 1) xs

-- these number what was declared between two counts
pub record Numbered (from to : ℕ) (labels : List ℕ) : Type 0 where
  pub end : from + length labels ≡ to
  pub are : IsFrom from labels

from_joined : (n : ℕ) (xs ys : List ℕ) → IsFrom n xs → IsFrom (n + length xs) ys → IsFrom n (xs ++ ys)
from_joined n [] ys a b = let same : n + 0 ≡ n = omega arith in subst (λ m. IsFrom m ys) same b
from_joined n (x ∷ xs) ys a b = (a.0, from_joined (n + 1) xs ys a.1 (let same : n + length (x ∷ xs) ≡ n + 1 + length xs = omega arith in subst (λ m. IsFrom m ys) same b))

pub joined : {a b c : ℕ} {xs ys : List ℕ} → Numbered a b xs → Numbered b c ys → Numbered a c (xs ++ ys)
joined {a} {b} {c} {xs} {ys} k l = record {
  end = omega (arith, length-append xs ys, k.end, l.end);
  are = from_joined a xs ys k.are (subst (λ m. IsFrom m ys) (sym k.end) l.are);
}

pub nothing : {n : ℕ} → Numbered n n []
nothing {n} = record { end = omega arith; are = tt }

are_range : (n : ℕ) (xs : List ℕ) → IsFrom n xs → xs ≡ range_with_len n (length xs)
are_range n [] h = refl
are_range n (x ∷ xs) h = ap (λ y. y ∷ xs) h.0 ∙ ap (λ ys. n ∷ ys) (are_range (n + 1) xs h.1)

pub numbered_range : (n : ℕ) (xs : List ℕ) → Numbered 0 n xs → xs ≡ range_with_len 0 n
numbered_range n xs h = let same : length xs ≡ n = omega (arith, h.end) in are_range 0 xs h.are ∙ ap (range_with_len 0) same

-- ---- statements

-- what was read has the labels that were declared with it
abbrev pub LabelsRead : {Y : Type 0} → (Y → List ℕ) → Scope → Y × Scope → Type 0
LabelsRead labels_of s r = Numbered (length s.labels) (length r.1.labels) (labels_of r.0)

abbrev OneNumbered : Scope → ℕ × Scope → Type 0
OneNumbered s r = Numbered (length s.labels) (length r.1.labels) (r.0 ∷ [])

abbrev MaybeNumbered : Scope → Option ℕ × Scope → Type 0
MaybeNumbered s r = Numbered (length s.labels) (length r.1.labels) (label_or_none r.0)

label_numbered : (s : Scope) (n : Placed Text) → Has (OneNumbered s) (label_means s n)
label_numbered s n = unless (OneNumbered s) (length s.labels == most limits.Labels) _ _ (λ few. new (place_of n.value s.names.names))
  where
    new : (o : Option ℕ) → Has (OneNumbered s) ((if_new o n.at (with_name s n.value Taken) >>= λ t. Ok (with_label t (length s.names.names))) >>= λ t. Ok (length s.labels, t))
    new None = record { end = omega (arith, length-append s.labels (length s.names.names ∷ [])); are = (refl, tt) }
    new (Some i) = tt

during_numbered : (s : Scope) (d : Option (Placed Text)) → Has (MaybeNumbered s) (during_means s d)
during_numbered s None = nothing
during_numbered s (Some n) = next (OneNumbered s) (MaybeNumbered s) (label_means s n) _ (label_numbered s n) (λ l k. k)

one_labels : {n : ℕ} (k : Option Primitive) → Numbered n n (statement_labels (one_or_skip k))
one_labels None = nothing
one_labels (Some k) = nothing

module _ (lines : List ℕ) where
  abbrev One : Scope → Statement × Scope → Type 0
  One = LabelsRead statement_labels

  abbrev Many : Scope → Statements × Scope → Type 0
  Many = LabelsRead block_labels

  abbrev Choices : Scope → Blocks × Scope → Type 0
  Choices = LabelsRead blocks_labels

  mutual
    one_numbered : (s : Scope) (in_loop : Bool) (at : ℕ) (st : StatementTree) → Has (One s) (statement_means lines s in_loop at st)
    one_numbered s in_loop at (PrimitiveStatement p) = any (One s) (primitive_means s p) _ (λ k. one_labels k)
    one_numbered s in_loop at (AtomicStatement ps) = any (One s) (atomic_means s ps) _ (λ b. nothing)
    one_numbered s in_loop at (CallStatement f a d) = any (One s) (call_means s f a) _ (λ c.
        next (MaybeNumbered s) (One s) (during_means s d) _ (during_numbered s d) (λ l k. k))
    one_numbered s in_loop at (IfStatement c b e) = any (One s) (condition_means s c) _ (λ k.
        next (Many s) (One s) (statements_mean lines s in_loop b) _ (many_numbered s in_loop b) (λ x f.
        next (Many x.1) (One s) (else_means lines x.1 in_loop e) _ (else_numbered x.1 in_loop e) (λ y g. joined f g)))
    one_numbered s in_loop at (ChooseStatement a b os) =
        next (Many s) (One s) (statements_mean lines s in_loop a) _ (many_numbered s in_loop a) (λ x f.
        next (Many x.1) (One s) (statements_mean lines x.1 in_loop b) _ (many_numbered x.1 in_loop b) (λ y g.
        next (Choices y.1) (One s) (or_means lines y.1 in_loop os) _ (choices_numbered y.1 in_loop os) (λ z k. joined f (joined g k))))
    one_numbered s in_loop at (LoopStatement b) = next (Many s) (One s) (statements_mean lines s true b) _ (many_numbered s true b) (λ x f. f)
    one_numbered s true at BreakStatement = nothing
    one_numbered s false at BreakStatement = tt
    one_numbered s in_loop at ReturnStatement = nothing
    one_numbered s in_loop at (LabelStatement n) = next (OneNumbered s) (One s) (label_means s n) _ (label_numbered s n) (λ l k. k)

    pub many_numbered : (s : Scope) (in_loop : Bool) (b : BlockTree) → Has (Many s) (statements_mean lines s in_loop b)
    many_numbered s in_loop NoStatement = nothing
    many_numbered s in_loop (ThenStatement at st b) = next (One s) (Many s) (statement_means lines s in_loop at st) _ (one_numbered s in_loop at st) (λ first f.
        next (Many first.1) (Many s) (statements_mean lines first.1 in_loop b) _ (many_numbered first.1 in_loop b) (λ others g. joined f g))

    else_numbered : (s : Scope) (in_loop : Bool) (e : ElseTree) → Has (Many s) (else_means lines s in_loop e)
    else_numbered s in_loop NoElse = nothing
    else_numbered s in_loop (ElseBlock b) = many_numbered s in_loop b

    choices_numbered : (s : Scope) (in_loop : Bool) (os : OrTree) → Has (Choices s) (or_means lines s in_loop os)
    choices_numbered s in_loop NoOr = nothing
    choices_numbered s in_loop (OrBlock b os) = next (Many s) (Choices s) (statements_mean lines s in_loop b) _ (many_numbered s in_loop b) (λ x f.
        next (Choices x.1) (Choices s) (or_means lines x.1 in_loop os) _ (choices_numbered x.1 in_loop os) (λ y g. joined f g))

-- ---- operations

-- the labels of all operations, and those of one more
pub labels_push : (ops : List Op) (o : Op) → concat (labels_by_op (ops ++ o ∷ [])) ≡ concat (labels_by_op ops) ++ block_labels o.body
labels_push [] o = append-nil (block_labels o.body)
labels_push (p ∷ ops) o = ap (λ ls. block_labels p.body ++ ls) (labels_push ops o) ∙ sym (append_assoc (block_labels p.body) (concat (labels_by_op ops)) (block_labels o.body))
