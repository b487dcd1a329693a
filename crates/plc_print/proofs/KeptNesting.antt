-- Tokens that bytes can spell, and tokens in which no block stands too deep, said from the left.
use Rattle.std.proofs.Common.{ℕ, suc, Bool, false, List, [], ◌∷◌}
use Rattle.std.specs.List.{AllByRecursion}
use Rattle.plc_lex.specs.declared.token.TokenKind.{TokenKind}
use Rattle.plc_lex.specs.declared.token.TokenKind.TheVariants.{Word, Name, Number, Symbol}
use Rattle.plc_lex.specs.declared.token.Symbol.TheVariants.{OpenBrace, CloseBrace}
use Rattle.plc_lex.specs.Stops.{IsKind}
use Rattle.plc_syntax.specs.Trees.{FileTree, file_tokens}
use Rattle.plc_syntax.specs.Nesting.{NoneTooDeep}
use Rattle.plc_syntax.proofs.Unplaced.{unplaced_file}
use Rattle.plc_syntax.proofs.Braced.{Fine, is_atomic, AnyToken, Shallow, shallow_tokens, tokens_shallow}
use Rattle.plc_print.proofs.NormalTrees.{normal_file}
use Rattle.plc_print.proofs.KeptTokens.{file_kept}

-- ---- tokens that bytes can spell

-- nothing is asked of braces
abbrev AnyDepth : ℕ → Type 0
AnyDepth d = Unit {0}

fine_kinds : (o c : ℕ) (a : Bool) (ts : List TokenKind) → AllByRecursion IsKind ts → Fine IsKind AnyDepth o c a ts
fine_kinds o c a [] h = tt
fine_kinds o c a (Name n ∷ ts) h = (h.0, fine_kinds o c false ts h.1)
fine_kinds o c a (Number n ∷ ts) h = (h.0, fine_kinds o c false ts h.1)
fine_kinds o c a (Word w ∷ ts) h = fine_kinds o c (is_atomic w) ts h.1
fine_kinds o c a (Symbol OpenBrace ∷ ts) h = (λ e. tt, fine_kinds (suc o) c false ts h.1)
fine_kinds o c a (Symbol CloseBrace ∷ ts) h = fine_kinds o (suc c) false ts h.1
fine_kinds o c a (Symbol _ ∷ ts) h = fine_kinds o c false ts h.1

kinds_fine : (o c : ℕ) (a : Bool) (ts : List TokenKind) → Fine IsKind AnyDepth o c a ts → AllByRecursion IsKind ts
kinds_fine o c a [] h = tt
kinds_fine o c a (Name n ∷ ts) h = (h.0, kinds_fine o c false ts h.1)
kinds_fine o c a (Number n ∷ ts) h = (h.0, kinds_fine o c false ts h.1)
kinds_fine o c a (Word w ∷ ts) h = (tt, kinds_fine o c (is_atomic w) ts h)
kinds_fine o c a (Symbol OpenBrace ∷ ts) h = (tt, kinds_fine (suc o) c false ts h.1)
kinds_fine o c a (Symbol CloseBrace ∷ ts) h = (tt, kinds_fine o (suc c) false ts h)
kinds_fine o c a (Symbol _ ∷ ts) h = (tt, kinds_fine o c false ts h)

pub kinds_kept : (f : FileTree) → AllByRecursion IsKind (file_tokens f) → AllByRecursion IsKind (file_tokens (unplaced_file (normal_file f)))
kinds_kept f h = kinds_fine 0 0 false (file_tokens (unplaced_file (normal_file f))) (file_kept IsKind AnyDepth f (fine_kinds 0 0 false (file_tokens f) h))

-- ---- nesting

pub nesting_kept : (f : FileTree) → NoneTooDeep (file_tokens f) → NoneTooDeep (file_tokens (unplaced_file (normal_file f)))
nesting_kept f h = tokens_shallow (file_tokens (unplaced_file (normal_file f))) (file_kept AnyToken Shallow f (shallow_tokens (file_tokens f) h))
