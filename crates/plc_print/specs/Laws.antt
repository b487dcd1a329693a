-- What is read back from a canonical text: the same unit but for the lines of its tokens.
use Rattle.std.specs.Prelude.{◌≡◌, ℕ, ◌≤◌, List, map, length, Ok}
use Rattle.std.specs.List.{AllByRecursion}
use Rattle.plc_base.specs.FileSizes.{largest_file}
use Rattle.plc_lex.specs.declared.token.Token.{Token}
use Rattle.plc_lex.specs.declared.token.TokenKind.{TokenKind}
use Rattle.plc_lex.specs.Spelling.{Spells}
use Rattle.plc_lex.specs.Stops.{IsKind}
use Rattle.plc_lang.specs.declared.syntax.Op.{Op}
use Rattle.plc_lang.specs.Statements.{Statement, If, Choose, Loop, Statements, Empty, Then, Blocks, NoBlock, And}
use Rattle.plc_syntax.specs.Trees.{FileTree, file_tokens}
use Rattle.plc_syntax.specs.Syntax.{kinds}
use Rattle.plc_syntax.specs.Nesting.{NoneTooDeep}
use Rattle.plc_parse.specs.declared.unit.Unit.{Unit as FileUnit}
use Rattle.plc_parse.specs.Meaning.{file_means}
use Rattle.plc_parse.specs.Units.{IsUnitOf}
use Rattle.plc_print.specs.Canonical.{canonical_tree}
use Rattle.plc_print.specs.Text.{text_of, canonical_text}

-- every line is 0
abbrev mutual
  pub statement_without_lines : Statement → Statement
  statement_without_lines (If c y n) = If c (without_lines y) (without_lines n)
  statement_without_lines (Choose bs) = Choose (blocks_without_lines bs)
  statement_without_lines (Loop b) = Loop (without_lines b)
  statement_without_lines s = s

  pub without_lines : Statements → Statements
  without_lines Empty = Empty
  without_lines (Then l s b) = Then 0 (statement_without_lines s) (without_lines b)

  pub blocks_without_lines : Blocks → Blocks
  blocks_without_lines NoBlock = NoBlock
  blocks_without_lines (And b bs) = And (without_lines b) (blocks_without_lines bs)

abbrev pub op_without_lines : Op → Op
op_without_lines o = record o { body = without_lines o.body; line = 0 }

abbrev pub unit_without_lines : FileUnit → FileUnit
unit_without_lines u = record u { file = record u.file { ops = map op_without_lines u.file.ops } }

-- equal but for lines
abbrev pub SameUpToLines : FileUnit → FileUnit → Type 0
SameUpToLines u v = unit_without_lines u ≡ unit_without_lines v

-- the canonical tree of a unit that a tree means: it means the same unit on any lines, and no block stands too deep
-- in it and its tokens are a text's where that holds of the first tree
pub record CanonicalTreesReadBack : Type 0 where
  pub means : (lines others : List ℕ) (f : FileTree) (u : FileUnit) → file_means lines f ≡ Ok u
      → (v : FileUnit) × (file_means others (canonical_tree u) ≡ Ok v) × SameUpToLines u v
  pub shallow : (lines : List ℕ) (f : FileTree) (u : FileUnit) → file_means lines f ≡ Ok u
      → NoneTooDeep (file_tokens f) → NoneTooDeep (file_tokens (canonical_tree u))
  pub kinds : (lines : List ℕ) (f : FileTree) (u : FileUnit) → file_means lines f ≡ Ok u
      → AllByRecursion IsKind (file_tokens f) → AllByRecursion IsKind (file_tokens (canonical_tree u))

-- the text of tokens, each of which bytes can spell, spells these tokens
abbrev pub TextIsReadBack : Type 0
TextIsReadBack = (ts : List TokenKind) → AllByRecursion IsKind ts
    → (us : List Token) × Spells 0 1 (text_of ts) us × (kinds us ≡ ts)

-- whoever reads the canonical text of a unit that was read from a text gets that unit again; it may be longer than
-- what may be read
abbrev pub CanonicalTextReadsBack : Type 0
CanonicalTextReadsBack = (text : List ℕ) (ts : List Token) (u : FileUnit) → Spells 0 1 text ts → IsUnitOf ts u
    → length (canonical_text u) ≤ largest_file →
    (us : List Token) × (v : FileUnit) × Spells 0 1 (canonical_text u) us × IsUnitOf us v × SameUpToLines u v
