-- Which tree is that of tokens: they are what it spells, and each place in it is the number of its own token. All is
-- said of the trees of any form: `x_then tree rest` are the tokens of a tree followed by the rest. Whether there is a
-- tree asks nothing of its places.
use Rattle.std.specs.Prelude.{◌≡◌, ℕ, List, [], map}
use Rattle.plc_lex.specs.declared.token.Token.{Token}
use Rattle.plc_lex.specs.declared.token.TokenKind.{TokenKind}
use Rattle.plc_syntax.specs.Trees.{FileTree, Pieces, plain, kinds_of, AreInPlace, file_then}

-- tokens without their places
abbrev pub kinds : List Token → List TokenKind
kinds ts = map (λ t. t.kind) ts

-- what a form's tree spells, before others
abbrev pub Spelling : Type 0 → Type 0
Spelling X = X → Pieces → Pieces

-- what a tree spells before other tokens
abbrev pub spelled : {X : Type 0} → Spelling X → X → List TokenKind → List TokenKind
spelled x_then x after = kinds_of (x_then x (map plain after))

-- tokens, of which the first is at this place, are a tree's and then others, and each place in the tree is that of its
-- token
pub record AreOf {X : Type 0} (x_then : Spelling X) (x : X) (at : ℕ) (ts after : List TokenKind) : Type 0 where
  pub tokens : ts ≡ spelled x_then x after
  pub places : AreInPlace at (x_then x (map plain after))

-- these are the tokens of a tree
abbrev pub AreWhole : {X : Type 0} → Spelling X → List TokenKind → Type 0
AreWhole {X} x_then ts = (x : X) × (spelled x_then x [] ≡ ts)

-- these are the tokens of this file, from the first on
abbrev pub AreOfFile : FileTree → List TokenKind → Type 0
AreOfFile f ts = AreOf file_then f 0 ts []

-- these are the tokens of a file
abbrev pub IsFile : List TokenKind → Type 0
IsFile ts = AreWhole file_then ts
