-- How deep blocks stand within one another, on tokens alone: the braces that are open before the brace of a block are
-- those of the operation and of the blocks around it, since neither the struct nor `init`, an outline or an `atomic`
-- block holds blocks.
use Rattle.std.specs.Prelude.{◌≡◌, ◌≢◌, ◌-◌, ◌<◌, ℕ, Bool, true, false, Some, List, take, slice_get}
use Rattle.std.specs.List.{count_by}
use Rattle.plc_base.specs.Limits.{most}
use Rattle.plc_base.specs.declared.limits.What1.TheVariants as limits
use Rattle.plc_lex.specs.declared.token.TokenKind.{TokenKind}
use Rattle.plc_lex.specs.declared.token.TokenKind.TheVariants.{Word, Symbol}
use Rattle.plc_lex.specs.declared.token.Keyword.TheVariants.{Atomic}
use Rattle.plc_lex.specs.declared.token.Symbol.TheVariants.{OpenBrace, CloseBrace}

-- how many blocks may stand within one another
abbrev pub nesting_limit : ℕ
nesting_limit = most limits.Nesting

-- `{`
abbrev pub is_open_brace : TokenKind → Bool
is_open_brace (Symbol OpenBrace) = true
is_open_brace _ = false

-- `}`
abbrev pub is_close_brace : TokenKind → Bool
is_close_brace (Symbol CloseBrace) = true
is_close_brace _ = false

-- how many braces tokens leave open
abbrev pub open_braces : List TokenKind → ℕ
open_braces ts = count_by is_open_brace ts - count_by is_close_brace ts

-- a block begins at a place: its token is a brace and isn't that of an `atomic`
pub record OpensBlockAt (ts : List TokenKind) (place : ℕ) : Type 0 where
  pub brace : slice_get ts place ≡ Some (Symbol OpenBrace)
  pub of_block : slice_get ts (place - 1) ≢ Some (Word Atomic)

-- a block begins at a place, and as many as are allowed stand around it: their braces and the operation's are open
pub record TooDeepAt (ts : List TokenKind) (place : ℕ) : Type 0 where
  pub opens : OpensBlockAt ts place
  pub deep : nesting_limit < open_braces (take place ts)

-- no block stands too deep
abbrev pub NoneTooDeep : List TokenKind → Type 0
NoneTooDeep ts = (place : ℕ) → TooDeepAt ts place → ⊥
