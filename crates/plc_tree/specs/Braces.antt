-- Words of private functions: the braces that were counted.
use Rattle.std.specs.Prelude.{◌≡◌, List}
use Rattle.std.specs.List.{count_by}
use Rattle.plc_lex.specs.declared.token.TokenKind.{TokenKind}
use Rattle.plc_tree.specs.declared.nesting.Braces.{Braces}
use Rattle.plc_syntax.specs.Nesting.{is_open_brace, is_close_brace}

-- the braces are counted: these are as many of each as the tokens have
pub record HasCounted (braces : Braces) (ts : List TokenKind) : Type 0 where
  pub opened : braces.opened ≡ count_by is_open_brace ts
  pub closed : braces.closed ≡ count_by is_close_brace ts
