-- What a reader from left to right has found.
use Rattle.std.specs.Prelude.{◌≡◌, ℕ, false, List, ◌++◌, Result, Err}
use Rattle.plc_lex.specs.declared.token.Token.{Token}
use Rattle.plc_lex.specs.declared.token.TokenKind.{TokenKind}
use Rattle.plc_lex.specs.declared.fault.LexFault.{LexFault}
use Rattle.plc_lex.specs.declared.fault.LexFault.TheVariants.{BadByte, LongName, BadNumber, Memory}
use Rattle.plc_lex.specs.declared.rest.Rest.{Rest}
use Rattle.plc_lex.specs.Spelling.{Refusal, bad_byte, long_name, bad_number, is_blank, is_comment, Spells}
use Rattle.plc_lex.specs.Stops.{Stops}

-- neither a space nor a comment begins here
pub record IsAtToken (bytes : List ℕ) : Type 0 where
  pub no_space : is_blank bytes ≡ false
  pub no_comment : is_comment bytes ≡ false

-- what is spelled from here on is spelled, after the tokens between, from an earlier place, and a text that stops
-- from here on stops from there
pub record Reads (at line : ℕ) (bytes : List ℕ) (between : List Token) (here : Rest) : Type 0 where
  pub spells : (ts : List Token) → Spells here.at here.line here.bytes.now ts → Spells at line bytes (between ++ ts)
  pub stops : (why : Refusal) (place : ℕ) → Stops here.at here.bytes.now why place → Stops at bytes why place

-- a fault at a place tells why no token stands there; running out of memory says nothing
abbrev pub IsFaultAt : ℕ → Result (TokenKind × ℕ) Refusal → LexFault → Type 0
IsFaultAt at token (BadByte place) = (token ≡ Err bad_byte) × (place ≡ at)
IsFaultAt at token (LongName place) = (token ≡ Err long_name) × (place ≡ at)
IsFaultAt at token (BadNumber place) = (token ≡ Err bad_number) × (place ≡ at)
IsFaultAt at token Memory = Unit {0}
