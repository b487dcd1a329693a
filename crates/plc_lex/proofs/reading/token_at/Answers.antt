use Rattle.std.proofs.Common.{rules, ◌<◌, ◌≤◌, ◌≡◌, ℕ, List, length, Result, Ok, Err, IfOk}
use Rattle.plc_lex.specs.declared.token.TokenKind.{TokenKind}
use Rattle.plc_lex.specs.declared.fault.LexFault.{LexFault}
use Rattle.plc_lex.specs.Spelling.{token_at}
use Rattle.plc_lex.proofs.Pieces.{piece_is}
use Rattle.plc_lex.proofs.reading.token_at.Goals as goal

within_bytes : (bytes : List ℕ) (read : Result (TokenKind × ℕ) LexFault) → IfOk read (λ t. token_at bytes ≡ Ok t) → IfOk read (λ t. (0 < t.1) × (t.1 ≤ length bytes))
within_bytes bytes (Ok t) e = let piece = piece_is bytes t.0 t.1 e in (piece.not_empty, piece.within)
within_bytes bytes (Err fault) e = tt

pub returns-in-len1-up-clause-within : goal.returns-in-len1-up-clause-within
returns-in-len1-up-clause-within c = within_bytes c.args.bytes.now c.name_at.result (search rules)

pub returns-in-len1-up-2-clause-within : goal.returns-in-len1-up-2-clause-within
returns-in-len1-up-2-clause-within c = within_bytes c.args.bytes.now c.number_at.result (search rules)

pub returns-in_default-clause-within : goal.returns-in_default-clause-within
returns-in_default-clause-within c = within_bytes c.args.bytes.now c.symbol_at.result (search rules)
