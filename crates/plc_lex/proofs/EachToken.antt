-- What the tokens of a text are, and how many.
use Rattle.std.proofs.Common.{ℕ, ◌+◌, ◌≤◌, ◌==◌, true, false, cond, List, length, All, arith, length-drop}
use Rattle.std.proofs.lemmas.List.Sums.{prefix_len-le-length}
use Rattle.std.proofs.lemmas.List.Elements.{All-cons}
use Rattle.plc_lex.specs.declared.token.Token.{Token}
use Rattle.plc_lex.specs.Characters.{in_comment}
use Rattle.plc_lex.specs.Spelling.{comment_length, next_line, Spells, at_end, after_space, after_comment, token}
use Rattle.plc_lex.specs.Stops.{IsToken}
use Rattle.plc_lex.proofs.Pieces.{piece_is}

next_line_within : (line b : ℕ) → next_line line b ≤ line + 1
next_line_within line b = elim (b == 10) as (λ t. cond t (line + 1) line ≤ line + 1) [ true ↦ omega arith | false ↦ omega arith ]

comment_within : (bytes : List ℕ) → comment_length bytes ≤ length bytes
comment_within bytes = prefix_len-le-length in_comment bytes

pub each_token : (size at line : ℕ) (bytes : List ℕ) (ts : List Token) → Spells at line bytes ts → at + length bytes ≤ size → line ≤ at + 1 → All (IsToken size) ts
each_token size _ _ _ _ (at_end at line) room lines = λ k d below. absurd (omega arith)
each_token size _ _ _ _ (after_space at line b bs ts e s) room lines = each_token size _ _ _ _ s (omega arith) (omega (arith, next_line_within line b))
each_token size _ _ _ _ (after_comment at line bs ts e s) room lines =
    each_token size _ _ _ _ s (omega (arith, comment_within bs, length-drop (comment_length bs) bs)) (omega arith)
each_token size _ _ _ _ (token at line n bs kind ts space comment e s) room lines =
    let piece = piece_is bs kind n e in
    All-cons (IsToken size) _ ts
    (record { kind = piece.kind_is; not_empty = omega (arith, piece.not_empty); within = omega (arith, piece.within); line = omega (arith, piece.within) })
    (each_token size _ _ _ _ s (omega (arith, piece.within, length-drop n bs)) (omega arith))

pub token_count : (at line : ℕ) (bytes : List ℕ) (ts : List Token) → Spells at line bytes ts → length ts ≤ length bytes
token_count _ _ _ _ (at_end at line) = omega arith
token_count _ _ _ _ (after_space at line b bs ts e s) = omega (arith, token_count _ _ _ _ s)
token_count _ _ _ _ (after_comment at line bs ts e s) = omega (arith, token_count _ _ _ _ s, length-drop (comment_length bs) bs)
token_count _ _ _ _ (token at line n bs kind ts space comment e s) =
    let piece = piece_is bs kind n e in omega (arith, token_count _ _ _ _ s, length-drop n bs, piece.not_empty, piece.within)
