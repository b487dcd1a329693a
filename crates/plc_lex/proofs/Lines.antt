-- The line of a token counts the line feeds before it.
use Rattle.std.proofs.Common.{◌≡◌, ℕ, ◌+◌, ◌==◌, Bool, true, false, cond, List, ◌∷◌, take, drop, All, refl, sym, ap}
use Rattle.std.proofs.Common.{◌∙◌, arith}
use Rattle.std.proofs.lemmas.List.{drop-drop}
use Rattle.std.proofs.lemmas.List.Elements.{All-cons, All-nil}
use Rattle.std.proofs.lemmas.List.Sums.{sum_by-take-drop}
use Rattle.plc_lex.specs.declared.token.Token.{Token}
use Rattle.plc_lex.specs.Characters.{in_comment}
use Rattle.plc_lex.specs.Spelling.{comment_length, next_line, token_from, Spells, at_end, after_space, after_comment}
use Rattle.plc_lex.specs.Spelling.{token}
use Rattle.plc_lex.specs.Stops.{line_feeds}
use Rattle.plc_lex.proofs.Pieces.{piece_is, front_free, feeds_cons}

-- line feeds in front of a place and after it
split_feeds : (n : ℕ) (bytes : List ℕ) → line_feeds (take n bytes) + line_feeds (drop n bytes) ≡ line_feeds bytes
split_feeds n bytes = sum_by-take-drop (λ b. cond (b == 10) 1 0) bytes n

-- line feeds that are left, where the front has none
feeds_after : (n : ℕ) (bytes : List ℕ) → line_feeds (take n bytes) ≡ 0 → line_feeds (drop n bytes) ≡ line_feeds bytes
feeds_after n bytes none = omega (arith, split_feeds n bytes)

after : (n at : ℕ) (bytes whole : List ℕ) → bytes ≡ drop at whole → drop n bytes ≡ drop (at + n) whole
after n at bytes whole e = ap (drop n) e ∙ drop-drop n at whole

counted : (line feeds : ℕ) (feed : Bool) → cond feed (line + 1) line + feeds ≡ line + (cond {A = ℕ} feed 1 0 + feeds)
counted line feeds true = omega arith
counted line feeds false = omega arith

space_counts : (line b : ℕ) (bs : List ℕ) → next_line line b + line_feeds bs ≡ line + line_feeds (b ∷ bs)
space_counts line b bs = counted line (line_feeds bs) (b == 10) ∙ ap (λ n. line + n) (sym (feeds_cons b bs))

pub lines_counted : (whole : List ℕ) (at line : ℕ) (bytes : List ℕ) (ts : List Token) → Spells at line bytes ts → bytes ≡ drop at whole → line + line_feeds bytes ≡ 1 + line_feeds whole
    → All (λ t. t.line ≡ 1 + line_feeds (take t.span.start whole)) ts
lines_counted whole _ _ _ _ (at_end at line) e count = All-nil (λ t. t.line ≡ 1 + line_feeds (take t.span.start whole))
lines_counted whole _ _ _ _ (after_space at line b bs ts space s) e count = lines_counted whole _ _ _ _ s (after 1 at (b ∷ bs) whole e) (space_counts line b bs ∙ count)
lines_counted whole _ _ _ _ (after_comment at line bs ts comment s) e count =
    let n = comment_length bs in
    let same = feeds_after n bs (front_free in_comment refl bs) in
    lines_counted whole _ _ _ _ s (after n at bs whole e) (omega arith)
lines_counted whole _ _ _ _ (token at line n bs kind ts space comment read s) e count =
    let same = feeds_after n bs (piece_is bs kind n read).one_line in
    let before : line_feeds (take at whole) + line_feeds bs ≡ line_feeds whole = ap (λ l. line_feeds (take at whole) + line_feeds l) e ∙ split_feeds at whole in
    let here : line ≡ 1 + line_feeds (take at whole) = omega arith in
    All-cons (λ (t : Token). t.line ≡ 1 + line_feeds (take t.span.start whole)) (token_from at line kind n) ts here (lines_counted whole _ _ _ _ s (after n at bs whole e) (omega arith))
