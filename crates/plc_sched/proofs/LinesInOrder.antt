-- The first line of a text, and what stands after it.
use Rattle.std.proofs.Common.{◌≡◌, ℕ, ◌<◌, ◌==◌, Bool, true, false, cond, List, [], ◌∷◌, length, refl, sym, ap, ◌∙◌, arith, eqb-true}
use Rattle.std.specs.List.{slice_split, join_with_byte}
use Rattle.std.proofs.lemmas.List.Splits.{length-slice_split, join_with_byte-slice_split}
use Rattle.plc_sched.specs.Lines.{without_empty_end, lines_of}

pub no_lines : (bytes : List ℕ) → length bytes ≡ 0 → lines_of bytes ≡ []
unfolding lines_of
no_lines [] none = refl
no_lines (b ∷ bs) none = absurd (omega arith)

not_last : (piece : List ℕ) (pieces : List (List ℕ)) → 0 < length pieces → without_empty_end (piece ∷ pieces) ≡ piece ∷ without_empty_end pieces
not_last piece [] some = absurd (omega arith)
not_last piece (next ∷ more) some = refl

-- a line that a line feed ends
pub line_ended : (bytes line after : List ℕ) → slice_split (λ b. b == 10) bytes ≡ line ∷ slice_split (λ b. b == 10) after → lines_of bytes ≡ line ∷ lines_of after
unfolding lines_of
line_ended bytes line after e = rw e (not_last line (slice_split (λ b. b == 10) after) (omega (arith, length-slice_split (λ b. b == 10) after)))

kept : (piece : List ℕ) (empty : Bool) → (length piece == 0) ≡ empty → 0 < length piece → cond empty [] (piece ∷ []) ≡ piece ∷ []
kept piece true e some = absurd (omega (arith, eqb-true (length piece) 0 e))
kept piece false e some = refl

-- a line that the text ends
pub line_open : (bytes line : List ℕ) → 0 < length bytes → slice_split (λ b. b == 10) bytes ≡ line ∷ [] → lines_of bytes ≡ line ∷ lines_of []
unfolding lines_of
line_open bytes line some e =
    let whole : line ≡ bytes = sym (ap (join_with_byte 10) e) ∙ join_with_byte-slice_split 10 bytes in
    let long : 0 < length line = rw whole some in
    rw e (kept line (length line == 0) refl long)
