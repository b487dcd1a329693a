-- The words of a line that a reader has still to take.
use Rattle.std.specs.Prelude.{◌==◌, ℕ, List, [], Option, Some, None}
use Rattle.std.specs.List.{slice_split}
use Rattle.std.specs.Borrow.{Bor}
use Rattle.plc_sched.specs.declared.words.Words.{Words}

-- the pieces after a mark, where there is one
abbrev pub pieces_after : ℕ → Option (Bor (List ℕ)) → List (List ℕ)
pieces_after mark None = []
pieces_after mark (Some bytes) = slice_split (λ b. b == mark) bytes.now

-- the words that are left
abbrev pub words_left : Words → List (List ℕ)
words_left words = pieces_after 32 words.left
