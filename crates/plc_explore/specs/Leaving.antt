-- What is left of a run without the moves that one maker makes in a row of them, and runs in which all are needed.
use Rattle.std.specs.Prelude.{◌≡◌, ◌-◌, ◌<◌, ◌≤◌, ℕ, Bool, true, false, not, ◌==◌, if◌then◌else◌, List, ◌++◌, filter}
use Rattle.std.specs.Prelude.{length, Option, Some, None, slice_get, take, drop}
use Rattle.plc_moves.specs.declared.words.Move.{Move}
use Rattle.plc_moves.specs.declared.words.Move.TheVariants.{Start, Step as Take, Return, Free}
use Rattle.plc_explore.specs.declared.program.Program.{Program}
use Rattle.plc_explore.specs.Racing.{RacesAmong}

-- the thread that makes a move; a free is made by none
abbrev pub maker_of : Move → Option ℕ
maker_of (Start t op args) = Some t
maker_of (Take t nth addr) = Some t
maker_of (Return t) = Some t
maker_of (Free a) = None

-- both are the same thread, or both are none
abbrev pub same_maker : Option ℕ → Option ℕ → Bool
same_maker None None = true
same_maker None (Some t) = false
same_maker (Some s) None = false
same_maker (Some s) (Some t) = t == s

-- a move is one of this thread, or of none
abbrev pub made_by : Option ℕ → Move → Bool
made_by by move = same_maker by (maker_of move)

-- the moves but those of this thread, or but the frees
abbrev pub others : Option ℕ → List Move → List Move
others by moves = filter (λ move. not (made_by by move)) moves

-- the moves but those of one maker from one number on up to another
abbrev pub without : Option ℕ → ℕ → ℕ → List Move → List Move
without by from to moves = take from moves ++ others by (take (to - from) (drop from moves)) ++ drop to moves

-- the maker of a move, if the other, where there is one, is of the same
abbrev pub common_maker : Option Move → Option Move → Option (Option ℕ)
common_maker None next = None
common_maker (Some first) None = Some (maker_of first)
common_maker (Some first) (Some next) =
    if made_by (maker_of first) next then Some (maker_of first) else None

-- the moves of one maker, from one of them on up to another or to the end, are needed: the others are no run that races
abbrev pub IsNeeded : Program → ℕ → List Move → ℕ → ℕ → Type 0
IsNeeded program threads moves from to =
    (by : Option ℕ) → common_maker (slice_get moves from) (slice_get moves to) ≡ Some by
    → RacesAmong program threads (without by from to moves) → ⊥

-- no thread's moves, from one of them on up to another or to the end, can be left out; nor can the frees of such a part
abbrev pub EachIsNeeded : Program → ℕ → List Move → Type 0
EachIsNeeded program threads moves =
    (from to : ℕ) → from < to → to ≤ length moves → IsNeeded program threads moves from to
