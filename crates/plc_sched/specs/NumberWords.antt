-- What the readers of numbers look at: how a number may begin, and numbers that stand as words of a line.
use Rattle.std.specs.Prelude.{◌≡◌, ◌==◌, ◌<◌, ◌≤◌, ◌&&◌, ◌^◌, ℕ, Bool}
use Rattle.std.specs.Prelude.{true, not, List, [], ◌∷◌, length, map, Option, Some, None, All}
use Rattle.std.specs.Fmt.{decimal}
use Rattle.plc_sched.specs.declared.words.Words.{Words}
use Rattle.plc_sched.specs.Numbers.{most_arguments}
use Rattle.plc_sched.specs.Words.{words_left}

-- no plus stands at the front, and no 0 before other bytes
abbrev pub is_plain : List ℕ → Bool
is_plain [] = true
is_plain (b ∷ []) = not (b == 43)
is_plain (b ∷ c ∷ bs) = not (b == 48) && not (b == 43)

-- the number in a range that the first word spells, and the words after it
abbrev pub IsNextNumber : List (List ℕ) → ℕ → ℕ → Option (ℕ × Words) → Type 0
IsNextNumber words least most (Some read) =
    (least ≤ read.0) × (read.0 ≤ most) × (decimal read.0 ∷ words_left read.1 ≡ words)
IsNextNumber words least most None =
    (n : ℕ) (more : List (List ℕ)) → least ≤ n → n ≤ most → decimal n ∷ more ≡ words → ⊥

-- the number in a range that the one word spells
abbrev pub IsLastNumber : List (List ℕ) → ℕ → ℕ → Option ℕ → Type 0
IsLastNumber words least most (Some n) = (least ≤ n) × (n ≤ most) × (decimal n ∷ [] ≡ words)
IsLastNumber words least most None = (n : ℕ) → least ≤ n → n ≤ most → decimal n ∷ [] ≡ words → ⊥

-- the numbers that the words spell, as many as arguments may be
abbrev pub AreNumbers : List (List ℕ) → Option (List ℕ) → Type 0
AreNumbers words (Some numbers) =
    (length numbers ≤ most_arguments) × All (λ n. n < 2 ^ 32) numbers × (map decimal numbers ≡ words)
AreNumbers words None = (numbers : List ℕ) → length numbers ≤ most_arguments → All (λ n. n < 2 ^ 32) numbers
    → map decimal numbers ≡ words → ⊥
