-- What a reader of numbers answers: the number that was spelled, or that no number in its range was.
use Rattle.std.specs.Prelude.{◌≡◌, ◌≤◌, ℕ, List, Option, Some, None}
use Rattle.std.specs.Fmt.{decimal}
use Rattle.plc_base.specs.declared.limits.What1.TheVariants.{Locals}
use Rattle.plc_base.specs.Limits.{most}

-- the number in a range that a word spells
abbrev pub IsNumberOf : List ℕ → ℕ → ℕ → Option ℕ → Type 0
IsNumberOf word least most (Some n) = (least ≤ n) × (n ≤ most) × (decimal n ≡ word)
IsNumberOf word least most None = (n : ℕ) → least ≤ n → n ≤ most → decimal n ≡ word → ⊥

-- how many arguments a start may have: they are locals
abbrev pub most_arguments : ℕ
most_arguments = most Locals
