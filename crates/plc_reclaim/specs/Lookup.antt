-- Which of several reclaimers is asked for.
use Rattle.std.specs.Prelude.{ℕ, List, Option}
use Rattle.std.specs.List.{position_from}
use Rattle.std.specs.Str.{bytes_eq}

-- the number of the first of these names that is the one asked for
abbrev pub first_named : List (List ℕ) → List ℕ → Option ℕ
first_named names name = position_from (bytes_eq name) 0 names
