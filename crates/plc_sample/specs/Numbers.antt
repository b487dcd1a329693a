-- The numbers of a sample.
use Rattle.std.specs.Prelude.{ℕ, ◌+◌, ◌*◌}

-- so many lines a sample with k copies has
abbrev pub sample_lines : ℕ → ℕ
sample_lines k = 44 * k + 13
