-- Counts of calls and of faults: each is a u64, and stops at the last value of that type.
use Rattle.std.specs.Prelude.{ℕ, ◌+◌, ◌-◌, ◌^◌, ◌==◌, Bool, List, min}
use Rattle.std.specs.List.{list_any}

-- the last value, from which a count cannot rise
abbrev pub last_count : ℕ
last_count = 2 ^ 64 - 1

-- the count of one thing more
abbrev pub one_more : ℕ → ℕ
one_more count = min (count + 1) last_count

-- whether a call, counted from 1, is to fail
abbrev pub is_failing : List ℕ → ℕ → Bool
is_failing failing call = list_any (λ listed. listed == call) failing
