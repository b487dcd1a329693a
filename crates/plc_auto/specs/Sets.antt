-- Sets of live locations.
use Rattle.std.specs.Prelude.{◌≡◌, ◌==◌, ◌&&◌, ◌||◌, ℕ, Bool, true, false, not}
use Rattle.std.specs.Prelude.{if◌then◌else◌, Option, Some, None, nat_lt, is_none}
use Rattle.plc_base.specs.Functions.{retire}
use Rattle.plc_base.specs.Mask.{has, no_members, single, union, mask_of}
use Rattle.plc_auto.specs.declared.event.EvKind.{EvKind}
use Rattle.plc_auto.specs.declared.event.EvKind.TheVariants.{Call, Done, Free}
use Rattle.plc_auto.specs.declared.observer.Observer.{Observer}
use Rattle.plc_auto.specs.Table.{step, count_of}
use Rattle.plc_auto.specs.Location.{is_retired_location}

-- the live locations are the numbers below their count
abbrev pub is_location : Observer → ℕ → Bool
is_location o l = nat_lt l (count_of o)

-- whether an edge leads to k
abbrev pub leads_to : Option ℕ → ℕ → Bool
leads_to None k = false
leads_to (Some l) k = l == k

-- whether a number below 8 passes a test
abbrev pub any_below_8 : (ℕ → Bool) → Bool
any_below_8 p = p 0 || p 1 || p 2 || p 3 || p 4 || p 5 || p 6 || p 7

-- all live locations
unfoldable pub all_locations : Observer → ℕ
all_locations o = mask_of (is_location o)

-- the locations whose names begin with `u`
unfoldable pub unretired : Observer → ℕ
unretired o = mask_of (λ l. is_location o l && not (is_retired_location o l))

-- the locations from which a free of the address leads to `bad`
unfoldable pub safe : Observer → ℕ
safe o = mask_of (λ l. is_location o l && is_none (step o l Free false true))

-- the live locations to which an event leads from those of a set
unfoldable pub step_set : Observer → ℕ → EvKind → Bool → Bool → ℕ
step_set o m kind by_own on_this =
    mask_of (λ k. any_below_8 (λ l. has m l && leads_to (step o l kind by_own on_this) k))

-- what may happen meanwhile: calls and returns of other threads on this address and on others, frees of other
-- addresses; with_free: a free of this one too
abbrev pub happens : Bool → EvKind → Bool → Bool
happens with_free (Call f) on_this = true
happens with_free (Done f) on_this = true
happens with_free Free on_this = with_free || not on_this

-- a set that is closed under what may happen
abbrev pub IsClosed : Observer → Bool → ℕ → Type 0
IsClosed o with_free m =
    (l k : ℕ) (kind : EvKind) (on_this : Bool) → has m l ≡ true → happens with_free kind on_this ≡ true
    → step o l kind false on_this ≡ Some k → has m k ≡ true

-- each member of a is one of b
abbrev pub Within : ℕ → ℕ → Type 0
Within a b = (l : ℕ) → has a l ≡ true → has b l ≡ true

-- the least set that holds m and is closed
pub record IsClosureOf (o : Observer) (with_free : Bool) (m c : ℕ) : Type 0 where
  pub holds : Within m c
  pub closed : IsClosed o with_free c
  pub least : (d : ℕ) → Within m d → IsClosed o with_free d → Within c d

-- the set of the location to which an edge leads
abbrev pub arrivals : Option ℕ → ℕ
arrivals None = no_members
arrivals (Some k) = single k

-- where an address may come meanwhile from one location: only a retirement and a free move it, and from there
-- it moves no further
unfoldable pub reach : Observer → Bool → ℕ → ℕ
reach o with_free l =
    union (single l) (union (arrivals (step o l (Call retire) false true))
    (if with_free then arrivals (step o l Free false true) else no_members))

-- the closure, a row for each location; `IsClosureOf` says what it is
unfoldable pub closure : Observer → Bool → ℕ → ℕ
closure o with_free m = mask_of (λ k. any_below_8 (λ l. has m l && has (reach o with_free l) k))
