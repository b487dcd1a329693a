-- Loops over parts that are taken one after the other.
use Rattle.std.proofs.Common.{◌≡◌, ◌+◌, ◌<◌, ◌≤◌, ℕ, List, drop, length, get_or, map, Result, Ok, refl}
use Rattle.plc_scope.specs.declared.fault.ParseFault.{ParseFault}
use Rattle.plc_scope.specs.Answers.{FailsAs}
use Rattle.plc_scope.proofs.Turns.{turn, stop, end}
use Rattle.plc_outparse.specs.Meaning.{in_turn}

module _ {S X Y : Type 0} (step : S → X → Result S ParseFault) (tree : Y → X) where
  -- what the parts come to
  abbrev all : S → List Y → Result S ParseFault
  all s ys = in_turn step s (map tree ys)

  -- what those from a place on come to
  abbrev pub from_place : S → List Y → ℕ → Result S ParseFault
  from_place s ys n = all s (drop n ys)

  pub taken : (s t : S) (ys : List Y) (n : ℕ) (y d : Y) → y ≡ get_or ys n d → n < length ys → step s (tree y) ≡ Ok t
      → from_place t ys (n + 1) ≡ from_place s ys n
  taken s t ys n y d e l is = turn all (λ s y. step s (tree y)) (λ s y ys. refl) s t ys n y d e l is

  pub refused : (s : S) (ys : List Y) (n : ℕ) (y d : Y) (e : ParseFault) (total : Result S ParseFault)
      → y ≡ get_or ys n d → n < length ys → FailsAs e (step s (tree y)) → from_place s ys n ≡ total → FailsAs e total
  refused s ys n y d e total is l fails so_far =
      stop all (λ s y. step s (tree y)) (λ s y ys. refl) s ys n y d e total is l fails so_far

  pub all_taken : (s : S) (ys : List Y) (n : ℕ) (total : Result S ParseFault) → length ys ≤ n
      → from_place s ys n ≡ total → total ≡ Ok s
  all_taken = end all (λ s y. step s (tree y)) (λ s y ys. refl)
