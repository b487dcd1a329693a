-- The numbers of a file in a ground set, by what they are.
use Rattle.std.specs.Prelude.{◌≡◌, ◌==◌, ℕ}
use Rattle.std.specs.List.{list_any}
use Rattle.std.specs.List.Sorted.{IsStrictlyIncreasing}
use Rattle.plc_flow.specs.declared.flow.Flow.{Flow}
use Rattle.plc_logic.specs.declared.clause.Outline.{Outline}
use Rattle.plc_vocabulary.specs.Setting.{all_numbers, numbers_of}

-- they ascend, each once, and are those that stand in the file
pub record NumbersFit (flow : Flow) (outline : Outline) : Type 0 where
  pub ascending : IsStrictlyIncreasing (numbers_of flow outline)
  pub same : (n : ℕ) → list_any (λ k. k == n) (numbers_of flow outline)
      ≡ list_any (λ k. k == n) (all_numbers flow outline)

-- the numbers of every flow and outline fit
abbrev pub AllNumbersFit : Type 0
AllNumbersFit = (flow : Flow) (outline : Outline) → NumbersFit flow outline
