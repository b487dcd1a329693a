-- What no hunt answers: a race in a file whose program has none.
use Rattle.std.specs.Prelude.{◌≡◌, ℕ, List}
use Rattle.plc_parse.specs.declared.unit.Unit.{Unit as FileUnit}
use Rattle.plc_reclaim.specs.Meanings.{Meanings}
use Rattle.plc_check.specs.Loading.{IsFileOf}
use Rattle.plc_cli.specs.Headline.{IsProved}
use Rattle.plc_cli.specs.Statuses.{fails}
use Rattle.plc_hunting.specs.Racing.{IsHuntUnder, IsFreeHunt}
use Rattle.plc_hunting.specs.Texts.{none_met}

-- the answer is that no race was met
abbrev pub IsNothing : ℕ → List ℕ → Type 0
IsNothing status text = (status ≡ fails) × (text ≡ none_met)

-- where bytes spell a program that has a typing and whose outline holds, whatever frees
pub record SafeFilesHaveNoHuntedRace : Type 0 where
  pub under : (reclaimer : Meanings) (bytes : List ℕ) (u : FileUnit) (status : ℕ) (text : List ℕ)
      → IsFileOf bytes u → IsProved u → IsHuntUnder reclaimer bytes status text → IsNothing status text
  pub freely : (bytes : List ℕ) (u : FileUnit) (status : ℕ) (text : List ℕ)
      → IsFileOf bytes u → IsProved u → IsFreeHunt bytes status text → IsNothing status text
