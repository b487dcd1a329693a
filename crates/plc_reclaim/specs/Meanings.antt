-- What a reclaimer does, as far as proofs speak of it: what it keeps is a list of numbers.
use Rattle.std.specs.Prelude.{ℕ, List, Option}
use Rattle.plc_auto.specs.declared.event.Event.{Event}
use Rattle.plc_auto.specs.declared.scheme.Scheme.{Scheme}

-- what it keeps at the beginning, by the schemes; after an event and after a pick, by what it kept before; and
-- the address that it picks, if there is one
pub record Meanings : Type 0 where
  pub begun : List Scheme → List ℕ
  pub after : List ℕ → Event → List ℕ
  pub picked : List ℕ → List ℕ
  pub pick_of : List ℕ → Option ℕ
