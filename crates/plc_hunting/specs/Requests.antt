-- What words ask `plc-hunt` for: they are compared whole, and there are no options.
use Rattle.std.specs.Prelude.{ℕ, if◌then◌else◌, List, [], ◌∷◌, codes, Option, Some, None, option_map, option_and_then}
use Rattle.std.specs.Str.{bytes_eq}
use Rattle.plc_auto.specs.declared.event.Event.{Event}
use Rattle.plc_auto.specs.declared.scheme.Scheme.{Scheme}
use Rattle.plc_reclaim.specs.Rows.{leak_row, list_row, hazard_row, epoch_row}
use Rattle.plc_cli.specs.Requests.{number_in}

-- who says what is freed: a reclaimer that acts as this row, or nobody, so that any free may come that the observer
-- allows
pub data Freeing : Type 0 where
  By : (List Scheme → List Event → Option ℕ) → Freeing
  Any : Freeing

-- the word of each
abbrev pub freeing_of : List ℕ → Option Freeing
freeing_of word =
    if bytes_eq word (codes "leak") then Some (By leak_row) else
    (if bytes_eq word (codes "list") then Some (By list_row) else
    (if bytes_eq word (codes "hazard") then Some (By hazard_row) else
    (if bytes_eq word (codes "epoch") then Some (By epoch_row) else
    (if bytes_eq word (codes "any") then Some Any else None))))

-- a hunt in a file with a seed
pub record Request : Type 0 where
  pub file : List ℕ
  pub freeing : Freeing
  pub seed : ℕ

-- the seed where none is given, and the greatest one
abbrev pub given_seed : ℕ
given_seed = 1

abbrev pub greatest_seed : ℕ
greatest_seed = 4294967295

-- a hunt, where the word says who frees and there is a seed
abbrev pub hunt_of : List ℕ → List ℕ → Option ℕ → Option Request
hunt_of file word seed =
    option_and_then
    (λ freeing. option_map (λ n. record { file = file; freeing = freeing; seed = n }) seed) (freeing_of word)

-- `FILE RECLAIMER` and `FILE RECLAIMER SEED`; None where the words are of no listed form
abbrev pub request_of : List (List ℕ) → Option Request
request_of (file ∷ word ∷ []) = hunt_of file word (Some given_seed)
request_of (file ∷ word ∷ seed ∷ []) = hunt_of file word (number_in 0 greatest_seed seed)
request_of words = None
