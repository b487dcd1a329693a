-- What words ask `plc-show` for: they are compared whole, and there is one option, which goes first.
use Rattle.std.specs.Prelude.{ℕ, ◌++◌, if◌then◌else◌, List, [], ◌∷◌, codes, Option, Some, None, option_map}
use Rattle.std.specs.Str.{bytes_eq}
use Rattle.plc_reclaim.specs.Lookup.{first_named}

-- the page of a file, the lines of a file, and the page of a run, under the reclaimer of a name, with its number among
-- those that are there
pub data Request : Type 0 where
  Page : List ℕ → Request
  Lines : List ℕ → Request
  Run : List ℕ → List ℕ → List ℕ → ℕ → Request

-- the option
abbrev pub plain : List ℕ
plain = codes "--plain"

-- the page of a run, where a reclaimer has this name; of those of one name the first counts
abbrev pub run_of : List (List ℕ) → List ℕ → List ℕ → List ℕ → Option Request
run_of reclaimers file schedule name = option_map (λ i. Run file schedule name i) (first_named reclaimers name)

-- `FILE`, `--plain FILE` and `FILE SCHEDULE RECLAIMER`; None where the words are of no listed form
abbrev pub request_of : List (List ℕ) → List (List ℕ) → Option Request
request_of reclaimers (file ∷ []) = if bytes_eq file plain then None else Some (Page file)
request_of reclaimers (option ∷ file ∷ []) = if bytes_eq option plain then Some (Lines file) else None
request_of reclaimers (file ∷ schedule ∷ name ∷ []) =
    if bytes_eq file plain then None else run_of reclaimers file schedule name
request_of reclaimers words = None

-- the title of the page of a run: its words
abbrev pub title_of : List ℕ → List ℕ → List ℕ → List ℕ
title_of file schedule name = file ++ codes " " ++ schedule ++ codes " " ++ name
