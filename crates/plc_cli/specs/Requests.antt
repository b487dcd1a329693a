-- What words ask for: they are compared whole, and there are no options.
use Rattle.std.specs.Prelude.{ℕ, ◌+◌, ◌-◌, zero, suc, Bool, true, false, if◌then◌else◌, List, [], ◌∷◌, codes, decimal}
use Rattle.std.specs.Prelude.{Option, Some, None, option_map, option_and_then}
use Rattle.std.specs.Str.{bytes_eq}
use Rattle.plc_reclaim.specs.Lookup.{first_named}
use Rattle.plc_base.specs.Bounds.{most_copies}
use Rattle.plc_sample.specs.Numbers.{sample_lines}

-- a command with its files; a replay also with the number of its reclaimer among those that are there; a sample has its
-- numbers alone
pub data Request : Type 0 where
  Check : List ℕ → Request
  Certify : List ℕ → Request
  Print : List ℕ → Request
  Verify : List ℕ → List ℕ → Request
  Replay : List ℕ → List ℕ → ℕ → Request
  Sample : ℕ → ℕ → Request
  Suggest : List ℕ → Request
  Locate : List ℕ → List ℕ → Request

-- whether files are asked for: only a sample and words of no listed form ask for none
abbrev pub asks_for_files : Option Request → Bool
asks_for_files None = false
asks_for_files (Some (Check file)) = true
asks_for_files (Some (Certify file)) = true
asks_for_files (Some (Print file)) = true
asks_for_files (Some (Verify file certificate)) = true
asks_for_files (Some (Replay file schedule number)) = true
asks_for_files (Some (Sample k n)) = false
asks_for_files (Some (Suggest file)) = true
asks_for_files (Some (Locate file claims)) = true

-- `check FILE`, `certify FILE`, `print FILE` and `suggest FILE`
abbrev pub request_of_two : List ℕ → List ℕ → Option Request
request_of_two command file =
    if bytes_eq command (codes "check") then Some (Check file) else
    (if bytes_eq command (codes "certify") then Some (Certify file) else
    (if bytes_eq command (codes "print") then Some (Print file) else
    (if bytes_eq command (codes "suggest") then Some (Suggest file) else None)))

-- the number that a word spells in decimal, without a sign or zeros in front, among so many from the least on
abbrev pub number_among : ℕ → ℕ → List ℕ → Option ℕ
number_among least zero word = None
number_among least (suc count) word =
    if bytes_eq (decimal least) word then Some least else number_among (least + 1) count word

-- the number that a word spells in decimal, without a sign or zeros in front, from a least to a greatest one
unfoldable pub number_in : ℕ → ℕ → List ℕ → Option ℕ
number_in least most word = number_among least (most - least + 1) word

-- `sample K N`: K is the number of copies, and N one of the sample's lines, or 0
abbrev pub sample_of : List ℕ → List ℕ → Option Request
sample_of copies line =
    option_and_then
    (λ k. option_map (λ n. Sample k n) (number_in 0 (sample_lines k) line)) (number_in 1 most_copies copies)

-- `verify FILE CERTIFICATE`, `locate FILE CLAIMS` and `sample K N`
abbrev pub request_of_three : List ℕ → List ℕ → List ℕ → Option Request
request_of_three command first second =
    if bytes_eq command (codes "verify") then Some (Verify first second) else
    (if bytes_eq command (codes "locate") then Some (Locate first second) else
    (if bytes_eq command (codes "sample") then sample_of first second else None))

-- `replay FILE SCHEDULE RECLAIMER`, where a reclaimer has this name; of those of one name the first counts
abbrev pub request_of_four : List (List ℕ) → List ℕ → List ℕ → List ℕ → List ℕ → Option Request
request_of_four reclaimers command file schedule name =
    if bytes_eq command (codes "replay") then option_map (λ i. Replay file schedule i) (first_named reclaimers name)
    else None

-- None where the words are of no listed form
abbrev pub request_of : List (List ℕ) → List (List ℕ) → Option Request
request_of reclaimers (command ∷ file ∷ []) = request_of_two command file
request_of reclaimers (command ∷ first ∷ second ∷ []) = request_of_three command first second
request_of reclaimers (command ∷ file ∷ schedule ∷ name ∷ []) = request_of_four reclaimers command file schedule name
request_of reclaimers words = None
