-- The texts of location claims: tokens that are no list of claims, a claim that doesn't follow, and claims that hold.
-- Each line ends with a line feed.
use Rattle.std.specs.Prelude.{ℕ, List, ◌++◌, codes, decimal}
use Rattle.plc_answers.specs.Certificates.{pair_text}

-- refused claim token K
abbrev pub claim_fault_text : ℕ → List ℕ
claim_fault_text at = codes "refused claim token " ++ decimal at ++ codes "\n"

-- unlocated claim I
abbrev pub unlocated_text : ℕ → List ℕ
unlocated_text i = codes "unlocated claim " ++ decimal i ++ codes "\n"

-- located claims N obligations O
abbrev pub located_text : ℕ → ℕ → List ℕ
located_text n o = pair_text (codes "located claims ") n (codes " obligations ") o
