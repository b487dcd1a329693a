-- The text of a sample that is safe.
use Rattle.std.specs.Prelude.{ℕ, List, ◌++◌, codes, decimal}
use Rattle.plc_flow.specs.declared.flow.Flow.{Flow}
use Rattle.plc_answers.specs.Counts.{counts_text}

-- sample K N points P steps S obligations O safe
abbrev pub summary_text : ℕ → ℕ → Flow → ℕ → List ℕ
summary_text k n flow obligations =
    codes "sample " ++ decimal k ++ codes " " ++ decimal n ++ counts_text flow obligations ++ codes " safe\n"
