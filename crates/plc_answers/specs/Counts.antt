-- How large a flow is, and how many obligations its outline has.
use Rattle.std.specs.Prelude.{ℕ, List, ◌++◌, length, codes, decimal}
use Rattle.plc_flow.specs.declared.flow.Flow.{Flow}

-- points P steps S obligations O, after a space
abbrev pub counts_text : Flow → ℕ → List ℕ
counts_text flow obligations =
    codes " points " ++ decimal flow.points ++ codes " steps " ++ decimal (length flow.steps)
    ++ codes " obligations " ++ decimal obligations
