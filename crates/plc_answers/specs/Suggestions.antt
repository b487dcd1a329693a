-- The texts of suggested claims, and of a file that no claims in front of steps make typable. Each line ends with a
-- line feed.
use Rattle.std.specs.Prelude.{ℕ, List, [], ◌∷◌, ◌++◌, length, codes, decimal, slice_get}
use Rattle.plc_flow.specs.declared.flow.Flow.{Flow}
use Rattle.plc_xfer.specs.declared.fault.TypeFault.{TypeFault}
use Rattle.plc_suggest.specs.declared.spot.Spot.{Spot}
use Rattle.plc_answers.specs.Names.{variable_in}
use Rattle.plc_answers.specs.Steps.{step_line, step_operation}
use Rattle.plc_answers.specs.Untyped.{condition_text}

-- active VAR step S line N
abbrev pub spot_line : Flow → Spot → List ℕ
spot_line flow x =
    let step = slice_get flow.steps x.step.0 in
    codes "active " ++ variable_in flow.file (step_operation step) x.var ++ codes " step " ++ decimal x.step.0
    ++ codes " line " ++ decimal (step_line step) ++ codes "\n"

-- a line for each spot
abbrev pub spot_lines : Flow → List Spot → List ℕ
spot_lines flow [] = []
spot_lines flow (x ∷ xs) = spot_line flow x ++ spot_lines flow xs

-- the spots, then suggested COUNT
abbrev pub suggested_text : Flow → List Spot → List ℕ
suggested_text flow spots = spot_lines flow spots ++ codes "suggested " ++ decimal (length spots) ++ codes "\n"

-- insufficient step S prim K line N KIND VAR
abbrev pub insufficient_text : Flow → ℕ → ℕ → TypeFault → List ℕ
insufficient_text flow k i fault = condition_text (codes "insufficient") flow k i fault

-- refused limit places COUNT
abbrev pub spots_limit_text : ℕ → List ℕ
spots_limit_text count = codes "refused limit places " ++ decimal count ++ codes "\n"
